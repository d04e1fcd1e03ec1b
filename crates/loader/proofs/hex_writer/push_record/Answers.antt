use Rattle.std.proofs.Common.{◌∙◌, ◌++◌, ◌∷◌, [], ap, arith, sym}
use Rattle.hex.specs.Hex.{encode_upper}
use Rattle.loader.proofs.HexLines.{byte_more, line_whole, next_byte}
use Rattle.loader.proofs.hex_writer.push_record.Goals as goal

pub loop-byte-preserved : goal.loop-byte-preserved
loop-byte-preserved c = record {
  size = omega (arith, c.push_byte.ensures.length, c.loop-byte.invariant.size);
  items = byte_more c.loop-byte.text.items c.push_byte.new.text.items _ _ c.push_byte.ensures.digits
      ∙ ap (λ d. c.loop-byte.text.items ++ encode_upper d) (sym (next_byte c.args.bytes.now c.loop-byte.byte-index c.loop-byte-test.true))
      ∙ c.loop-byte.invariant.items;
}

pub returns-clause-line : goal.returns-clause-line
returns-clause-line c =
    line_whole c.args.text.now.items c.loop-byte.text.items c.push_byte-2.new.text.items c.push-2.new.self.items
    c.args.bytes.now c.loop-byte.byte-index c.loop-byte-test.false c.loop-byte.invariant.items
    (c.push_byte-2.ensures.digits ∙ ap (λ b. c.loop-byte.text.items ++ encode_upper (b ∷ [])) c.checksum.ensures) c.push-2.ensures.items
