use Rattle.std.proofs.Common.{sym, ◌∙◌, ◌≡◌, ◌+◌, length, refl, arith}
use Rattle.decode.proofs.Prefixes.{read_more, read_none}
use Rattle.decode.proofs.decode.prefixes_at.Goals as goal

pub returns-in-None : goal.returns-in-None
returns-in-None c =
    sym (read_none c.args.code.now c.loop-byte.byte-index _ c.loop-byte.prefixes.items
    (omega (arith, c.told-code)) c.loop-byte-test.true refl (sym c.prefix_of.ensures ∙ c.in-None.is))
    ∙ c.loop-byte.invariant.so_far

pub loop-byte-preserved : goal.loop-byte-preserved
loop-byte-preserved c =
    let longer : length c.push.new.self.items ≡ c.loop-byte.byte-index + 1 = omega (arith, c.push.ensures.len, c.loop-byte.invariant.count) in
    record {
      count = longer;
      so_far =
          read_more c.args.code.now c.loop-byte.byte-index _ c.loop-byte.prefixes.items c.push.new.self.items c.in-Some.prefix
          (omega (arith, c.told-code)) c.loop-byte-test.true refl (sym c.prefix_of.ensures ∙ c.in-Some.is) c.push.ensures.items
          ∙ c.loop-byte.invariant.so_far;
    }
