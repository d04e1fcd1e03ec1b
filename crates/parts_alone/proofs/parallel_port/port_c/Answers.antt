use Rattle.std.proofs.Common.{◌≡◌, ap, ◌∙◌}
use Rattle.board_types.specs.declared.line.Line.TheVariants.{High}
use Rattle.ppi8255.specs.Ppi.{PpiState, byte_at, after_write}
use Rattle.parts_alone.proofs.Ports.{inputs, with_bit_3, shows_bit_3}
use Rattle.parts_alone.proofs.parallel_port.port_c.Goals as goal

pub returns : goal.returns
returns c =
    let written : c.write-2.new.self ≡ with_bit_3 =
    c.write-2.ensures ∙ ap (λ (s : PpiState). after_write s 3 0x07) (c.write.ensures ∙ ap (λ (s : PpiState). after_write s 3 0x98) c.new-ppi.ensures) in
    c.read.ensures ∙ ap (λ (s : PpiState). byte_at s 2 (inputs High)) written ∙ shows_bit_3
