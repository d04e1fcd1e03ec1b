use Rattle.std.proofs.Common.{◌≡◌, ◌+◌, ◌*◌, ◌/◌, ◌%◌, ap, ◌∙◌, arith}
use Rattle.board_types.specs.declared.line.Line.TheVariants.{Low}
use Rattle.ppi8255.specs.Ppi.{PpiState, byte_at, after_write}
use Rattle.parts_alone.proofs.Ports.{inputs, at_sw1, at_four, at_fifth, shows_sw1, shows_four, shows_fifth}
use Rattle.parts_alone.proofs.parallel_port.switches_of.Goals as goal

pub returns : goal.returns
returns c =
    let sw1 = c.args.sw1 in
    let sw2 = c.args.sw2 in
    let sw1_there : c.write-2.new.self ≡ at_sw1 sw1 sw2 =
    c.write-2.ensures ∙ ap (λ (s : PpiState). after_write s 1 0x80) (c.write.ensures ∙ ap (λ (s : PpiState). after_write s 3 0x99) c.new-ppi.ensures) in
    let four_there : c.write-3.new.self ≡ at_four sw1 sw2 = c.write-3.ensures ∙ ap (λ (s : PpiState). after_write s 1 0x04) sw1_there in
    let fifth_there : c.write-4.new.self ≡ at_fifth sw1 sw2 = c.write-4.ensures ∙ ap (λ (s : PpiState). after_write s 1 0) four_there in
    let first : c.read-first.result ≡ sw1 = c.read-first.ensures ∙ ap (λ (s : PpiState). byte_at s 0 (inputs Low)) sw1_there ∙ shows_sw1 sw1 sw2 in
    let four : c.read-four.result % 16 ≡ sw2 % 16 =
    ap (λ n. n % 16) (c.read-four.ensures ∙ ap (λ (s : PpiState). byte_at s 2 (inputs Low)) four_there) ∙ shows_four sw1 sw2 in
    let fifth : c.read-fifth.result % 2 ≡ sw2 / 16 % 2 =
    ap (λ n. n % 2) (c.read-fifth.ensures ∙ ap (λ (s : PpiState). byte_at s 2 (inputs Low)) fifth_there) ∙ shows_fifth sw1 sw2 in
    let second : c.read-four.result % 16 + 16 * (c.read-fifth.result % 2) ≡ sw2 % 32 = omega (arith, four, fifth) in
    cc
