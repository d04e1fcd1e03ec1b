use Rattle.std.proofs.Common.{◌≡◌, ◌%◌, ◌/◌, ap, ◌∙◌, arith}
use Rattle.board_types.specs.declared.line.Line.TheVariants.{High}
use Rattle.pit8253.specs.Pit.{PitState, after_gate, after_write}
use Rattle.parts_alone.specs.Timer.{level_after}
use Rattle.parts_alone.proofs.Squares.{programmed, makes_square}
use Rattle.parts_alone.proofs.timer.square_timer.Goals as goal

pub returns : goal.returns
returns c = λ n.
    let is : c.write-3.new.self ≡ programmed (c.args.count % 256) (c.args.count / 256) =
    c.write-3.ensures ∙ ap (λ (p : PitState). after_write p 2 (c.args.count / 256)) (c.write-2.ensures
    ∙ ap (λ (p : PitState). after_write p 2 (c.args.count % 256)) (c.write.ensures
    ∙ ap (λ (p : PitState). after_write p 3 0xB6) (c.set_gate.ensures ∙ ap (λ (p : PitState). after_gate p 2 High) c.new-pit.ensures))) in
    ap (λ (p : PitState). level_after p n) is ∙ makes_square c.args.count c.requires (omega arith) n
