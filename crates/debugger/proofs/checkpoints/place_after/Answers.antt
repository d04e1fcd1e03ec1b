use Rattle.std.proofs.Common.{◌≤◌, subst, arith}
use Rattle.std.proofs.lemmas.List.Elements.{All-more}
use Rattle.board_plain.specs.Board.{BoardState}
use Rattle.board_plain.specs.Plain.{clock_of}
use Rattle.debugger.proofs.checkpoints.place_after.Goals as goal

pub loop-index-preserved : goal.loop-index-preserved
loop-index-preserved c =
    All-more (λ (board : BoardState). clock_of board.plain ≤ c.args.clock) c.args.kept.now
    c.loop-index.index c.index-kept-index.result (omega arith) c.loop-index.invariant (subst (λ (board : BoardState). clock_of board.plain ≤ c.args.clock)
    c.index-kept-index.is (omega (arith, c.clock.ensures, c.get.ensures.value, c.if-clock-get.false)))
