use Rattle.std.proofs.Common.{refl, sym, ◌∙◌, arith}
use Rattle.std.proofs.lemmas.Bool.{false≢true}
use Rattle.board.proofs.Turns.{HeldRun, held_run, not_counted, so_far_none, so_far_steps, so_far_turn, steps_move, turn_moves}
use Rattle.board.proofs.board.Board.run.Given.{Over}
use Rattle.board.proofs.board.Board.run.Goals.{After-from_residual}
use Rattle.board.proofs.board.Board.run.Goals as goal

pub returns-then-is_past_limit-clause-turns_least : goal.returns-then-is_past_limit-clause-turns_least
returns-then-is_past_limit-clause-turns_least g c = (not_counted c.args.self.now c.args.self.now refl).least

pub turns-init : goal.turns-init
turns-init g c = so_far_none _ _ c.is_past_limit.ensures.trail (omega (arith, c.clock.ensures, c.get.ensures.value))

pub turns-smaller : goal.turns-smaller
turns-smaller g c =
    let before = c.turns-test.true in
    let moved = c.steps_to_a_turn.ensures.not_due (λ yes. false≢true (sym c.if-steps_to_a_turn.false ∙ yes)) in
    omega (arith, before, moved, c.clock-in-turns.ensures, c.get-in-turns.ensures.value)

pub turns-preserved : goal.turns-preserved
turns-preserved g c = so_far_steps _ 1 _ _ _ _ c.turns.invariant c.steps_to_a_turn.ensures.steps

pub turns-smaller-in-Continue-1 : goal.turns-smaller-in-Continue-1
turns-smaller-in-Continue-1 g c =
    let moved = steps_move _ _ _ _ c.steps_to_a_turn.ensures.steps in
    let less = turn_moves _ _ _ (c.steps_to_a_turn.ensures.due c.if-steps_to_a_turn.true) c.in_ok-turn.ensures.ok in
    omega (arith, moved, less)

pub turns-preserved-in-Continue-1 : goal.turns-preserved-in-Continue-1
turns-preserved-in-Continue-1 g c =
    so_far_turn 1 _ _ _ _ (so_far_steps _ 1 _ _ _ _ c.turns.invariant c.steps_to_a_turn.ensures.steps)
    (c.steps_to_a_turn.ensures.due c.if-steps_to_a_turn.true) c.in_ok-turn.ensures.ok

held : (g : Over) (c : After-from_residual g) → HeldRun c.args.count c.args.self.now c.turn.new.self
held g c =
    held_run 1 _ c.args.count _ _ _ (so_far_steps _ 1 _ _ _ _ c.turns.invariant c.steps_to_a_turn.ensures.steps)
    (omega arith) (omega (arith, c.clock.ensures, c.get.ensures.value))
    (c.steps_to_a_turn.ensures.due c.if-steps_to_a_turn.true) c.in_err-turn.ensures.err

pub returns-in_err-turn-clause-succeeds : goal.returns-in_err-turn-clause-succeeds
returns-in_err-turn-clause-succeeds g c = λ within enough. absurd ((held g c).enough enough)

pub returns-in_err-turn-clause-memory : goal.returns-in_err-turn-clause-memory
returns-in_err-turn-clause-memory g c = λ _. (held g c).early

pub returns-in_err-turn-clause-turns_least : goal.returns-in_err-turn-clause-turns_least
returns-in_err-turn-clause-turns_least g c = (held g c).counts.least

pub returns-in_err-turn-clause-turns_most : goal.returns-in_err-turn-clause-turns_most
returns-in_err-turn-clause-turns_most g c = (held g c).counts.most
