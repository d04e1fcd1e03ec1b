use Rattle.std.proofs.Common.{◌≡◌, ◌+◌, inl, inr, sym, ap, ◌∙◌, subst}
use Rattle.std.specs.Prelude.{OnErr, OnOk}
use Rattle.board_plain.specs.Board.{BoardState}
use Rattle.board_plain.specs.Plain.{clock_of}
use Rattle.board.specs.AwaitFree.{IsTurnBetween}
use Rattle.board.specs.HeldBack.{IsHeldBack}
use Rattle.board.specs.IpRange.{all_unwatched, is_unwatched}
use Rattle.board.specs.Turns.{AreStepsOn, IsTurnOn}
use Rattle.board.proofs.Turns.{if_whole, steps_alone}
use Rattle.board.proofs.board.Board.turn_between.Goals as goal

-- all stops wait for a free processor

pub returns-then-quiet_steps-clause-ok : goal.returns-then-quiet_steps-clause-ok
returns-then-quiet_steps-clause-ok g c =
    subst (λ whole. IsTurnBetween whole (is_unwatched c.args.ip_range.now) c.args.end c.args.self.now c.quiet_steps.new.self) (sym c.if-whole.true)
    (inl (c.quiet_steps.ensures.steps, c.quiet_steps.ensures.made c.if-quiet_steps.true))

pub returns-then-whole-clause-ok : goal.returns-then-whole-clause-ok
returns-then-whole-clause-ok g c =
    subst (λ whole. OnOk c.turn.result (IsTurnBetween whole (is_unwatched c.args.ip_range.now) c.args.end c.args.self.now c.turn.new.self))
    (sym c.if-whole.true)
    (if_whole _ c.args.end _ _ c.turn.result
    (subst (λ (b : BoardState). OnOk c.turn.result (IsTurnOn c.args.end c.args.end b c.turn.new.self))
    (c.quiet_steps.ensures.not_made (λ yes. let no = c.if-quiet_steps.false in cc)) c.turn.ensures.ok))

pub returns-then-whole-clause-err : goal.returns-then-whole-clause-err
returns-then-whole-clause-err g c =
    subst (λ (b : BoardState). OnErr c.turn.result (IsHeldBack b c.turn.new.self))
    (c.quiet_steps.ensures.not_made (λ yes. let no = c.if-quiet_steps.false in cc)) c.turn.ensures.err

-- an act has only its first clock

pub returns-then-quiet_steps-2-clause-ok : goal.returns-then-quiet_steps-2-clause-ok
returns-then-quiet_steps-2-clause-ok g c =
    subst (λ whole. IsTurnBetween whole (is_unwatched c.args.ip_range.now) c.args.end c.args.self.now c.quiet_steps-2.new.self) (sym c.if-whole.false)
    (inr (steps_alone all_unwatched c.args.self.now c.quiet_steps-2.new.self (c.quiet_steps-2.ensures.made c.if-quiet_steps-2.true)
    (subst (λ n. AreStepsOn all_unwatched n c.args.self.now c.quiet_steps-2.new.self)
    (ap (λ n. n + 1) (c.get-next.ensures.value ∙ c.clock.ensures)) c.quiet_steps-2.ensures.steps)))

pub returns-clause-ok : goal.returns-clause-ok
returns-clause-ok g c =
    let next : c.get-next.result + 1 ≡ clock_of c.args.self.now.plain + 1 = ap (λ n. n + 1) (c.get-next.ensures.value ∙ c.clock.ensures) in
    subst (λ whole. OnOk c.turn-2.result (IsTurnBetween whole (is_unwatched c.args.ip_range.now) c.args.end c.args.self.now c.turn-2.new.self))
    (sym c.if-whole.false)
    (subst (λ n. OnOk c.turn-2.result (IsTurnOn n c.args.end c.args.self.now c.turn-2.new.self)) next
    (subst (λ (b : BoardState). OnOk c.turn-2.result (IsTurnOn (c.get-next.result + 1) c.args.end b c.turn-2.new.self))
    (c.quiet_steps-2.ensures.not_made (λ yes. let no = c.if-quiet_steps-2.false in cc)) c.turn-2.ensures.ok))

pub returns-clause-err : goal.returns-clause-err
returns-clause-err g c =
    subst (λ (b : BoardState). OnErr c.turn-2.result (IsHeldBack b c.turn-2.new.self))
    (c.quiet_steps-2.ensures.not_made (λ yes. let no = c.if-quiet_steps-2.false in cc)) c.turn-2.ensures.err
