use Rattle.std.proofs.Common.{◌≡◌, ℕ, List, [], refl, sym, ap, ◌∙◌, subst}
use Rattle.board_plain.specs.declared.stop.Condition.{Condition}
use Rattle.board_plain.specs.Lasts.{HeldLast}
use Rattle.debugger_meaning.specs.declared.answer.Answer.TheVariants.{StopAt}
use Rattle.debugger_meaning.specs.SessionInvariant.{StandsNow}
use Rattle.debugger_meaning.specs.Stands.{SessionState, gone}
use Rattle.debugger_meaning.proofs.Returning.{goes_back_to, is_empty_list, none_sought}
use Rattle.debugger.proofs.session.Session.back_stop.Goals as goal

pub returns-then-is_empty : goal.returns-then-is_empty
returns-then-is_empty g c =
    let none : c.args.self.now.stops ≡ [] =
    sym (ap (λ (s : SessionState). s.stops) c.self.view_is) ∙ is_empty_list c.self.inside.stops.items (sym c.is_empty.ensures ∙ c.if-is_empty.true) in
    (none_sought c.args.self.now.stops (gone c.args.self.now) c.args.self.now.first.plain none, refl)

pub returns : goal.returns
returns g c =
    goes_back_to c.args.self.now.stops StopAt c.in_ok-board.found.0 c.in_ok-board.found.1 c.args.self.now c.stand.new.self _
    (subst (λ (sought : List Condition). HeldLast sought (gone c.args.self.now) c.args.self.now.first.plain c.in_ok-board.found.0 c.in_ok-board.found.1)
    (ap (λ (s : SessionState). s.stops) c.self.view_is) c.in_ok-board.ensures.2)
    (subst (λ (clock : ℕ). StandsNow clock c.args.self.now c.stand.new.self) c.in_ok-board.ensures.1 c.stand.ensures) refl
