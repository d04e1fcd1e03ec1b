use Rattle.std.proofs.Common.{◌≡◌, ℕ, List, [], ◌∷◌, ◌++◌, refl, ap, ◌∙◌, subst}
use Rattle.board_plain.specs.declared.stop.Condition.{Condition}
use Rattle.board_plain.specs.declared.stop.Condition.TheVariants.{Free}
use Rattle.board_plain.specs.Lasts.{HeldLast}
use Rattle.debugger_meaning.specs.Back.{tell_clock}
use Rattle.debugger_meaning.specs.SessionInvariant.{StandsNow}
use Rattle.debugger_meaning.specs.Stands.{gone}
use Rattle.debugger_meaning.proofs.Returning.{goes_back_to}
use Rattle.debugger.proofs.session.Session.back_step.Goals as goal

pub returns : goal.returns
returns g c =
    let free : c.push.new.self.items ≡ Free ∷ [] = c.push.ensures.items ∙ ap (λ (xs : List Condition). xs ++ Free ∷ []) c.new-free.ensures in
    goes_back_to (Free ∷ []) tell_clock c.in_ok-board.found.0 c.in_ok-board.found.1 c.args.self.now c.stand.new.self _
    (subst (λ (sought : List Condition). HeldLast sought (gone c.args.self.now) c.args.self.now.first.plain c.in_ok-board.found.0 c.in_ok-board.found.1)
    free c.in_ok-board.ensures.2)
    (subst (λ (clock : ℕ). StandsNow clock c.args.self.now c.stand.new.self) c.in_ok-board.ensures.1 c.stand.ensures) refl
