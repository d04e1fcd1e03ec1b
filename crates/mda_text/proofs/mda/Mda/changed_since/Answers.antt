use Rattle.std.proofs.Common.{ℕ, ◌≤◌, List, length, sym, subst}
use Rattle.mda_text.proofs.Walk.{names_few}
use Rattle.mda_text.proofs.mda.Mda.changed_since.Goals as goal

pub returns-clause-within : goal.returns-clause-within
returns-clause-within c =
    subst (λ (cells : List (ℕ × ℕ)). length cells ≤ 2000) (sym c.new.ensures) (names_few c.args.self.now c.args.mark)
