-- A line that grows by five pieces.
use Rattle.std.proofs.Common.{◌≡◌, ℕ, Bool, true, false, if◌then◌else◌, List, ◌++◌, None, Some, refl, ap, ◌∙◌, append_assoc}
use Rattle.std.specs.Prelude.{not}
use Rattle.std.specs.Bool.{then_some}

pub five_pieces : (start t u v w end a b c d e : List ℕ) → t ≡ start ++ a → u ≡ t ++ b → v ≡ u ++ c → w ≡ v ++ d → end ≡ w ++ e
    → end ≡ start ++ (a ++ (b ++ (c ++ (d ++ e))))
five_pieces start t u v w end a b c d e first second third fourth last =
    last
    ∙ ap (λ x. x ++ e) (fourth ∙ ap (λ x. x ++ d) (third ∙ ap (λ x. x ++ c) (second ∙ ap (λ x. x ++ b) first)))
    ∙ append_assoc (((start ++ a) ++ b) ++ c) d e
    ∙ append_assoc ((start ++ a) ++ b) c (d ++ e)
    ∙ append_assoc (start ++ a) b (c ++ (d ++ e))
    ∙ append_assoc start a (b ++ (c ++ (d ++ e)))

-- what is there unless a number is 0
pub some_unless : (none : Bool) (n : ℕ) → then_some (not none) n ≡ (if none then None else Some n)
some_unless true n = refl
some_unless false n = refl
