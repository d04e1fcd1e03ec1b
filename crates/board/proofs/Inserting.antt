-- One key more in a list: its place is after those that are not stamped later.
use Rattle.std.proofs.Common.{◌≡◌, ℕ, zero, suc, ◌+◌, ◌<◌, ◌≤◌, Bool, true, false, if◌then◌else◌}
use Rattle.std.proofs.Common.{List, [], ◌∷◌, ◌++◌, length, take, drop, refl, sym, ap, ◌∙◌, arith}
use Rattle.std.specs.Prelude.{All, nat_le}
use Rattle.std.proofs.lemmas.Bool.Decides.{nat_tests}
use Rattle.board_types.specs.declared.keys.StampedKey.{StampedKey}
use Rattle.events.specs.WithKey.{inserted}

not_later : (stamp other : ℕ) → other < stamp + 1 → nat_le other stamp ≡ true
not_later stamp other early = grind (arith, nat_tests, early)

is_later : (stamp other : ℕ) → stamp + 1 ≤ other → nat_le other stamp ≡ false
is_later stamp other late = grind (arith, nat_tests, late)

pub inserted_at : (place : ℕ) (ks : List StampedKey) (key : StampedKey) → place ≤ length ks → All (λ k. k.stamp < key.stamp + 1) (take place ks)
    → All (λ k. key.stamp + 1 ≤ k.stamp) (drop place ks) → take place ks ++ (key ∷ drop place ks) ≡ inserted ks key
inserted_at zero [] key within past to_come = refl
inserted_at zero (k ∷ ks) key within past to_come =
    sym (ap (λ (b : Bool). if b then k ∷ inserted ks key else key ∷ k ∷ ks) (is_later key.stamp k.stamp (to_come 0 key (omega arith))))
inserted_at (suc place) [] key within past to_come = absurd (omega (arith, within))
inserted_at (suc place) (k ∷ ks) key within past to_come =
    ap (λ (xs : List StampedKey). k ∷ xs) (inserted_at place ks key (omega (arith, within)) (λ j d inside. past (suc j) d (omega (arith, inside))) to_come)
    ∙ sym (ap (λ (b : Bool). if b then k ∷ inserted ks key else key ∷ k ∷ ks) (not_later key.stamp k.stamp (past 0 key (omega arith))))
