-- Where a typed key stands.
use Rattle.std.proofs.Common.{◌≡◌, ℕ, ◌≤◌, ◌<◌, Bool, true, false, if◌then◌else◌, List, [], ◌∷◌, map}
use Rattle.std.proofs.Common.{refl, ap, ◌∙◌, arith}
use Rattle.std.specs.Prelude.{◌&&◌, nat_le, nat_lt}
use Rattle.std.specs.List.{list_all}
use Rattle.std.proofs.lemmas.Bool.Decides.{nat_tests}
use Rattle.board_types.specs.declared.keys.StampedKey.{StampedKey}
use Rattle.events.specs.KeyLaws.{KeyStandsInOrder, later_than, not_later, StandsBetween}
use Rattle.events.specs.OrderLaws.{rises_from}
use Rattle.events.specs.WithKey.{inserted}

abbrev stamp_of : StampedKey → ℕ
stamp_of key = key.stamp

both_are : (a b : Bool) → (a && b) ≡ true → (a ≡ true) × (b ≡ true)
both_are true b is = (refl, is)
both_are false b is = let never : false ≡ true = is in absurd (cc)

and_so : (a b : Bool) → a ≡ true → b ≡ true → (a && b) ≡ true
and_so true b is so = so
and_so false b is so = is

up_to : (a b : ℕ) → nat_le a b ≡ true → a ≤ b
up_to a b is = grind (arith, nat_tests, is)

past : (a b : ℕ) → nat_le a b ≡ false → b < a
past a b is = grind (arith, nat_tests, is)

less : (a b : ℕ) → a < b → nat_lt a b ≡ true
less a b is = grind (arith, nat_tests, is)

-- keys from a later stamp on are all later
all_later : (stamp from : ℕ) (keys : List StampedKey) → stamp < from → rises_from from (map stamp_of keys) ≡ true → list_all (later_than stamp) keys ≡ true
all_later stamp from [] before rises = refl
all_later stamp from (k ∷ ks) before rises =
    let parts = both_are (nat_le from k.stamp) (rises_from k.stamp (map stamp_of ks)) rises in
    let more : from ≤ k.stamp = up_to from k.stamp parts.0 in
    let here : stamp < k.stamp = omega (arith, before, more) in
    and_so (nat_lt stamp k.stamp) (list_all (later_than stamp) ks) (less stamp k.stamp here) (all_later stamp k.stamp ks here parts.1)

stands_by : (k : StampedKey) (ks : List StampedKey) (key : StampedKey) (first : ℕ) (not_after : Bool) → nat_le k.stamp key.stamp ≡ not_after
    → rises_from first (map stamp_of (k ∷ ks)) ≡ true → (rises_from k.stamp (map stamp_of ks) ≡ true → StandsBetween ks key) → StandsBetween (k ∷ ks) key
stands_by k ks key first true is rises rest =
    let between = rest (both_are (nat_le first k.stamp) (rises_from k.stamp (map stamp_of ks)) rises).1 in record {
      front = k ∷ between.front;
      back = between.back;
      parts = ap (λ xs. k ∷ xs) between.parts;
      there = ap (λ b. if b then k ∷ inserted ks key else key ∷ k ∷ ks) is ∙ ap (λ xs. k ∷ xs) between.there;
      before = and_so (nat_le k.stamp key.stamp) (list_all (not_later key.stamp) between.front) is between.before;
      after = between.after;
    }
stands_by k ks key first false is rises rest =
    let parts = both_are (nat_le first k.stamp) (rises_from k.stamp (map stamp_of ks)) rises in
    let here : key.stamp < k.stamp = past k.stamp key.stamp is in record {
      front = [];
      back = k ∷ ks;
      parts = refl;
      there = ap (λ b. if b then k ∷ inserted ks key else key ∷ k ∷ ks) is;
      before = refl;
      after = and_so (nat_lt key.stamp k.stamp) (list_all (later_than key.stamp) ks) (less key.stamp k.stamp here)
          (all_later key.stamp k.stamp ks here parts.1);
    }

pub stands_in_order : KeyStandsInOrder
stands_in_order [] key first rises = record { front = []; back = []; parts = refl; there = refl; before = refl; after = refl }
stands_in_order (k ∷ ks) key first rises =
    stands_by k ks key first (nat_le k.stamp key.stamp) refl rises (λ on. stands_in_order ks key k.stamp on)
