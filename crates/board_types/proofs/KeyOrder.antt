-- A key code that comes no earlier than the last one keeps the list in order.
use Rattle.std.proofs.Common.{◌≡◌, ℕ, ◌+◌, ◌-◌, ◌<◌, ◌≤◌, List, [], ◌∷◌, ◌++◌, length, get_or, ap, inl, inr}
use Rattle.std.proofs.Common.{arith, length-append, AllPairs, true, IsTrue, Bool, false, if◌then◌else◌, unwrap_or}
use Rattle.std.specs.Option.{option_map}
use Rattle.std.proofs.Math.ListN.{get_or-append}
use Rattle.std.proofs.Math.Seq.{get_or-append_seam}
use Rattle.std.proofs.lemmas.Bool.{cases_lt}
use Rattle.std.proofs.lemmas.Grind.{common_steps}
use Rattle.std.proofs.lemmas.Option.{slice_get-get_or}
use Rattle.std.proofs.lemmas.List.Elements.{All-push}
use Rattle.board_types.specs.declared.keys.StampedKey.{StampedKey}
use Rattle.board_types.specs.Keys.{IsInOrder, last_stamp, names_key}

last_is : (keys : List StampedKey) (d : StampedKey) → 0 < length keys → last_stamp keys ≡ (get_or keys (length keys - 1) d).stamp
last_is keys d some =
    let last : length keys - 1 < length keys = omega arith in
    ap (λ o. unwrap_or (option_map (λ (k : StampedKey). k.stamp) o) 0) (slice_get-get_or keys (length keys - 1) d last)

no_later : (keys : List StampedKey) (i : ℕ) (d : StampedKey) → AllPairs (λ a b. a.stamp ≤ b.stamp) keys → i < length keys
    → (get_or keys i d).stamp ≤ last_stamp keys
no_later keys i d pairs within =
    let is = last_is keys d (omega arith) in
    elim (cases_lt i (length keys - 1)) [
      | inl before ↦ rw is (pairs i (length keys - 1) d before (omega arith))
      | inr not_before ↦ let at : i ≡ length keys - 1 = omega arith in rw (is, at) (omega arith)
    ]

stamps_more : (keys : List StampedKey) (key : StampedKey) → AllPairs (λ a b. a.stamp ≤ b.stamp) keys → last_stamp keys ≤ key.stamp
    → AllPairs (λ a b. a.stamp ≤ b.stamp) (keys ++ key ∷ [])
stamps_more keys key pairs late i j d below within =
    let size : length (keys ++ key ∷ []) ≡ length keys + 1 = length-append keys (key ∷ []) in
    let early : i < length keys = omega arith in
    let first : get_or (keys ++ key ∷ []) i d ≡ get_or keys i d = get_or-append keys (key ∷ []) d i early in
    elim (cases_lt j (length keys)) [
      | inl inside ↦ rw (first, get_or-append keys (key ∷ []) d j inside) (pairs i j d below inside)
      | inr at_end ↦
          let at : j ≡ length keys = omega arith in
          let bound = no_later keys i d pairs early in
          rw (first, at, get_or-append_seam keys key [] d) (omega arith)
    ]

pub in_order_more : (keys : List StampedKey) (key : StampedKey)
    → IsInOrder keys → names_key key.code ≡ true → last_stamp keys ≤ key.stamp → IsInOrder (keys ++ key ∷ [])
in_order_more keys key order named late = record {
  codes = All-push (λ k. IsTrue (names_key k.code)) keys key order.codes (grind (arith, common_steps));
  stamps = stamps_more keys key order.stamps late;
}

-- what a push leaves, whether or not there was room
pub in_order_pushed : (keys pushed : List StampedKey) (key : StampedKey) (grew : Bool)
    → pushed ≡ (if grew then keys ++ key ∷ [] else keys) → IsInOrder keys → names_key key.code ≡ true → last_stamp keys ≤ key.stamp → IsInOrder pushed
in_order_pushed keys pushed key true is order named late = rw is (in_order_more keys key order named late)
in_order_pushed keys pushed key false is order named late = rw is order
