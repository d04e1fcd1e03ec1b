-- A key that is still to come.
-- Laws: claims above the definitions, each proved as the contract of a function.
use Rattle.std.specs.Prelude.{ℕ, ◌≡◌, ◌+◌, ◌<◌, List, IsTrue, Bool, nat_le, nat_lt, ◌∷◌, ◌++◌, map}
use Rattle.std.specs.List.{list_all}
use Rattle.board_types.specs.declared.keys.StampedKey.{StampedKey}
use Rattle.board_plain.specs.declared.config.Config.{Config}
use Rattle.board_plain.specs.Plain.{Plain, after_clocks, board_after, changes_in, clock_of}
use Rattle.board_plain.specs.Trail.{trail_in}
use Rattle.events.specs.OrderLaws.{rises_from}
use Rattle.events.specs.WithKey.{inserted, with_key}

-- a key that is still to come changes no clock before its stamp
abbrev pub KeyToComeWaits : Type 0
KeyToComeWaits =
    (s : Plain) (key : StampedKey) (n : ℕ) → clock_of s + n < key.stamp
    → after_clocks (with_key s key) n ≡ with_key (after_clocks s n) key

-- a key that is still to come doesn't change what the clocks before its stamp add to the speaker's list and to the
-- trail
abbrev pub ListsStay : Type 0
ListsStay =
    (s : Plain) (key : StampedKey) (n : ℕ) → clock_of s + n < key.stamp
    → (changes_in (with_key s key) n ≡ changes_in s n) × (trail_in (with_key s key) n ≡ trail_in s n)

-- a board that gets a key that is still to come is one that had it from power-on
abbrev pub KeyWasThere : Type 0
KeyWasThere =
    (image : List (ℕ × ℕ)) (config : Config) (keys : List StampedKey) (key : StampedKey) (n : ℕ) → n < key.stamp
    → with_key (board_after image config keys n) key ≡ board_after image config (inserted keys key) n

-- where a typed key stands: after all keys that aren't stamped later, and before all that are, if stamps never fall
abbrev pub not_later : ℕ → StampedKey → Bool
not_later stamp key = nat_le key.stamp stamp

abbrev pub later_than : ℕ → StampedKey → Bool
later_than stamp key = nat_lt stamp key.stamp

pub record StandsBetween (keys : List StampedKey) (key : StampedKey) : Type 0 where
  pub front : List StampedKey
  pub back : List StampedKey
  pub parts : keys ≡ front ++ back
  pub there : inserted keys key ≡ front ++ key ∷ back
  pub before : IsTrue (list_all (not_later key.stamp) front)
  pub after : IsTrue (list_all (later_than key.stamp) back)

abbrev pub KeyStandsInOrder : Type 0
KeyStandsInOrder =
    (keys : List StampedKey) (key : StampedKey) (first : ℕ)
    → IsTrue (rises_from first (map (λ (k : StampedKey). k.stamp) keys)) → StandsBetween keys key
