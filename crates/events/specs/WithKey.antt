-- A board that gets one more key.
-- To be believed by callers of this crate: the headline does not rest on it.
use Rattle.std.specs.Prelude.{nat_le, if◌then◌else◌, List, [], ◌∷◌}
use Rattle.board_types.specs.declared.keys.StampedKey.{StampedKey}
use Rattle.board_plain.specs.Plain.{Plain}

-- the keys with one more, after all that aren't stamped later
abbrev pub inserted : List StampedKey → StampedKey → List StampedKey
inserted [] key = key ∷ []
inserted (k ∷ ks) key = if nat_le k.stamp key.stamp then k ∷ inserted ks key else key ∷ k ∷ ks

unfoldable pub with_key : Plain → StampedKey → Plain
with_key s key = record s { keys = inserted s.keys key }
