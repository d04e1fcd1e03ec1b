-- Copies of a board that get one more key.
-- For proofs alone: no public contract rests on it.
use Rattle.std.specs.Prelude.{ℕ, ◌≡◌, ◌<◌, List, All, Contains}
use Rattle.board_types.specs.declared.keys.StampedKey.{StampedKey}
use Rattle.board_plain.specs.Board.{BoardState}
use Rattle.board_plain.specs.Plain.{clock_of}
use Rattle.events.specs.WithKey.{with_key}

abbrev pub board_with : BoardState → StampedKey → BoardState
board_with board key = record board { plain = with_key board.plain key }

-- one of these boards, which stands before the key's stamp, with the key
pub record HasKey (key : StampedKey) (old : List BoardState) (board : BoardState) : Type 0 where
  pub before : BoardState
  pub there : Contains old before
  pub early : clock_of before.plain < key.stamp
  pub is : board ≡ board_with before key

-- each of the boards is an old one with the key
abbrev pub HaveKey : StampedKey → List BoardState → List BoardState → Type 0
HaveKey key old new = All (HasKey key old) new
