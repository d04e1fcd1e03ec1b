-- A clock that finds no room for its change of the speaker's level.
-- To be believed by callers of this crate: the headline does not rest on it.
use Rattle.std.specs.Prelude.{◌≡◌, ◌≢◌}
use Rattle.board_plain.specs.Plain.{after_clock, speaker_level}
use Rattle.board_plain.specs.Board.{BoardState}

-- the next clock brings a change for which there is no room, and nothing is done
pub record IsHeldBack (old new : BoardState) : Type 0 where
  pub kept : new ≡ old
  pub changes_next : speaker_level (after_clock old.plain) ≢ speaker_level old.plain
  pub full : old.room ≡ 0
