-- Where a session stands, seen from the board with which it began.
-- To be believed: the headline rests on it.
use Rattle.std.specs.Prelude.{ℕ, ◌≡◌, ◌+◌, ◌-◌, List, [], ◌++◌}
use Rattle.board_plain.specs.declared.speaker.SpeakerChange.{SpeakerChange}
use Rattle.board_plain.specs.declared.stop.Condition.{Condition}
use Rattle.board_plain.specs.declared.trail.TrailEntry.{TrailEntry}
use Rattle.board_plain.specs.Board.{BoardState}
use Rattle.board_plain.specs.Plain.{Plain, after_clocks, changes_in, clock_of}
use Rattle.board_plain.specs.Trail.{last, trail_in}

-- what a board shows: all but the room that is kept for further changes, and the count of its turns
pub record Shown : Type 0 where
  pub plain : Plain
  pub changes : List SpeakerChange
  pub trail : List TrailEntry

abbrev pub shown_of : BoardState → Shown
shown_of board = record { plain = board.plain; changes = board.changes; trail = board.trail }

-- a session: what its first board showed, the board as it stands now, and the stops
pub record SessionState : Type 0 where
  pub first : Shown
  pub board : BoardState
  pub stops : List Condition

-- the session that begins about a board
abbrev pub session_about : BoardState → SessionState
session_about board = record { first = shown_of board; board = board; stops = [] }

-- a board n clocks after the first one, whose changes and trail go on from those of the first; of the trail the last 32
-- entries are kept
pub record StandsAt (n : ℕ) (first : Shown) (board : BoardState) : Type 0 where
  pub plain : board.plain ≡ after_clocks first.plain n
  pub clock : clock_of board.plain ≡ clock_of first.plain + n
  pub changes : board.changes ≡ first.changes ++ changes_in first.plain n
  pub trail : board.trail ≡ last 32 (first.trail ++ trail_in first.plain n)

abbrev pub StandsAfter : Shown → BoardState → Type 0
StandsAfter first board = (n : ℕ) × StandsAt n first board

-- a session's board stands some clocks after its first one
abbrev pub Stands : SessionState → Type 0
Stands s = StandsAfter s.first s.board

-- how many clocks a session's board is past its first one
abbrev pub gone : SessionState → ℕ
gone s = clock_of s.board.plain - clock_of s.first.plain
