-- What a board shows: the plain board at its clock, the speaker's changes so far, the room that is kept for further
-- ones, the last entries of the trail, and the turns that it has made.
-- To be believed: the headline rests on it.
use Rattle.std.specs.Prelude.{ℕ, ◌+◌, ◌<◌, ◌≤◌, ◌≡◌, ◌≢◌, List, ◌++◌, codes, length}
use Rattle.board_plain.specs.declared.fault.BoardFault.{BoardFault}
use Rattle.board_plain.specs.declared.fault.BoardFault.TheVariants.{RamSize, Memory, ClockLimit}
use Rattle.board_plain.specs.declared.speaker.SpeakerChange.{SpeakerChange}
use Rattle.board_plain.specs.declared.trail.TrailEntry.{TrailEntry}
use Rattle.board_plain.specs.Plain.{Plain, clock_of, after_clocks, after_clock, changes_in, speaker_level}
use Rattle.board_plain.specs.Trail.{last, trail_in}

pub record BoardState : Type 0 where
  pub plain : Plain
  pub changes : List SpeakerChange
  pub room : ℕ
  pub trail : List TrailEntry
  -- the turns made since power-on: each is a clock, a leap, or a clock with a leap after it
  pub turns : ℕ

-- n clocks have gone by, with the changes that they bring and what they add to the trail; no more room was used than
-- changes have come
pub record Ran (n : ℕ) (old new : BoardState) : Type 0 where
  pub plain : new.plain ≡ after_clocks old.plain n
  pub clock : clock_of new.plain ≡ clock_of old.plain + n
  pub changes : new.changes ≡ old.changes ++ changes_in old.plain n
  pub trail : new.trail ≡ last 32 (old.trail ++ trail_in old.plain n)
  pub room : old.room + length old.changes ≤ new.room + length new.changes

-- a run of n clocks that found no memory: it stands at the clock before a change for which there was no room
pub record StoppedEarly (n : ℕ) (old new : BoardState) : Type 0 where
  pub passed : ℕ
  pub before_end : passed < n
  pub ran : Ran passed old new
  pub changes_next : speaker_level (after_clock new.plain) ≢ speaker_level new.plain
  pub full : new.room ≡ 0

abbrev pub board_fault_number : BoardFault → ℕ
board_fault_number RamSize = 36
board_fault_number Memory = 41
board_fault_number ClockLimit = 42

abbrev pub board_fault_name : BoardFault → List ℕ
board_fault_name RamSize = codes "RamSize"
board_fault_name Memory = codes "Memory"
board_fault_name ClockLimit = codes "ClockLimit"
