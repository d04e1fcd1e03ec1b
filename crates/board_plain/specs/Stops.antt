-- Stops: what a condition says of a plain board, and the first clock of a run at which one holds.
-- To be believed: the headline rests on it.
use Rattle.std.specs.Prelude.{ℕ, ◌≡◌, ◌+◌, ◌-◌, ◌<◌, ◌≤◌, ◌^◌, ◌==◌, Bool, ◌&&◌, List, Option, None, Some, length}
use Rattle.std.specs.List.{position_from}
use Rattle.board_types.specs.LineLevel.{is_high}
use Rattle.execute_meaning.specs.Boundaries.{is_halted}
use Rattle.board_plain.specs.declared.stop.Condition.{Condition}
use Rattle.board_plain.specs.declared.stop.Condition.TheVariants.{Free, At, Byte, Sound, Halted}
use Rattle.board_plain.specs.declared.stop.Stop.{Stop}
use Rattle.board_plain.specs.Board.{BoardState}
use Rattle.board_plain.specs.Plain.{Plain, after_clocks, byte_of, changes_in}
use Rattle.board_plain.specs.Plain.{clock_of, is_free, speaker_level, state_of}

-- if a condition asks for a byte, its address is below 2^20
abbrev pub HasAddress : Condition → Type 0
HasAddress Free = Unit {0}
HasAddress (At cs ip) = Unit {0}
HasAddress (Byte address value) = address < 2 ^ 20
HasAddress Sound = Unit {0}
HasAddress Halted = Unit {0}

-- Whether a condition holds: the processor is free, as a halted or jammed one is once its clocks are over; it is free
-- at this CS:IP; the byte at an address is this one; the speaker is high; the processor is halted.
unfoldable pub holds : Condition → Plain → Bool
holds Free s = is_free s
holds (At cs ip) s = is_free s && (s.cpu.registers.cs == cs) && (s.cpu.registers.ip == ip)
holds (Byte address value) s = byte_of s address == value
holds Sound s = is_high (speaker_level s)
holds Halted s = is_halted (state_of s)

-- the least number, from 1, of a condition that holds
unfoldable pub holding : List Condition → Plain → Option ℕ
holding stops s = position_from (λ condition. holds condition s) 1 stops

-- no condition holds at any of the n clocks after the start
abbrev pub NoStop : List Condition → ℕ → Plain → Type 0
NoStop stops n s = (j : ℕ) → 1 ≤ j → j ≤ n → holding stops (after_clocks s j) ≡ None

-- The stop of a run of n clocks: the first clock after the start at which a condition holds, with the least number of
-- one that does. A condition that holds at the start is no stop there.
pub record StopsAt (stops : List Condition) (n : ℕ) (s : Plain) (stop : Stop) : Type 0 where
  pub passed : ℕ
  pub after_start : 1 ≤ passed
  pub within : passed ≤ n
  pub none_before : NoStop stops (passed - 1) s
  pub holds_there : holding stops (after_clocks s passed) ≡ Some stop.number
  pub clock : stop.clock ≡ clock_of s + passed

-- how a run of n clocks ends: at its stop, or without one
abbrev pub IsStopOf : List Condition → ℕ → Plain → Option Stop → Type 0
IsStopOf stops n s None = NoStop stops n s
IsStopOf stops n s (Some stop) = StopsAt stops n s stop

-- how many clocks a run makes: those up to its stop, or all n
abbrev pub run_length : ℕ → Plain → Option Stop → ℕ
run_length n s None = n
run_length n s (Some stop) = stop.clock - clock_of s

-- the changes that a run of n clocks brings up to its stop fit into the room
pub record FitsRoom (stops : List Condition) (n : ℕ) (s : BoardState) : Type 0 where
  pub stopped : Option Stop
  pub is_stop : IsStopOf stops n s.plain stopped
  pub fits : length (changes_in s.plain (run_length n s.plain stopped)) ≤ s.room
