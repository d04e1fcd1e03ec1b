-- Stops that wait for a free processor: none of them is passed in the midst of a step.
-- For proofs alone: no public contract rests on it.
use Rattle.std.specs.Prelude.{ℕ, ◌≡◌, ◌+◌, ◌<◌, ◌⊎◌, Bool, true, false, List, length, slice_index_or}
use Rattle.board_plain.specs.declared.stop.Condition.{Condition}
use Rattle.board_plain.specs.declared.stop.Condition.TheVariants.{Free, At, Byte, Sound, Halted}
use Rattle.board_plain.specs.Board.{BoardState}
use Rattle.board_plain.specs.Plain.{clock_of}
use Rattle.board.specs.Turns.{AreStepsOn, IsTurnOn}

-- whether a condition holds only while the processor is free
abbrev pub awaits_free : Condition → Bool
awaits_free Free = true
awaits_free (At cs ip) = true
awaits_free (Byte address value) = false
awaits_free Sound = false
awaits_free Halted = false

abbrev pub AllAwaitFree : List Condition → Type 0
AllAwaitFree stops = (k : ℕ) → k < length stops → awaits_free (slice_index_or stops k Free) ≡ true

-- some steps at once, which take time
abbrev pub ArePassedOn : (ℕ → Type 0) → ℕ → BoardState → BoardState → Type 0
ArePassedOn unwatched end old new = AreStepsOn unwatched end old new × (clock_of old.plain < clock_of new.plain)

-- a turn between two looks for a stop: if all stops wait for a free processor, an act may have all its clocks, and
-- there may be several steps, between which IP may be passed; otherwise an act has only its first clock
abbrev pub IsTurnBetween : Bool → (ℕ → Type 0) → ℕ → BoardState → BoardState → Type 0
IsTurnBetween true unwatched end old new = ArePassedOn unwatched end old new ⊎ IsTurnOn end end old new
IsTurnBetween false unwatched end old new = IsTurnOn (clock_of old.plain + 1) end old new
