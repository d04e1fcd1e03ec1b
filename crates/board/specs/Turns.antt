-- Turns: a clock that has work is an act, and others are leapt over.
-- For proofs alone: no public contract rests on it.
use Rattle.std.specs.Prelude.{ℕ, ◌≡◌, ◌+◌, ◌≤◌, ◌⊎◌, ◌++◌, length}
use Rattle.board_plain.specs.Board.{BoardState}
use Rattle.board.specs.UnseenClocks.{IsLeap}
use Rattle.board.specs.QuietSteps.{AreQuietSteps}
use Rattle.board_plain.specs.Plain.{after_clock, change_next, clock_of}
use Rattle.board_plain.specs.Trail.{last, trail_next}
use Rattle.board_plain.specs.Work.{work_next}

-- one clock of a board, with the change and the entry that it adds to the lists
pub record IsTickOn (old new : BoardState) : Type 0 where
  pub plain : new.plain ≡ after_clock old.plain
  pub clock : clock_of new.plain ≡ clock_of old.plain + 1
  pub changes : new.changes ≡ old.changes ++ change_next old.plain
  pub trail : new.trail ≡ last 32 (old.trail ++ trail_next old.plain)
  pub room : old.room + length old.changes ≤ new.room + length new.changes
  pub turns : new.turns ≡ old.turns + 1

-- a leap of a board, at most to the clock `end`, which counts as `count` turns
pub record IsLeapOn (end count : ℕ) (old new : BoardState) : Type 0 where
  pub leap : IsLeap end old.plain new.plain
  pub changes : new.changes ≡ old.changes
  pub trail : new.trail ≡ old.trail
  pub room : new.room ≡ old.room
  pub turns : new.turns ≡ old.turns + count

-- an act, which is a clock that has work, and maybe the leap over the others of its step that end by `within`; it
-- counts as one turn
pub record IsActOn (within : ℕ) (old new : BoardState) : Type 0 where
  pub begun : BoardState
  pub first : IsTickOn old begun
  pub work : 1 ≤ work_next old.plain
  pub rest : (new ≡ begun) ⊎ ((1 ≤ begun.plain.busy) × IsLeapOn within 0 begun new)

-- a turn: an act, or a leap at most to the clock `end`
abbrev pub IsTurnOn : ℕ → ℕ → BoardState → BoardState → Type 0
IsTurnOn within end old new = IsLeapOn end 1 old new ⊎ IsActOn within old new

-- `count` steps at once, while nothing comes
pub record AreStepsOn (unwatched : ℕ → Type 0) (end : ℕ) (old new : BoardState) : Type 0 where
  pub count : ℕ
  pub steps : AreQuietSteps unwatched count end (record { plain = old.plain; trail = old.trail })
      (record { plain = new.plain; trail = new.trail })
  pub changes : new.changes ≡ old.changes
  pub room : new.room ≡ old.room
  pub turns : new.turns ≡ old.turns + count
