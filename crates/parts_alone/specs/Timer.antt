-- The level of counter 2's output over time.
-- For proofs alone: no public contract rests on it.
use Rattle.std.specs.Prelude.{ℕ, ◌+◌, ◌/◌, ◌%◌, nat_lt, if◌then◌else◌, List, [], ◌∷◌, ◌++◌}
use Rattle.std.specs.Bool.{beq}
use Rattle.std.proofs.Common.{zero, suc}
use Rattle.board_types.specs.LineLevel.{is_high}
use Rattle.board_types.specs.declared.line.Line.{Line}
use Rattle.board_types.specs.declared.line.Line.TheVariants.{Low, High}
use Rattle.pit8253.specs.Pit.{PitState, after_ticks}

-- the level of OUT2 after n ticks
abbrev pub level_after : PitState → ℕ → Line
level_after timer n = (after_ticks timer n).counter_2.out

-- a square wave: high before its count is loaded, which the first tick does, and then high for the first half of each
-- period and low for the second. The halves of an odd count are (count + 1) / 2 and (count - 1) / 2 ticks.
abbrev pub square : ℕ → ℕ → Line
square count zero = High
square count (suc n) = if nat_lt (n % count) ((count + 1) / 2) then High else Low

-- the ticks, of the first n, at which a level changes
abbrev pub changes : (ℕ → Line) → ℕ → List ℕ
changes level zero = []
changes level (suc n) =
    changes level n ++ (if beq (is_high (level n)) (is_high (level (suc n))) then [] else suc n ∷ [])
