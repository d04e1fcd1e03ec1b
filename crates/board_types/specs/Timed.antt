-- A part that goes on by itself as time passes, and how long its output stays as it is.
-- To be believed by callers of this crate: the headline does not rest on it.
use Rattle.std.specs.Prelude.{◌≡◌, ◌≢◌, ℕ, ◌<◌, ◌≤◌, Option, MatchOption}
use Rattle.board_types.specs.declared.line.Line.{Line}

-- the output of s stays as it is for n units of time
abbrev pub IsSteady : {S : Type 0} → (S → ℕ → S) → (S → Line) → S → ℕ → Type 0
IsSteady after output s n = (k : ℕ) → k ≤ n → output (after s k) ≡ output s

-- the output of s stays as it is for good
abbrev pub NeverTurns : {S : Type 0} → (S → ℕ → S) → (S → Line) → S → Type 0
NeverTurns after output s = (k : ℕ) → output (after s k) ≡ output s

-- the output of s turns after n units of time, n being at least 1, and not before
pub record TurnsFirst {S : Type 0} (after : S → ℕ → S) (output : S → Line) (s : S) (n : ℕ) : Type 0 where
  pub some : 1 ≤ n
  pub before : (k : ℕ) → k < n → output (after s k) ≡ output s
  pub turns : output (after s n) ≢ output s

-- the output of s first turns after `turn` units of time, or never if that is none
abbrev pub IsUntilTurn : {S : Type 0} → (S → ℕ → S) → (S → Line) → S → Option ℕ → Type 0
IsUntilTurn after output s turn = MatchOption turn (NeverTurns after output s) (TurnsFirst after output s)
