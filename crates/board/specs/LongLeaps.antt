-- How long a leap of time is: as long as it can be.
-- To be believed by callers of this crate: the headline does not rest on it.
use Rattle.std.specs.Prelude.{ℕ, ◌≡◌, ◌≤◌, ◌⊎◌}
use Rattle.board_plain.specs.Plain.{Plain}
use Rattle.board_plain.specs.Work.{work_next}

-- n clocks that lead to a board can't be more: they are all that are asked for, or the processor becomes free at their
-- end, or the clock after them has work
abbrev pub IsMaximalTo : ℕ → Plain → ℕ → Plain → Type 0
IsMaximalTo limit s n t = (n ≡ limit) ⊎ (((1 ≤ s.busy) × (n ≡ s.busy)) ⊎ (1 ≤ work_next t))
