-- What a search has found so far.
-- For proofs alone: no public contract rests on it.
use Rattle.std.specs.Prelude.{ℕ, Option, None, Some}

-- what a search has found last if `here` holds at a clock
abbrev pub found_at : Option (ℕ × ℕ) → Option ℕ → ℕ → Option (ℕ × ℕ)
found_at last None clock = last
found_at last (Some number) clock = Some (clock, number)
