-- The bits of a word, by their numbers.
-- To be believed: the headline rests on it.
use Rattle.std.specs.Prelude.{ℕ, ◌==◌, Bool}
use Rattle.std.specs.Int.{bit_at}

-- whether bit n is 1; bit 0 is the lowest
abbrev pub has_bit : ℕ → ℕ → Bool
has_bit word n = bit_at word n == 1
