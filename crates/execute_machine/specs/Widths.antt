-- The two widths of an operand (8086 Family User's Manual, "Machine Instruction Encoding and Decoding": W).
-- To be believed: the headline rests on it.
use Rattle.std.specs.Prelude.{ℕ, Bool, nat_le}
use Rattle.execute_machine.specs.declared.width.Width.{Width}
use Rattle.execute_machine.specs.declared.width.Width.TheVariants.{Byte, Word}

-- how many values a width has
abbrev pub size_of : Width → ℕ
size_of Byte = 256
size_of Word = 65536

-- half of a width's values: from there on a value is negative as a signed one
abbrev pub half_size : Width → ℕ
half_size Byte = 128
half_size Word = 32768

abbrev pub is_negative : Width → ℕ → Bool
is_negative width value = nat_le (half_size width) value
