-- What the control word and the bytes of a count mean (Intel 8253 data sheet, "Control Word Format" and "Programming
-- the 8253"), and how the control word's fields are spelled in a status (Intel 8254 data sheet, "Status Byte").
-- To be believed: the headline rests on it.
use Rattle.std.specs.Prelude.{ℕ, ◌+◌, ◌*◌, ◌/◌, ◌%◌, ◌-◌, ◌==◌, if◌then◌else◌, nat_lt}
use Rattle.pit8253.specs.declared.program.Mode.{Mode}
use Rattle.pit8253.specs.declared.program.Mode.TheVariants.{TerminalCount, OneShot, RateGenerator}
use Rattle.pit8253.specs.declared.program.Mode.TheVariants.{SquareWave, SoftwareStrobe, HardwareStrobe}
use Rattle.pit8253.specs.declared.program.Access.{Access}
use Rattle.pit8253.specs.declared.program.Access.TheVariants.{LowByte, HighByte, LowThenHigh}
use Rattle.pit8253.specs.declared.program.Radix.{Radix}
use Rattle.pit8253.specs.declared.program.Radix.TheVariants.{Binary, Decimal}

-- the mode that bits 3 to 1 of the control word name: 0, 1, 4 and 5 are that mode, x10 is mode 2 and x11 mode 3
abbrev pub mode_of : ℕ → Mode
mode_of bits =
    if bits == 0 then TerminalCount else (
    if bits == 1 then OneShot else (
    if bits == 4 then SoftwareStrobe else (
    if bits == 5 then HardwareStrobe else (
    if bits % 2 == 0 then RateGenerator else SquareWave))))

-- the access that bits 5 and 4 of the control word name, unless they are 00, which latches
abbrev pub access_of : ℕ → Access
access_of bits = if bits == 1 then LowByte else (if bits == 2 then HighByte else LowThenHigh)

-- the radix that bit 0 of the control word names
abbrev pub radix_of : ℕ → Radix
radix_of bit = if bit == 0 then Binary else Decimal

-- a mode as bits 3 to 1 of a status spell it: by its own number
abbrev pub mode_number : Mode → ℕ
mode_number TerminalCount = 0
mode_number OneShot = 1
mode_number RateGenerator = 2
mode_number SquareWave = 3
mode_number SoftwareStrobe = 4
mode_number HardwareStrobe = 5

-- an access as bits 5 and 4 of a status spell it
abbrev pub access_number : Access → ℕ
access_number LowByte = 1
access_number HighByte = 2
access_number LowThenHigh = 3

-- a radix as bit 0 of a status spells it
abbrev pub radix_number : Radix → ℕ
radix_number Binary = 0
radix_number Decimal = 1

-- how many counts a radix has
abbrev pub modulus : Radix → ℕ
modulus Binary = 65536
modulus Decimal = 10000

-- the count that sixteen bits give, modulo the number of counts: 0 is then the largest count, 65,536 or
-- 10,000. A decimal digit above 9 counts by its weight (this board's choice).
abbrev pub count_of : Radix → ℕ → ℕ
count_of Binary word = word
count_of Decimal word = (1000 * (word / 4096) + 100 * (word / 256 % 16) + 10 * (word / 16 % 16) + word % 16) % 10000

-- the sixteen bits that show a count
abbrev pub digits_of : Radix → ℕ → ℕ
digits_of Binary count = count
digits_of Decimal count = 4096 * (count / 1000 % 10) + 256 * (count / 100 % 10) + 16 * (count / 10 % 10) + count % 10

-- the count after counting down by some; below 0 it goes on from FFFFh or 9999
abbrev pub count_minus : Radix → ℕ → ℕ → ℕ
count_minus radix count by = if nat_lt count by then count + modulus radix - by else count - by
