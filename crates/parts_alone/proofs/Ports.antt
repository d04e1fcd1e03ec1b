-- What the ports of an 8255A read after the words of a program.
use Rattle.std.specs.Prelude.{None}
use Rattle.std.proofs.Common.{◌≡◌, ℕ, ◌/◌, ◌%◌, refl, arith}
use Rattle.board_types.specs.declared.line.Line.{Line}
use Rattle.board_types.specs.declared.line.Line.TheVariants.{Low, High}
use Rattle.ppi8255.specs.declared.ppi.Inputs.{Inputs}
use Rattle.ppi8255.specs.Ppi.{PpiState, power_on, byte_at, after_write}

-- no key in the latch
abbrev pub inputs : Line → Inputs
inputs level = record { latch = None; out2 = level }

-- bit 3 of port C set, its lower half an output
abbrev pub with_bit_3 : PpiState
with_bit_3 = after_write (after_write (power_on 0 0) 3 0x98) 3 0x07

pub shows_bit_3 : byte_at with_bit_3 2 (inputs High) ≡ 0x28
unfolding after_write byte_at
shows_bit_3 = refl

-- the states in which a program reads the switches, by lines of port B, one after another
abbrev pub at_sw1 : ℕ → ℕ → PpiState
at_sw1 sw1 sw2 = after_write (after_write (power_on sw1 sw2) 3 0x99) 1 0x80

abbrev pub at_four : ℕ → ℕ → PpiState
at_four sw1 sw2 = after_write (at_sw1 sw1 sw2) 1 0x04

abbrev pub at_fifth : ℕ → ℕ → PpiState
at_fifth sw1 sw2 = after_write (at_four sw1 sw2) 1 0

pub shows_sw1 : (sw1 sw2 : ℕ) → byte_at (at_sw1 sw1 sw2) 0 (inputs Low) ≡ sw1
unfolding after_write byte_at
shows_sw1 sw1 sw2 = refl

pub shows_four : (sw1 sw2 : ℕ) → byte_at (at_four sw1 sw2) 2 (inputs Low) % 16 ≡ sw2 % 16
unfolding after_write byte_at
shows_four sw1 sw2 = omega arith

pub shows_fifth : (sw1 sw2 : ℕ) → byte_at (at_fifth sw1 sw2) 2 (inputs Low) % 2 ≡ sw2 / 16 % 2
unfolding after_write byte_at
shows_fifth sw1 sw2 = omega arith
