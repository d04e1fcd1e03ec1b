-- The timer and the parallel port alone: how the wires between them, a clock and a port write change them.
-- For proofs alone: no public contract rests on it.
use Rattle.std.specs.Prelude.{ℕ, ◌<◌, ◌&&◌, Bool}
use Rattle.board_types.specs.Bits.{has_bit}
use Rattle.board_types.specs.LineLevel.{is_high}
use Rattle.pit8253.specs.Pit as pit
use Rattle.ppi8255.specs.Ppi as ppi
use Rattle.ppi8255.specs.Ppi.{lines_b}
use Rattle.wiring.specs.declared.port.Port.{Port}
use Rattle.wiring.specs.declared.port.Port.TheVariants.{Controller, Timer, Parallel, Adapter, Nothing}
use Rattle.wiring.specs.declared.sound.Sound.{Sound}
use Rattle.wiring.specs.Chips.{ChipsState}
use Rattle.wiring.specs.Wires.{pit_after_clock}
use Rattle.wiring.specs.EachWire.{after_gate_wire}

-- a port of the timer or of the parallel port is one of its four
abbrev pub HasNumber : Port → Type 0
HasNumber (Controller a0) = Unit {0}
HasNumber (Timer n) = n < 4
HasNumber (Parallel n) = n < 4
HasNumber (Adapter n) = Unit {0}
HasNumber Nothing = Unit {0}

abbrev pub sound_of : ChipsState → Sound
sound_of s = record { pit = s.pit; ppi = s.ppi }

abbrev pub sound_after_settling : Sound → Sound
sound_after_settling s = record s { pit = after_gate_wire s.pit s.ppi }

-- timer and parallel port after the clock of this number is reached
abbrev pub sound_after_clock : Sound → ℕ → Sound
sound_after_clock s clock = sound_after_settling (record s { pit = pit_after_clock s.pit clock })

abbrev pub sound_after_write : Sound → Port → ℕ → Sound
sound_after_write s (Controller a0) byte = s
sound_after_write s (Timer n) byte = record s { pit = pit.after_write s.pit n byte }
sound_after_write s (Parallel n) byte = record s { ppi = ppi.after_write s.ppi n byte }
sound_after_write s (Adapter n) byte = s
sound_after_write s Nothing byte = s

abbrev pub is_sound_high : Sound → Bool
is_sound_high s = has_bit (lines_b s.ppi) 1 && is_high s.pit.counter_2.out
