-- The speaker (IBM PC Technical Reference, "Speaker Interface"): port B bit 1 and the timer's OUT2 together.
-- To be believed: the headline rests on it.
use Rattle.std.specs.Prelude.{ℕ, ◌&&◌, Bool, List}
use Rattle.board_types.specs.Bits.{has_bit}
use Rattle.board_types.specs.LineLevel.{is_high}
use Rattle.bus.specs.PortWriteBus.{after_port_writes}
use Rattle.ppi8255.specs.Ppi.{lines_b}
use Rattle.wiring.specs.Chips.{ChipsState}
use Rattle.wiring.specs.Ports.{after_output}
use Rattle.wiring.specs.Wires.{after_clock, after_key_settling}

-- whether the speaker is high
unfoldable pub is_speaker_high : ChipsState → Bool
is_speaker_high s = has_bit (lines_b s.ppi) 1 && is_high s.pit.counter_2.out

-- whether the speaker is high at the next clock, after these port writes
unfoldable pub is_speaker_high_after : ChipsState → List (ℕ × ℕ) → Bool
is_speaker_high_after s writes =
    is_speaker_high (after_key_settling (after_clock (after_port_writes after_output s writes)))
