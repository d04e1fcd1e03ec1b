-- Chips that go on by themselves: clocks change nothing but the beam, the timer and the controller's lines, as long as
-- nothing is written and no key comes, and the speaker stays low whatever the timer does.
-- To be believed by callers of this crate: the headline does not rest on it.
use Rattle.std.specs.Prelude.{◌≡◌, true, false}
use Rattle.board_types.specs.Bits.{has_bit}
use Rattle.keyboard.specs.Keyboard as keyboard
use Rattle.pic8259.specs.Inhibited.{is_inhibited}
use Rattle.ppi8255.specs.Ppi.{lines_b}
use Rattle.wiring.specs.Chips.{ChipsState}

-- port B holds the speaker low, and the keyboard has settled to its lines
pub record GoesOnAlone (s : ChipsState) : Type 0 where
  pub speaker_off : has_bit (lines_b s.ppi) 1 ≡ false
  pub keys : keyboard.after_settling s.keyboard (lines_b s.ppi) ≡ s.keyboard

-- IR0, which OUT0 drives, is inhibited: it requests nothing whatever the timer does
abbrev pub IsTimerInhibited : ChipsState → Type 0
IsTimerInhibited s = is_inhibited s.pic 0 ≡ true
