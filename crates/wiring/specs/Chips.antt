-- What the system board holds beside the processor: its memory, its chips, the text adapter in its
-- slot, and the clock that they stand at (IBM PC Technical Reference, "System Board"). Each is as its own definition
-- says.
-- To be believed: the headline rests on it.
use Rattle.std.specs.Prelude.{ℕ, List}
use Rattle.memory.specs.Map as map
use Rattle.memory.specs.Map.{MemoryMap}
use Rattle.pic8259.specs.Pic as pic
use Rattle.pic8259.specs.Pic.{PicState}
use Rattle.board_types.specs.declared.choice.TimerKind.{TimerKind}
use Rattle.pit8253.specs.Pit as pit
use Rattle.pit8253.specs.Pit.{PitState}
use Rattle.ppi8255.specs.Ppi as ppi
use Rattle.ppi8255.specs.Ppi.{PpiState}
use Rattle.keyboard.specs.Keyboard as keyboard
use Rattle.keyboard.specs.Keyboard.{KeyboardState}
use Rattle.mda_text.specs.Mda as mda
use Rattle.mda_text.specs.Mda.{MdaState}

pub record ChipsState : Type 0 where
  -- processor clocks since power-on
  pub clock : ℕ
  pub memory : MemoryMap
  pub pic : PicState
  pub pit : PitState
  pub ppi : PpiState
  pub keyboard : KeyboardState
  pub mda : MdaState

-- power-on, with an image's bytes in memory, the two switch blocks and a timer of this kind
unfoldable pub power_on : List (ℕ × ℕ) → ℕ → ℕ → ℕ → TimerKind → ChipsState
power_on image ram_size sw1 sw2 kind = record {
  clock = 0;
  memory = map.power_on image ram_size;
  pic = pic.power_on;
  pit = pit.power_on kind;
  ppi = ppi.power_on sw1 sw2;
  keyboard = keyboard.power_on;
  mda = mda.power_on;
}
