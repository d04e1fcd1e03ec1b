-- What holds of every parallel port and every access, in the words of the data sheet.
-- Laws: claims above the definitions, each proved as the contract of a function.
use Rattle.std.specs.Prelude.{◌≡◌, ℕ, ◌/◌, ◌%◌, ◌<◌, ◌==◌, true, false, if◌then◌else◌, List, [], ◌∷◌}
use Rattle.board_types.specs.Bits.{has_bit}
use Rattle.board_types.specs.LineLevel.{is_high}
use Rattle.ppi8255.specs.declared.ppi.Direction.TheVariants.{Input, Output}
use Rattle.ppi8255.specs.declared.ppi.Inputs.{Inputs}
use Rattle.ppi8255.specs.Ppi.{PpiState, power_on, lines_b, byte_at, after_write}

-- a port that is an output reads what was last written to it, and port B's lines carry it
pub record ReadsBack (s : PpiState) (byte : ℕ) (inputs : Inputs) : Type 0 where
  pub port_a : s.a ≡ Output → byte_at (after_write s 0 byte) 0 inputs ≡ byte
  pub port_b : s.b ≡ Output → byte_at (after_write s 1 byte) 1 inputs ≡ byte
  pub lines : s.b ≡ Output → lines_b (after_write s 1 byte) ≡ byte
  pub port_c : s.c_upper ≡ Output → s.c_lower ≡ Output → byte_at (after_write s 2 byte) 2 inputs ≡ byte

-- a mode word, bit 7 of which is 1, leaves nothing of what was written before it
abbrev pub BeginsAnew : PpiState → ℕ → Type 0
BeginsAnew s word = has_bit word 7 ≡ true → after_write s 3 word ≡ after_write (power_on s.sw1 s.sw2) 3 word

-- a control word whose bit 7 is 0 sets the bit of port C that its bits 3 to 1 name to its bit 0, and nothing else
pub record SetsOneBit (s : PpiState) (word : ℕ) : Type 0 where
  pub bits : (k : ℕ) → k < 8
      → has_bit (after_write s 3 word).c_latch k ≡ (if k == word / 2 % 8 then has_bit word 0 else has_bit s.c_latch k)
  pub others : record (after_write s 3 word) { c_latch = s.c_latch } ≡ s

-- port C as an input: its bits 3 to 0 are the first four switches of SW2 if line 2 of port B is 1, else bit 0 is the
-- fifth and bits 3 to 1 are 0; bit 5 is counter 2's output, and bits 4, 6 and 7 are 0
pub record ShowsPins (s : PpiState) (inputs : Inputs) : Type 0 where
  pub four : has_bit (lines_b s) 2 ≡ true → (k : ℕ) → k < 4 → has_bit (byte_at s 2 inputs) k ≡ has_bit s.sw2 k
  pub fifth : has_bit (lines_b s) 2 ≡ false → has_bit (byte_at s 2 inputs) 0 ≡ has_bit s.sw2 4
  pub clear : has_bit (lines_b s) 2 ≡ false → (k : ℕ) → 0 < k → k < 4 → has_bit (byte_at s 2 inputs) k ≡ false
  pub counter : has_bit (byte_at s 2 inputs) 5 ≡ is_high inputs.out2
  pub bit_4 : has_bit (byte_at s 2 inputs) 4 ≡ false
  pub bit_6 : has_bit (byte_at s 2 inputs) 6 ≡ false
  pub bit_7 : has_bit (byte_at s 2 inputs) 7 ≡ false

abbrev pub ShowsSwitches : PpiState → Inputs → Type 0
ShowsSwitches s inputs = s.c_upper ≡ Input → s.c_lower ≡ Input → ShowsPins s inputs

-- writes in their order, each with its port
unfoldable pub after_writes : PpiState → List (ℕ × ℕ) → PpiState
after_writes s [] = s
after_writes s (w ∷ ws) = after_writes (after_write s w.0 w.1) ws

-- after the same writes two ports give the same reads, and the same levels of port B
pub record LooksAlike (s t : PpiState) (writes : List (ℕ × ℕ)) : Type 0 where
  pub reads : (port : ℕ) (inputs : Inputs)
      → byte_at (after_writes s writes) port inputs ≡ byte_at (after_writes t writes) port inputs
  pub lines : lines_b (after_writes s writes) ≡ lines_b (after_writes t writes)

-- two ports differ only in what the latches of inputs hold
pub record DiffersUnseen (s t : PpiState) : Type 0 where
  pub sw1 : s.sw1 ≡ t.sw1
  pub sw2 : s.sw2 ≡ t.sw2
  pub a : s.a ≡ t.a
  pub b : s.b ≡ t.b
  pub c_upper : s.c_upper ≡ t.c_upper
  pub c_lower : s.c_lower ≡ t.c_lower
  pub a_latch : s.a ≡ Output → s.a_latch ≡ t.a_latch
  pub b_latch : s.b ≡ Output → s.b_latch ≡ t.b_latch
  pub c_latch_upper : s.c_upper ≡ Output → s.c_latch / 16 ≡ t.c_latch / 16
  pub c_latch_lower : s.c_lower ≡ Output → s.c_latch % 16 ≡ t.c_latch % 16
