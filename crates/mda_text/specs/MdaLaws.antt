-- What holds of every text adapter, in the words of its user.
-- Laws: claims above the definitions, each proved as the contract of a function.
use Rattle.std.specs.Prelude.{◌≡◌, ◌≢◌, ◌↔◌, ℕ, ◌+◌, ◌-◌, ◌*◌, ◌/◌, ◌%◌, ◌^◌, ◌<◌}
use Rattle.std.specs.Prelude.{◌≤◌, ◌⊎◌, if◌then◌else◌, nat_lt, List, [], ◌∷◌, length}
use Rattle.std.specs.List.{AllPairs, Contains}
use Rattle.board_types.specs.Iterate.{iterate}
use Rattle.mda_text.specs.Mda.{MdaState, power_on, text_byte, with_text_byte}
use Rattle.mda_text.specs.Mda.{byte_at, after_write, after_clocks, status}
use Rattle.mda_text.specs.Screen.{word_at, cell}
use Rattle.mda_text.specs.Marks.{after_mark, changed_cells}

-- a cell of the screen
abbrev pub IsCell : ℕ → ℕ → Type 0
IsCell row column = (row < 25) × (column < 80)

-- a number given to the MC6845 as a start address: register 12 named and written, and then register 13
abbrev pub with_start : MdaState → ℕ → MdaState
with_start m start =
    after_write (after_write (after_write (after_write m 0x3B4 12) 0x3B5 (start / 256)) 0x3B4 13) 0x3B5 (start % 256)

-- a number below 2^14 that is given as a start address becomes it; cell (r, c) then shows the word that is 80 r + c
-- further on, round the 2,048 words
pub record StartsAt (m : MdaState) (start : ℕ) : Type 0 where
  pub given : start < 2 ^ 14 → (with_start m start).start ≡ start
  pub words : (row column : ℕ) → start < 2 ^ 14
      → word_at (with_start m start) row column ≡ (start + 80 * row + column) % 2048

-- no word is shown twice
abbrev pub ShowsOnce : MdaState → Type 0
ShowsOnce m =
    (row column other_row other_column : ℕ) → IsCell row column → IsCell other_row other_column
    → word_at m row column ≡ word_at m other_row other_column → (row ≡ other_row) × (column ≡ other_column)

-- what cells show depends on text memory, start address and video enable alone
abbrev pub ShowsAlike : MdaState → MdaState → Type 0
ShowsAlike m other =
    m.bytes ≡ other.bytes → m.start ≡ other.start → m.video ≡ other.video → (row column : ℕ)
    → cell m row column ≡ cell other row column

-- with a start address 80 words on, round the 2,048 words, the screen has moved up by a row
abbrev pub Scrolls : MdaState → ℕ → Type 0
Scrolls m start =
    (row column : ℕ) → start < 2 ^ 14 → start % 2048 ≡ (m.start + 80) % 2048
    → cell (with_start m start) row column ≡ cell m (row + 1) column

-- a byte written to text memory changes no cell except those that show its word
abbrev pub ChangesOneCell : MdaState → ℕ → ℕ → Type 0
ChangesOneCell m offset byte =
    (row column : ℕ) → word_at m row column ≢ offset / 2
    → cell (with_text_byte m offset byte) row column ≡ cell m row column

-- text memory is memory: a byte written reads back, all others stay, and nothing else writes to it
pub record IsMemory (m : MdaState) : Type 0 where
  pub reads_back : (offset byte : ℕ) → offset < length m.bytes → text_byte (with_text_byte m offset byte) offset ≡ byte
  pub others_stay : (offset byte other : ℕ) → other ≢ offset
      → text_byte (with_text_byte m offset byte) other ≡ text_byte m other
  pub size_stays : (offset byte : ℕ) → length (with_text_byte m offset byte).bytes ≡ length m.bytes
  pub ports_stay : (offset byte port : ℕ) → byte_at (with_text_byte m offset byte) port ≡ byte_at m port
  pub port_writes : (port byte : ℕ) → (after_write m port byte).bytes ≡ m.bytes
  pub clocks : (n : ℕ) → (after_clocks m n).bytes ≡ m.bytes
  pub marks : (after_mark m).bytes ≡ m.bytes

-- at power-on text memory has 4,096 bytes, all 0
pub record IsBlank (m : MdaState) : Type 0 where
  pub size : length m.bytes ≡ 4096
  pub bytes : (offset : ℕ) → text_byte m offset ≡ 0

-- how the status follows the beam over time
pub record TellsBeam (m : MdaState) : Type 0 where
  -- the status is F1h exactly while the raster, which goes round after 259 clocks, is 219 or more, and else F0h
  pub high : (n : ℕ) → (status (after_clocks m n) ≡ 0xF1) ↔ (219 ≤ (m.raster + n) % 259)
  pub low : (n : ℕ) → (status (after_clocks m n) ≡ 0xF0) ↔ ((m.raster + n) % 259 < 219)
  -- nothing but clocks moves the beam
  pub writes : (port byte : ℕ) → (after_write m port byte).raster ≡ m.raster

-- what may happen to an adapter between two marks
pub data Event : Type 0 where
  WritesMemory : (offset byte : ℕ) → Event
  WritesPort : (port byte : ℕ) → Event
  PassesClocks : (n : ℕ) → Event

abbrev pub after_event : MdaState → Event → MdaState
after_event m (WritesMemory offset byte) = with_text_byte m offset byte
after_event m (WritesPort port byte) = after_write m port byte
after_event m (PassesClocks n) = after_clocks m n

unfoldable pub after_events : MdaState → List Event → MdaState
after_events m [] = m
after_events m (e ∷ es) = after_events (after_event m e) es

-- the adapter after a mark and then these events
abbrev pub since_mark : MdaState → List Event → MdaState
since_mark m es = after_events (after_mark m) es

-- which cells are named as changed after a mark and then these events
pub record TellsChanges (m : MdaState) (es : List Event) : Type 0 where
  -- while the mark has a number, a cell is named exactly if it shows another character than at the mark
  pub named : m.next_mark ≢ 0 → (row column : ℕ) → IsCell row column
      → Contains (changed_cells (since_mark m es) m.next_mark) (row, column)
      ↔ (cell (since_mark m es) row column ≢ cell m row column)
  -- for a number other than the mark's, all cells are named
  pub all : (mark row column : ℕ) → (mark ≢ m.next_mark) ⊎ (mark ≡ 0) → IsCell row column
      → Contains (changed_cells (since_mark m es) mark) (row, column)
  -- cells are named in rising order, each once
  pub rising : (mark : ℕ) → AllPairs (λ a b. 80 * a.0 + a.1 < 80 * b.0 + b.1) (changed_cells (since_mark m es) mark)

-- the n-th mark since power-on has the number n, as long as that is a u64, and then 0
abbrev pub NumbersMarks : ℕ → Type 0
NumbersMarks n = (iterate after_mark n power_on).next_mark ≡ (if nat_lt n (2 ^ 64 - 1) then n + 1 else 0)
