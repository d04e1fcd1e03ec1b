-- What the screen shows: 25 rows of 80 characters, each of which depends on text memory, the start address and the
-- video enable (Motorola MC6845 data sheet, "Start Address Register"; IBM PC Technical Reference, "IBM Monochrome
-- Display and Parallel Printer Adapter": code, then attribute).
-- To be believed: the headline rests on it.
use Rattle.std.specs.Prelude.{ℕ, ◌+◌, ◌*◌, ◌/◌, ◌%◌, ◌==◌, Bool, ◌&&◌, ◌||◌, not}
use Rattle.std.specs.Prelude.{if◌then◌else◌, nat_le, List, [], ◌∷◌, ◌++◌, map, bit_and}
use Rattle.std.specs.List.{range_with_len, flat_map}
use Rattle.mda_text.specs.Mda.{MdaState, text_byte, cell_count}

-- the character of a code: itself from 20h to 7Eh, and else a full stop (this board's choice)
abbrev pub glyph : ℕ → ℕ
glyph code = if nat_le 0x20 code && nat_le code 0x7E then code else 46

-- a cell is a space if the video is off, if the attribute's foreground and background are both black, or if the code is
-- 0 (the last is this board's choice)
abbrev pub character_of : Bool → ℕ → ℕ → ℕ
character_of video code attribute = if not video || (bit_and attribute 0x77 == 0) || (code == 0) then 32 else glyph code

-- the word of text memory that a cell shows: the words follow one another from the start on, round the 2,048 of them
abbrev pub word_at : MdaState → ℕ → ℕ → ℕ
word_at m row column = (m.start + 80 * row + column) % 2048

-- the character that a word shows
unfoldable pub character_at : MdaState → ℕ → ℕ
character_at m word = character_of m.video (text_byte m (2 * word)) (text_byte m (2 * word + 1))

-- the character at a row and a column
unfoldable pub cell : MdaState → ℕ → ℕ → ℕ
cell m row column = character_at m (word_at m row column)

unfoldable pub row_count : ℕ
row_count = 25

unfoldable pub column_count : ℕ
column_count = 80

-- a row of the screen with its line feed
unfoldable pub screen_row : MdaState → ℕ → List ℕ
screen_row m row = map (cell m row) (range_with_len 0 column_count) ++ 10 ∷ []

-- the screen: 25 rows
unfoldable pub screen_text : MdaState → List ℕ
screen_text m = flat_map (screen_row m) (range_with_len 0 row_count)

-- the n-th cell in reading order: its row and its column
abbrev pub place : ℕ → ℕ × ℕ
place n = (n / 80, n % 80)

-- the n-th character in reading order
unfoldable pub nth_character : MdaState → ℕ → ℕ
nth_character m n = cell m (n / 80) (n % 80)

-- the characters of all cells in reading order
unfoldable pub characters : MdaState → List ℕ
characters m = map (nth_character m) (range_with_len 0 cell_count)
