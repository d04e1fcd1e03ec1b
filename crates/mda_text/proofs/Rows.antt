-- The definitions on worked values: registers, mode and status, worked out by hand from the data sheet.
use Rattle.std.proofs.Common.{◌≡◌, ℕ, true, false, List, [], ◌∷◌, refl}
use Rattle.std.specs.Prelude.{⊤}
use Rattle.mda_text.specs.Mda.{MdaState, after_write, byte_at, power_on}
use Rattle.mda_text.specs.Screen.{character_of, word_at}

-- what a row unfolds
unfoldable on_writes : ⊤
unfolding after_write byte_at power_on
on_writes = tt

-- the adapter after writes, each a port and a byte, from power-on
after : MdaState → List (ℕ × ℕ) → MdaState
after m [] = m
after m (write ∷ writes) = after (after_write m write.0 write.1) writes

-- "Cursor Register (R14-H, R15-L)": six bits and eight, which read back
cursor_high : byte_at (after power_on ((0x3B4, 14) ∷ (0x3B5, 0xFF) ∷ [])) 0x3B5 ≡ 0x3F
unfolding after on_writes
cursor_high = refl

cursor_low : byte_at (after power_on ((0x3B4, 15) ∷ (0x3B5, 0xA5) ∷ [])) 0x3B5 ≡ 0xA5
unfolding after on_writes
cursor_low = refl

cursor_whole : (after power_on ((0x3B4, 14) ∷ (0x3B5, 0x07) ∷ (0x3B4, 15) ∷ (0x3B5, 0xA5) ∷ [])).cursor ≡ 0x07A5
unfolding after on_writes
cursor_whole = refl

cursor_high_again : (after power_on ((0x3B4, 15) ∷ (0x3B5, 0xA5) ∷ (0x3B4, 14) ∷ (0x3B5, 0x47) ∷ [])).cursor ≡ 0x07A5
unfolding after on_writes
cursor_high_again = refl

-- "Start Address Register (R12-H, R13-L)": it doesn't read back
start_whole : (after power_on ((0x3B4, 13) ∷ (0x3B5, 0x80) ∷ (0x3B4, 12) ∷ (0x3B5, 0x47) ∷ [])).start ≡ 0x0780
unfolding after on_writes
start_whole = refl

start_reads_0 : byte_at (after power_on ((0x3B4, 12) ∷ (0x3B5, 0x47) ∷ [])) 0x3B5 ≡ 0
unfolding after on_writes
start_reads_0 = refl

-- "Address Register": five bits, which don't read back
address_of_five_bits : byte_at (after power_on ((0x3B4, 0x2E) ∷ (0x3B5, 0x12) ∷ [])) 0x3B5 ≡ 0x12
unfolding after on_writes
address_of_five_bits = refl

address_reads_none : byte_at (after power_on ((0x3B4, 14) ∷ [])) 0x3B4 ≡ 0xFF
unfolding after on_writes
address_reads_none = refl

-- bit 3 of the mode register enables the video
video_on : (after power_on ((0x3B8, 0x08) ∷ [])).video ≡ true
unfolding after on_writes
video_on = refl

video_off : (after power_on ((0x3B8, 0x08) ∷ (0x3B8, 0xF7) ∷ [])).video ≡ false
unfolding after on_writes
video_off = refl

mode_reads_none : byte_at (after power_on ((0x3B8, 0x08) ∷ [])) 0x3B8 ≡ 0xFF
unfolding after on_writes
mode_reads_none = refl

-- the status over the 259 clocks of a line
status_before : byte_at (record power_on { raster = 218 }) 0x3BA ≡ 0xF0
unfolding on_writes
status_before = refl

status_from_219 : byte_at (record power_on { raster = 219 }) 0x3BA ≡ 0xF1
unfolding on_writes
status_from_219 = refl

status_to_258 : byte_at (record power_on { raster = 258 }) 0x3BA ≡ 0xF1
unfolding on_writes
status_to_258 = refl

-- what a cell shows of a code and an attribute
shows_itself : character_of true 0x41 0x07 ≡ 0x41
shows_itself = refl

shows_reversed : character_of true 0x41 0x70 ≡ 0x41
shows_reversed = refl

shows_no_black : character_of true 0x41 0x88 ≡ 32
shows_no_black = refl

shows_no_code_0 : character_of true 0 0x07 ≡ 32
shows_no_code_0 = refl

shows_a_stop_below : character_of true 0x1F 0x07 ≡ 46
shows_a_stop_below = refl

shows_a_stop_above : character_of true 0x7F 0x07 ≡ 46
shows_a_stop_above = refl

shows_the_last : character_of true 0x7E 0x07 ≡ 0x7E
shows_the_last = refl

shows_nothing_off : character_of false 0x41 0x07 ≡ 32
shows_nothing_off = refl

-- cells follow one another round the 2,048 words
goes_round : word_at (record power_on { start = 0x07FF }) 0 1 ≡ 0
unfolding on_writes
goes_round = refl

third_row : word_at (record power_on { start = 0x0780 }) 2 0 ≡ 32
unfolding on_writes
third_row = refl
