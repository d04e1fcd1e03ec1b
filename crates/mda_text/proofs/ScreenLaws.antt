-- The laws of the screen, of text memory and of the beam.
use Rattle.std.proofs.Common.{◌≡◌, ◌≢◌, ℕ, zero, suc, ◌+◌, ◌*◌, ◌/◌, ◌%◌, ◌^◌, ◌<◌, ◌≤◌, Bool, true, false, if◌then◌else◌}
use Rattle.std.proofs.Common.{nat_le, List, length, slice_index, replicate, refl, sym, ap, ◌∙◌, arith, ◌==◌}
use Rattle.std.proofs.lemmas.Bool.Decides.{nat_tests}
use Rattle.board_types.specs.Bits.{has_bit}
use Rattle.std.proofs.lemmas.List.{get_or-set_same, get_or-set_other, length-set}
use Rattle.mda_text.specs.Mda.{MdaState, text_size, power_on, text_byte, with_text_byte, byte_at}
use Rattle.mda_text.specs.Mda.{with_high, with_low, with_register, after_write, after_clocks, status}
use Rattle.mda_text.specs.Screen.{character_of, character_at, cell}
use Rattle.mda_text.specs.Marks.{after_mark}
use Rattle.mda_text.specs.MdaLaws.{with_start, StartsAt, ShowsOnce, ShowsAlike, Scrolls, ChangesOneCell, IsMemory, IsBlank, TellsBeam}
use Rattle.mda_text.proofs.Sizes.{text_size_is}
use Rattle.mda_text.proofs.Raster.{clocks_move_beam, raster_after}

both_halves : (start old : ℕ) → start < 2 ^ 14 → (start / 256 % 64 * 256 + old % 256) / 256 * 256 + start % 256 ≡ start
both_halves start old within = omega arith

given : (m : MdaState) (start : ℕ) → start < 2 ^ 14 → (with_start m start).start ≡ start
unfolding after_write
given m start within = both_halves start m.start within

pub starts_at : (m : MdaState) (start : ℕ) → StartsAt m start
starts_at m start = record {
  given = given m start;
  words = λ row column within. ap (λ first. (first + 80 * row + column) % 2048) (given m start within);
}

same_place : (start a b : ℕ) → a < 2000 → b < 2000 → (start + a) % 2048 ≡ (start + b) % 2048 → a ≡ b
same_place start a b a_within b_within same = omega arith

pub shows_once : (m : MdaState) → ShowsOnce m
shows_once m row column other_row other_column within other_within same =
    let regroup : (r c : ℕ) → (m.start + (80 * r + c)) % 2048 ≡ (m.start + 80 * r + c) % 2048 = λ r c. omega arith in
    let place : 80 * row + column ≡ 80 * other_row + other_column =
    same_place m.start (80 * row + column) (80 * other_row + other_column) (omega arith)
    (omega arith) (regroup row column ∙ same ∙ sym (regroup other_row other_column)) in
    (omega arith, omega arith)

-- a cell, from all that it depends on
cell_of : List ℕ → ℕ → Bool → ℕ → ℕ → ℕ
cell_of bytes start video row column =
    let word = (start + 80 * row + column) % 2048 in character_of video (slice_index bytes (2 * word)) (slice_index bytes (2 * word + 1))

cell_is : (m : MdaState) (row column : ℕ) → cell m row column ≡ cell_of m.bytes m.start m.video row column
unfolding cell character_at text_byte cell_of
cell_is m row column = refl

pub shows_alike : (m other : MdaState) → ShowsAlike m other
shows_alike m other bytes start video row column =
    cell_is m row column ∙ ap (λ b. cell_of b m.start m.video row column) bytes ∙ ap (λ s. cell_of other.bytes s m.video row column) start
    ∙ ap (λ v. cell_of other.bytes other.start v row column) video ∙ sym (cell_is other row column)

next_row : (start old row column : ℕ) → start % 2048 ≡ (old + 80) % 2048 → (start + 80 * row + column) % 2048 ≡ (old + 80 * (row + 1) + column) % 2048
next_row start old row column on = omega arith

cell_further : (bytes : List ℕ) (video : Bool) (start old row column : ℕ) → start % 2048 ≡ (old + 80) % 2048
    → cell_of bytes start video row column ≡ cell_of bytes old video (row + 1) column
unfolding cell_of
cell_further bytes video start old row column on =
    ap (λ word. character_of video (slice_index bytes (2 * word)) (slice_index bytes (2 * word + 1))) (next_row start old row column on)

start_keeps : (m : MdaState) (start : ℕ) → ((with_start m start).bytes ≡ m.bytes) × ((with_start m start).video ≡ m.video)
unfolding after_write
start_keeps m start = (refl, refl)

pub scrolls : (m : MdaState) (start : ℕ) → Scrolls m start
scrolls m start row column within on =
    cell_is (with_start m start) row column ∙ ap (λ s. cell_of (with_start m start).bytes s (with_start m start).video row column) (given m start within)
    ∙ ap (λ b. cell_of b start (with_start m start).video row column) (start_keeps m start).0
    ∙ ap (λ v. cell_of m.bytes start v row column) (start_keeps m start).1
    ∙ cell_further m.bytes m.video start m.start row column on ∙ sym (cell_is m (row + 1) column)

other_byte : (m : MdaState) (offset byte other : ℕ) → other ≢ offset → text_byte (with_text_byte m offset byte) other ≡ text_byte m other
unfolding text_byte with_text_byte
other_byte m offset byte other apart = get_or-set_other m.bytes offset other byte 0 apart

pub changes_one_cell : (m : MdaState) (offset byte : ℕ) → ChangesOneCell m offset byte
unfolding cell character_at with_text_byte
changes_one_cell m offset byte row column apart =
    let word : ℕ = (m.start + 80 * row + column) % 2048 in
    let code = other_byte m offset byte (2 * word) (λ (same : 2 * word ≡ offset). apart (omega arith)) in
    let attribute = other_byte m offset byte (2 * word + 1) (λ (same : 2 * word + 1 ≡ offset). apart (omega arith)) in
    ap (λ c. character_of m.video c (text_byte (with_text_byte m offset byte) (2 * word + 1))) code
    ∙ ap (character_of m.video (text_byte m (2 * word))) attribute

-- what both of two states keep, their choice keeps
kept_by_both : {A : Type 0} (part : MdaState → A) (first : Bool) (s t m : MdaState) → part s ≡ part m → part t ≡ part m → part (if first then s else t) ≡ part m
kept_by_both part true s t m same others = same
kept_by_both part false s t m same others = others

-- a part of an adapter that no register holds
abbrev pub IsNoRegister : {A : Type 0} → (MdaState → A) → Type 0
IsNoRegister part =
    (m : MdaState) (index start cursor : ℕ) (video : Bool) → part (record m { index = index; start = start; cursor = cursor; video = video }) ≡ part m

register_keeps : {A : Type 0} (part : MdaState → A) → IsNoRegister part → (m : MdaState) (n byte : ℕ) → part (with_register m n byte) ≡ part m
register_keeps part keeps m n byte =
    kept_by_both part (n == 12) _ _ m (keeps m m.index (with_high m.start byte) m.cursor m.video)
    (kept_by_both part (n == 13) _ _ m (keeps m m.index (with_low m.start byte) m.cursor m.video)
    (kept_by_both part (n == 14) _ _ m (keeps m m.index m.start (with_high m.cursor byte) m.video)
    (kept_by_both part (n == 15) _ _ m (keeps m m.index m.start (with_low m.cursor byte) m.video) refl)))

-- a part that no register holds stays at a write to a port
pub write_keeps : {A : Type 0} (part : MdaState → A) → IsNoRegister part → (m : MdaState) (port byte : ℕ) → part (after_write m port byte) ≡ part m
unfolding after_write
write_keeps part keeps m port byte =
    kept_by_both part (port == 0x3B4) _ _ m (keeps m (byte % 32) m.start m.cursor m.video)
    (kept_by_both part (port == 0x3B5) _ _ m (register_keeps part keeps m m.index byte)
    (kept_by_both part (port == 0x3B8) _ _ m (keeps m m.index m.start m.cursor (has_bit byte 3)) refl))

pub is_memory : (m : MdaState) → IsMemory m
unfolding text_byte with_text_byte byte_at after_mark
is_memory m = record {
  reads_back = λ offset byte within. get_or-set_same m.bytes offset byte 0 within;
  others_stay = λ offset byte other apart. get_or-set_other m.bytes offset other byte 0 apart;
  size_stays = λ offset byte. length-set m.bytes offset byte;
  ports_stay = λ offset byte port. refl;
  port_writes = write_keeps (λ s. s.bytes) (λ s index start cursor video. refl) m;
  clocks = λ n. ap (λ s. s.bytes) (clocks_move_beam m n);
  marks = refl;
}

blank_size : (n : ℕ) → length (replicate {A = ℕ} n 0) ≡ n
blank_size zero = refl
blank_size (suc n) = ap suc (blank_size n)

blank_byte : (n offset : ℕ) → slice_index (replicate n 0) offset ≡ 0
blank_byte zero zero = refl
blank_byte zero (suc offset) = refl
blank_byte (suc n) zero = refl
blank_byte (suc n) (suc offset) = blank_byte n offset

pub is_blank : IsBlank power_on
unfolding power_on text_byte
is_blank = record { size = blank_size text_size ∙ text_size_is; bytes = blank_byte text_size }

level : ℕ → ℕ
level r = if nat_le 219 r then 0xF1 else 0xF0

level_high : (r : ℕ) → 219 ≤ r → level r ≡ 0xF1
unfolding level
level_high r high = grind (arith, nat_tests)

level_low : (r : ℕ) → r < 219 → level r ≡ 0xF0
unfolding level
level_low r low = grind (arith, nat_tests)

high_level : (r : ℕ) → level r ≡ 0xF1 → 219 ≤ r
unfolding level
high_level r is = grind (arith, nat_tests)

low_level : (r : ℕ) → level r ≡ 0xF0 → r < 219
unfolding level
low_level r is = grind (arith, nat_tests)

status_after : (m : MdaState) (n : ℕ) → status (after_clocks m n) ≡ level ((m.raster + n) % 259)
unfolding level
status_after m n = ap (λ r. if nat_le 219 r then 0xF1 else 0xF0) (raster_after m n)

pub tells_beam : (m : MdaState) → TellsBeam m
tells_beam m = record {
  high = λ n. (λ is. high_level _ (sym (status_after m n) ∙ is), λ at. status_after m n ∙ level_high _ at);
  low = λ n. (λ is. low_level _ (sym (status_after m n) ∙ is), λ at. status_after m n ∙ level_low _ at);
  writes = write_keeps (λ s. s.raster) (λ s index start cursor video. refl) m;
}
