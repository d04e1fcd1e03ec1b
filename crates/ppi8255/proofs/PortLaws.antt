-- The laws of the parallel port.
use Rattle.std.proofs.Common.{◌≡◌, ℕ, zero, suc, add-zero, ◌+◌, ◌-◌, ◌*◌, ◌/◌, ◌%◌, ◌^◌, ◌<◌, ◌==◌, if◌then◌else◌}
use Rattle.std.proofs.Common.{Bool, true, false, List, [], ◌∷◌, refl, sym, ap, ◌∙◌, arith, ◌≢◌, w8}
use Rattle.std.specs.Int.{bit_at}
use Rattle.std.specs.Int.Bits.{bit_and, bit_or}
use Rattle.std.proofs.lemmas.Nat.{and_shr, or_shr, and_mod, or_mod}
use Rattle.std.proofs.lemmas.Nat.Bits.{bit_at_set_same, bit_at_set_other, bit_at_clear_same, bit_at_clear_other}
use Rattle.std.proofs.lemmas.Grind.{common_steps}
use Rattle.board_types.specs.Bits.{has_bit}
use Rattle.board_types.specs.LineLevel.{is_high}
use Rattle.ppi8255.specs.declared.ppi.Direction.{Direction}
use Rattle.ppi8255.specs.declared.ppi.Direction.TheVariants.{Input, Output}
use Rattle.ppi8255.specs.declared.ppi.Inputs.{Inputs}
use Rattle.ppi8255.specs.Ppi.{PpiState, port_byte, lines_b, pins_a, switches_c, pins_c, port_c_byte, byte_at, after_mode_word, with_bit, after_write}
use Rattle.ppi8255.specs.PpiLaws.{ReadsBack, BeginsAnew, SetsOneBit, ShowsSwitches, after_writes, LooksAlike, DiffersUnseen}

output_shows : (direction : Direction) (latch pins : ℕ) → direction ≡ Output → port_byte direction latch pins ≡ latch
output_shows Input latch pins is = cc
output_shows Output latch pins is = refl

halves : (byte : ℕ) → byte / 16 * 16 + byte % 16 ≡ byte
halves byte = omega arith

pub reads_back : (s : PpiState) (byte : ℕ) (inputs : Inputs) → ReadsBack s byte inputs
unfolding byte_at after_write
reads_back s byte inputs = record {
  port_a = λ out. output_shows s.a byte _ out;
  port_b = λ out. output_shows s.b byte _ out;
  lines = λ out. output_shows s.b byte _ out;
  port_c = λ upper lower. rw (output_shows s.c_upper byte _ upper, output_shows s.c_lower byte _ lower) (halves byte);
}

pub begins_anew : (s : PpiState) (word : ℕ) → BeginsAnew s word
unfolding after_write
begins_anew s word mode = rw mode refl

-- the shift that makes a bit's mask loses nothing
mask : (k : ℕ) → k < 8 → 1 * 2 ^ k % 2 ^ 8 ≡ 2 ^ k
mask k small = grind (arith, common_steps)

set_bits : (byte n k : ℕ) → n < 8 → has_bit (bit_or byte (2 ^ n)) k ≡ (if k == n then true else has_bit byte k)
set_bits byte n k small =
    let same = rw (mask n small) at (bit_at_set_same w8 byte n small) in
    let other : k ≢ n → bit_at (bit_or byte (2 ^ n)) k ≡ bit_at byte k = λ apart. rw (mask n small) at (bit_at_set_other w8 byte n small k apart) in
    grind (arith, common_steps)

clear_bits : (byte n k : ℕ) → n < 8 → k < 8 → has_bit (bit_and byte (2 ^ 8 - 1 - 2 ^ n)) k ≡ (if k == n then false else has_bit byte k)
clear_bits byte n k small within =
    let same = rw (mask n small) at (bit_at_clear_same w8 byte n small) in
    let other : k ≢ n → bit_at (bit_and byte (2 ^ 8 - 1 - 2 ^ n)) k ≡ bit_at byte k = λ apart.
    rw (mask n small) at (bit_at_clear_other w8 byte n small k within apart) in
    grind (arith, common_steps)

with_bit_bits : (byte n k : ℕ) (set : Bool) → n < 8 → k < 8 → has_bit (with_bit byte n set) k ≡ (if k == n then set else has_bit byte k)
with_bit_bits byte n k true small within = set_bits byte n k small
with_bit_bits byte n k false small within = clear_bits byte n k small within

pub sets_one_bit : (s : PpiState) (word : ℕ) → has_bit word 7 ≡ false → SetsOneBit s word
unfolding after_write
sets_one_bit s word is_bit_word = record {
  bits = λ k within. rw is_bit_word (with_bit_bits s.c_latch (word / 2 % 8) k (has_bit word 0) (omega arith) within);
  others = rw is_bit_word refl;
}

-- the pins of port C by their bits: a number below 16, and 32 if the line is high
pins_by_bits : (low : ℕ) (high : Bool) (k : ℕ) → low < 16 → k < 4 → has_bit (low + (if high then 2 ^ 5 else 0)) k ≡ has_bit low k
pins_by_bits low true zero small within = ap (λ n. n == 1) (omega arith)
pins_by_bits low true (suc zero) small within = ap (λ n. n == 1) (omega arith)
pins_by_bits low true (suc (suc zero)) small within = ap (λ n. n == 1) (omega arith)
pins_by_bits low true (suc (suc (suc zero))) small within = ap (λ n. n == 1) (omega arith)
pins_by_bits low true (suc (suc (suc (suc k)))) small within = absurd (omega arith)
pins_by_bits low false k small within = ap (λ n. has_bit n k) (add-zero low)

four_bits : (sw2 k : ℕ) → k < 4 → has_bit (sw2 % 16) k ≡ has_bit sw2 k
four_bits sw2 zero within = ap (λ n. n == 1) (omega arith)
four_bits sw2 (suc zero) within = ap (λ n. n == 1) (omega arith)
four_bits sw2 (suc (suc zero)) within = ap (λ n. n == 1) (omega arith)
four_bits sw2 (suc (suc (suc zero))) within = ap (λ n. n == 1) (omega arith)
four_bits sw2 (suc (suc (suc (suc k)))) within = absurd (omega arith)

no_bits : (bit k : ℕ) → bit < 2 → 0 < k → k < 4 → has_bit bit k ≡ false
no_bits bit zero small some within = absurd (omega arith)
no_bits bit (suc zero) small some within = ap (λ n. n == 1) {y = 0} (omega arith)
no_bits bit (suc (suc zero)) small some within = ap (λ n. n == 1) {y = 0} (omega arith)
no_bits bit (suc (suc (suc zero))) small some within = ap (λ n. n == 1) {y = 0} (omega arith)
no_bits bit (suc (suc (suc (suc k)))) small some within = absurd (omega arith)

line_bit : (low : ℕ) (high : Bool) → low < 16 → has_bit (low + (if high then 2 ^ 5 else 0)) 5 ≡ high
line_bit low true small = ap (λ n. n == 1) {y = 1} (omega arith)
line_bit low false small = ap (λ n. n == 1) {y = 0} (omega arith)

clear_4 : (low : ℕ) (high : Bool) → low < 16 → has_bit (low + (if high then 2 ^ 5 else 0)) 4 ≡ false
clear_4 low true small = ap (λ n. n == 1) {y = 0} (omega arith)
clear_4 low false small = ap (λ n. n == 1) {y = 0} (omega arith)

clear_6 : (low : ℕ) (high : Bool) → low < 16 → has_bit (low + (if high then 2 ^ 5 else 0)) 6 ≡ false
clear_6 low true small = ap (λ n. n == 1) {y = 0} (omega arith)
clear_6 low false small = ap (λ n. n == 1) {y = 0} (omega arith)

clear_7 : (low : ℕ) (high : Bool) → low < 16 → has_bit (low + (if high then 2 ^ 5 else 0)) 7 ≡ false
clear_7 low true small = ap (λ n. n == 1) {y = 0} (omega arith)
clear_7 low false small = ap (λ n. n == 1) {y = 0} (omega arith)

switches_small : (sw2 : ℕ) (four : Bool) → (if four then sw2 % 16 else bit_at sw2 4) < 16
switches_small sw2 true = omega arith
switches_small sw2 false = omega arith

pub shows_switches : (s : PpiState) (inputs : Inputs) → ShowsSwitches s inputs
unfolding byte_at
shows_switches s inputs upper lower =
    let high = is_high inputs.out2 in
    let small : switches_c s < 16 = switches_small s.sw2 (has_bit (lines_b s) 2) in
    let all : byte_at s 2 inputs ≡ pins_c s inputs = rw (upper, lower) (halves (pins_c s inputs)) in
    record {
      four = λ chosen k within.
          ap (λ n. has_bit n k) all ∙ pins_by_bits (switches_c s) high k small within
          ∙ ap (λ b. has_bit (if b then s.sw2 % 16 else bit_at s.sw2 4) k) chosen ∙ four_bits s.sw2 k within;
      fifth = λ chosen.
          ap (λ n. has_bit n 0) all ∙ pins_by_bits (switches_c s) high 0 small (omega arith)
          ∙ ap (λ b. has_bit (if b then s.sw2 % 16 else bit_at s.sw2 4) 0) chosen ∙ ap (λ n. n == 1) (omega arith);
      clear = λ chosen k some within.
          ap (λ n. has_bit n k) all ∙ pins_by_bits (switches_c s) high k small within
          ∙ ap (λ b. has_bit (if b then s.sw2 % 16 else bit_at s.sw2 4) k) chosen ∙ no_bits (bit_at s.sw2 4) k (omega arith) some within;
      counter = ap (λ n. has_bit n 5) all ∙ line_bit (switches_c s) high small;
      bit_4 = ap (λ n. has_bit n 4) all ∙ clear_4 (switches_c s) high small;
      bit_6 = ap (λ n. has_bit n 6) all ∙ clear_6 (switches_c s) high small;
      bit_7 = ap (λ n. has_bit n 7) all ∙ clear_7 (switches_c s) high small;
    }

port_alike : (direction : Direction) (latch other pins : ℕ) → (direction ≡ Output → latch ≡ other)
    → port_byte direction latch pins ≡ port_byte direction other pins
port_alike Input latch other pins same = refl
port_alike Output latch other pins same = same refl

lines_alike : (s t : PpiState) → DiffersUnseen s t → lines_b s ≡ lines_b t
lines_alike s t alike = rw (← alike.b) (port_alike s.b s.b_latch t.b_latch 0 alike.b_latch)

pins_a_alike : (s t : PpiState) (inputs : Inputs) → DiffersUnseen s t → pins_a s inputs ≡ pins_a t inputs
pins_a_alike s t inputs alike = rw (lines_alike s t alike, alike.sw1) refl

pins_c_alike : (s t : PpiState) (inputs : Inputs) → DiffersUnseen s t → pins_c s inputs ≡ pins_c t inputs
pins_c_alike s t inputs alike = rw (lines_alike s t alike, alike.sw2) refl

upper_alike : (direction : Direction) (latch other pins : ℕ) → (direction ≡ Output → latch / 16 ≡ other / 16)
    → port_byte direction latch pins / 16 ≡ port_byte direction other pins / 16
upper_alike Input latch other pins same = refl
upper_alike Output latch other pins same = same refl

lower_alike : (direction : Direction) (latch other pins : ℕ) → (direction ≡ Output → latch % 16 ≡ other % 16)
    → port_byte direction latch pins % 16 ≡ port_byte direction other pins % 16
lower_alike Input latch other pins same = refl
lower_alike Output latch other pins same = same refl

port_c_alike : (s t : PpiState) (pins : ℕ) → DiffersUnseen s t → port_c_byte s pins ≡ port_c_byte t pins
port_c_alike s t pins alike =
    rw (
      ← alike.c_upper,
      ← alike.c_lower,
      upper_alike s.c_upper s.c_latch t.c_latch pins alike.c_latch_upper,
      lower_alike s.c_lower s.c_latch t.c_latch pins alike.c_latch_lower,
    )
    refl

same_choice : (first : Bool) (x y z w : ℕ) → x ≡ y → z ≡ w → (if first then x else z) ≡ (if first then y else w)
same_choice true x y z w same others = same
same_choice false x y z w same others = others

reads_alike : (s t : PpiState) (port : ℕ) (inputs : Inputs) → DiffersUnseen s t → byte_at s port inputs ≡ byte_at t port inputs
unfolding byte_at
reads_alike s t port inputs alike =
    let in_a : port_byte s.a s.a_latch (pins_a s inputs) ≡ port_byte t.a t.a_latch (pins_a t inputs) =
    rw (← alike.a, ← pins_a_alike s t inputs alike) (port_alike s.a s.a_latch t.a_latch (pins_a s inputs) alike.a_latch) in
    let in_c : port_c_byte s (pins_c s inputs) ≡ port_c_byte t (pins_c t inputs) =
    rw (← pins_c_alike s t inputs alike) (port_c_alike s t (pins_c s inputs) alike) in
    same_choice (port == 0) _ _ _ _ in_a (same_choice (port == 1) _ _ _ _ (lines_alike s t alike) (same_choice (port == 2) _ _ _ _ in_c refl))

or_upper : (latch other mask : ℕ) → latch / 16 ≡ other / 16 → bit_or latch mask / 16 ≡ bit_or other mask / 16
or_upper latch other mask same = or_shr latch mask 4 ∙ ap (λ high. bit_or high (mask / 2 ^ 4)) same ∙ sym (or_shr other mask 4)

or_lower : (latch other mask : ℕ) → latch % 16 ≡ other % 16 → bit_or latch mask % 16 ≡ bit_or other mask % 16
or_lower latch other mask same = or_mod latch mask 4 ∙ ap (λ low. bit_or low (mask % 2 ^ 4)) same ∙ sym (or_mod other mask 4)

and_upper : (latch other mask : ℕ) → latch / 16 ≡ other / 16 → bit_and latch mask / 16 ≡ bit_and other mask / 16
and_upper latch other mask same = and_shr latch mask 4 ∙ ap (λ high. bit_and high (mask / 2 ^ 4)) same ∙ sym (and_shr other mask 4)

and_lower : (latch other mask : ℕ) → latch % 16 ≡ other % 16 → bit_and latch mask % 16 ≡ bit_and other mask % 16
and_lower latch other mask same = and_mod latch mask 4 ∙ ap (λ low. bit_and low (mask % 2 ^ 4)) same ∙ sym (and_mod other mask 4)

-- a half of the latch with a bit set or reset depends on that half alone
with_bit_upper : (latch other n : ℕ) (set : Bool) → latch / 16 ≡ other / 16 → with_bit latch n set / 16 ≡ with_bit other n set / 16
with_bit_upper latch other n true same = or_upper latch other (2 ^ n) same
with_bit_upper latch other n false same = and_upper latch other (2 ^ 8 - 1 - 2 ^ n) same

with_bit_lower : (latch other n : ℕ) (set : Bool) → latch % 16 ≡ other % 16 → with_bit latch n set % 16 ≡ with_bit other n set % 16
with_bit_lower latch other n true same = or_lower latch other (2 ^ n) same
with_bit_lower latch other n false same = and_lower latch other (2 ^ 8 - 1 - 2 ^ n) same

either_alike : (first : Bool) (s t u v : PpiState) → DiffersUnseen s t → DiffersUnseen u v → DiffersUnseen (if first then s else u) (if first then t else v)
either_alike true s t u v alike others = alike
either_alike false s t u v alike others = others

-- ports that differ unseen still do so with other latches of port C
c_latch_alike : (s t : PpiState) (latch other : ℕ) → DiffersUnseen s t → (s.c_upper ≡ Output → latch / 16 ≡ other / 16)
    → (s.c_lower ≡ Output → latch % 16 ≡ other % 16) → DiffersUnseen (record s { c_latch = latch }) (record t { c_latch = other })
c_latch_alike s t latch other alike upper lower = record {
  sw1 = alike.sw1;
  sw2 = alike.sw2;
  a = alike.a;
  b = alike.b;
  c_upper = alike.c_upper;
  c_lower = alike.c_lower;
  a_latch = alike.a_latch;
  b_latch = alike.b_latch;
  c_latch_upper = upper;
  c_latch_lower = lower;
}

-- ports that differ unseen still do so with the same byte in the latches of port A, or of port B
a_latch_alike : (s t : PpiState) (byte : ℕ) → DiffersUnseen s t → DiffersUnseen (record s { a_latch = byte }) (record t { a_latch = byte })
a_latch_alike s t byte alike = record {
  sw1 = alike.sw1;
  sw2 = alike.sw2;
  a = alike.a;
  b = alike.b;
  c_upper = alike.c_upper;
  c_lower = alike.c_lower;
  a_latch = λ _. refl;
  b_latch = alike.b_latch;
  c_latch_upper = alike.c_latch_upper;
  c_latch_lower = alike.c_latch_lower;
}

b_latch_alike : (s t : PpiState) (byte : ℕ) → DiffersUnseen s t → DiffersUnseen (record s { b_latch = byte }) (record t { b_latch = byte })
b_latch_alike s t byte alike = record {
  sw1 = alike.sw1;
  sw2 = alike.sw2;
  a = alike.a;
  b = alike.b;
  c_upper = alike.c_upper;
  c_lower = alike.c_lower;
  a_latch = alike.a_latch;
  b_latch = λ _. refl;
  c_latch_upper = alike.c_latch_upper;
  c_latch_lower = alike.c_latch_lower;
}

mode_alike : (s t : PpiState) (word : ℕ) → DiffersUnseen s t → DiffersUnseen (after_mode_word s word) (after_mode_word t word)
mode_alike s t word alike = record {
  sw1 = alike.sw1;
  sw2 = alike.sw2;
  a = refl;
  b = refl;
  c_upper = refl;
  c_lower = refl;
  a_latch = λ _. refl;
  b_latch = λ _. refl;
  c_latch_upper = λ _. refl;
  c_latch_lower = λ _. refl;
}

bit_alike : (s t : PpiState) (word : ℕ) → DiffersUnseen s t
    → DiffersUnseen (record s { c_latch = with_bit s.c_latch (word / 2 % 8) (has_bit word 0) })
    (record t { c_latch = with_bit t.c_latch (word / 2 % 8) (has_bit word 0) })
bit_alike s t word alike =
    c_latch_alike s t _ _ alike
    (λ out. with_bit_upper s.c_latch t.c_latch (word / 2 % 8) (has_bit word 0) (alike.c_latch_upper out))
    (λ out. with_bit_lower s.c_latch t.c_latch (word / 2 % 8) (has_bit word 0) (alike.c_latch_lower out))

write_alike : (s t : PpiState) (port byte : ℕ) → DiffersUnseen s t → DiffersUnseen (after_write s port byte) (after_write t port byte)
unfolding after_write
write_alike s t port byte alike =
    either_alike (port == 0) _ _ _ _ (a_latch_alike s t byte alike)
    (either_alike (port == 1) _ _ _ _ (b_latch_alike s t byte alike)
    (either_alike (port == 2) _ _ _ _ (c_latch_alike s t byte byte alike (λ _. refl) (λ _. refl))
    (either_alike (has_bit byte 7) _ _ _ _ (mode_alike s t byte alike) (bit_alike s t byte alike))))

pub hides_latches_of_inputs : (s t : PpiState) (writes : List (ℕ × ℕ)) → DiffersUnseen s t → LooksAlike s t writes
unfolding after_writes
hides_latches_of_inputs s t [] alike = record { reads = λ port inputs. reads_alike s t port inputs alike; lines = lines_alike s t alike }
hides_latches_of_inputs s t (w ∷ ws) alike =
    let later = hides_latches_of_inputs (after_write s w.0 w.1) (after_write t w.0 w.1) ws (write_alike s t w.0 w.1 alike) in
    record { reads = later.reads; lines = later.lines }
