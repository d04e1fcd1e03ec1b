-- Words on the stack: what is pushed reads back, and further pushes leave it.
use Rattle.std.proofs.Common.{◌≡◌, ℕ, ◌+◌, ◌*◌, ◌/◌, ◌%◌, ◌<◌, ◌≢◌, true, ap, ◌∙◌, arith}
use Rattle.board_types.specs.Address.{physical, offset_after}
use Rattle.bus.specs.Bus.{BusMeaning, with_word_at}
use Rattle.bus.specs.BusPromises.{IsBus}
use Rattle.execute_machine.specs.Locations.{word_at}

-- different offsets of one segment have different addresses
apart : (segment a b : ℕ) → a < 65536 → b < 65536 → a ≢ b → physical segment a ≢ physical segment b
apart segment a b small_a small_b ne = λ same. ne (omega arith)

-- the offset of a word's high byte
abbrev pub next : ℕ → ℕ
next offset = offset_after offset 1

next_differs : (offset : ℕ) → offset < 65536 → offset ≢ next offset
next_differs offset small = λ same. omega arith

byte_joined : (word : ℕ) → word % 256 + 256 * (word / 256) ≡ word
byte_joined word = omega arith

word_is : (low high word : ℕ) → low ≡ word % 256 → high ≡ word / 256 → low + 256 * high ≡ word
word_is low high word l h = ap (λ n. n + 256 * high) l ∙ ap (λ n. word % 256 + 256 * n) h ∙ byte_joined word

-- whether an address takes bytes, a written word doesn't change
pub word_fixed : {S : Type 0} (bus : BusMeaning S) → IsBus bus → (s : S) (segment offset word other : ℕ)
    → bus.is_writable (with_word_at bus s segment offset word) other ≡ bus.is_writable s other
unfolding with_word_at
word_fixed bus is s segment offset word other = is.fixed _ _ _ other ∙ is.fixed s _ _ other

-- a word that is written reads back
pub word_reads_back : {S : Type 0} (bus : BusMeaning S) → IsBus bus → (s : S) (segment offset word : ℕ) → offset < 65536
    → bus.is_writable s (physical segment offset) ≡ true → bus.is_writable s (physical segment (next offset)) ≡ true
    → word_at bus (with_word_at bus s segment offset word) segment offset ≡ word
unfolding word_at with_word_at
word_reads_back bus is s segment offset word small low high =
    let s1 = bus.after_write s (physical segment offset) (word % 256) in
    word_is _ _ word
    (is.others s1 (physical segment (next offset)) (word / 256) (physical segment offset)
    (apart segment offset (next offset) small (omega arith) (next_differs offset small))
    ∙ is.written s (physical segment offset) (word % 256) low)
    (is.written s1 (physical segment (next offset)) (word / 256) (is.fixed s _ _ _ ∙ high))

-- a byte elsewhere stays when a word is written
byte_stays : {S : Type 0} (bus : BusMeaning S) → IsBus bus → (s : S) (segment offset word other : ℕ) → offset < 65536 → other < 65536 → other ≢ offset
    → other ≢ next offset → bus.byte_at (with_word_at bus s segment offset word) (physical segment other) ≡ bus.byte_at s (physical segment other)
unfolding with_word_at
byte_stays bus is s segment offset word other small small_other ne_low ne_high =
    is.others _ _ _ _ (apart segment other (next offset) small_other (omega arith) ne_high)
    ∙ is.others s _ _ _ (apart segment other offset small_other small ne_low)

-- a word elsewhere stays when a word is written
pub word_stays : {S : Type 0} (bus : BusMeaning S) → IsBus bus → (s : S) (segment offset word other : ℕ)
    → offset < 65536 → other < 65536 → other ≢ offset → other ≢ next offset → next other ≢ offset → next other ≢ next offset
    → word_at bus (with_word_at bus s segment offset word) segment other ≡ word_at bus s segment other
unfolding word_at
word_stays bus is s segment offset word other small small_other a b c d =
    ap (λ low. low + 256 * bus.byte_at (with_word_at bus s segment offset word) (physical segment (next other)))
    (byte_stays bus is s segment offset word other small small_other a b)
    ∙ ap (λ high. bus.byte_at s (physical segment other) + 256 * high) (byte_stays bus is s segment offset word (next other) small (omega arith) c d)

-- both bytes of a word find addresses that take them
pub record TakesWord {S : Type 0} (bus : BusMeaning S) (s : S) (segment offset : ℕ) : Type 0 where
  pub low : bus.is_writable s (physical segment offset) ≡ true
  pub high : bus.is_writable s (physical segment (next offset)) ≡ true

pub takes_at : {S : Type 0} (bus : BusMeaning S) (s : S) (segment offset low high : ℕ) → offset ≡ low → next offset ≡ high
    → bus.is_writable s (physical segment low) ≡ true → bus.is_writable s (physical segment high) ≡ true → TakesWord bus s segment offset
takes_at bus s segment offset low high at_low at_high takes_low takes_high = record {
  low = ap (λ o. bus.is_writable s (physical segment o)) at_low ∙ takes_low;
  high = ap (λ o. bus.is_writable s (physical segment o)) at_high ∙ takes_high;
}

takes_still : {S : Type 0} (bus : BusMeaning S) → IsBus bus → (s : S) (segment offset word other : ℕ) → TakesWord bus s segment other
    → TakesWord bus (with_word_at bus s segment offset word) segment other
takes_still bus is s segment offset word other takes = record {
  low = word_fixed bus is s segment offset word (physical segment other) ∙ takes.low;
  high = word_fixed bus is s segment offset word (physical segment (next other)) ∙ takes.high;
}

-- SP after a push
abbrev pub below : ℕ → ℕ
below offset = offset_after offset 65534

pub back_up : (offset : ℕ) → offset < 65536 → offset_after (below offset) 2 ≡ offset
back_up offset small = omega arith

-- a word on the stack stays at the next push, and at the one after it
stays_at_push : {S : Type 0} (bus : BusMeaning S) → IsBus bus → (s : S) (segment offset word : ℕ) → offset < 65536
    → word_at bus (with_word_at bus s segment (below offset) word) segment offset ≡ word_at bus s segment offset
stays_at_push bus is s segment offset word small =
    word_stays bus is s segment (below offset) word offset (omega arith) small (λ same. omega arith) (λ same. omega arith)
    (λ same. omega arith) (λ same. omega arith)

stays_at_second : {S : Type 0} (bus : BusMeaning S) → IsBus bus → (s : S) (segment offset word : ℕ) → offset < 65536
    → word_at bus (with_word_at bus s segment (below (below offset)) word) segment offset ≡ word_at bus s segment offset
stays_at_second bus is s segment offset word small =
    word_stays bus is s segment (below (below offset)) word offset (omega arith) small (λ same. omega arith) (λ same. omega arith)
    (λ same. omega arith) (λ same. omega arith)

-- what stands on the stack after one, two and three pushes
abbrev pub pushed_one : {S : Type 0} → BusMeaning S → S → ℕ → ℕ → ℕ → S
pushed_one bus s segment sp first = with_word_at bus s segment (below sp) first

abbrev pub pushed_two : {S : Type 0} → BusMeaning S → S → ℕ → ℕ → ℕ → ℕ → S
pushed_two bus s segment sp first second = pushed_one bus (pushed_one bus s segment sp first) segment (below sp) second

abbrev pub pushed_three : {S : Type 0} → BusMeaning S → S → ℕ → ℕ → ℕ → ℕ → ℕ → S
pushed_three bus s segment sp first second third =
    pushed_one bus (pushed_two bus s segment sp first second) segment (below (below sp)) third

pub first_of_one : {S : Type 0} (bus : BusMeaning S) → IsBus bus → (s : S) (segment sp first : ℕ) → TakesWord bus s segment (below sp)
    → word_at bus (pushed_one bus s segment sp first) segment (below sp) ≡ first
first_of_one bus is s segment sp first takes = word_reads_back bus is s segment (below sp) first (omega arith) takes.low takes.high

pub second_of_two : {S : Type 0} (bus : BusMeaning S) → IsBus bus → (s : S) (segment sp first second : ℕ) → TakesWord bus s segment (below (below sp))
    → word_at bus (pushed_two bus s segment sp first second) segment (below (below sp)) ≡ second
second_of_two bus is s segment sp first second takes =
    first_of_one bus is (pushed_one bus s segment sp first) segment (below sp) second
    (takes_still bus is s segment (below sp) first (below (below sp)) takes)

pub first_of_two : {S : Type 0} (bus : BusMeaning S) → IsBus bus → (s : S) (segment sp first second : ℕ) → TakesWord bus s segment (below sp)
    → word_at bus (pushed_two bus s segment sp first second) segment (below sp) ≡ first
first_of_two bus is s segment sp first second takes =
    stays_at_push bus is (pushed_one bus s segment sp first) segment (below sp) second (omega arith)
    ∙ first_of_one bus is s segment sp first takes

pub third_of_three : {S : Type 0} (bus : BusMeaning S) → IsBus bus
    → (s : S) (segment sp first second third : ℕ) → TakesWord bus s segment (below (below (below sp)))
    → word_at bus (pushed_three bus s segment sp first second third) segment (below (below (below sp))) ≡ third
third_of_three bus is s segment sp first second third takes =
    second_of_two bus is (pushed_one bus s segment sp first) segment (below sp) second third
    (takes_still bus is s segment (below sp) first (below (below (below sp))) takes)

pub second_of_three : {S : Type 0} (bus : BusMeaning S) → IsBus bus → (s : S) (segment sp first second third : ℕ)
    → TakesWord bus s segment (below (below sp)) → word_at bus (pushed_three bus s segment sp first second third) segment (below (below sp)) ≡ second
second_of_three bus is s segment sp first second third takes =
    stays_at_push bus is (pushed_two bus s segment sp first second) segment (below (below sp)) third (omega arith)
    ∙ second_of_two bus is s segment sp first second takes

pub first_of_three : {S : Type 0} (bus : BusMeaning S) → IsBus bus → (s : S) (segment sp first second third : ℕ) → TakesWord bus s segment (below sp)
    → word_at bus (pushed_three bus s segment sp first second third) segment (below sp) ≡ first
first_of_three bus is s segment sp first second third takes =
    stays_at_second bus is (pushed_two bus s segment sp first second) segment (below sp) third (omega arith)
    ∙ first_of_two bus is s segment sp first second takes
