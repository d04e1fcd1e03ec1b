-- A word that is written reads back, and leaves all other bytes as they are.
use Rattle.std.proofs.Common.{◌≡◌, ◌≢◌, ◌<◌, ◌+◌, ◌*◌, ◌/◌, ◌%◌, ℕ, ap, ◌∙◌, arith}
use Rattle.board_types.specs.Address.{physical, offset_after}
use Rattle.bus.specs.Bus.{BusMeaning, with_word_at}
use Rattle.bus.specs.BusPromises.{IsBus}
use Rattle.execute_machine.specs.Locations.{word_at}
use Rattle.execute_machine.specs.Memory.{HoldsBytes, TakesWord}

-- a word's bytes stand at two addresses
pub bytes_apart : (segment offset : ℕ) → offset < 65536 → physical segment offset ≢ physical segment (offset_after offset 1)
bytes_apart segment offset fits same = omega arith

pub words_halves : (word : ℕ) → word % 256 + 256 * (word / 256) ≡ word
words_halves word = omega arith

pub low_reads_back : {S : Type 0} (bus : BusMeaning S) → IsBus bus → (s : S) (segment offset word : ℕ) → offset < 65536 → TakesWord bus s segment offset
    → bus.byte_at (with_word_at bus s segment offset word) (physical segment offset) ≡ word % 256
unfolding with_word_at
low_reads_back bus laws s segment offset word fits takes =
    laws.others _ _ _ _ (bytes_apart segment offset fits) ∙ laws.written s (physical segment offset) (word % 256) takes.low

pub high_reads_back : {S : Type 0} (bus : BusMeaning S) → IsBus bus → (s : S) (segment offset word : ℕ) → TakesWord bus s segment offset
    → bus.byte_at (with_word_at bus s segment offset word) (physical segment (offset_after offset 1)) ≡ word / 256
unfolding with_word_at
high_reads_back bus laws s segment offset word takes = laws.written _ _ (word / 256) (laws.fixed s _ _ _ ∙ takes.high)

pub word_reads_back : {S : Type 0} (bus : BusMeaning S) → IsBus bus → (s : S) (segment offset word : ℕ) → offset < 65536 → TakesWord bus s segment offset
    → word_at bus (with_word_at bus s segment offset word) segment offset ≡ word
unfolding word_at
word_reads_back bus laws s segment offset word fits takes =
    let after = with_word_at bus s segment offset word in
    ap (λ byte. byte + 256 * bus.byte_at after (physical segment (offset_after offset 1))) (low_reads_back bus laws s segment offset word fits takes)
    ∙ ap (λ byte. word % 256 + 256 * byte) (high_reads_back bus laws s segment offset word takes)
    ∙ words_halves word

-- the bytes of the word that stands there

pub low_of : {S : Type 0} (bus : BusMeaning S) (s : S) (segment offset word : ℕ)
    → HoldsBytes bus s → word_at bus s segment offset ≡ word → word % 256 ≡ bus.byte_at s (physical segment offset)
unfolding word_at
low_of bus s segment offset word holds was =
    let low = holds (physical segment offset) in
    omega arith

pub high_of : {S : Type 0} (bus : BusMeaning S) (s : S) (segment offset word : ℕ) → HoldsBytes bus s → word_at bus s segment offset ≡ word
    → word / 256 ≡ bus.byte_at s (physical segment (offset_after offset 1))
unfolding word_at
high_of bus s segment offset word holds was =
    let low = holds (physical segment offset) in
    omega arith

-- at all other addresses the bytes stay
pub word_leaves : {S : Type 0} (bus : BusMeaning S) → IsBus bus → (s : S) (segment offset word address : ℕ) → address ≢ physical segment offset
    → address ≢ physical segment (offset_after offset 1) → bus.byte_at (with_word_at bus s segment offset word) address ≡ bus.byte_at s address
unfolding with_word_at
word_leaves bus laws s segment offset word address not_low not_high =
    laws.others _ _ _ address not_high ∙ laws.others _ _ _ address not_low

-- the addresses that take bytes stay
pub word_fixed : {S : Type 0} (bus : BusMeaning S) → IsBus bus → (s : S) (segment offset word address : ℕ)
    → bus.is_writable (with_word_at bus s segment offset word) address ≡ bus.is_writable s address
unfolding with_word_at
word_fixed bus laws s segment offset word address = laws.fixed _ _ _ address ∙ laws.fixed _ _ _ address
