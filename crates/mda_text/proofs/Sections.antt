-- What a mark recalls of text memory shows which cells haven't changed.
use Rattle.std.proofs.Common.{◌≡◌, ℕ, ◌+◌, ◌-◌, ◌*◌, ◌/◌, ◌%◌, ◌<◌, ◌≤◌, ◌==◌, Bool, true, false, not, ◌||◌, List, get_or}
use Rattle.std.proofs.Common.{slice_index, take, drop, refl, sym, ap, ◌∙◌, arith, eq-eqb, subst, ◌≢◌}
use mathlib.Core.Bool.{beq}
use Rattle.std.proofs.lemmas.Bool.{true≢false}
use Rattle.std.proofs.lemmas.Bool.Decides.{nat_tests}
use Rattle.std.proofs.lemmas.List.{get_or-take, get_or-drop, length-take}
use Rattle.std.proofs.lemmas.List.FromFn.{get_or-map-range_with_len}
use Rattle.mda_text.specs.Difference.{DiffersFirstAt}
use Rattle.mda_text.specs.Mda.{MdaState, cell_count, text_byte}
use Rattle.mda_text.specs.Screen.{cell, character_at, character_of, characters, nth_character, word_at}
use Rattle.mda_text.specs.Marks.{is_changed, is_last}
use Rattle.mda_text.specs.Snapshot.{Recalls, SameWord, showing}
use Rattle.mda_text.proofs.Sizes.{cell_count_is}

same_character : (m : MdaState) (copy : List ℕ) (word : ℕ) → SameWord m.bytes copy word → character_at m word ≡ character_at (showing copy m.start m.video) word
unfolding character_at text_byte
same_character m copy word same =
    ap (λ code. character_of m.video code (slice_index m.bytes (2 * word + 1))) same.code
    ∙ ap (λ attribute. character_of m.video (slice_index copy (2 * word)) attribute) same.attribute

same_cell : (m : MdaState) (copy : List ℕ) (n : ℕ) → SameWord m.bytes copy (word_at m (n / 80) (n % 80))
    → nth_character m n ≡ nth_character (showing copy m.start m.video) n
unfolding nth_character cell
same_cell m copy n same = same_character m copy (word_at m (n / 80) (n % 80)) same

kept_there : (m s : MdaState) (n : ℕ) → m.kept ≡ characters s → n < 2000 → slice_index m.kept n ≡ nth_character s n
unfolding characters
kept_there m s n kept below =
    ap (λ xs. slice_index xs n) kept ∙ get_or-map-range_with_len (nth_character s) 0 cell_count n n 0 (omega (arith, cell_count_is)) (omega arith)

unchanged_told : (m : MdaState) (mark n : ℕ) → is_last m mark ≡ true → nth_character m n ≡ slice_index m.kept n → is_changed m mark n ≡ false
unfolding is_changed
unchanged_told m mark n last same =
    ap (λ b. not b || not (nth_character m n == slice_index m.kept n)) last ∙ ap not (eq-eqb (nth_character m n) (slice_index m.kept n) same)

word_of : (start n : ℕ) → (start + 80 * (n / 80) + n % 80) % 2048 ≡ (start + n) % 2048
word_of start n = omega arith

-- a cell whose word is as the mark found it hasn't changed
unchanged : (m : MdaState) (mark : ℕ) (copy : List ℕ) (n word : ℕ) → is_last m mark ≡ true → m.kept ≡ characters (showing copy m.start m.video)
    → n < 2000 → (m.start + n) % 2048 ≡ word → SameWord m.bytes copy word → is_changed m mark n ≡ false
unchanged m mark copy n word last kept below is same =
    let there : SameWord m.bytes copy (word_at m (n / 80) (n % 80)) = subst (SameWord m.bytes copy) (sym (word_of m.start n ∙ is)) same in
    unchanged_told m mark n last (same_cell m copy n there ∙ sym (kept_there m (showing copy m.start m.video) n kept below))

-- text memory as it is, whose characters are kept
pub recalled : (m v : MdaState) (copy : List ℕ) (written : List Bool) → v ≡ m → m.kept ≡ characters m → copy ≡ v.bytes
    → Recalls v.bytes v.kept copy v.start v.video written
unfolding characters nth_character cell character_at text_byte
recalled m v copy written same kept copied = record {
  shown = ap (λ s. s.kept) same ∙ kept ∙ ap characters (sym same) ∙ ap (λ xs. characters (showing xs v.start v.video)) (sym copied);
  copied = λ k below unwritten. ap (λ xs. slice_index xs k) (sym copied);
}

read_part : (xs : List ℕ) (from count k : ℕ) → from ≤ k → k < from + count → slice_index (take count (drop from xs)) (k - from) ≡ slice_index xs k
read_part xs from count k least below =
    get_or-take count (drop from xs) (k - from) 0 (omega arith) ∙ get_or-drop from xs (k - from) 0 ∙ ap (λ i. get_or xs i 0) (omega arith)

-- two parts that are the same at their front
same_till : (bytes copy : List ℕ) (from count till : ℕ) → till ≤ count
    → ((j : ℕ) → j < till → slice_index (take count (drop from bytes)) j ≡ slice_index (take count (drop from copy)) j)
    → (k : ℕ) → from ≤ k → k < from + till → slice_index bytes k ≡ slice_index copy k
same_till bytes copy from count till fits same k least below =
    sym (read_part bytes from count k least (omega arith)) ∙ same (k - from) (omega arith) ∙ read_part copy from count k least (omega arith)

same_words : (bytes copy : List ℕ) (word words : ℕ) → ((k : ℕ) → 2 * word ≤ k → k < 2 * (word + words) → slice_index bytes k ≡ slice_index copy k)
    → (k : ℕ) → word ≤ k → k < word + words → SameWord bytes copy k
same_words bytes copy word words same k least below = record {
  code = same (2 * k) (omega arith) (omega arith);
  attribute = same (2 * k + 1) (omega arith) (omega arith);
}

-- the words before the first byte that differs
pub words_before : (bytes found copy : List ℕ) (word count at : ℕ)
    → found ≡ copy → DiffersFirstAt (take count (drop (2 * word) bytes)) (take count (drop (2 * word) found)) at
    → (k : ℕ) → word ≤ k → k < word + at / 2 → SameWord bytes copy k
words_before bytes found copy word count at is differs =
    let within : at ≤ count = omega (arith, differs.within, length-take count (drop (2 * word) bytes)) in
    let same : (k : ℕ) → 2 * word ≤ k → k < 2 * word + at → slice_index bytes k ≡ slice_index copy k =
    λ k least below. same_till bytes found (2 * word) count at within differs.before k least below ∙ ap (λ xs. slice_index xs k) is
    in
    same_words bytes copy word (at / 2) (λ k least below. same k least (omega arith))

-- the words of two parts that are the same
pub words_within : (bytes found copy : List ℕ) (word count words : ℕ) → found ≡ copy → count ≡ 2 * words
    → take count (drop (2 * word) bytes) ≡ take count (drop (2 * word) found) → (k : ℕ) → word ≤ k → k < word + words → SameWord bytes copy k
words_within bytes found copy word count words is size parts =
    let same : (k : ℕ) → 2 * word ≤ k → k < 2 * word + count → slice_index bytes k ≡ slice_index copy k =
    λ k least below.
    same_till bytes found (2 * word) count count (omega arith) (λ j within. ap (λ xs. slice_index xs j) parts) k least below ∙ ap (λ xs. slice_index xs k) is
    in
    same_words bytes copy word words (λ k least below. same k least (omega arith))

pub same_truth : (a b : Bool) → not (beq a b) ≡ false → a ≡ b
same_truth true true told = refl
same_truth false false told = refl
same_truth true false told = absurd (true≢false told)
same_truth false true told = absurd (true≢false told)

-- cells whose words are as the mark found them haven't changed
pub cells_unchanged : (m v : MdaState) (mark n word count : ℕ) (copy : List ℕ) (start : ℕ) (video : Bool) → v ≡ m → mark ≡ v.last_mark → mark ≢ 0
    → start ≡ v.start → video ≡ v.video → v.kept ≡ characters (showing copy start video) → n + count ≤ 2000 → word + count ≤ 2048 → (v.start + n) % 2048 ≡ word
    → ((k : ℕ) → word ≤ k → k < word + count → SameWord v.bytes copy k) → (k : ℕ) → n ≤ k → k < n + count → is_changed m mark k ≡ false
cells_unchanged m v mark n word count copy start video same last numbered starts enabled shown cells words is alike k least below =
    let kept : v.kept ≡ characters (showing copy v.start v.video) =
    shown ∙ ap (λ s. characters (showing copy s video)) starts ∙ ap (λ b. characters (showing copy v.start b)) enabled
    in
    let told : is_last v mark ≡ true = grind (arith, nat_tests) in
    let there : (v.start + k) % 2048 ≡ word + (k - n) = omega arith in
    ap (λ s. is_changed s mark k) (sym same)
    ∙ unchanged v mark copy k (word + (k - n)) told kept (omega arith) there (alike (word + (k - n)) (omega arith) (omega arith))
