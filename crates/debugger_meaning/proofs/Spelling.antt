-- Numbers read back from their digits.
use Rattle.std.proofs.Common.{◌≡◌, ℕ, ◌+◌, ◌*◌, ◌/◌, ◌%◌, ◌^◌, ◌<◌, List, [], ◌∷◌, ◌++◌, refl, ap}
use Rattle.std.proofs.Common.{◌∙◌, arith, Bool, true, false, if◌then◌else◌, nat_lt, None, Some}
use Rattle.std.specs.Fmt.{decimal, digit_glyph}
use Rattle.std.proofs.lemmas.Fmt.{decimal_by_steps}
use Rattle.std.proofs.lemmas.Bool.Decides.{nat_tests}
use Rattle.board_types.specs.Digits.{hex_byte_text, hex_word, digit_of, spelled}

-- the value of a digit's character
glyph_value : (d : ℕ) → d < 16 → digit_of (digit_glyph true d) ≡ d
glyph_value d low = grind (arith, nat_tests)

-- one more digit
one_digit : (base front b d : ℕ) (bs : List ℕ) → digit_of b ≡ d → d < base → spelled base front (b ∷ bs) ≡ spelled base (front * base + d) bs
one_digit base front b d bs is low =
    let yes : nat_lt d base ≡ true = grind (arith, nat_tests) in
    rw (is, yes) refl

pub digit_spelled : (front d : ℕ) (bs : List ℕ) → d < 16 → spelled 16 front (digit_glyph true d ∷ bs) ≡ spelled 16 (front * 16 + d) bs
digit_spelled front d bs low = one_digit 16 front (digit_glyph true d) d bs (glyph_value d low) low

pub byte_spelled : (front b : ℕ) (bs : List ℕ) → b < 256 → spelled 16 front (hex_byte_text b ++ bs) ≡ spelled 16 (front * 256 + b) bs
byte_spelled front b bs low =
    let high_digit : b / 16 < 16 = omega arith in
    let low_digit : b % 16 < 16 = omega arith in
    let whole : (front * 16 + b / 16) * 16 + b % 16 ≡ front * 256 + b = omega arith in
    digit_spelled front (b / 16) (digit_glyph true (b % 16) ∷ bs) high_digit
    ∙ digit_spelled (front * 16 + b / 16) (b % 16) bs low_digit ∙ ap (λ (n : ℕ). spelled 16 n bs) whole

pub word_spelled : (front w : ℕ) (bs : List ℕ) → w < 65536 → spelled 16 front (hex_word w ++ bs) ≡ spelled 16 (front * 65536 + w) bs
word_spelled front w bs low =
    let high_byte : w / 256 < 256 = omega arith in
    let low_byte : w % 256 < 256 = omega arith in
    let whole : (front * 256 + w / 256) * 256 + w % 256 ≡ front * 65536 + w = omega arith in
    byte_spelled front (w / 256) (hex_byte_text (w % 256) ++ bs) high_byte
    ∙ byte_spelled (front * 256 + w / 256) (w % 256) bs low_byte ∙ ap (λ (n : ℕ). spelled 16 n bs) whole

decimal_glyph : (d : ℕ) → d < 10 → digit_of (48 + d) ≡ d
decimal_glyph d low = grind (arith, nat_tests)

spelled_by : (fits : Bool) (base front c d : ℕ) (bs : List ℕ) (n : ℕ) → digit_of c ≡ d → d < base
    → (spelled base front bs ≡ Some n → spelled base front (bs ++ c ∷ []) ≡ Some (n * base + d))
    → (if fits then spelled base front bs else None) ≡ Some n → (if fits then spelled base front (bs ++ c ∷ []) else None) ≡ Some (n * base + d)
spelled_by true base front c d bs n is low rest was = rest was
spelled_by false base front c d bs n is low rest was = cc

-- a last digit
last_digit : (base front c d : ℕ) (bs : List ℕ) (n : ℕ) → digit_of c ≡ d → d < base → spelled base front bs ≡ Some n
    → spelled base front (bs ++ c ∷ []) ≡ Some (n * base + d)
last_digit base front c d [] n is low was =
    let same : front ≡ n = cc in
    one_digit base front c d [] is low ∙ ap (λ (k : ℕ). Some (k * base + d)) same
last_digit base front c d (b ∷ bs) n is low was =
    spelled_by (nat_lt (digit_of b) base) base (front * base + digit_of b) c d bs n is low (last_digit base (front * base + digit_of b) c d bs n is low) was

pub decimal_spelled : (n : ℕ) → n < 2 ^ 64 → spelled 10 0 (decimal n) ≡ Some n
decimal_spelled n low =
    decimal_by_steps (λ (m : ℕ) (ds : List ℕ). spelled 10 0 ds ≡ Some m)
    (λ m small. one_digit 10 0 (48 + m) m [] (decimal_glyph m small) small ∙ ap Some (from_zero m))
    (λ m ds large front.
    let digit : m % 10 < 10 = omega arith in last_digit 10 0 (48 + m % 10) (m % 10) ds (m / 10) (decimal_glyph (m % 10) digit) digit front ∙ ap Some (whole m))
    n low
  where
    from_zero : (m : ℕ) → 0 * 10 + m ≡ m
    from_zero m = omega arith

    whole : (m : ℕ) → m / 10 * 10 + m % 10 ≡ m
    whole m = omega arith
