-- A byte as a set of levels: a test, a change and a meeting of bits are those of the set.
use Rattle.std.proofs.Common.{◌≡◌, ◌≢◌, ◌↔◌, ℕ, zero, suc, ◌-◌, ◌*◌, ◌%◌, ◌^◌, ◌<◌, ◌==◌, Bool, true, false, not, ◌&&◌, []}
use Rattle.std.proofs.Common.{◌∷◌, map, get_or, slice_set, min, bit_and, bit_or, w8, refl, sym, ap, ◌∙◌, arith, inl, inr}
use Rattle.std.specs.Int.{bit_at, bit_not}
use Rattle.std.proofs.lemmas.Nat.Bits.{bit_at_and, bit_at_not, bit_at_set_same, bit_at_set_other, bit_at_clear_same, bit_at_clear_other, bit_at-lt}
use Rattle.std.proofs.lemmas.Bool.{cases_eq}
use Rattle.std.proofs.lemmas.List.{same_lists, length-set, get_or-set_same, get_or-set_other}
use Rattle.board_types.specs.Bits.{has_bit}
use Rattle.pic8259.specs.Levels.{all_levels, no_levels, contains, with_level, without_level, levels_of, byte_of}
use Rattle.pic8259.specs.Masks.{in_both, byte_of-levels_of}
use Rattle.pic8259.proofs.Order.{by_level}

-- the test of a bit
pub contains_levels : (byte level : ℕ) → level < 8 → contains (levels_of byte) level ≡ has_bit byte level
contains_levels byte level within =
    by_level (λ n. contains (levels_of byte) n ≡ has_bit byte n) refl refl refl refl refl refl refl refl level within

read_at : (byte k : ℕ) (d : Bool) → k < 8 → get_or (levels_of byte) k d ≡ has_bit byte k
read_at byte k d within =
    by_level (λ n. get_or (levels_of byte) n d ≡ has_bit byte n) refl refl refl refl refl refl refl refl k within

-- a byte that differs from another in one bit
one_changed : (now was level : ℕ) (b : Bool) → level < 8 → has_bit now level ≡ b → ((k : ℕ) → k < 8 → k ≢ level → has_bit now k ≡ has_bit was k)
    → levels_of now ≡ slice_set (levels_of was) level b
one_changed now was level b within here others =
    same_lists (levels_of now) (slice_set (levels_of was) level b) (sym (length-set (levels_of was) level b))
    (λ k d inside. elim (cases_eq k level) [
      | inl same ↦
          rw same (read_at now level d within ∙ here ∙ sym (get_or-set_same (levels_of was) level b d within))
      | inr differ ↦
          read_at now k d inside ∙ others k inside differ ∙ sym (get_or-set_other (levels_of was) level k b d differ ∙ read_at was k d inside)
    ])

pub levels_with : (byte level : ℕ) → level < 8 → levels_of (bit_or byte (1 * 2 ^ level % 2 ^ 8)) ≡ with_level (levels_of byte) level
levels_with byte level within =
    one_changed (bit_or byte (1 * 2 ^ level % 2 ^ 8)) byte level true within
    (ap (λ n. n == 1) (bit_at_set_same w8 byte level within))
    (λ k inside differ. ap (λ n. n == 1) (bit_at_set_other w8 byte level within k differ))

pub levels_without : (byte level : ℕ) → level < 8 → levels_of (bit_and byte (bit_not w8 (1 * 2 ^ level % 2 ^ 8))) ≡ without_level (levels_of byte) level
levels_without byte level within =
    one_changed (bit_and byte (bit_not w8 (1 * 2 ^ level % 2 ^ 8))) byte level false within
    (ap (λ n. n == 1) (bit_at_clear_same w8 byte level within))
    (λ k inside differ. ap (λ n. n == 1) (bit_at_clear_other w8 byte level within k inside differ))

both_bits : (a b : ℕ) → a < 2 → b < 2 → (min a b == 1) ≡ ((a == 1) && (b == 1))
both_bits zero zero x y = refl
both_bits zero (suc zero) x y = refl
both_bits (suc zero) zero x y = refl
both_bits (suc zero) (suc zero) x y = refl
both_bits (suc (suc a)) b x y = absurd (omega arith)
both_bits zero (suc (suc b)) x y = absurd (omega arith)
both_bits (suc zero) (suc (suc b)) x y = absurd (omega arith)

pub levels_in_both : (a b : ℕ) → levels_of (bit_and a b) ≡ in_both (levels_of a) (levels_of b)
levels_in_both a b =
    let bit : (k : ℕ) → has_bit (bit_and a b) k ≡ (has_bit a k && has_bit b k) =
    λ k. ap (λ n. n == 1) (bit_at_and a b k) ∙ both_bits (bit_at a k) (bit_at b k) (bit_at-lt a k) (bit_at-lt b k) in
    λ i. map (λ k. bit k i) all_levels

first_bit : (a b : ℕ) → a < 2 → b < 2 → (min a (1 - b) == 1) ≡ ((a == 1) && not (b == 1))
first_bit zero zero x y = refl
first_bit zero (suc zero) x y = refl
first_bit zero (suc (suc b)) x y = absurd (omega arith)
first_bit (suc zero) zero x y = refl
first_bit (suc zero) (suc zero) x y = refl
first_bit (suc zero) (suc (suc b)) x y = absurd (omega arith)
first_bit (suc (suc a)) b x y = absurd (omega arith)

pub levels_in_first : (a b : ℕ) → b < 256
    → levels_of (bit_and a (bit_not w8 b)) ≡ map (λ level. contains (levels_of a) level && not (contains (levels_of b) level)) all_levels
levels_in_first a b within =
    let bit : (k : ℕ) → k < 8 → has_bit (bit_and a (bit_not w8 b)) k ≡ (has_bit a k && not (has_bit b k)) =
    λ k is_level. ap (λ n. n == 1) (bit_at_and a (bit_not w8 b) k ∙ ap (min (bit_at a k)) (bit_at_not w8 b k within is_level))
    ∙ first_bit (bit_at a k) (bit_at b k) (bit_at-lt a k) (bit_at-lt b k) in
    λ i.
    bit 0 (omega arith) i ∷ bit 1 (omega arith) i ∷ bit 2 (omega arith) i ∷ bit 3 (omega arith) i
    ∷ bit 4 (omega arith) i ∷ bit 5 (omega arith) i ∷ bit 6 (omega arith) i ∷ bit 7 (omega arith) i ∷ []

-- the byte of no level
pub levels_of_none : (byte : ℕ) → byte < 256 → (byte ≡ 0) ↔ (levels_of byte ≡ no_levels)
levels_of_none byte within = (λ none. ap levels_of none, λ none. sym (byte_of-levels_of byte within) ∙ ap byte_of none)

pub byte_of_levels : (byte : ℕ) → byte < 256 → byte_of (levels_of byte) ≡ byte
byte_of_levels byte within = byte_of-levels_of byte within
