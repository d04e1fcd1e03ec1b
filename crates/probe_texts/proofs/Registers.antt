-- The controller's registers, from the bytes of an image.
use Rattle.pic8259.specs.AskingLevels.{requests}
use Rattle.std.proofs.Common.{◌≡◌, ℕ, ◌==◌, ◌%◌, ◌<◌, Bool, true, false, ◌&&◌, bit_and, map, if◌then◌else◌, refl, ap, ◌∙◌, sym, arith}
use Rattle.std.specs.Prelude.{◌||◌, slice_index}
use Rattle.std.proofs.lemmas.Bool.Decides.{nat_tests}
use Rattle.pic8259.proofs.Masks.{levels_in_both}
use Rattle.pic8259.specs.PicNumbers.{flag_of, pic_of}
use Rattle.pic8259.specs.Levels.{all_levels, byte_of, contains, levels_of, order_with_lowest}
use Rattle.pic8259.specs.Masks.{byte_of-levels_of, last-order_with_lowest}
use Rattle.pic8259.specs.declared.image.PicImage.{PicImage}

pub byte_of_set : (byte : ℕ) → byte < 256 → byte_of (levels_of byte) ≡ byte
byte_of_set byte within = byte_of-levels_of byte within

pub last_of_order : (n : ℕ) → slice_index (order_with_lowest (n % 8)) 7 ≡ n % 8
last_of_order n = last-order_with_lowest (n % 8) (omega arith)

and_true : (b : Bool) → (b && true) ≡ b
and_true true = refl
and_true false = refl

-- the levels that request an interrupt: in level mode each whose line is high; in edge mode only those that have risen,
-- too
pub byte_of_requests : (level : Bool) (high risen : ℕ) → high < 256 → bit_and high risen < 256
    → byte_of (map (λ n. contains (levels_of high) n && (level || contains (levels_of risen) n)) all_levels) ≡ (if level then high else bit_and high risen)
byte_of_requests true high risen within both =
    ap byte_of (λ i. map (λ n. and_true (contains (levels_of high) n) i) all_levels) ∙ byte_of-levels_of high within
byte_of_requests false high risen within both =
    ap byte_of (sym (levels_in_both high risen)) ∙ byte_of-levels_of (bit_and high risen) both

-- the requests of an image
pub requests_of : (i : PicImage) → i.high < 256 → bit_and i.high i.risen < 256
    → byte_of (requests (pic_of i)) ≡ (if flag_of i.is_level_triggered then i.high else bit_and i.high i.risen)
unfolding pic_of
requests_of i within both = byte_of_requests (flag_of i.is_level_triggered) i.high i.risen within both

isnt_zero : (n : ℕ) → (n ≡ 0 → ⊥) → (n == 0) ≡ false
isnt_zero n none = grind (arith, nat_tests)

pub is_set : (n : ℕ) → (n ≡ 0 → ⊥) → flag_of n ≡ true
is_set n none = rw (isnt_zero n none) refl
