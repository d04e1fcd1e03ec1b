-- What the words of a line are.
use Rattle.std.proofs.Common.{◌≡◌, ℕ, ◌+◌, ◌-◌, ◌*◌, ◌<◌, ◌≤◌, List, [], ◌∷◌, ◌++◌, length, take, drop, map, replicate, refl, sym, ap, ◌∙◌}
use Rattle.std.proofs.Common.{arith, Bool, true, false, if◌then◌else◌, suc, nat_lt, Option, None, option_and_then, get_or, zero, drop-cons}
use Rattle.std.proofs.lemmas.List.{take_at, drop_at}
use Rattle.std.specs.Char.{to_ascii_uppercase}
use Rattle.std.proofs.lemmas.Bool.Decides.{nat_tests}
use Rattle.board_types.specs.Digits.{digit_of, spelled}
use Rattle.assembler_lexeme.specs.Numbers.{in_bounds}

-- a number that is too large stays too large with more digits
grows : (base n d : ℕ) → 0 < base → n ≤ n * base + d
grows base n d some = grind arith

too_large_by : (fits : Bool) (rest : Option ℕ) → option_and_then in_bounds rest ≡ None → option_and_then in_bounds (if fits then rest else None) ≡ None
too_large_by true rest none = none
too_large_by false rest none = refl

pub too_large : (base n : ℕ) (digits : List ℕ) → 0 < base → 4294967296 ≤ n → option_and_then in_bounds (spelled base n digits) ≡ None
too_large base n [] some large = let no : nat_lt n 4294967296 ≡ false = grind (arith, nat_tests) in rw no refl
too_large base n (b ∷ bs) some large =
    too_large_by (nat_lt (digit_of b) base) (spelled base (n * base + digit_of b) bs)
    (too_large base (n * base + digit_of b) bs some (omega (arith, grows base n (digit_of b) some)))

-- at a byte that is no digit of the base there is no number
pub stops_at : (base n i : ℕ) (digits : List ℕ) → i < length digits → base ≤ digit_of (get_or digits i 0)
    → None ≡ option_and_then in_bounds (spelled base n (drop i digits))
stops_at base n i digits within high =
    let no : nat_lt (digit_of (get_or digits i 0)) base ≡ false = ltb_no (digit_of (get_or digits i 0)) base high in
    rw (drop-cons digits i 0, no) refl
  where
    ltb_no : (m k : ℕ) → k ≤ m → nat_lt m k ≡ false
    ltb_no m k low = grind (arith, nat_tests)

-- at a digit that makes it too large there is no number
pub large_at : (base n i : ℕ) (digits : List ℕ) → 0 < base → i < length digits → 4294967296 ≤ n * base + digit_of (get_or digits i 0)
    → None ≡ option_and_then in_bounds (spelled base n (drop i digits))
large_at base n i digits some within large =
    rw (drop-cons digits i 0)
    (sym (too_large_by (nat_lt (digit_of (get_or digits i 0)) base) (spelled base (n * base + digit_of (get_or digits i 0)) (drop (suc i) digits))
    (too_large base (n * base + digit_of (get_or digits i 0)) (drop (suc i) digits) some large)))

drop-replicate : (n m : ℕ) → drop {A = ℕ} n (replicate m 0) ≡ replicate (m - n) 0
drop-replicate zero m = let same : m - 0 ≡ m = omega arith in rw same refl
drop-replicate (suc n) zero = let none : 0 - suc n ≡ 0 = omega arith in rw none refl
drop-replicate (suc n) (suc m) = let less : suc m - suc n ≡ m - n = omega arith in rw less (drop-replicate n m)

-- a word in upper case, with zeros after it
pub name_is : (word copied upper : List ℕ) → copied ≡ word → upper ≡ map to_ascii_uppercase (take (length word) (copied ++ drop (length word) (replicate 31 0)))
    → upper ++ drop (length word) (copied ++ drop (length word) (replicate 31 0)) ≡ map to_ascii_uppercase word ++ replicate (31 - length word) 0
name_is word copied upper same is =
    let front : take (length word) (word ++ drop (length word) (replicate 31 0)) ≡ word =
    take_at word (drop (length word) (replicate 31 0)) (length word) refl in
    let back : drop (length word) (word ++ drop (length word) (replicate 31 0)) ≡ drop (length word) (replicate 31 0) =
    drop_at word (drop (length word) (replicate 31 0)) (length word) refl in
    let whole : upper ≡ map to_ascii_uppercase word =
    is ∙ ap (λ (c : List ℕ). map to_ascii_uppercase (take (length word) (c ++ drop (length word) (replicate 31 0)))) same ∙ ap (map to_ascii_uppercase) front in
    rw (whole, same, back, drop-replicate (length word) 31) refl
