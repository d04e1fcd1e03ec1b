-- Numbers that words spell.
use Rattle.std.proofs.Common.{◌≡◌, ℕ, suc, ◌+◌, ◌*◌, ◌-◌, ◌^◌, ◌<◌, ◌≤◌, min, List, [], ◌∷◌, length, drop, refl, sym, ap}
use Rattle.std.proofs.Common.{◌∙◌, arith, Bool, true, false, if◌then◌else◌, nat_lt, Option, None, Some, get_or, drop-cons}
use Rattle.std.proofs.Math.Nat.{min-eq_left, min-eq_right, pow-succ', pow-le-pow_right}
use Rattle.std.proofs.lemmas.Bool.{ltb-true}
use Rattle.std.proofs.lemmas.Bool.Decides.{nat_tests}
use Rattle.board_types.specs.Digits.{digit_of, spelled}
use Rattle.debugger_meaning.specs.CommandWords.{at_most_greatest}

more : (base n d m : ℕ) → 1 ≤ base → m ≤ n → m ≤ n * base + d
more base n d m some large = grind arith

same_by : (fits : Bool) (a b : Option ℕ) → at_most_greatest a ≡ at_most_greatest b
    → at_most_greatest (if fits then a else None) ≡ at_most_greatest (if fits then b else None)
same_by true a b same = same
same_by false a b same = refl

-- two numbers above the greatest count as that, whatever digits follow
both_large : (base a b : ℕ) (bs : List ℕ) → 1 ≤ base → 2 ^ 64 - 1 ≤ a → 2 ^ 64 - 1 ≤ b
    → at_most_greatest (spelled base a bs) ≡ at_most_greatest (spelled base b bs)
both_large base a b [] some p q = ap Some (min-eq_right p ∙ sym (min-eq_right q))
both_large base a b (d ∷ ds) some p q =
    same_by (nat_lt (digit_of d) base) (spelled base (a * base + digit_of d) ds) (spelled base (b * base + digit_of d) ds)
    (both_large base (a * base + digit_of d) (b * base + digit_of d) ds some
    (more base a (digit_of d) (2 ^ 64 - 1) some p) (more base b (digit_of d) (2 ^ 64 - 1) some q))

not_larger : (a b : ℕ) → nat_lt a b ≡ false → b ≤ a
not_larger a b isnt = grind (arith, nat_tests)

larger : (a b : ℕ) → nat_lt a b ≡ true → a ≤ b
larger a b is = grind (arith, nat_tests)

-- a number above the greatest may be cut down to that before more digits follow
cut_by : (large : Bool) (base n : ℕ) (bs : List ℕ) → 1 ≤ base → nat_lt (2 ^ 64 - 1) n ≡ large
    → at_most_greatest (spelled base (min n (2 ^ 64 - 1)) bs) ≡ at_most_greatest (spelled base n bs)
cut_by true base n bs some is =
    let over : 2 ^ 64 - 1 ≤ n = larger (2 ^ 64 - 1) n is in
    rw (min-eq_right over) (both_large base (2 ^ 64 - 1) n bs some (omega arith) over)
cut_by false base n bs some is =
    let under : n ≤ 2 ^ 64 - 1 = not_larger (2 ^ 64 - 1) n is in
    rw (min-eq_left under) refl

cut_front : (base n : ℕ) (bs : List ℕ) → 1 ≤ base → at_most_greatest (spelled base (min n (2 ^ 64 - 1)) bs) ≡ at_most_greatest (spelled base n bs)
cut_front base n bs some = cut_by (nat_lt (2 ^ 64 - 1) n) base n bs some refl

cut_twice_by : (large : Bool) (x d m : ℕ) → nat_lt m x ≡ large → min (min x m + d) m ≡ min (x + d) m
cut_twice_by true x d m is =
    let over : m ≤ x = larger m x is in
    let first : m ≤ m + d = omega arith in
    let second : m ≤ x + d = omega arith in
    rw (min-eq_right over) (min-eq_right first ∙ sym (min-eq_right second))
cut_twice_by false x d m is = let under : x ≤ m = not_larger m x is in rw (min-eq_left under) refl

fits : (n base : ℕ) → n < base → nat_lt n base ≡ true
fits n base is = grind (arith, nat_tests)

-- one more digit
pub digit_more : (base n i : ℕ) (digits : List ℕ) → 1 ≤ base → i < length digits → digit_of (get_or digits i 0) < base
    → at_most_greatest (spelled base (min (min (n * base) (2 ^ 64 - 1) + digit_of (get_or digits i 0)) (2 ^ 64 - 1)) (drop (suc i) digits))
    ≡ at_most_greatest (spelled base n (drop i digits))
digit_more base n i digits some in_list low =
    let is : nat_lt (digit_of (get_or digits i 0)) base ≡ true = fits (digit_of (get_or digits i 0)) base low in
    rw (cut_twice_by (nat_lt (2 ^ 64 - 1) (n * base)) (n * base) (digit_of (get_or digits i 0)) (2 ^ 64 - 1) refl)
    (cut_front base (n * base + digit_of (get_or digits i 0)) (drop (suc i) digits) some ∙ rw (drop-cons digits i 0, is) refl)

hex_step : (n front d p : ℕ) → d < 16 → n < (front * 16 + d + 1) * p → n < (front + 1) * (16 * p)
hex_step n front d p low below = grind arith

none_some : (n : ℕ) (A : Type 0) → None ≡ Some n → A
none_some n A never = cc

below_by : (low : Bool) (b front n : ℕ) (bs : List ℕ) → nat_lt (digit_of b) 16 ≡ low
    → (spelled 16 (front * 16 + digit_of b) bs ≡ Some n → n < (front * 16 + digit_of b + 1) * 16 ^ length bs)
    → (if low then spelled 16 (front * 16 + digit_of b) bs else None) ≡ Some n → n < (front + 1) * 16 ^ suc (length bs)
below_by true b front n bs low rest was =
    rw (pow-succ' 16 (length bs)) (hex_step n front (digit_of b) (16 ^ length bs) (ltb-true (digit_of b) 16 low) (rest was))
below_by false b front n bs low rest was = none_some n _ was

-- a number of n digits is below 16 ^ n
pub spelled_below : (word : List ℕ) (front n : ℕ) → spelled 16 front word ≡ Some n → n < (front + 1) * 16 ^ length word
spelled_below [] front n is = let same : front ≡ n = cc in omega arith
spelled_below (b ∷ bs) front n is = below_by (nat_lt (digit_of b) 16) b front n bs refl (spelled_below bs (front * 16 + digit_of b) n) is

once : (n p : ℕ) → n < (0 + 1) * p → n < p
once n p below = omega arith

pub hex_below : (word : List ℕ) (most n : ℕ) → spelled 16 0 word ≡ Some n → length word ≤ most → n < 16 ^ most
hex_below word most n is short =
    let first : n < 16 ^ length word = once n (16 ^ length word) (spelled_below word 0 n is) in
    let second : 16 ^ length word ≤ 16 ^ most = pow-le-pow_right (omega arith) short in
    omega arith

some_same : (a b : ℕ) → Some a ≡ Some b → a ≡ b
some_same a b is = cc

-- a number of five digits or fewer isn't cut down
small_by : (s : Option ℕ) (n : ℕ) → ((m : ℕ) → s ≡ Some m → m < 16 ^ 5) → at_most_greatest s ≡ Some n → s ≡ Some n
small_by None n below is = is
small_by (Some m) n below is =
    let under : m < 16 ^ 5 = below m refl in
    let small : m ≤ 2 ^ 64 - 1 = omega arith in
    ap Some (sym (min-eq_left small) ∙ some_same (min m (2 ^ 64 - 1)) n is)

pub hex_is : (word : List ℕ) (n : ℕ) → length word ≤ 5 → at_most_greatest (spelled 16 0 word) ≡ Some n → spelled 16 0 word ≡ Some n
hex_is word n short is = small_by (spelled 16 0 word) n (λ m was. hex_below word 5 m was short) is
