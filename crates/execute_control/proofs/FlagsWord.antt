-- Flags that are pushed and popped are the same.
use Rattle.std.proofs.Common.{◌≡◌, ℕ, ◌+◌, ◌*◌, ◌/◌, ◌%◌, ◌^◌, ◌==◌, ◌≤◌, Bool, true, false, None, refl, ap, ◌∙◌, arith}
use Rattle.board_types.specs.FlagsWord.{flag_bit}
use Rattle.execute_machine.specs.FlagState.{FlagState}
use Rattle.execute_machine.specs.Flags.{forgetting, pushed_word, popped_flags}

-- a flag as a digit
abbrev digit : Bool → ℕ
digit flag = flag_bit flag 1

digit_bound : (flag : Bool) → digit flag ≤ 1
digit_bound true = omega arith
digit_bound false = omega arith

digit_told : (flag : Bool) → (digit flag == 1) ≡ flag
digit_told true = refl
digit_told false = refl

scaled : (flag : Bool) (value : ℕ) → flag_bit flag value ≡ value * digit flag
scaled true value = omega arith
scaled false value = omega arith

-- the digits of a flags word
record Digits (word c p a z s t i d o : ℕ) : Type 0 where
  carry : word / 2 ^ 0 % 2 ≡ c
  parity : word / 2 ^ 2 % 2 ≡ p
  auxiliary : word / 2 ^ 4 % 2 ≡ a
  zero : word / 2 ^ 6 % 2 ≡ z
  sign : word / 2 ^ 7 % 2 ≡ s
  trap : word / 2 ^ 8 % 2 ≡ t
  interrupt : word / 2 ^ 9 % 2 ≡ i
  direction : word / 2 ^ 10 % 2 ≡ d
  overflow : word / 2 ^ 11 % 2 ≡ o

digits_read : (word c p a z s t i d o : ℕ) → word ≡ 0xF002 + c + 4 * p + 16 * a + 64 * z + 128 * s + 256 * t + 512 * i + 1024 * d + 2048 * o
    → c ≤ 1 → p ≤ 1 → a ≤ 1 → z ≤ 1 → s ≤ 1 → t ≤ 1 → i ≤ 1 → d ≤ 1 → o ≤ 1 → Digits word c p a z s t i d o
digits_read word c p a z s t i d o sum hc hp ha hz hs ht hi hd ho = record {
  carry = omega arith;
  parity = omega arith;
  auxiliary = omega arith;
  zero = omega arith;
  sign = omega arith;
  trap = omega arith;
  interrupt = omega arith;
  direction = omega arith;
  overflow = omega arith;
}

word_of_digits : (f : FlagState) → pushed_word f ≡ 0xF002 + digit f.carry + 4 * digit f.parity + 16 * digit f.auxiliary_carry + 64 * digit f.zero
    + 128 * digit f.sign + 256 * digit f.trap + 512 * digit f.interrupt_enable + 1024 * digit f.direction + 2048 * digit f.overflow
word_of_digits f =
    let p = scaled f.parity 4 in
    let a = scaled f.auxiliary_carry 16 in
    let z = scaled f.zero 64 in
    let s = scaled f.sign 128 in
    let t = scaled f.trap 256 in
    let i = scaled f.interrupt_enable 512 in
    let d = scaled f.direction 1024 in
    let o = scaled f.overflow 2048 in
    omega arith

told : (flag : Bool) (bit : ℕ) → bit ≡ digit flag → (bit == 1) ≡ flag
told flag bit is = ap (λ b. b == 1) is ∙ digit_told flag

flags_of_nine : Bool → Bool → Bool → Bool → Bool → Bool → Bool → Bool → Bool → FlagState
flags_of_nine c p a z s t i d o = record {
  carry = c;
  parity = p;
  auxiliary_carry = a;
  zero = z;
  sign = s;
  trap = t;
  interrupt_enable = i;
  direction = d;
  overflow = o;
  kept = None;
}

nine_alike : (f : FlagState) (c p a z s t i d o : Bool) → c ≡ f.carry → p ≡ f.parity → a ≡ f.auxiliary_carry
    → z ≡ f.zero → s ≡ f.sign → t ≡ f.trap → i ≡ f.interrupt_enable → d ≡ f.direction → o ≡ f.overflow
    → flags_of_nine c p a z s t i d o ≡ flags_of_nine f.carry f.parity f.auxiliary_carry f.zero f.sign f.trap f.interrupt_enable f.direction f.overflow
nine_alike f c p a z s t i d o hc hp ha hz hs ht hi hd ho = cc

pub popped_again : (f : FlagState) → popped_flags (pushed_word f) ≡ forgetting f
unfolding popped_flags flags_of_nine
popped_again f =
    let read = digits_read (pushed_word f) _ _ _ _ _ _ _ _ _ (word_of_digits f) (digit_bound f.carry) (digit_bound f.parity) (digit_bound f.auxiliary_carry)
    (digit_bound f.zero) (digit_bound f.sign) (digit_bound f.trap) (digit_bound f.interrupt_enable) (digit_bound f.direction) (digit_bound f.overflow) in
    nine_alike f _ _ _ _ _ _ _ _ _ (told f.carry _ read.carry) (told f.parity _ read.parity) (told f.auxiliary_carry _ read.auxiliary)
    (told f.zero _ read.zero) (told f.sign _ read.sign) (told f.trap _ read.trap) (told f.interrupt_enable _ read.interrupt)
    (told f.direction _ read.direction) (told f.overflow _ read.overflow)
