-- What flags say of the order of two numbers; what extends a sign and inverts bits.
use Rattle.std.proofs.Common.{w8, w16, ◌≡◌, ℕ, ◌%◌, ◌-◌, ◌<◌, ◌==◌, not, arith}
use Rattle.std.proofs.lemmas.Bool.Decides.{nat_tests}
use Rattle.std.proofs.lemmas.Int.{ints}
use Rattle.std.proofs.lemmas.Nat.Bits.{bit_at-lt, bit_at_not}
use Rattle.bus.specs.Bus.{BusMeaning}
use Rattle.execute_machine.specs.declared.width.Width.{Width}
use Rattle.execute_machine.specs.declared.width.Width.TheVariants.{Byte, Word}
use Rattle.execute_machine.specs.Widths.{size_of}
use Rattle.execute_machine.specs.Sums.{with_difference}
use Rattle.execute_arith.specs.ArithmeticMeaning.{after_arithmetic, with_flags_of, unary_result_of, after_adjust}
use Rattle.execute_arith.specs.ArithmeticLaws.{CmpTells, ComparisonTells, NotInverts, SignsExtend}

pub comparison_tells : ComparisonTells
unfolding with_difference
comparison_tells f Byte a b p q = record { below = grind (arith, nat_tests); equal = grind (arith, nat_tests); less = grind (arith, nat_tests, ints) }
comparison_tells f Word a b p q = record { below = grind (arith, nat_tests); equal = grind (arith, nat_tests); less = grind (arith, nat_tests, ints) }

below : (width : Width) (n : ℕ) → n % size_of width < size_of width
below Byte n = omega arith
below Word n = omega arith

pub cmp_tells : {S : Type 0} (bus : BusMeaning S) → CmpTells bus
unfolding after_arithmetic with_flags_of
cmp_tells bus m i = comparison_tells _ _ _ _ (below _ _) (below _ _)

pub signs_extend : SignsExtend
unfolding after_adjust
signs_extend r big = (grind (arith, nat_tests, ints), grind (arith, nat_tests, ints))

inverted : (x y : ℕ) → y < 2 → x ≡ 1 - y → (x == 1) ≡ not (y == 1)
inverted x y below is = grind (arith, nat_tests)

pub not_inverts : NotInverts
unfolding unary_result_of
not_inverts Byte a n p q = inverted _ _ (bit_at-lt a n) (bit_at_not w8 a n p q)
not_inverts Word a n p q = inverted _ _ (bit_at-lt a n) (bit_at_not w16 a n p q)
