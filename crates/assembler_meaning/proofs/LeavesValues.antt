-- Sums of terms.
use Rattle.std.proofs.Common.{◌≡◌, ℕ, ℤ, pos, neg_ℤ, ◌+ℤ◌, ◌≤ℤ◌, FitsSigned, to_z, of_z, w64, ◌+◌, ◌*◌, ◌^◌, ◌<◌}
use Rattle.std.proofs.Common.{◌≤◌, List, ◌∷◌, length, get_or, drop, Option, None, Some, refl, sym, ap, ◌∙◌, arith}
use Rattle.std.specs.Prelude.{option_and_then}
use Rattle.std.proofs.lemmas.Int.{ints, to_z-of_z}
use Rattle.std.proofs.lemmas.Bool.Decides.{nat_tests}
use Rattle.std.proofs.lemmas.List.{at_drop_more}
use Rattle.assembler_syntax.specs.declared.expression.Term.{Term}
use Rattle.assembler_lexeme.specs.declared.name.Name.{Name}
use Rattle.assembler_meaning.specs.declared.symbol.Location.{Location}
use Rattle.assembler_meaning.specs.declared.symbol.Symbol.{Symbol}
use Rattle.assembler_meaning.specs.declared.symbol.Symbol.TheVariants.{Label, Constant}
use Rattle.assembler_meaning.specs.Values.{Names, AreSmall, IsSmall, IsSmallNumber, IsShort, added, label_of}
use Rattle.assembler_meaning.specs.Values.{label_place, meaning, symbol_value, term_value, value_of}

-- a sum of n small numbers
pub record IsSum (n : ℕ) (z : ℤ) : Type 0 where
  pub least : neg_ℤ (pos (n * 2 ^ 40)) ≤ℤ z
  pub greatest : z ≤ℤ pos (n * 2 ^ 40)

pub symbol_small : (symbol : Symbol) → IsSmall symbol → IsSmallNumber (symbol_value symbol)
symbol_small (Label place) small = grind (arith, nat_tests)
symbol_small (Constant n) small = small

pub small_bounds : (z : ℤ) → IsSmallNumber z → IsSum 1 z
small_bounds z small = record { least = grind (arith, nat_tests, ints); greatest = grind (arith, nat_tests, ints) }

pub sum_more : (n : ℕ) (a b : ℤ) → IsSum n a → IsSmallNumber b → IsSum (n + 1) (a +ℤ b)
sum_more n a b sum small =
    let one = small_bounds b small in
    record { least = omega (arith, ints); greatest = omega (arith, ints) }

pub sum_fits : (n : ℕ) (z : ℤ) → n ≤ 1048577 → IsSum n z → FitsSigned w64 z
sum_fits n z few sum = omega (arith, ints)

number_kept : (z : ℤ) → FitsSigned w64 z → to_z w64 (of_z w64 z) ≡ z
number_kept z fits = to_z-of_z w64 z fits

small_fits : (z : ℤ) → IsSmallNumber z → FitsSigned w64 z
small_fits z small = sum_fits 1 z (omega arith) (small_bounds z small)

pub small_kept : (z : ℤ) → IsSmallNumber z → IsSmallNumber (to_z w64 (of_z w64 z))
small_kept z small = rw (number_kept z (small_fits z small)) small

pub sum_kept : (n : ℕ) (a b : ℤ) → n + 1 ≤ 1048577 → IsSum (n + 1) (a +ℤ b) → IsSmallNumber b
    → to_z w64 (of_z w64 (a +ℤ to_z w64 (of_z w64 b))) ≡ a +ℤ b
sum_kept n a b few sum small =
    ap (λ (z : ℤ). to_z w64 (of_z w64 (a +ℤ z))) (number_kept b (small_fits b small))
    ∙ number_kept (a +ℤ b) (sum_fits (n + 1) (a +ℤ b) few sum)

pub few_terms : (terms rest : List Term) (first : Term) → IsShort terms → terms ≡ first ∷ rest → length rest ≤ 1048576
few_terms terms rest first short is =
    let few : length terms ≤ 1048576 = grind (arith, nat_tests) in
    omega (arith, ap length is)

added_again : (a b : ℤ) (o : Option ℤ) → added (Some a) (added (Some b) o) ≡ added (Some (a +ℤ b)) o
added_again a b None = refl
added_again a b (Some n) = ap Some (omega (arith, ints))

pub value_more : (names : Names) (here : ℕ) (terms : List Term) (i : ℕ) (d : Term) (sum value : ℤ) → i < length terms
    → term_value names here (get_or terms i d) ≡ Some value
    → added (Some sum) (value_of names here (drop i terms)) ≡ added (Some (sum +ℤ value)) (value_of names here (drop (i + 1) terms))
unfolding value_of
value_more names here terms i d sum value within some =
    at_drop_more (λ ts. added (Some sum) (value_of names here ts)) terms i d within
    ∙ ap (λ t. added (Some sum) (added t (value_of names here (drop (i + 1) terms)))) some
    ∙ added_again sum value (value_of names here (drop (i + 1) terms))

label_at : (found : Option Symbol) (place : Location) → option_and_then label_place found ≡ Some place → found ≡ Some (Label place)
label_at (Some (Label other)) place is = cc
label_at (Some (Constant n)) place is = cc
label_at None place is = cc

pub label_small : (names : Names) (name : Name) (place : Location) → AreSmall names → Some place ≡ label_of names name → place.offset ≤ 2 ^ 40
label_small names name place small is = small name (Label place) (label_at (meaning names name) place (sym is))
