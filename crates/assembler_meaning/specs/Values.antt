-- What names stand for, and the values of expressions: whole numbers, none of which is cut.
-- To be believed: the headline rests on it.
use Rattle.std.specs.Prelude.{ℕ, ℤ, pos, ◌+ℤ◌, neg_ℤ, ◌≡◌, ◌≤◌, ◌^◌, Bool, true, false, if◌then◌else◌}
use Rattle.std.specs.Prelude.{List, [], ◌∷◌, Option, None, Some, option_and_then, is_some}
use Rattle.std.specs.Option.{option_map}
use Rattle.std.specs.List.{list_all}
use Rattle.std.specs.Map.{lookup}
use Rattle.std.specs.Str.{bytes_eq}
use Rattle.assembler_lexeme.specs.declared.name.Name.{Name}
use Rattle.assembler_syntax.specs.declared.expression.Atom.{Atom}
use Rattle.assembler_syntax.specs.declared.expression.Atom.TheVariants.{Number, Named, Here, SegmentOf}
use Rattle.assembler_syntax.specs.declared.expression.Term.{Term}
use Rattle.assembler_syntax.specs.Weights.{is_expression_within}
use Rattle.assembler_form.specs.Takes.{is_within}
use Rattle.assembler_meaning.specs.declared.symbol.Location.{Location}
use Rattle.assembler_meaning.specs.declared.symbol.Symbol.{Symbol}
use Rattle.assembler_meaning.specs.declared.symbol.Symbol.TheVariants.{Label, Constant}

-- what names stand for: their definitions, in order
abbrev pub Names : Type 0
Names = List (Name × Symbol)

abbrev pub same_name : Name → Name → Bool
same_name a b = bytes_eq a.letters b.letters

abbrev pub meaning : Names → Name → Option Symbol
meaning names name = lookup (same_name name) names

-- the value of a name: a constant's number, or a label's offset
abbrev pub symbol_value : Symbol → ℤ
symbol_value (Label place) = pos place.offset
symbol_value (Constant n) = n

abbrev pub label_place : Symbol → Option Location
label_place (Label place) = Some place
label_place (Constant n) = None

-- the place of a name that is a label
abbrev pub label_of : Names → Name → Option Location
label_of names name = option_and_then label_place (meaning names name)

-- The value of an atom in a line that stands at the offset `here`. There is none if no line defines the name, or if SEG
-- names no label.
abbrev pub atom_value : Names → ℕ → Atom → Option ℤ
atom_value names here (Number n) = Some (pos n)
atom_value names here (Named name) = option_map symbol_value (meaning names name)
atom_value names here Here = Some (pos here)
atom_value names here (SegmentOf name) = option_map (λ place. pos place.segment) (label_of names name)

abbrev pub signed : Bool → ℤ → ℤ
signed is_negative n = if is_negative then neg_ℤ n else n

abbrev pub term_value : Names → ℕ → Term → Option ℤ
term_value names here term = option_map (signed term.is_negative) (atom_value names here term.atom)

abbrev pub added : Option ℤ → Option ℤ → Option ℤ
added (Some m) (Some n) = Some (m +ℤ n)
added m n = None

-- the value of an expression: the sum of its terms
unfoldable pub value_of : Names → ℕ → List Term → Option ℤ
value_of names here [] = Some (pos 0)
value_of names here (term ∷ terms) = added (term_value names here term) (value_of names here terms)

-- whether a line has defined the name
abbrev pub is_defined : Names → Name → Bool
is_defined names name = is_some (meaning names name)

-- whether a name stands for a constant
abbrev pub is_constant_symbol : Option Symbol → Bool
is_constant_symbol (Some (Constant n)) = true
is_constant_symbol (Some (Label place)) = false
is_constant_symbol None = false

-- whether an atom is known to be constant: a number, or the name of a constant
abbrev pub is_constant_atom : Names → Atom → Bool
is_constant_atom names (Number n) = true
is_constant_atom names (Named name) = is_constant_symbol (meaning names name)
is_constant_atom names Here = false
is_constant_atom names (SegmentOf name) = false

-- the value of a constant, in the light of the names that are known; `None` if the expression isn't one
unfoldable pub constant_of : Names → List Term → Option ℤ
constant_of names terms =
    if list_all (λ term. is_constant_atom names term.atom) terms then value_of names 0 terms else None

-- Bounds that keep sums from overflowing: a source has at most 2^20 bytes, so an expression has no more terms, and
-- offsets stay below 2^40.
abbrev pub IsSmallNumber : ℤ → Type 0
IsSmallNumber n = is_within (neg_ℤ (pos (2 ^ 40))) (pos (2 ^ 40)) n ≡ true

abbrev pub IsSmall : Symbol → Type 0
IsSmall (Label place) = place.offset ≤ 2 ^ 40
IsSmall (Constant n) = IsSmallNumber n

abbrev pub AreSmall : Names → Type 0
AreSmall names = (name : Name) (symbol : Symbol) → meaning names name ≡ Some symbol → IsSmall symbol

abbrev pub term_limit : ℕ
term_limit = 1048576

abbrev pub IsShort : List Term → Type 0
IsShort terms = is_expression_within term_limit terms ≡ true
