-- Renamed names have the meanings that they had, and expressions the values.
use Rattle.std.proofs.Common.{◌≡◌, ℕ, Bool, ◌&&◌, if◌then◌else◌, List, [], ◌∷◌, ◌++◌, map, None, Some, option_and_then, refl, ap}
use Rattle.std.specs.Prelude.{pos, cond, is_some}
use Rattle.std.specs.Option.{option_map}
use Rattle.std.specs.List.{list_all, flat_map}
use Rattle.assembler_lexeme.specs.declared.name.Name.{Name}
use Rattle.assembler_syntax.specs.declared.expression.Atom.{Atom}
use Rattle.assembler_syntax.specs.declared.expression.Atom.TheVariants.{Number, Named, Here, SegmentOf}
use Rattle.assembler_syntax.specs.declared.expression.Term.{Term}
use Rattle.assembler_meaning.specs.declared.symbol.Location.{Location}
use Rattle.assembler_meaning.specs.declared.symbol.Symbol.{Symbol}
use Rattle.assembler_meaning.specs.Values.{Names, meaning, symbol_value, label_place, label_of, atom_value, signed, term_value}
use Rattle.assembler_meaning.specs.Values.{added, value_of, is_defined, is_constant_symbol, is_constant_atom, constant_of}
use Rattle.assembler_laws.specs.Sameness.{IsOneToOne, renamed_atom, renamed_term, renamed_terms}

-- what passes in a changed list
pub all_changed : {A B : Type 0} (f : A → B) (p : B → Bool) (q : A → Bool) → ((x : A) → p (f x) ≡ q x) → (xs : List A) → list_all p (map f xs) ≡ list_all q xs
all_changed f p q same [] = refl
all_changed f p q same (x ∷ xs) = λ i. same x i && all_changed f p q same xs i

pub flat_changed : {A B C : Type 0} (f : A → B) (p : B → List C) (q : A → List C)
    → ((x : A) → p (f x) ≡ q x) → (xs : List A) → flat_map p (map f xs) ≡ flat_map q xs
flat_changed f p q same [] = refl
flat_changed f p q same (x ∷ xs) = λ i. same x i ++ flat_changed f p q same xs i

-- what names stand for, under their new names
abbrev pub renamed_names : (Name → Name) → Names → Names
renamed_names rename names = map (λ (e : Name × Symbol). (rename e.0, e.1)) names

pub renamed_after : (rename : Name → Name) (a b : Names) → renamed_names rename (a ++ b) ≡ renamed_names rename a ++ renamed_names rename b
renamed_after rename [] b = refl
renamed_after rename (e ∷ es) b = λ i. (rename e.0, e.1) ∷ renamed_after rename es b i

module _ (rename : Name → Name) (once : IsOneToOne rename) where
  pub same_meaning : (names : Names) (name : Name) → meaning (renamed_names rename names) (rename name) ≡ meaning names name
  same_meaning [] name = refl
  same_meaning (e ∷ es) name = λ i. cond (once name e.0 i) (Some e.1) (same_meaning es name i)

  pub same_label : (names : Names) (name : Name) → label_of (renamed_names rename names) (rename name) ≡ label_of names name
  same_label names name = ap (option_and_then label_place) (same_meaning names name)

  pub same_defined : (names : Names) (name : Name) → is_defined (renamed_names rename names) (rename name) ≡ is_defined names name
  same_defined names name = λ i. is_some (same_meaning names name i)

  same_atom : (names : Names) (here : ℕ) (a : Atom) → atom_value (renamed_names rename names) here (renamed_atom rename a) ≡ atom_value names here a
  same_atom names here (Number n) = refl
  same_atom names here (Named name) = ap (option_map symbol_value) (same_meaning names name)
  same_atom names here Here = refl
  same_atom names here (SegmentOf name) = ap (option_map (λ (place : Location). pos place.segment)) (same_label names name)

  same_term : (names : Names) (here : ℕ) (t : Term) → term_value (renamed_names rename names) here (renamed_term rename t) ≡ term_value names here t
  same_term names here t = ap (option_map (signed t.is_negative)) (same_atom names here t.atom)

  pub same_value : (names : Names) (here : ℕ) (terms : List Term)
      → value_of (renamed_names rename names) here (renamed_terms rename terms) ≡ value_of names here terms
  unfolding value_of
  same_value names here [] = refl
  same_value names here (t ∷ ts) = λ i. added (same_term names here t i) (same_value names here ts i)

  same_constant_atom : (names : Names) (a : Atom) → is_constant_atom (renamed_names rename names) (renamed_atom rename a) ≡ is_constant_atom names a
  same_constant_atom names (Number n) = refl
  same_constant_atom names (Named name) = ap is_constant_symbol (same_meaning names name)
  same_constant_atom names Here = refl
  same_constant_atom names (SegmentOf name) = refl

  same_constants : (names : Names) (terms : List Term)
      → list_all (λ (t : Term). is_constant_atom (renamed_names rename names) t.atom) (renamed_terms rename terms)
      ≡ list_all (λ (t : Term). is_constant_atom names t.atom) terms
  same_constants names terms =
      all_changed (renamed_term rename) (λ (t : Term). is_constant_atom (renamed_names rename names) t.atom) (λ (t : Term). is_constant_atom names t.atom)
      (λ t. same_constant_atom names t.atom) terms

  pub same_constant : (names : Names) (terms : List Term) → constant_of (renamed_names rename names) (renamed_terms rename terms) ≡ constant_of names terms
  unfolding constant_of
  same_constant names terms = λ i. if same_constants names terms i then same_value names 0 terms i else None
