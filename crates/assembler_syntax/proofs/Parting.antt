-- The first part of a list of tokens.
use Rattle.std.proofs.Common.{◌≡◌, ℕ, ◌+◌, suc, Bool, true, false, if◌then◌else◌, List, [], ◌∷◌, take, drop, refl, ap, ◌∙◌, arith, Option, Some, None}
use Rattle.assembler_lexeme.specs.declared.token.Token.{Token}
use Rattle.assembler_lexeme.specs.declared.token.Token.TheVariants as kinds
use Rattle.assembler_lexeme.specs.declared.token.Punctuator.TheVariants as punctuators
use Rattle.assembler_syntax.specs.PartSteps.{signed_part, parts, parts_from, parts_left, parts_here, is_open_after, onto_part, part_size, tail_of}
use Rattle.assembler_syntax.specs.PartSteps.{signed_from, signed_left, signed_size, onto_signed, is_minus, signed_parts, begins_with_minus}

one_more : (n : ℕ) → 1 + n ≡ suc n
one_more n = omega arith

abbrev left_from : Option (List Token) → List (List Token)
left_from (Some ts) = parts_from false ts
left_from None = []

part_by : (t : Token) (ts : List Token) (is_open here : Bool)
    → parts_from is_open ts ≡ take (part_size is_open ts) ts ∷ left_from (tail_of (drop (part_size is_open ts) ts))
    → (if here then [] ∷ parts_from false ts else onto_part t (parts_from is_open ts))
    ≡ take (if here then 0 else 1 + part_size is_open ts) (t ∷ ts) ∷ left_from (tail_of (drop (if here then 0 else 1 + part_size is_open ts) (t ∷ ts)))
part_by t ts is_open true rest = refl
part_by t ts is_open false rest = rw (one_more (part_size is_open ts)) (ap (onto_part t) rest)

part_from : (is_open : Bool) (ts : List Token) → parts_from is_open ts ≡ take (part_size is_open ts) ts ∷ left_from (tail_of (drop (part_size is_open ts) ts))
part_from is_open [] = refl
part_from is_open (t ∷ ts) = part_by t ts (is_open_after is_open t) (parts_here is_open t) (part_from (is_open_after is_open t) ts)

left_same : (found : Option (List Token)) → left_from found ≡ parts_left found
unfolding parts
left_same (Some ts) = refl
left_same None = refl

pub first_part : (ts : List Token) → parts ts ≡ take (part_size false ts) ts ∷ parts_left (tail_of (drop (part_size false ts) ts))
unfolding parts
first_part ts =
    part_from false ts
    ∙ ap (λ (ps : List (List Token)). take (part_size false ts) ts ∷ ps) (left_same (tail_of (drop (part_size false ts) ts)))

pub first_signed : (ts : List Token) (is_negative : Bool)
    → signed_from is_negative ts
    ≡ signed_part is_negative (take (signed_size ts) ts) ∷ signed_left (begins_with_minus (drop (signed_size ts) ts)) (tail_of (drop (signed_size ts) ts))
first_signed [] is_negative = refl
first_signed (kinds.Punctuator punctuators.Plus ∷ ts) is_negative = refl
first_signed (kinds.Punctuator punctuators.Minus ∷ ts) is_negative = refl
first_signed (t ∷ ts) is_negative = rw (one_more (signed_size ts)) (ap (onto_signed is_negative t) (first_signed ts is_negative))

some_from : (ts : List Token) (is_negative : Bool) → signed_from is_negative ts ≡ [] → ⊥
some_from ts is_negative none = let is = first_signed ts is_negative in cc

pub some_signed : (ts : List Token) → signed_parts ts ≡ [] → ⊥
some_signed [] none = cc
some_signed (t ∷ ts) none = by_test (is_minus t) none
  where
    by_test : (minus : Bool) → (if minus then signed_from true ts else signed_from false (t ∷ ts)) ≡ [] → ⊥
    by_test true none = some_from ts true none
    by_test false none = some_from (t ∷ ts) false none
