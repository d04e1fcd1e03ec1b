-- Tests that all tokens of a list pass, and what stands around the first token that passes one.
use Rattle.std.proofs.Common.{◌≡◌, ℕ, ◌+◌, suc, ◌<◌, Bool, true, false, not, nat_lt, List, [], ◌∷◌}
use Rattle.std.proofs.Common.{◌++◌, length, take, drop, length-append, Some, None, refl, ap, ◌∙◌, arith}
use Rattle.std.proofs.lemmas.Bool.{and_parts}
use Rattle.std.specs.List.{list_all, position_or_len}
use Rattle.std.proofs.lemmas.List.{take_at}
use Rattle.std.proofs.lemmas.List.Folds.{list_all-append}
use Rattle.std.proofs.lemmas.Bool.Decides.{nat_tests}
use Rattle.dialect.specs.declared.meaning.Meaning.TheVariants as meanings
use Rattle.dialect.specs.declared.keyword.Keyword.TheVariants as keywords
use Rattle.assembler_lexeme.specs.declared.token.Token.{Token}
use Rattle.assembler_lexeme.specs.declared.token.Token.TheVariants.{Word, Punctuator}
use Rattle.assembler_lexeme.specs.declared.token.Punctuator.TheVariants.{Comma, Colon, OpenBracket, CloseBracket, OpenParenthesis, CloseParenthesis}
use Rattle.assembler_syntax.specs.PartSteps.{around}
use Rattle.assembler_syntax.specs.Spellings.{Exactly, InTurn, WithCommas}

-- ---- tests that all tokens pass
abbrev pub AllPass : (Token → Bool) → List Token → Type 0
AllPass p ts = list_all p ts ≡ true

-- all spellings of a kind pass a test
abbrev pub EachPasses : (Token → Bool) → (List Token → Type 0) → Type 0
EachPasses p Spells = (ts : List Token) → Spells ts → AllPass p ts

pub both_pass : (p : Token → Bool) (xs ys : List Token) → AllPass p xs → AllPass p ys → AllPass p (xs ++ ys)
both_pass p xs ys one two = list_all-append p xs ys ∙ rw (one, two) refl

pub exactly_passes : (p : Token → Bool) (tokens : List Token) → AllPass p tokens → EachPasses p (Exactly tokens)
exactly_passes p tokens pass ts is = ap (list_all p) is ∙ pass

pub turn_passes : (p : Token → Bool) (One' Other : List Token → Type 0) → EachPasses p One' → EachPasses p Other → EachPasses p (InTurn One' Other)
turn_passes p One' Other one other ts is = ap (list_all p) is.are ∙ both_pass p is.front is.back (one is.front is.first) (other is.back is.second)

pub commas_pass : {A : Type 0} (p : Token → Bool) → p (Punctuator Comma) ≡ true → (Spells : A → List Token → Type 0)
    → ((x : A) → EachPasses p (Spells x)) → (xs : List A) → EachPasses p (WithCommas Spells xs)
commas_pass p comma Spells each [] ts is = absurd is
commas_pass p comma Spells each (x ∷ []) ts is = each x ts is
commas_pass p comma Spells each (x ∷ y ∷ more) ts is =
    turn_passes p (Spells x) (InTurn (Exactly (Punctuator Comma ∷ [])) (WithCommas Spells (y ∷ more))) (each x)
    (turn_passes p (Exactly (Punctuator Comma ∷ [])) (WithCommas Spells (y ∷ more))
    (exactly_passes p (Punctuator Comma ∷ []) (rw comma refl)) (commas_pass p comma Spells each (y ∷ more)))
    ts is

-- the tokens of expressions: none of them parts, opens, closes or belongs to another statement
abbrev pub is_plain : Token → Bool
is_plain (Punctuator Comma) = false
is_plain (Punctuator Colon) = false
is_plain (Punctuator OpenBracket) = false
is_plain (Punctuator CloseBracket) = false
is_plain (Punctuator OpenParenthesis) = false
is_plain (Punctuator CloseParenthesis) = false
is_plain (Word (meanings.Keyword keywords.Dup)) = false
is_plain (Word (meanings.Keyword keywords.Equ)) = false
is_plain t = true

-- what stands around the first token that passes
abbrev pub fails : (Token → Bool) → Token → Bool
fails p t = not (p t)

-- if each token that passes one test passes another, then a list that passes the one passes the other
pub pass_too : (p q : Token → Bool) → ((t : Token) → p t ≡ true → q t ≡ true) → (ts : List Token) → AllPass p ts → AllPass q ts
pass_too p q passes [] all = refl
pass_too p q passes (t ∷ ts) all =
    let first = passes t ((and_parts (p t) (list_all p ts) all).0) in
    let rest = pass_too p q passes ts ((and_parts (p t) (list_all p ts) all).1) in
    rw (first, rest) refl

place_following : (p : Token → Bool) (xs : List Token) (t : Token) (ys : List Token)
    → list_all (fails p) xs ≡ true → p t ≡ true → position_or_len p (xs ++ t ∷ ys) ≡ length xs
place_following p [] t ys none is = rw is refl
place_following p (x ∷ xs) t ys none is =
    let first = (and_parts (not (p x)) (list_all (fails p) xs) none).0 in
    let rest = place_following p xs t ys ((and_parts (not (p x)) (list_all (fails p) xs) none).1) is in
    rw (first, rest) (omega arith)

place_none : (p : Token → Bool) (xs : List Token) → list_all (fails p) xs ≡ true → position_or_len p xs ≡ length xs
place_none p [] none = refl
place_none p (x ∷ xs) none =
    let first = (and_parts (not (p x)) (list_all (fails p) xs) none).0 in
    let rest = place_none p xs ((and_parts (not (p x)) (list_all (fails p) xs) none).1) in
    rw (first, rest) (omega arith)

drop_after : (xs : List Token) (t : Token) (ys : List Token) → drop (length xs + 1) (xs ++ t ∷ ys) ≡ ys
drop_after [] t ys = refl
drop_after (x ∷ xs) t ys = let more : suc (length xs) + 1 ≡ suc (length xs + 1) = omega arith in rw more (drop_after xs t ys)

is_within : (m n : ℕ) → m < n → nat_lt m n ≡ true
is_within m n less = grind (arith, nat_tests)

is_not_within : (n : ℕ) → nat_lt n n ≡ false
is_not_within n = grind (arith, nat_tests)

pub around_one : (p : Token → Bool) (xs : List Token) (t : Token) (ys : List Token)
    → list_all (fails p) xs ≡ true → p t ≡ true → around p (xs ++ t ∷ ys) ≡ Some (xs, ys)
around_one p xs t ys none is =
    let place = place_following p xs t ys none is in
    let size : length xs < length (xs ++ t ∷ ys) = simp length-append (omega arith) in
    let within = is_within (length xs) (length (xs ++ t ∷ ys)) size in
    let front : take (length xs) (xs ++ t ∷ ys) ≡ xs = take_at xs (t ∷ ys) (length xs) refl in
    let back = drop_after xs t ys in
    rw (place, within, front, back) refl

pub around_none : (p : Token → Bool) (xs : List Token) → list_all (fails p) xs ≡ true → around p xs ≡ None
around_none p xs none = rw (place_none p xs none, is_not_within (length xs)) refl
