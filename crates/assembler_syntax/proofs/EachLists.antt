-- Things with commas between them are parted at the commas.
use Rattle.std.proofs.Common.{◌≡◌, ◌∙◌, Bool, true, false, List, [], ◌∷◌, ◌++◌, append_assoc, append-nil, refl, sym, ap, Result, Ok}
use Rattle.std.proofs.lemmas.Bool.{and_parts}
use Rattle.std.specs.List.{list_all}
use Rattle.dialect.specs.declared.meaning.Meaning.TheVariants as meanings
use Rattle.dialect.specs.declared.keyword.Keyword.TheVariants as keywords
use Rattle.assembler_lexeme.specs.declared.fault.SyntaxFault.{SyntaxFault}
use Rattle.assembler_lexeme.specs.declared.token.Token.{Token}
use Rattle.assembler_lexeme.specs.declared.token.Token.TheVariants.{Word, Punctuator}
use Rattle.assembler_lexeme.specs.declared.token.Punctuator.TheVariants.{Comma, OpenParenthesis, CloseParenthesis}
use Rattle.assembler_lexeme.specs.Faults.{◌>>=◌, all_of}
use Rattle.assembler_syntax.specs.PartSteps.{parts, parts_from, onto_part}
use Rattle.assembler_syntax.specs.Spellings.{WithCommas}
use Rattle.assembler_syntax.proofs.Around.{AllPass, is_plain}
use Rattle.assembler_syntax.proofs.EachTerms.{led}

-- tokens put at the front of the first of the parts
abbrev onto_parts : List Token → List (List Token) → List (List Token)
onto_parts [] ps = ps
onto_parts (t ∷ ts) ps = onto_part t (onto_parts ts ps)

onto_append : (xs ys : List Token) (ps : List (List Token)) → onto_parts (xs ++ ys) ps ≡ onto_parts xs (onto_parts ys ps)
onto_append [] ys ps = refl
onto_append (x ∷ xs) ys ps = ap (onto_part x) (onto_append xs ys ps)

onto_empty : (xs : List Token) (ps : List (List Token)) → onto_parts xs ([] ∷ ps) ≡ xs ∷ ps
onto_empty [] ps = refl
onto_empty (x ∷ xs) ps = ap (onto_part x) (onto_empty xs ps)

-- these tokens part nothing, and leave parentheses open or closed
abbrev pub Keeps : Bool → List Token → Bool → Type 0
Keeps before ts following = (back : List Token) → parts_from before (ts ++ back) ≡ onto_parts ts (parts_from following back)

pub keeps_both : (a b c : Bool) (xs ys : List Token) → Keeps a xs b → Keeps b ys c → Keeps a (xs ++ ys) c
keeps_both a b c xs ys one two back =
    ap (parts_from a) (append_assoc xs ys back)
    ∙ one (ys ++ back)
    ∙ ap (onto_parts xs) (two back)
    ∙ sym (onto_append xs ys (parts_from c back))

-- calm tokens: no comma, no parenthesis and no EQU
abbrev pub is_calm : Token → Bool
is_calm (Punctuator Comma) = false
is_calm (Punctuator OpenParenthesis) = false
is_calm (Punctuator CloseParenthesis) = false
is_calm (Word (meanings.Keyword keywords.Equ)) = false
is_calm t = true

pub plain_is_calm : (t : Token) → is_plain t ≡ true → is_calm t ≡ true
plain_is_calm (Punctuator Comma) is = cc
plain_is_calm (Punctuator OpenParenthesis) is = cc
plain_is_calm (Punctuator CloseParenthesis) is = cc
plain_is_calm (Word (meanings.Keyword keywords.Equ)) is = cc
plain_is_calm t is = refl

calm_step : (inside : Bool) (t : Token) (back : List Token) → is_calm t ≡ true → parts_from inside (t ∷ back) ≡ onto_part t (parts_from inside back)
calm_step inside (Punctuator Comma) back is = absurd (cc)
calm_step inside (Punctuator OpenParenthesis) back is = absurd (cc)
calm_step inside (Punctuator CloseParenthesis) back is = absurd (cc)
calm_step false t back is = refl
calm_step true t back is = refl

pub keeps_calm : (inside : Bool) (ts : List Token) → AllPass is_calm ts → Keeps inside ts inside
keeps_calm inside [] calm back = refl
keeps_calm inside (t ∷ ts) calm back =
    calm_step inside t (ts ++ back) ((and_parts (is_calm t) (list_all is_calm ts) calm).0)
    ∙ ap (onto_part t) (keeps_calm inside ts ((and_parts (is_calm t) (list_all is_calm ts) calm).1) back)

-- the tokens that neither open nor close a parenthesis
abbrev pub is_enclosed : Token → Bool
is_enclosed (Punctuator OpenParenthesis) = false
is_enclosed (Punctuator CloseParenthesis) = false
is_enclosed t = true

pub plain_is_enclosed : (t : Token) → is_plain t ≡ true → is_enclosed t ≡ true
plain_is_enclosed (Punctuator OpenParenthesis) is = cc
plain_is_enclosed (Punctuator CloseParenthesis) is = cc
plain_is_enclosed t is = refl

enclosed_step : (t : Token) (back : List Token) → is_enclosed t ≡ true → parts_from true (t ∷ back) ≡ onto_part t (parts_from true back)
enclosed_step (Punctuator OpenParenthesis) back is = absurd (cc)
enclosed_step (Punctuator CloseParenthesis) back is = absurd (cc)
enclosed_step t back is = refl

pub keeps_enclosed : (ts : List Token) → AllPass is_enclosed ts → Keeps true ts true
keeps_enclosed [] all back = refl
keeps_enclosed (t ∷ ts) all back =
    enclosed_step t (ts ++ back) ((and_parts (is_enclosed t) (list_all is_enclosed ts) all).0)
    ∙ ap (onto_part t) (keeps_enclosed ts ((and_parts (is_enclosed t) (list_all is_enclosed ts) all).1) back)

-- tokens that part nothing
abbrev pub Whole : List Token → Type 0
Whole ts = Keeps false ts false

last_part : (ts : List Token) → Whole ts → parts_from false ts ≡ ts ∷ []
last_part ts whole = ap (parts_from false) (sym (append-nil ts)) ∙ whole [] ∙ onto_empty ts []

first_part : (ts back : List Token) → Whole ts → parts_from false (ts ++ Punctuator Comma ∷ back) ≡ ts ∷ parts_from false back
first_part ts back whole = whole (Punctuator Comma ∷ back) ∙ onto_empty ts (parts_from false back)

one_read : {A : Type 0} (read : List Token → Result A SyntaxFault) (us : List Token) (uss : List (List Token)) (x : A) (xs : List A)
    → read us ≡ Ok x → all_of read uss ≡ Ok xs → all_of read (us ∷ uss) ≡ Ok (x ∷ xs)
one_read {A = A} read us uss x xs first rest =
    ap (λ (r : Result A SyntaxFault). r >>= λ y. all_of read uss >>= λ ys. Ok (y ∷ ys)) first
    ∙ ap (λ (r : Result (List A) SyntaxFault). r >>= λ ys. Ok (x ∷ ys)) rest

each_read : {A : Type 0} (read : List Token → Result A SyntaxFault) (Spells : A → List Token → Type 0) → ((x : A) (us : List Token) → Spells x us → Whole us)
    → ((x : A) (us : List Token) → Spells x us → read us ≡ Ok x) → (xs : List A) (ts : List Token) → WithCommas Spells xs ts
    → all_of read (parts_from false ts) ≡ Ok xs
each_read read Spells whole one [] ts is = absurd is
each_read read Spells whole one (x ∷ []) ts is = ap (all_of read) (last_part ts (whole x ts is)) ∙ one_read read ts [] x [] (one x ts is) refl
each_read read Spells whole one (x ∷ y ∷ more) ts is =
    let comma = led (Punctuator Comma ∷ []) (WithCommas Spells (y ∷ more)) is.back is.second in
    ap (λ (us : List Token). all_of read (parts_from false us)) (is.are ∙ ap (λ (us : List Token). is.front ++ us) comma.are)
    ∙ ap (all_of read) (first_part is.front comma.back (whole x is.front is.first))
    ∙ one_read read is.front (parts_from false comma.back) x (y ∷ more)
    (one x is.front is.first) (each_read read Spells whole one (y ∷ more) comma.back comma.other)

-- what is read of the parts between commas
pub commas_read : {A : Type 0} (read : List Token → Result A SyntaxFault) (Spells : A → List Token → Type 0)
    → ((x : A) (us : List Token) → Spells x us → Whole us) → ((x : A) (us : List Token) → Spells x us → read us ≡ Ok x)
    → (xs : List A) (ts : List Token) → WithCommas Spells xs ts → all_of read (parts ts) ≡ Ok xs
unfolding parts
commas_read read Spells whole one xs ts is = each_read read Spells whole one xs ts is
