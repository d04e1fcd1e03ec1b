-- The parts of a list of tokens in the code's own steps.
-- For proofs alone: no public contract rests on it.
use Rattle.std.specs.Prelude.{ℕ, ◌+◌, Bool, true, false, not, ◌&&◌, if◌then◌else◌}
use Rattle.std.specs.Prelude.{List, [], ◌∷◌, take, drop, position, Option, None, Some}
use Rattle.std.specs.Borrow.{Bor}
use Rattle.assembler_lexeme.specs.declared.token.Token.{Token}
use Rattle.assembler_lexeme.specs.declared.token.Token.TheVariants.{Punctuator}
use Rattle.assembler_lexeme.specs.declared.token.Punctuator.TheVariants.{Comma, Plus, Minus, OpenBracket}
use Rattle.assembler_lexeme.specs.declared.token.Punctuator.TheVariants.{OpenParenthesis, CloseParenthesis}
pub use Rattle.assembler_syntax.specs.TokenParts.{Signed, closed, is_close_bracket, is_close_parenthesis}
pub use Rattle.assembler_syntax.specs.TokenParts.{is_colon, is_dup, onto_part, onto_signed, signed_part}

abbrev pub is_comma : Token → Bool
is_comma (Punctuator Comma) = true
is_comma t = false

abbrev pub is_open_bracket : Token → Bool
is_open_bracket (Punctuator OpenBracket) = true
is_open_bracket t = false

abbrev pub is_open_parenthesis : Token → Bool
is_open_parenthesis (Punctuator OpenParenthesis) = true
is_open_parenthesis t = false

-- the tokens before the one at a place, and those after it
abbrev pub at_place : List Token → Option ℕ → Option (List Token × List Token)
at_place ts (Some k) = Some (take k ts, drop (k + 1) ts)
at_place ts None = None

-- the tokens before the first one that passes, and those after it
abbrev pub around : (Token → Bool) → List Token → Option (List Token × List Token)
around passes ts = at_place ts (position passes ts)

-- what `around` gives, from the slices that the code gives
abbrev pub around_view : Option (Bor (List Token) × Bor (List Token)) → Option (List Token × List Token)
around_view (Some p) = Some (p.0.now, p.1.now)
around_view None = None

-- whether parentheses are open after a token
abbrev pub is_open_after : Bool → Token → Bool
is_open_after is_open (Punctuator OpenParenthesis) = true
is_open_after is_open (Punctuator CloseParenthesis) = false
is_open_after is_open t = is_open

abbrev pub parts_here : Bool → Token → Bool
parts_here is_open t = not is_open && is_comma t

abbrev pub parts_from : Bool → List Token → List (List Token)
parts_from is_open [] = [] ∷ []
parts_from is_open (t ∷ ts) =
    if parts_here is_open t then [] ∷ parts_from false ts else onto_part t (parts_from (is_open_after is_open t) ts)

-- the parts between commas; a comma in parentheses separates nothing
unfoldable pub parts : List Token → List (List Token)
parts ts = parts_from false ts

-- the tokens after the first one, if there is one
abbrev pub tail_of : List Token → Option (List Token)
tail_of [] = None
tail_of (t ∷ ts) = Some ts

-- what `tail_of` gives, from the slice that the code gives
abbrev pub tail_view : Option (Bor (List Token)) → Option (List Token)
tail_view (Some ts) = Some ts.now
tail_view None = None

-- the parts after a comma, if there was one
abbrev pub parts_left : Option (List Token) → List (List Token)
parts_left (Some ts) = parts ts
parts_left None = []

-- how many tokens stand before the first comma, from a place within parentheses or outside
abbrev pub part_size : Bool → List Token → ℕ
part_size is_open [] = 0
part_size is_open (t ∷ ts) = if parts_here is_open t then 0 else 1 + part_size (is_open_after is_open t) ts

-- whether a sign is a minus; `None` for a token that is no sign
abbrev pub sign_of : Token → Option Bool
sign_of (Punctuator Plus) = Some false
sign_of (Punctuator Minus) = Some true
sign_of t = None

abbrev pub signed_by : Option Bool → Bool → Token → (Bool → List Signed) → List Signed
signed_by None is_negative t parts = onto_signed is_negative t (parts is_negative)
signed_by (Some next) is_negative t parts = signed_part is_negative [] ∷ parts next

abbrev pub signed_from : Bool → List Token → List Signed
signed_from is_negative [] = signed_part is_negative [] ∷ []
signed_from is_negative (t ∷ ts) = signed_by (sign_of t) is_negative t (λ next. signed_from next ts)

-- the parts after a sign, if there was one
abbrev pub signed_left : Bool → Option (List Token) → List Signed
signed_left is_negative (Some ts) = signed_from is_negative ts
signed_left is_negative None = []

abbrev pub is_minus : Token → Bool
is_minus (Punctuator Minus) = true
is_minus t = false

abbrev pub begins_with_minus : List Token → Bool
begins_with_minus [] = false
begins_with_minus (t ∷ ts) = is_minus t

-- the parts between signs, each with the sign before it; a minus may stand before the first
abbrev pub signed_parts : List Token → List Signed
signed_parts [] = signed_from false []
signed_parts (t ∷ ts) = if is_minus t then signed_from true ts else signed_from false (t ∷ ts)

abbrev pub is_sign : Token → Bool
is_sign (Punctuator Plus) = true
is_sign (Punctuator Minus) = true
is_sign t = false

-- how many tokens stand before the first sign
abbrev pub signed_size : List Token → ℕ
signed_size [] = 0
signed_size (t ∷ ts) = if is_sign t then 0 else 1 + signed_size ts
