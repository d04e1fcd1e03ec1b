-- The parts of a list of tokens: between commas, between signs, and around a token.
-- To be believed: the headline rests on it.
use Rattle.std.specs.Prelude.{◌+◌, Bool, true, false, List, [], ◌∷◌, take}
use Rattle.std.specs.Prelude.{drop, position, Option, Some, Result, Ok, Err}
use Rattle.std.specs.Option.{option_map}
use Rattle.dialect.specs.declared.meaning.Meaning.TheVariants.{Keyword}
use Rattle.dialect.specs.declared.keyword.Keyword.TheVariants.{Dup}
use Rattle.assembler_lexeme.specs.declared.fault.SyntaxFault.{SyntaxFault}
use Rattle.assembler_lexeme.specs.declared.fault.SyntaxFault.TheVariants.{BadLine}
use Rattle.assembler_lexeme.specs.declared.token.Token.{Token}
use Rattle.assembler_lexeme.specs.declared.token.Token.TheVariants.{Word, Punctuator}
use Rattle.assembler_lexeme.specs.declared.token.Punctuator.TheVariants.{Comma, Colon, Plus, Minus, CloseBracket}
use Rattle.assembler_lexeme.specs.declared.token.Punctuator.TheVariants.{OpenParenthesis, CloseParenthesis}

abbrev pub is_colon : Token → Bool
is_colon (Punctuator Colon) = true
is_colon t = false

abbrev pub is_close_bracket : Token → Bool
is_close_bracket (Punctuator CloseBracket) = true
is_close_bracket t = false

abbrev pub is_close_parenthesis : Token → Bool
is_close_parenthesis (Punctuator CloseParenthesis) = true
is_close_parenthesis t = false

abbrev pub is_dup : Token → Bool
is_dup (Word (Keyword Dup)) = true
is_dup t = false

-- the tokens before the first one that passes, and those after it
abbrev pub around : (Token → Bool) → List Token → Option (List Token × List Token)
around passes ts = option_map (λ k. (take k ts, drop (k + 1) ts)) (position passes ts)

-- the tokens before a closing token, which must be the last
abbrev pub closed : Option (List Token × List Token) → Result (List Token) SyntaxFault
closed (Some (inner, [])) = Ok inner
closed found = Err BadLine

-- the parts, with the token put at the front of the first
abbrev pub onto_part : Token → List (List Token) → List (List Token)
onto_part t [] = (t ∷ []) ∷ []
onto_part t (part ∷ parts) = (t ∷ part) ∷ parts

-- the parts between commas, from a place within parentheses or outside; a comma in parentheses separates nothing
abbrev pub parts_from : Bool → List Token → List (List Token)
parts_from is_open [] = [] ∷ []
parts_from false (Punctuator Comma ∷ ts) = [] ∷ parts_from false ts
parts_from is_open (Punctuator OpenParenthesis ∷ ts) = onto_part (Punctuator OpenParenthesis) (parts_from true ts)
parts_from is_open (Punctuator CloseParenthesis ∷ ts) = onto_part (Punctuator CloseParenthesis) (parts_from false ts)
parts_from is_open (t ∷ ts) = onto_part t (parts_from is_open ts)

unfoldable pub parts : List Token → List (List Token)
parts ts = parts_from false ts

-- tokens, and whether a minus stands before them
pub record Signed : Type 0 where
  pub is_negative : Bool
  pub tokens : List Token

abbrev pub signed_part : Bool → List Token → Signed
signed_part is_negative ts = record { is_negative = is_negative; tokens = ts }

abbrev pub onto_signed : Bool → Token → List Signed → List Signed
onto_signed is_negative t [] = signed_part is_negative (t ∷ []) ∷ []
onto_signed is_negative t (part ∷ parts) = signed_part part.is_negative (t ∷ part.tokens) ∷ parts

abbrev pub signed_from : Bool → List Token → List Signed
signed_from is_negative [] = signed_part is_negative [] ∷ []
signed_from is_negative (Punctuator Plus ∷ ts) = signed_part is_negative [] ∷ signed_from false ts
signed_from is_negative (Punctuator Minus ∷ ts) = signed_part is_negative [] ∷ signed_from true ts
signed_from is_negative (t ∷ ts) = onto_signed is_negative t (signed_from is_negative ts)

-- the parts between signs, each with the sign before it; a minus may stand before the first
abbrev pub signed_parts : List Token → List Signed
signed_parts (Punctuator Minus ∷ ts) = signed_from true ts
signed_parts ts = signed_from false ts
