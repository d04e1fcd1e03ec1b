-- A line in the code's own steps.
-- For proofs alone: no public contract rests on it.
use Rattle.std.specs.Prelude.{ℕ, if◌then◌else◌, List, ◌∷◌, Option, None, Some, Result, Ok, Err}
use Rattle.std.specs.List.{list_all}
use Rattle.assembler_lexeme.specs.declared.fault.SyntaxFault.{SyntaxFault}
use Rattle.assembler_lexeme.specs.declared.fault.SyntaxFault.TheVariants.{BadCharacter}
use Rattle.assembler_lexeme.specs.declared.name.Name.{Name}
use Rattle.assembler_syntax.specs.declared.statement.Line.{Line}
use Rattle.assembler_lexeme.specs.declared.token.Token.{Token}
use Rattle.assembler_lexeme.specs.declared.token.Token.TheVariants.{Named, Punctuator}
use Rattle.assembler_lexeme.specs.declared.token.Punctuator.TheVariants.{Colon}
use Rattle.assembler_lexeme.specs.Lexemes.{is_character, lexemes}
use Rattle.assembler_lexeme.specs.Faults.{◌>>=◌}
use Rattle.assembler_lexeme.specs.Tokens.{tokens_of}
use Rattle.assembler_syntax.specs.StatementSteps.{statement_of}

abbrev pub with_label : Option Name → List Token → Result Line SyntaxFault
with_label label ts = statement_of ts >>= (λ statement. Ok (record { label = label; statement = statement }))

abbrev pub labelled : Token → Token → List Token → Result Line SyntaxFault
labelled (Named label) (Punctuator Colon) ts = with_label (Some label) ts
labelled t u ts = with_label None (t ∷ u ∷ ts)

-- the line that tokens are; a name followed by a colon is its label
unfoldable pub line_of : List Token → Result Line SyntaxFault
line_of (t ∷ u ∷ ts) = labelled t u ts
line_of ts = with_label None ts

unfoldable pub read_line : List ℕ → Result Line SyntaxFault
read_line text = if list_all is_character text then (tokens_of (lexemes text) >>= line_of) else Err BadCharacter
