-- Statements in the code's own steps.
-- For proofs alone: no public contract rests on it.
use Rattle.std.specs.Prelude.{Bool, true, false, List, [], ◌∷◌, if◌then◌else◌, Result, Ok, Err}
use Rattle.isa.specs.declared.register.SegmentRegister.{SegmentRegister}
use Rattle.isa.specs.declared.form.Prefix.{Prefix as PrefixType}
use Rattle.isa.specs.declared.form.Prefix.TheVariants as prefixes
use Rattle.dialect.specs.declared.mnemonic.Mnemonic.{Mnemonic as MnemonicType}
use Rattle.dialect.specs.declared.meaning.Meaning.{Meaning}
use Rattle.dialect.specs.declared.meaning.Meaning.TheVariants.{Mnemonic, Register, Prefix, Keyword}
use Rattle.dialect.specs.declared.register.Register.TheVariants as registers
use Rattle.dialect.specs.declared.keyword.Keyword.{Keyword as KeywordType}
use Rattle.dialect.specs.declared.keyword.Keyword.TheVariants as keywords
use Rattle.assembler_lexeme.specs.declared.fault.SyntaxFault.{SyntaxFault}
use Rattle.assembler_lexeme.specs.declared.fault.SyntaxFault.TheVariants.{BadLine, UnknownName}
use Rattle.assembler_lexeme.specs.declared.name.Name.{Name}
use Rattle.assembler_syntax.specs.declared.statement.DataWidth.{DataWidth}
use Rattle.assembler_syntax.specs.declared.statement.DataWidth.TheVariants as widths
use Rattle.assembler_syntax.specs.declared.statement.Statement.{Statement}
use Rattle.assembler_syntax.specs.declared.statement.Statement.TheVariants as statements
use Rattle.assembler_lexeme.specs.declared.token.Token.{Token}
use Rattle.assembler_lexeme.specs.declared.token.Token.TheVariants.{Named, Word}
use Rattle.assembler_lexeme.specs.Faults.{◌>>=◌}
use Rattle.assembler_syntax.specs.PartSteps.{is_colon}
use Rattle.assembler_syntax.specs.ExpressionSteps.{constant_of}
use Rattle.assembler_syntax.specs.OperandSteps.{operands_of}
use Rattle.assembler_syntax.specs.ItemSteps.{items_of}
pub use Rattle.assembler_syntax.specs.Statements.{is_directive, onto_prefixes}

-- a SEGMENT statement, name AT paragraph, from its name and the tokens after AT
abbrev pub segment_at : Name → List Token → Result Statement SyntaxFault
segment_at name ts = constant_of ts >>= (λ paragraph. Ok (statements.Segment name paragraph))

abbrev pub segment_by : Token → List Token → Result Statement SyntaxFault
segment_by (Named name) ts = segment_at name ts
segment_by t ts = Err BadLine

abbrev pub is_at : Token → Bool
is_at (Word (Keyword keywords.At)) = true
is_at t = false

unfoldable pub segment_of : List Token → Result Statement SyntaxFault
segment_of (t ∷ u ∷ ts) = if is_at u then segment_by t ts else Err BadLine
segment_of ts = Err BadLine

unfoldable pub ends_of : List Token → Result Statement SyntaxFault
ends_of [] = Ok statements.Ends
ends_of (t ∷ ts) = Err BadLine

unfoldable pub org_of : List Token → Result Statement SyntaxFault
org_of ts = constant_of ts >>= (λ location. Ok (statements.Org location))

unfoldable pub data_of : DataWidth → List Token → Result Statement SyntaxFault
data_of width ts = items_of width ts >>= (λ items. Ok (statements.Data width items))

abbrev pub equ_at : Name → List Token → Result Statement SyntaxFault
equ_at name ts = constant_of ts >>= (λ value. Ok (statements.Equ name value))

-- an EQU statement, from its first token, which must be a name, and the tokens after EQU
unfoldable pub equ_of : Token → List Token → Result Statement SyntaxFault
equ_of (Named name) ts = equ_at name ts
equ_of t ts = Err BadLine

-- a statement that begins with a keyword
unfoldable pub directive_of : KeywordType → List Token → Result Statement SyntaxFault
directive_of keywords.Segment ts = segment_of ts
directive_of keywords.Ends ts = ends_of ts
directive_of keywords.Org ts = org_of ts
directive_of keywords.Db ts = data_of widths.Byte ts
directive_of keywords.Dw ts = data_of widths.Word ts
directive_of keywords.Dd ts = data_of widths.Double ts
directive_of k ts = Err UnknownName

unfoldable pub instruction_of : List PrefixType → MnemonicType → List Token → Result Statement SyntaxFault
instruction_of ps mnemonic ts =
    operands_of ts
    >>= (λ operands. Ok (statements.Instruction (record { prefixes = ps; mnemonic = mnemonic; operands = operands })))

abbrev pub segment_token : SegmentRegister → Token
segment_token s = Word (Register (registers.Segment s))

abbrev pub prefixes_of : List Token → (List PrefixType × List Token)
prefixes_of (Word (Prefix p) ∷ ts) = onto_prefixes p (prefixes_of ts)
prefixes_of (Word (Register (registers.Segment s)) ∷ t ∷ ts) =
    if is_colon t then onto_prefixes (prefixes.Segment s) (prefixes_of ts) else ([], segment_token s ∷ t ∷ ts)
prefixes_of ts = ([], ts)

-- a statement of a keyword, after prefixes or without: a keyword that begins a statement mustn't follow prefixes, and
-- no other keyword begins one
abbrev pub keyword_statement : List PrefixType → KeywordType → List Token → Result Statement SyntaxFault
keyword_statement [] k ts = directive_of k ts
keyword_statement (p ∷ ps) k ts = if is_directive k then Err BadLine else Err UnknownName

abbrev pub word_statement : List PrefixType → Meaning → List Token → Result Statement SyntaxFault
word_statement ps (Mnemonic m) ts = instruction_of ps m ts
word_statement ps (Keyword k) ts = keyword_statement ps k ts
word_statement ps meaning ts = Err UnknownName

abbrev pub led_statement : List PrefixType → Token → List Token → Result Statement SyntaxFault
led_statement ps (Word meaning) ts = word_statement ps meaning ts
led_statement ps (Named name) ts = Err UnknownName
led_statement ps t ts = Err BadLine

-- a statement, from its prefixes, if it has any, and the tokens after them
unfoldable pub statement_after : List PrefixType → List Token → Result Statement SyntaxFault
statement_after ps [] = Err BadLine
statement_after ps (t ∷ ts) = led_statement ps t ts

unfoldable pub prefixed_statement : List Token → Result Statement SyntaxFault
prefixed_statement ts = statement_after ((prefixes_of ts).0) ((prefixes_of ts).1)

abbrev pub is_equ : Token → Bool
is_equ (Word (Keyword keywords.Equ)) = true
is_equ t = false

unfoldable pub statement_of : List Token → Result Statement SyntaxFault
statement_of [] = Ok statements.Empty
statement_of (t ∷ []) = prefixed_statement (t ∷ [])
statement_of (t ∷ u ∷ ts) = if is_equ u then equ_of t ts else prefixed_statement (t ∷ u ∷ ts)
