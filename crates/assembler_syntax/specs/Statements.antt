-- Statements.
-- To be believed: the headline rests on it.
use Rattle.std.specs.Prelude.{Bool, true, false, List, [], ◌∷◌, if◌then◌else◌, Result, Ok, Err}
use Rattle.isa.specs.declared.form.Prefix.{Prefix as PrefixType}
use Rattle.isa.specs.declared.form.Prefix.TheVariants as prefixes
use Rattle.dialect.specs.declared.mnemonic.Mnemonic.{Mnemonic as MnemonicType}
use Rattle.dialect.specs.declared.meaning.Meaning.TheVariants.{Mnemonic, Register, Prefix, Keyword}
use Rattle.dialect.specs.declared.register.Register.TheVariants as registers
use Rattle.dialect.specs.declared.keyword.Keyword.{Keyword as KeywordType}
use Rattle.dialect.specs.declared.keyword.Keyword.TheVariants as keywords
use Rattle.assembler_lexeme.specs.declared.fault.SyntaxFault.{SyntaxFault}
use Rattle.assembler_lexeme.specs.declared.fault.SyntaxFault.TheVariants.{BadLine, UnknownName}
use Rattle.assembler_syntax.specs.declared.statement.DataWidth.{DataWidth}
use Rattle.assembler_syntax.specs.declared.statement.DataWidth.TheVariants as widths
use Rattle.assembler_syntax.specs.declared.statement.Statement.{Statement}
use Rattle.assembler_syntax.specs.declared.statement.Statement.TheVariants as statements
use Rattle.assembler_lexeme.specs.declared.token.Token.{Token}
use Rattle.assembler_lexeme.specs.declared.token.Token.TheVariants.{Punctuator, Named, Word}
use Rattle.assembler_lexeme.specs.declared.token.Punctuator.TheVariants.{Colon}
use Rattle.assembler_lexeme.specs.Faults.{◌>>=◌}
use Rattle.assembler_syntax.specs.Expressions.{constant_of}
use Rattle.assembler_syntax.specs.Operands.{operands_of}
use Rattle.assembler_syntax.specs.Items.{items_of}

-- a SEGMENT statement, from the tokens after its keyword: name AT paragraph
unfoldable pub segment_of : List Token → Result Statement SyntaxFault
segment_of (Named name ∷ Word (Keyword keywords.At) ∷ ts) = do
  paragraph ← constant_of ts
  Ok (statements.Segment name paragraph)
segment_of ts = Err BadLine

unfoldable pub ends_of : List Token → Result Statement SyntaxFault
ends_of [] = Ok statements.Ends
ends_of (t ∷ ts) = Err BadLine

unfoldable pub org_of : List Token → Result Statement SyntaxFault
org_of ts = do
  location ← constant_of ts
  Ok (statements.Org location)

unfoldable pub data_of : DataWidth → List Token → Result Statement SyntaxFault
data_of width ts = do
  items ← items_of width ts
  Ok (statements.Data width items)

-- a statement that begins with a keyword
unfoldable pub directive_of : KeywordType → List Token → Result Statement SyntaxFault
directive_of keywords.Segment ts = segment_of ts
directive_of keywords.Ends ts = ends_of ts
directive_of keywords.Org ts = org_of ts
directive_of keywords.Db ts = data_of widths.Byte ts
directive_of keywords.Dw ts = data_of widths.Word ts
directive_of keywords.Dd ts = data_of widths.Double ts
directive_of k ts = Err UnknownName

unfoldable pub instruction_of : List PrefixType → MnemonicType → List Token → Result Statement SyntaxFault
instruction_of ps mnemonic ts = do
  operands ← operands_of ts
  Ok (statements.Instruction (record { prefixes = ps; mnemonic = mnemonic; operands = operands }))

-- one more prefix at the front of the prefixes, with the tokens after them
abbrev pub onto_prefixes : PrefixType → (List PrefixType × List Token) → (List PrefixType × List Token)
onto_prefixes p (ps, ts) = (p ∷ ps, ts)

abbrev pub prefixes_of : List Token → (List PrefixType × List Token)
prefixes_of (Word (Prefix p) ∷ ts) = onto_prefixes p (prefixes_of ts)
prefixes_of (Word (Register (registers.Segment s)) ∷ Punctuator Colon ∷ ts) =
    onto_prefixes (prefixes.Segment s) (prefixes_of ts)
prefixes_of ts = ([], ts)

-- the keywords that begin a statement
abbrev pub is_directive : KeywordType → Bool
is_directive keywords.Segment = true
is_directive keywords.Ends = true
is_directive keywords.Org = true
is_directive keywords.Db = true
is_directive keywords.Dw = true
is_directive keywords.Dd = true
is_directive k = false

-- A statement, from its prefixes, if it has any, and the tokens after them. A keyword that begins a statement mustn't
-- follow prefixes, and no other keyword begins one.
unfoldable pub statement_after : List PrefixType → List Token → Result Statement SyntaxFault
statement_after ps (Word (Mnemonic m) ∷ ts) = instruction_of ps m ts
statement_after [] (Word (Keyword k) ∷ ts) = directive_of k ts
statement_after (p ∷ ps) (Word (Keyword k) ∷ ts) = if is_directive k then Err BadLine else Err UnknownName
statement_after ps (Word meaning ∷ ts) = Err UnknownName
statement_after ps (Named name ∷ ts) = Err UnknownName
statement_after ps ts = Err BadLine

-- the statement that tokens are: EQU after a first token, which must be a name, or a statement with its prefixes, if it
-- has any
unfoldable pub statement_of : List Token → Result Statement SyntaxFault
statement_of [] = Ok statements.Empty
statement_of (Named name ∷ Word (Keyword keywords.Equ) ∷ ts) = do
  value ← constant_of ts
  Ok (statements.Equ name value)
statement_of (t ∷ Word (Keyword keywords.Equ) ∷ ts) = Err BadLine
statement_of ts = statement_after (prefixes_of ts).0 (prefixes_of ts).1
