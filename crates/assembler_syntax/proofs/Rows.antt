-- The definition of a line at texts that are written out.
use Rattle.std.proofs.Common.{◌≡◌, ℕ, true, false, codes, List, [], ◌∷◌, Some, None, refl, Result, Ok, Err}
use Rattle.std.specs.Prelude.{⊤}
use Rattle.isa.specs.declared.operation.Operation.TheVariants.{Transfer, Strings}
use Rattle.isa.specs.declared.operation.Transfer.TheVariants.{Mov}
use Rattle.isa.specs.declared.operation.Strings.TheVariants.{Stosw}
use Rattle.isa.specs.declared.form.Base.TheVariants as bases
use Rattle.isa.specs.declared.form.Prefix.TheVariants as prefixes
use Rattle.isa.specs.declared.form.Repeat.TheVariants.{Rep}
use Rattle.isa.specs.declared.register.WordRegister.TheVariants.{Ax}
use Rattle.isa.specs.declared.register.SegmentRegister.TheVariants.{Es, Ss}
use Rattle.dialect.specs.declared.mnemonic.Mnemonic.{Mnemonic}
use Rattle.dialect.specs.declared.mnemonic.Mnemonic.TheVariants as mnemonics
use Rattle.dialect.specs.declared.register.Register.TheVariants as registers
use Rattle.dialect.specs.Words.{words, spells, meaning_of}
use Rattle.dialect.specs.declared.size.Size.TheVariants as sizes
use Rattle.assembler_lexeme.specs.declared.fault.SyntaxFault.{SyntaxFault}
use Rattle.assembler_lexeme.specs.declared.fault.SyntaxFault.TheVariants.{BadCharacter, BadLine, UnknownName}
use Rattle.assembler_syntax.specs.declared.expression.Atom.{Atom}
use Rattle.assembler_syntax.specs.declared.expression.Atom.TheVariants as atoms
use Rattle.assembler_syntax.specs.declared.expression.Term.{Term}
use Rattle.assembler_syntax.specs.declared.operand.Operand.{Operand}
use Rattle.assembler_syntax.specs.declared.operand.Operand.TheVariants as operands
use Rattle.assembler_syntax.specs.declared.statement.DataWidth.TheVariants as widths
use Rattle.assembler_syntax.specs.declared.statement.Piece.TheVariants as pieces
use Rattle.assembler_syntax.specs.declared.statement.Item.TheVariants as items
use Rattle.assembler_syntax.specs.declared.statement.Statement.{Statement}
use Rattle.assembler_syntax.specs.declared.statement.Statement.TheVariants as statements
use Rattle.assembler_syntax.specs.declared.statement.Line.{Line}
use Rattle.assembler_lexeme.specs.Lexemes.{lexemes}
use Rattle.assembler_lexeme.specs.Numbers.{number_to, number_of}
use Rattle.assembler_lexeme.specs.Tokens.{name_of, word_token, number_token, quoted_token, token_of, tokens_of}
use Rattle.assembler_syntax.specs.TokenParts.{parts}
use Rattle.assembler_syntax.specs.Expressions.{atom_of, expression_of, constant_of}
use Rattle.assembler_syntax.specs.Operands.{with_part, memory_of, value_of, brackets_of, operand_of, operands_of}
use Rattle.assembler_syntax.specs.Items.{piece_of, pieces_of, repeated, item_of, items_of}
use Rattle.assembler_syntax.specs.Statements.{segment_of, ends_of, org_of, data_of, directive_of, instruction_of, statement_after, statement_of}
use Rattle.assembler_syntax.specs.Lines.{line_of, read_line}

-- what a row unfolds
unfoldable on_texts : ⊤
unfolding words spells meaning_of lexemes number_to number_of word_token number_token quoted_token token_of tokens_of parts
    atom_of expression_of constant_of with_part memory_of value_of brackets_of operand_of operands_of piece_of pieces_of repeated
    item_of items_of segment_of ends_of org_of data_of directive_of instruction_of statement_after statement_of line_of read_line
on_texts = tt

abbrev plus : Atom → Term
plus atom = record { is_negative = false; atom = atom }

abbrev minus : Atom → Term
minus atom = record { is_negative = true; atom = atom }

abbrev number : ℕ → Term
number n = plus (atoms.Number n)

abbrev says : Statement → Result Line SyntaxFault
says statement = Ok (record { label = None; statement = statement })

abbrev does : Mnemonic → List Operand → Result Line SyntaxFault
does mnemonic ops = says (statements.Instruction (record { prefixes = []; mnemonic = mnemonic; operands = ops }))

abbrev mov : Mnemonic
mov = mnemonics.Plain (Transfer Mov)

abbrev ax : Operand
ax = operands.Register (registers.Word Ax)

nothing : read_line (codes "  ; nothing") ≡ says statements.Empty
unfolding on_texts
nothing = refl

segment : read_line (codes "SEGMENT M AT 0F000h") ≡ says (statements.Segment (name_of (codes "m")) (number 0xF000 ∷ []))
unfolding on_texts
segment = refl

label_and_number : read_line (codes "go: mov ax,0B000h") ≡ Ok (record {
  label = Some (name_of (codes "GO"));
  statement = statements.Instruction (record { prefixes = []; mnemonic = mov; operands = ax ∷ operands.Value (number 0xB000 ∷ []) ∷ [] });
})
unfolding on_texts
label_and_number = refl

equ : read_line (codes "x EQU -5+y-10b")
    ≡ says (statements.Equ (name_of (codes "X")) (minus (atoms.Number 5) ∷ plus (atoms.Named (name_of (codes "Y"))) ∷ minus (atoms.Number 2) ∷ []))
unfolding on_texts
equ = refl

location : read_line (codes "DW $-SEG back")
    ≡ says (statements.Data widths.Word (items.Once (pieces.Value (plus atoms.Here ∷ minus (atoms.SegmentOf (name_of (codes "BACK"))) ∷ [])) ∷ []))
unfolding on_texts
location = refl

sum : read_line (codes "MOV AX,SS:[5-x+SI-2+BX]") ≡ does mov (ax ∷ operands.Memory (record {
  size = None;
  segment = Some Ss;
  base = Some bases.BxSi;
  displacement = Some (number 5 ∷ minus (atoms.Named (name_of (codes "X"))) ∷ minus (atoms.Number 2) ∷ []);
}) ∷ [])
unfolding on_texts
sum = refl

sized : read_line (codes "MOV WORD [DI-2],7") ≡ does mov (operands.Memory (record {
  size = Some sizes.Word;
  segment = None;
  base = Some bases.Di;
  displacement = Some (minus (atoms.Number 2) ∷ []);
}) ∷ operands.Value (number 7 ∷ []) ∷ [])
unfolding on_texts
sized = refl

far_pointer : read_line (codes "CALL FAR 1:2") ≡ does mnemonics.Call (operands.FarPointer (number 1 ∷ []) (number 2 ∷ []) ∷ [])
unfolding on_texts
far_pointer = refl

far_label : read_line (codes "JMP FAR go") ≡ does mnemonics.Jmp (operands.FarLabel (name_of (codes "GO")) ∷ [])
unfolding on_texts
far_label = refl

short : read_line (codes "JMP SHORT $") ≡ does mnemonics.Jmp (operands.Short (plus atoms.Here ∷ []) ∷ [])
unfolding on_texts
short = refl

one : read_line (codes "MOV 1,01") ≡ does mov (operands.One ∷ operands.Value (number 1 ∷ []) ∷ [])
unfolding on_texts
one = refl

prefixed : read_line (codes "ES: REPZ STOSW") ≡ says (statements.Instruction (record {
  prefixes = prefixes.Segment Es ∷ prefixes.Repeat Rep ∷ [];
  mnemonic = mnemonics.Plain (Strings Stosw);
  operands = [];
}))
unfolding on_texts
prefixed = refl

texts : read_line (codes "DB 'a;',2 DUP('b',3),4") ≡ says (statements.Data widths.Byte (
    items.Once (pieces.Text (codes "a;"))
    ∷ items.Repeated (number 2 ∷ []) (pieces.Value (number 98 ∷ []) ∷ pieces.Value (number 3 ∷ []) ∷ [])
    ∷ items.Once (pieces.Value (number 4 ∷ []))
    ∷ []))
unfolding on_texts
texts = refl

a_bad_character_comes_first : read_line (codes "FROB 'a\r") ≡ Err BadCharacter
unfolding on_texts
a_bad_character_comes_first = refl

then_a_bad_word : read_line (codes "FROB 'a") ≡ Err BadLine
unfolding on_texts
then_a_bad_word = refl

then_an_unknown_statement : read_line (codes "FROB ]") ≡ Err UnknownName
unfolding on_texts
then_an_unknown_statement = refl
