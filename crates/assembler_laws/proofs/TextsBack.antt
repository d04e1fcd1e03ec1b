-- What the assembler makes of the text of an instruction is decoded as the same.
use Rattle.std.proofs.Common.{◌≡◌, ◌∙◌, ℕ, sym, ap, subst, Some, Result, Ok}
use Rattle.isa.specs.declared.form.Form.{Form}
use Rattle.isa.specs.declared.form.Instr.{Instr}
use Rattle.isa.specs.Encoding.{IsInstr}
use Rattle.board_types.specs.TextLines.{text_lines}
use Rattle.decode.specs.declared.decoding.Decoding.TheVariants.{Found}
use Rattle.decode.specs.Decoding.{code_at, decoded_from}
use Rattle.disassembler.specs.Text.{instr_text}
use Rattle.assembler_lexeme.specs.declared.fault.SyntaxFault.{SyntaxFault}
use Rattle.assembler_syntax.specs.declared.statement.Instruction.{Instruction as Written}
use Rattle.assembler_syntax.specs.declared.statement.Line.{Line}
use Rattle.assembler_syntax.specs.declared.statement.Statement.{Statement}
use Rattle.assembler_syntax.specs.declared.statement.Statement.TheVariants.{Instruction}
use Rattle.assembler_syntax.specs.Lines.{read_line}
use Rattle.assembler_meaning.specs.declared.symbol.Location.{Location}
use Rattle.assembler_meaning.specs.Instructions.{instruction_size}
use Rattle.assembler_meaning.specs.Values.{Names}
use Rattle.assembler.specs.Placement.{fields_of}
use Rattle.assembler.specs.LocatedLines.{LocatedLine, names_of, IsFormOf}
use Rattle.assembler_laws.specs.DecodingBack.{instr_of, DecodesBack}
use Rattle.assembler_laws.specs.SaidTexts.{said_instruction, said_line, TextsAreRead}
use Rattle.assembler_laws.specs.TextsBack.{DecodesTheSame, TextsDecodeTheSame}
use Rattle.assembler_laws.proofs.CleanRows.{clean_there, has_place, HasPlace, IsClean}
use Rattle.assembler_laws.proofs.DecodedBack.{bytes_decode_back}
use Rattle.assembler_laws.proofs.TextForms.{texts_mean_the_same}

same_line : (r : Result Line SyntaxFault) (k l : Line) → r ≡ Ok k → r ≡ Ok l → k ≡ l
same_line r k l one other = cc

same_form : (f g : Form) → Some f ≡ Some g → f ≡ g
same_form f g is = cc

same_place : (a b : Location) → Some a ≡ Some b → a ≡ b
same_place a b is = cc

row_back : (byte : ℕ → ℕ) (names : Names) (row : LocatedLine) (location : Location) (i : Instr) → IsInstr i → row.location ≡ Some location
    → row.line.statement ≡ Instruction (said_instruction i location.offset) → IsClean row → DecodesBack byte names row (said_instruction i location.offset)
    → DecodesTheSame byte location row.size i
row_back byte names row location i is stands statement clean back =
    let said : Written = said_instruction i location.offset in
    let known : Names = names_of clean.before in
    let has : HasPlace row said = has_place row said statement clean in
    let form : has.form ≡ back.form = same_form has.form back.form (sym has.has_form ∙ back.has_form) in
    let place : back.location ≡ location = same_place back.location location (sym back.has_place ∙ stands) in
    let size : row.size ≡ instruction_size back.form said = has.size ∙ ap (λ (f : Form). instruction_size f said) form in
    let formed : IsFormOf known (Instruction said) (Some back.form) =
    subst (IsFormOf known (Instruction said)) back.has_form (subst (λ (s : Statement). IsFormOf known s row.form) statement clean.clean.is_located_line.form) in
    let fields : fields_of names location (instruction_size back.form said) back.form said ≡ Some back.numbers =
    subst (λ (n : ℕ). fields_of names location n back.form said ≡ Some back.numbers) size
    (subst (λ (l : Location). fields_of names l row.size back.form said ≡ Some back.numbers) place back.has_numbers) in
    record {
      again = instr_of back.form said back.numbers;
      decodes =
          subst (λ (l : Location). decoded_from (code_at byte l.segment l.offset) ≡ Found (instr_of back.form said back.numbers) row.size) place back.decodes;
      same = texts_mean_the_same known names location i back.form back.numbers is formed fields;
    }

pub texts_decode_the_same : TextsAreRead → TextsDecodeTheSame
texts_decode_the_same read source image gives byte loaded row location i within is stands reads =
    let line : row.line ≡ said_line i location.offset =
    same_line (read_line (instr_text i location.offset)) row.line (said_line i location.offset) reads (read i location.offset is) in
    let statement : row.line.statement ≡ Instruction (said_instruction i location.offset) = ap (λ (l : Line). l.statement) line in
    row_back byte (names_of gives.located_lines) row location i is stands statement
    (clean_there (text_lines source) gives.located_lines row gives.are_located_lines within)
    (bytes_decode_back source image gives byte loaded row (said_instruction i location.offset) within statement)
