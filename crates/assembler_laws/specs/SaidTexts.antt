-- What the text of an instruction says as a line of a source.
-- Laws: claims above the definitions, each proved as the contract of a function.
use Rattle.std.specs.Prelude.{ℕ, ◌≡◌, ◌+◌, ◌%◌, false, if◌then◌else◌, List, [], ◌∷◌, ◌++◌, Option, None, Some, Ok}
use Rattle.std.specs.Option.{option_map}
use Rattle.isa.specs.declared.operation.Operation.{Operation}
use Rattle.isa.specs.declared.operation.Operation.TheVariants.{Control}
use Rattle.isa.specs.declared.operation.Control.TheVariants.{Jmp, Call, JmpFar, CallFar}
use Rattle.isa.specs.declared.form.Form.{Form}
use Rattle.isa.specs.declared.form.Values.{Values}
use Rattle.isa.specs.declared.form.Instr.{Instr}
use Rattle.isa.specs.Row.{first_of, operation_of, second_of}
use Rattle.isa.specs.Encoding.{instr_length, IsInstr}
use Rattle.dialect.specs.declared.keyword.Keyword.{Keyword}
use Rattle.dialect.specs.declared.keyword.Keyword.TheVariants as keywords
use Rattle.dialect.specs.declared.mnemonic.Mnemonic.{Mnemonic}
use Rattle.dialect.specs.declared.mnemonic.Mnemonic.TheVariants as mnemonics
use Rattle.dialect.specs.declared.size.Size.{Size}
use Rattle.dialect.specs.declared.size.Size.TheVariants as sizes
use Rattle.disassembler.specs.declared.written.Memory.{Memory as WrittenMemory}
use Rattle.disassembler.specs.declared.written.Written.{Written}
use Rattle.disassembler.specs.declared.written.Written.TheVariants.{Nothing, Register, One, Byte}
use Rattle.disassembler.specs.declared.written.Written.TheVariants.{Word, Short, Far, Memory}
use Rattle.disassembler.specs.Text.{instr_text, is_nop}
use Rattle.disassembler.specs.Written.{written_operand}
use Rattle.assembler_syntax.specs.declared.expression.Atom.TheVariants.{Number}
use Rattle.assembler_syntax.specs.declared.expression.Term.{Term}
use Rattle.assembler_syntax.specs.declared.operand.Address.{Address}
use Rattle.assembler_syntax.specs.declared.operand.Operand.{Operand}
use Rattle.assembler_syntax.specs.declared.operand.Operand.TheVariants as operands
use Rattle.assembler_syntax.specs.declared.statement.Instruction.{Instruction as InstructionType}
use Rattle.assembler_syntax.specs.declared.statement.Statement.TheVariants.{Instruction}
use Rattle.assembler_syntax.specs.declared.statement.Line.{Line}
use Rattle.assembler_syntax.specs.Lines.{read_line}

-- an expression that is one number
abbrev pub number : ℕ → List Term
number n = record { is_negative = false; atom = Number n } ∷ []

abbrev pub said_size : Option Keyword → Option Size
said_size (Some keywords.Byte) = Some sizes.Byte
said_size (Some keywords.Word) = Some sizes.Word
said_size (Some keywords.Far) = Some sizes.Far
said_size _ = None

-- an operand in memory as a text says it, without its override, which is among the prefixes
abbrev pub said_address : WrittenMemory → Address
said_address m = record {
  size = said_size m.size;
  segment = None;
  base = m.base;
  displacement = option_map number m.displacement;
}

abbrev pub said_operand : Written → List Operand
said_operand Nothing = []
said_operand (Register register) = operands.Register register ∷ []
said_operand One = operands.One ∷ []
said_operand (Byte n) = operands.Value (number n) ∷ []
said_operand (Word n) = operands.Value (number n) ∷ []
said_operand (Short target) = operands.Short (number target) ∷ []
said_operand (Far segment offset) = operands.FarPointer (number segment) (number offset) ∷ []
said_operand (Memory memory) = operands.Memory (said_address memory) ∷ []

-- the operands that a text says; without a first one there is no second
abbrev pub said_operands : Written → Written → List Operand
said_operands Nothing second = []
said_operands first second = said_operand first ++ said_operand second

abbrev pub said_mnemonic : Operation → Mnemonic
said_mnemonic (Control Jmp) = mnemonics.Jmp
said_mnemonic (Control JmpFar) = mnemonics.Jmp
said_mnemonic (Control Call) = mnemonics.Call
said_mnemonic (Control CallFar) = mnemonics.Call
said_mnemonic operation = mnemonics.Plain operation

-- what is written for the first operand of a form
abbrev pub first_written : Form → Values → ℕ → Written
first_written f v next = written_operand f v next (first_of f.row) (second_of f.row)

abbrev pub second_written : Form → Values → ℕ → Written
second_written f v next = written_operand f v next (second_of f.row) (first_of f.row)

abbrev pub next_of : Instr → ℕ → ℕ
next_of i ip = (ip + instr_length i) % 65536

-- the mnemonic that a form's text says
abbrev pub mnemonic_in : Form → Mnemonic
mnemonic_in f = if is_nop f then mnemonics.Nop else said_mnemonic (operation_of f.row)

-- the operands that a form's text says: NOP has none
abbrev pub operands_in : Form → Values → ℕ → List Operand
operands_in f v next =
    if is_nop f then [] else said_operands (first_written f v next) (second_written f v next)

-- the instruction that the text of an instruction at the offset `ip` says
abbrev pub said_instruction : Instr → ℕ → InstructionType
said_instruction i ip = record {
  prefixes = i.prefixes.items;
  mnemonic = mnemonic_in i.form;
  operands = operands_in i.form i.values (next_of i ip);
}

abbrev pub said_line : Instr → ℕ → Line
said_line i ip = record { label = None; statement = Instruction (said_instruction i ip) }

-- the text of each instruction of the table is read as its prefixes in their order, a mnemonic of its operation, and
-- what is written for its operands
abbrev pub TextsAreRead : Type 0
TextsAreRead = (i : Instr) (ip : ℕ) → IsInstr i → read_line (instr_text i ip) ≡ Ok (said_line i ip)
