-- What a line asks of the encoding table: an operation, and operands in the table's order, each place in memory with
-- its size (8086 Family User's Manual, "Instruction Set"; the order and the sizes are this board's assembler dialect).
-- To be believed: the headline rests on it.
use Rattle.std.specs.Prelude.{Bool, true, false, if◌then◌else◌, Option, Some, None, unwrap_or}
use Rattle.isa.specs.declared.operation.Operation.{Operation}
use Rattle.isa.specs.declared.operation.Operation.TheVariants.{Arithmetic, Shift, Transfer, Control}
use Rattle.isa.specs.declared.operation.Arithmetic.TheVariants.{Test}
use Rattle.isa.specs.declared.operation.Transfer.TheVariants.{Xchg, Push, Pop}
use Rattle.isa.specs.declared.operation.Control.TheVariants.{Jmp, Call}
use Rattle.isa.specs.declared.register.WordRegister.TheVariants.{Ax}
use Rattle.dialect.specs.declared.mnemonic.Mnemonic.{Mnemonic}
use Rattle.dialect.specs.declared.mnemonic.Mnemonic.TheVariants.{Nop}
use Rattle.dialect.specs.declared.register.Register.TheVariants.{Byte, Word, Segment}
use Rattle.dialect.specs.Mnemonics.{far_operation, near_operation}
use Rattle.dialect.specs.declared.size.Size.{Size}
use Rattle.dialect.specs.declared.size.Size.TheVariants as sizes
use Rattle.assembler_form.specs.declared.operand.KnownMemory.{KnownMemory}
use Rattle.assembler_form.specs.declared.operand.KnownOperand.{KnownOperand}
use Rattle.assembler_form.specs.declared.operand.KnownOperand.TheVariants.{Nothing, Register, Far, Memory}
use Rattle.assembler_form.specs.declared.asked.Asked.{Asked}

-- the size of memory that holds a far target
abbrev pub is_far_size : Option Size → Bool
is_far_size (Some sizes.Far) = true
is_far_size _ = false

-- a far target, or memory that holds one
abbrev pub is_far : KnownOperand → Bool
is_far Far = true
is_far (Memory m) = is_far_size m.size
is_far _ = false

-- the operation that a mnemonic means with this first operand: JMP and CALL leave the segment if it is far
abbrev pub operation_meant : Mnemonic → KnownOperand → Operation
operation_meant mnemonic first =
    if is_far first then unwrap_or (far_operation mnemonic) (near_operation mnemonic) else near_operation mnemonic

-- An operand as the table has it. NOP is XCHG AX,AX, and its operands aren't written: with a written one it has too few
-- for any row of XCHG.
abbrev pub operand_meant : Mnemonic → KnownOperand → KnownOperand
operand_meant Nop Nothing = Register (Word Ax)
operand_meant Nop _ = Nothing
operand_meant _ operand = operand

-- an operand in memory
abbrev pub is_memory : KnownOperand → Bool
is_memory (Memory _) = true
is_memory _ = false

abbrev pub is_register_and_ax : KnownOperand → KnownOperand → Bool
is_register_and_ax (Register (Word _)) (Register (Word Ax)) = true
is_register_and_ax _ _ = false

-- whether the table has the operands in the other order: in TEST and XCHG memory comes first, and in XCHG AX comes
-- before another word register
abbrev pub is_exchanged : Operation → KnownOperand → KnownOperand → Bool
is_exchanged (Arithmetic Test) first second = is_memory second
is_exchanged (Transfer Xchg) first second = if is_memory second then true else is_register_and_ax first second
is_exchanged _ first second = false

-- the size that a register gives to memory beside it
abbrev pub register_size : KnownOperand → Option Size
register_size (Register (Byte _)) = Some sizes.Byte
register_size (Register (Word _)) = Some sizes.Word
register_size (Register (Segment _)) = Some sizes.Word
register_size _ = None

-- The size of memory without a size word: that of the register beside it, but a shift's count gives none; PUSH, POP,
-- and jumps and calls through memory take a word.
abbrev pub size_beside : Operation → KnownOperand → Option Size
size_beside (Shift _) other = None
size_beside (Transfer Push) other = Some sizes.Word
size_beside (Transfer Pop) other = Some sizes.Word
size_beside (Control Jmp) other = Some sizes.Word
size_beside (Control Call) other = Some sizes.Word
size_beside _ other = register_size other

abbrev pub size_or : Option Size → Option Size → Option Size
size_or None size = size
size_or (Some written) _ = Some written

abbrev pub with_size : KnownMemory → Option Size → KnownMemory
with_size m size = record m { size = size_or m.size size }

abbrev pub sized : Operation → KnownOperand → KnownOperand → KnownOperand
sized operation (Memory m) other = Memory (with_size m (size_beside operation other))
sized _ operand _ = operand

abbrev pub asked_in_order : Operation → KnownOperand → KnownOperand → Asked
asked_in_order operation first second = record {
  operation = operation;
  first = sized operation first second;
  second = sized operation second first;
}

-- what a line asks with an operation and its operands
abbrev pub asked_of : Operation → KnownOperand → KnownOperand → Asked
asked_of operation first second =
    if is_exchanged operation first second then asked_in_order operation second first else
    asked_in_order operation first second

unfoldable pub asked : Mnemonic → KnownOperand → KnownOperand → Asked
asked mnemonic first second =
    asked_of (operation_meant mnemonic first) (operand_meant mnemonic first) (operand_meant mnemonic second)
