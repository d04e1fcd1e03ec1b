-- What mnemonics stand for (8086 Family User's Manual, "Instruction Set"; that JMP, CALL and NOP stand for several rows
-- is every assembler's custom).
-- To be believed: the headline rests on it.
use Rattle.std.specs.Prelude.{Option, Some, None}
use Rattle.isa.specs.declared.operation.Operation.{Operation}
use Rattle.isa.specs.declared.operation.Operation.TheVariants.{Transfer, Control}
use Rattle.isa.specs.declared.operation.Transfer.TheVariants.{Xchg}
use Rattle.isa.specs.declared.operation.Control.TheVariants.{Jmp, Call, JmpFar, CallFar}
use Rattle.dialect.specs.declared.mnemonic.Mnemonic.{Mnemonic}
use Rattle.dialect.specs.declared.mnemonic.Mnemonic.TheVariants as mnemonics

-- the operation that a mnemonic stands for: JMP and CALL for the one within the segment, NOP for XCHG
abbrev pub near_operation : Mnemonic → Operation
near_operation (mnemonics.Plain operation) = operation
near_operation mnemonics.Jmp = Control Jmp
near_operation mnemonics.Call = Control Call
near_operation mnemonics.Nop = Transfer Xchg

-- the operation of JMP and CALL that leaves the segment; other mnemonics have none
abbrev pub far_operation : Mnemonic → Option Operation
far_operation (mnemonics.Plain operation) = None
far_operation mnemonics.Jmp = Some (Control JmpFar)
far_operation mnemonics.Call = Some (Control CallFar)
far_operation mnemonics.Nop = None
