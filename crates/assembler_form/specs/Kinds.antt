-- What an operand is, and what a row of an operation has by each kind, in the code's own steps.
-- For proofs alone: no public contract rests on it.
use Rattle.std.specs.Prelude.{pos, negsuc, Bool, true, false, ◌&&◌, ◌||◌, Option, Some, None}
use Rattle.isa.specs.declared.operation.Operation.{Operation}
use Rattle.isa.specs.declared.operation.Operation.TheVariants.{Control}
use Rattle.isa.specs.declared.operation.Control.TheVariants.{Jmp}
use Rattle.isa.specs.declared.register.ByteRegister.TheVariants as byte_registers
use Rattle.isa.specs.declared.register.WordRegister.TheVariants as word_registers
use Rattle.isa.specs.declared.register.SegmentRegister.TheVariants.{Cs}
use Rattle.isa.specs.declared.form.Base.{Base}
use Rattle.isa.specs.declared.row.Kind.{Kind}
use Rattle.isa.specs.declared.row.Kind.TheVariants as kinds
use Rattle.dialect.specs.declared.register.Register.TheVariants.{Byte, Word, Segment}
use Rattle.assembler_form.specs.declared.operand.KnownOperand.{KnownOperand}
use Rattle.assembler_form.specs.declared.operand.KnownOperand.TheVariants.{Nothing, Register, One, Short, Far, Memory}
use Rattle.assembler_form.specs.Asked.{is_far_size}
use Rattle.assembler_form.specs.Takes.{is_constant_within, is_byte_size, is_word_size, is_number}

-- no operand
abbrev pub is_nothing : KnownOperand → Bool
is_nothing Nothing = true
is_nothing _ = false

abbrev pub is_al : KnownOperand → Bool
is_al (Register (Byte byte_registers.Al)) = true
is_al _ = false

abbrev pub is_cl : KnownOperand → Bool
is_cl (Register (Byte byte_registers.Cl)) = true
is_cl _ = false

abbrev pub is_ax : KnownOperand → Bool
is_ax (Register (Word word_registers.Ax)) = true
is_ax _ = false

abbrev pub is_dx : KnownOperand → Bool
is_dx (Register (Word word_registers.Dx)) = true
is_dx _ = false

abbrev pub is_byte_register : KnownOperand → Bool
is_byte_register (Register (Byte _)) = true
is_byte_register _ = false

abbrev pub is_word_register : KnownOperand → Bool
is_word_register (Register (Word _)) = true
is_word_register _ = false

abbrev pub is_segment_register : KnownOperand → Bool
is_segment_register (Register (Segment _)) = true
is_segment_register _ = false

abbrev pub is_segment_not_cs : KnownOperand → Bool
is_segment_not_cs (Register (Segment Cs)) = false
is_segment_not_cs (Register (Segment _)) = true
is_segment_not_cs _ = false

abbrev pub is_one : KnownOperand → Bool
is_one One = true
is_one _ = false

abbrev pub is_short : KnownOperand → Bool
is_short Short = true
is_short _ = false

abbrev pub is_far_target : KnownOperand → Bool
is_far_target Far = true
is_far_target _ = false

abbrev pub is_byte_memory : KnownOperand → Bool
is_byte_memory (Memory m) = is_byte_size m.size
is_byte_memory _ = false

abbrev pub is_word_memory : KnownOperand → Bool
is_word_memory (Memory m) = is_word_size m.size
is_word_memory _ = false

abbrev pub is_far_memory : KnownOperand → Bool
is_far_memory (Memory m) = is_far_size m.size
is_far_memory _ = false

abbrev pub is_no_base : Option Base → Bool
is_no_base None = true
is_no_base (Some _) = false

-- an operand in memory at an offset alone
abbrev pub is_direct : KnownOperand → Bool
is_direct (Memory m) = is_no_base m.base
is_direct _ = false

-- an operand in memory that may be a pointer: a far jump or call goes through an offset and a segment; LEA, LES and LDS
-- name a word
abbrev pub is_pointer : Operation → KnownOperand → Bool
is_pointer (Control _) operand = is_far_memory operand
is_pointer _ operand = is_word_memory operand

-- the target of a short jump: JMP must say SHORT, since its near form would be taken otherwise, and no other jump says
-- it
abbrev pub is_near : Operation → KnownOperand → Bool
is_near (Control Jmp) operand = is_short operand
is_near _ operand = is_number operand

-- whether an operand is of a kind, in a row of the operation
abbrev pub is_of : Operation → Kind → KnownOperand → Bool
is_of _ kinds.Nothing operand = is_nothing operand
is_of _ kinds.Ten operand = is_nothing operand
is_of _ kinds.Al operand = is_al operand
is_of _ kinds.Ax operand = is_ax operand
is_of _ kinds.Cl operand = is_cl operand
is_of _ kinds.Dx operand = is_dx operand
is_of _ kinds.One operand = is_one operand
is_of _ kinds.Code8 operand = is_byte_register operand
is_of _ kinds.Code16 operand = is_word_register operand
is_of _ kinds.CodeSegment operand = is_segment_register operand
is_of _ kinds.CodeSegmentNotCs operand = is_segment_not_cs operand
is_of _ kinds.EscNumber operand = is_constant_within (pos 0) (pos 63) operand
is_of _ kinds.Reg8 operand = is_byte_register operand
is_of _ kinds.Reg16 operand = is_word_register operand
is_of _ kinds.Segment operand = is_segment_register operand
is_of _ kinds.SegmentNotCs operand = is_segment_not_cs operand
is_of _ kinds.Rm8 operand = is_byte_register operand || is_byte_memory operand
is_of _ kinds.Rm16 operand = is_word_register operand || is_word_memory operand
is_of operation kinds.Memory operand = is_pointer operation operand
is_of _ kinds.Imm8 operand = is_number operand
is_of _ kinds.Imm16 operand = is_number operand
is_of _ kinds.Signed8 operand = is_constant_within (negsuc 127) (pos 127) operand
is_of operation kinds.Rel8 operand = is_near operation operand
is_of _ kinds.Rel16 operand = is_number operand
is_of _ kinds.At8 operand = is_direct operand && is_byte_memory operand
is_of _ kinds.At16 operand = is_direct operand && is_word_memory operand
is_of _ kinds.Far operand = is_far_target operand
