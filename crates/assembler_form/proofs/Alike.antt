-- What an operand is by each kind, in the code's steps and by the table of kinds and operands.
use Rattle.std.proofs.Common.{◌≡◌, Bool, ◌&&◌, Option, Some, None, refl, sym, ap, ◌∙◌}
use Rattle.std.specs.Prelude.{IsTrue, is_none}
use Rattle.isa.specs.declared.operation.Operation.{Operation}
use Rattle.isa.specs.declared.operation.Operation.TheVariants as operations
use Rattle.isa.specs.declared.operation.Control.TheVariants.{Jmp}
use Rattle.isa.specs.declared.register.ByteRegister.TheVariants as byte_registers
use Rattle.isa.specs.declared.register.WordRegister.TheVariants as word_registers
use Rattle.isa.specs.declared.register.SegmentRegister.TheVariants.{Cs}
use Rattle.isa.specs.declared.form.Base.{Base}
use Rattle.isa.specs.declared.row.Kind.{Kind}
use Rattle.isa.specs.declared.row.Kind.TheVariants as kinds
use Rattle.dialect.specs.declared.register.Register.TheVariants.{Byte, Word, Segment}
use Rattle.assembler_form.specs.declared.operand.KnownOperand.{KnownOperand}
use Rattle.assembler_form.specs.declared.operand.KnownOperand.TheVariants.{Register, Short, Memory}
use Rattle.assembler_form.specs.Kinds as by_kind
use Rattle.assembler_form.specs.Takes.{is_byte_size, is_near, is_of, is_word_size}

near_alike : (o : Operation) (x : KnownOperand) → by_kind.is_near o x ≡ is_near o x
near_alike (operations.Control Jmp) Short = refl
near_alike (operations.Control Jmp) _ = refl
near_alike _ x = refl

pointer_alike : (o : Operation) (x : KnownOperand) → by_kind.is_pointer o x ≡ is_of o kinds.Memory x
pointer_alike (operations.Control _) (Memory m) = refl
pointer_alike (operations.Control _) _ = refl
pointer_alike _ (Memory m) = refl
pointer_alike _ _ = refl

none_alike : (b : Option Base) → by_kind.is_no_base b ≡ is_none b
none_alike None = refl
none_alike (Some b) = refl

pub alike : (o : Operation) (k : Kind) (x : KnownOperand) → by_kind.is_of o k x ≡ is_of o k x
alike o kinds.Memory x = pointer_alike o x
alike o kinds.Rel8 x = near_alike o x
alike o kinds.Imm8 x = refl
alike o kinds.Imm16 x = refl
alike o kinds.Rel16 x = refl
alike o kinds.Signed8 x = refl
alike o kinds.EscNumber x = refl
alike o kinds.Al (Register (Byte byte_registers.Al)) = refl
alike o kinds.Al _ = refl
alike o kinds.Cl (Register (Byte byte_registers.Cl)) = refl
alike o kinds.Cl _ = refl
alike o kinds.Ax (Register (Word word_registers.Ax)) = refl
alike o kinds.Ax _ = refl
alike o kinds.Dx (Register (Word word_registers.Dx)) = refl
alike o kinds.Dx _ = refl
alike o kinds.CodeSegmentNotCs (Register (Segment Cs)) = refl
alike o kinds.CodeSegmentNotCs (Register (Segment _)) = refl
alike o kinds.CodeSegmentNotCs _ = refl
alike o kinds.SegmentNotCs (Register (Segment Cs)) = refl
alike o kinds.SegmentNotCs (Register (Segment _)) = refl
alike o kinds.SegmentNotCs _ = refl
alike o _ (Register (Byte _)) = refl
alike o _ (Register (Word _)) = refl
alike o _ (Register (Segment _)) = refl
alike o kinds.At8 (Memory m) = ap (λ (b : Bool). b && is_byte_size m.size) (none_alike m.base)
alike o kinds.At16 (Memory m) = ap (λ (b : Bool). b && is_word_size m.size) (none_alike m.base)
alike o _ _ = refl

-- what a row of the table takes, and what the code's steps say of it
pub in_steps : (o : Operation) (k : Kind) (x : KnownOperand) → IsTrue (is_of o k x) → IsTrue (by_kind.is_of o k x)
in_steps o k x e = alike o k x ∙ e

pub from_steps : (o : Operation) (k : Kind) (x : KnownOperand) → IsTrue (by_kind.is_of o k x) → IsTrue (is_of o k x)
from_steps o k x e = sym (alike o k x) ∙ e
