-- The encoding table, line by line (8086 Family User's Manual, "Machine Instruction Encoding and Decoding", and for the
-- clocks "Instruction Set Reference Data"; the clocks are this board's own if the manual's depend on the bus). `row
-- OPERATION OPCODE OPERAND OPERAND CLOCKS`, and with a digit in reg `row/ OPERATION OPCODE DIGIT ..`. If two rows can
-- hold one instruction, the assembler takes the first.
-- To be believed: the headline rests on it.
use Rattle.std.specs.Prelude.{ℕ, ◌+◌, ◌*◌, List, [], ◌∷◌, ◌++◌, Some, None}
use Rattle.isa.specs.declared.operation.Operation.{Operation}
use Rattle.isa.specs.declared.operation.Operation.TheVariants.{Arithmetic, Shift, Product, Unary, Jump, Looping}
use Rattle.isa.specs.declared.operation.Operation.TheVariants.{Strings, Adjust, Transfer, Control, Processor}
use Rattle.isa.specs.declared.operation.Arithmetic.{Arithmetic as ArithmeticType}
use Rattle.isa.specs.declared.operation.Arithmetic.TheVariants.{Add, Or, Adc, Sbb, And, Sub, Xor, Cmp, Test}
use Rattle.isa.specs.declared.operation.Shift.{Shift as ShiftType}
use Rattle.isa.specs.declared.operation.Shift.TheVariants.{Rol, Ror, Rcl, Rcr, Shl, Shr, Sar}
use Rattle.isa.specs.declared.operation.Product.TheVariants.{Mul, Imul, Div, Idiv}
use Rattle.isa.specs.declared.operation.Unary.TheVariants.{Inc, Dec, Not, Neg}
use Rattle.isa.specs.declared.operation.JumpCondition.{JumpCondition}
use Rattle.isa.specs.declared.operation.JumpCondition.TheVariants.{Overflow, NotOverflow, Below, NotBelow, Zero}
use Rattle.isa.specs.declared.operation.JumpCondition.TheVariants.{NotZero, BelowOrZero, Above, Sign, NotSign, Parity}
use Rattle.isa.specs.declared.operation.JumpCondition.TheVariants.{NotParity, Less, NotLess, LessOrZero, Greater}
use Rattle.isa.specs.declared.operation.Looping.TheVariants.{Loopne, Loope, Loop, Jcxz}
use Rattle.isa.specs.declared.operation.Strings.TheVariants.{Movsb, Movsw, Cmpsb, Cmpsw, Stosb}
use Rattle.isa.specs.declared.operation.Strings.TheVariants.{Stosw, Lodsb, Lodsw, Scasb, Scasw}
use Rattle.isa.specs.declared.operation.Adjust.TheVariants.{Daa, Das, Aaa, Aas, Aam, Aad, Cbw, Cwd}
use Rattle.isa.specs.declared.operation.Transfer.TheVariants.{Mov, Xchg, Lea, Les, Lds, Push, Pop}
use Rattle.isa.specs.declared.operation.Transfer.TheVariants.{Pushf, Popf, Sahf, Lahf, Xlat, In, Out}
use Rattle.isa.specs.declared.operation.Control.TheVariants.{Jmp, Call, Ret, JmpFar, CallFar}
use Rattle.isa.specs.declared.operation.Control.TheVariants.{Retf, Int3, Int, Into, Iret}
use Rattle.isa.specs.declared.operation.Processor.TheVariants.{Hlt, Cmc, Clc, Stc, Cli, Sti, Cld, Std, Wait, Esc}
use Rattle.isa.specs.declared.row.Kind.{Kind}
use Rattle.isa.specs.declared.row.Kind.TheVariants.{Nothing, Al, Ax, Cl, Dx, One, Ten, Code8, Code16}
use Rattle.isa.specs.declared.row.Kind.TheVariants.{CodeSegment, CodeSegmentNotCs, EscNumber, Reg8}
use Rattle.isa.specs.declared.row.Kind.TheVariants.{Reg16, Segment, SegmentNotCs, Rm8, Rm16, Memory}
use Rattle.isa.specs.declared.row.Kind.TheVariants.{Imm8, Imm16, Signed8, Rel8, Rel16, At8, At16, Far}
use Rattle.isa.specs.declared.row.Clocks.{Clocks}
use Rattle.isa.specs.declared.row.Clocks.TheVariants.{Always, Place, Memory as InMemory, Counted, Taken, Repeated}
use Rattle.isa.specs.declared.row.Row.{Row}

abbrev pub row : Operation → ℕ → Kind → Kind → Clocks → Row
row operation opcode first second clocks = record {
  operation = operation;
  opcode = opcode;
  digit = None;
  first = first;
  second = second;
  clocks = clocks;
}

abbrev pub row/ : Operation → ℕ → ℕ → Kind → Kind → Clocks → Row
row/ operation opcode digit first second clocks =
    record (row operation opcode first second clocks) { digit = Some digit }

-- the families of operations, each operation with its number
abbrev pub arithmetics : (ArithmeticType → ℕ → Row) → List Row
arithmetics f = f Add 0 ∷ f Or 1 ∷ f Adc 2 ∷ f Sbb 3 ∷ f And 4 ∷ f Sub 5 ∷ f Xor 6 ∷ f Cmp 7 ∷ []

-- the arithmetic operations that extend an immediate byte by its sign
abbrev pub signed : (ArithmeticType → ℕ → Row) → List Row
signed f = f Add 0 ∷ f Adc 2 ∷ f Sbb 3 ∷ f Sub 5 ∷ f Cmp 7 ∷ []

abbrev pub shifts : (ShiftType → ℕ → Row) → List Row
shifts f = f Rol 0 ∷ f Ror 1 ∷ f Rcl 2 ∷ f Rcr 3 ∷ f Shl 4 ∷ f Shr 5 ∷ f Sar 7 ∷ []

abbrev pub conditions : (JumpCondition → ℕ → Row) → List Row
conditions f =
    f Overflow 0 ∷ f NotOverflow 1 ∷ f Below 2 ∷ f NotBelow 3 ∷ f Zero 4 ∷ f NotZero 5 ∷ f BelowOrZero 6
    ∷ f Above 7 ∷ f Sign 8 ∷ f NotSign 9 ∷ f Parity 10 ∷ f NotParity 11 ∷ f Less 12 ∷ f NotLess 13
    ∷ f LessOrZero 14 ∷ f Greater 15 ∷ []

-- the clocks with an immediate operand; CMP writes nothing back
abbrev pub with_immediate : ArithmeticType → Clocks
with_immediate Cmp = Place 4 10
with_immediate _ = Place 4 17

abbrev pub with_register : ArithmeticType → Clocks
with_register Cmp = Place 3 9
with_register _ = Place 3 16

unfoldable pub rows : List Row
rows =
    arithmetics (λ op k. row (Arithmetic op) (0x04 + 8 * k) Al Imm8 (Always 4))
    ++ (signed (λ op k. row/ (Arithmetic op) 0x83 k Rm16 Signed8 (with_immediate op))
    ++ (arithmetics (λ op k. row (Arithmetic op) (0x05 + 8 * k) Ax Imm16 (Always 4))
    ++ (arithmetics (λ op k. row/ (Arithmetic op) 0x80 k Rm8 Imm8 (with_immediate op))
    ++ (arithmetics (λ op k. row/ (Arithmetic op) 0x81 k Rm16 Imm16 (with_immediate op))
    ++ (arithmetics (λ op k. row (Arithmetic op) (0x00 + 8 * k) Rm8 Reg8 (with_register op))
    ++ (arithmetics (λ op k. row (Arithmetic op) (0x01 + 8 * k) Rm16 Reg16 (with_register op))
    ++ (arithmetics (λ op k. row (Arithmetic op) (0x02 + 8 * k) Reg8 Rm8 (Place 3 9))
    ++ (arithmetics (λ op k. row (Arithmetic op) (0x03 + 8 * k) Reg16 Rm16 (Place 3 9))
    ++ ((
    row (Transfer Push) 0x06 CodeSegment Nothing (Always 10) ∷
    row (Transfer Pop) 0x07 CodeSegmentNotCs Nothing (Always 8) ∷
    row (Adjust Daa) 0x27 Nothing Nothing (Always 4) ∷
    row (Adjust Das) 0x2F Nothing Nothing (Always 4) ∷
    row (Adjust Aaa) 0x37 Nothing Nothing (Always 4) ∷
    row (Adjust Aas) 0x3F Nothing Nothing (Always 4) ∷
    row (Unary Inc) 0x40 Code16 Nothing (Always 2) ∷
    row (Unary Dec) 0x48 Code16 Nothing (Always 2) ∷
    row (Transfer Push) 0x50 Code16 Nothing (Always 11) ∷
    row (Transfer Pop) 0x58 Code16 Nothing (Always 8) ∷ [])
    ++ (conditions (λ c k. row (Jump c) (0x70 + k) Rel8 Nothing (Taken 16 4))
    ++ ((
    row (Arithmetic Test) 0x84 Rm8 Reg8 (Place 3 9) ∷
    row (Arithmetic Test) 0x85 Rm16 Reg16 (Place 3 9) ∷
    row (Transfer Xchg) 0x90 Ax Code16 (Always 3) ∷
    row (Transfer Xchg) 0x86 Rm8 Reg8 (Place 4 17) ∷
    row (Transfer Xchg) 0x87 Rm16 Reg16 (Place 4 17) ∷
    row (Transfer Mov) 0xA0 Al At8 (Always 10) ∷
    row (Transfer Mov) 0xA1 Ax At16 (Always 10) ∷
    row (Transfer Mov) 0xA2 At8 Al (Always 10) ∷
    row (Transfer Mov) 0xA3 At16 Ax (Always 10) ∷
    row (Transfer Mov) 0xB0 Code8 Imm8 (Always 4) ∷
    row (Transfer Mov) 0xB8 Code16 Imm16 (Always 4) ∷
    row (Transfer Mov) 0x88 Rm8 Reg8 (Place 2 9) ∷
    row (Transfer Mov) 0x89 Rm16 Reg16 (Place 2 9) ∷
    row (Transfer Mov) 0x8A Reg8 Rm8 (Place 2 8) ∷
    row (Transfer Mov) 0x8B Reg16 Rm16 (Place 2 8) ∷
    row/ (Transfer Mov) 0xC6 0 Rm8 Imm8 (Place 4 10) ∷
    row/ (Transfer Mov) 0xC7 0 Rm16 Imm16 (Place 4 10) ∷
    row (Transfer Mov) 0x8C Rm16 Segment (Place 2 9) ∷
    row (Transfer Mov) 0x8E SegmentNotCs Rm16 (Place 2 8) ∷
    row (Transfer Lea) 0x8D Reg16 Memory (InMemory 2) ∷
    row (Transfer Les) 0xC4 Reg16 Memory (InMemory 16) ∷
    row (Transfer Lds) 0xC5 Reg16 Memory (InMemory 16) ∷
    row/ (Transfer Push) 0xFF 6 Rm16 Nothing (Place 11 16) ∷
    row/ (Transfer Pop) 0x8F 0 Rm16 Nothing (Place 8 17) ∷
    row (Adjust Cbw) 0x98 Nothing Nothing (Always 2) ∷
    row (Adjust Cwd) 0x99 Nothing Nothing (Always 5) ∷
    row (Processor Wait) 0x9B Nothing Nothing (Always 3) ∷
    row (Transfer Pushf) 0x9C Nothing Nothing (Always 10) ∷
    row (Transfer Popf) 0x9D Nothing Nothing (Always 8) ∷
    row (Transfer Sahf) 0x9E Nothing Nothing (Always 4) ∷
    row (Transfer Lahf) 0x9F Nothing Nothing (Always 4) ∷
    row (Strings Movsb) 0xA4 Nothing Nothing (Repeated 18 17) ∷
    row (Strings Movsw) 0xA5 Nothing Nothing (Repeated 18 17) ∷
    row (Strings Cmpsb) 0xA6 Nothing Nothing (Repeated 22 22) ∷
    row (Strings Cmpsw) 0xA7 Nothing Nothing (Repeated 22 22) ∷
    row (Strings Stosb) 0xAA Nothing Nothing (Repeated 11 10) ∷
    row (Strings Stosw) 0xAB Nothing Nothing (Repeated 11 10) ∷
    row (Strings Lodsb) 0xAC Nothing Nothing (Repeated 12 13) ∷
    row (Strings Lodsw) 0xAD Nothing Nothing (Repeated 12 13) ∷
    row (Strings Scasb) 0xAE Nothing Nothing (Repeated 15 15) ∷
    row (Strings Scasw) 0xAF Nothing Nothing (Repeated 15 15) ∷
    row (Arithmetic Test) 0xA8 Al Imm8 (Always 4) ∷
    row (Arithmetic Test) 0xA9 Ax Imm16 (Always 4) ∷
    row/ (Arithmetic Test) 0xF6 0 Rm8 Imm8 (Place 4 10) ∷
    row/ (Arithmetic Test) 0xF7 0 Rm16 Imm16 (Place 4 10) ∷
    row (Control Ret) 0xC2 Imm16 Nothing (Always 12) ∷
    row (Control Ret) 0xC3 Nothing Nothing (Always 8) ∷
    row (Control Retf) 0xCA Imm16 Nothing (Always 17) ∷
    row (Control Retf) 0xCB Nothing Nothing (Always 18) ∷
    row (Control Int3) 0xCC Nothing Nothing (Always 52) ∷
    row (Control Int) 0xCD Imm8 Nothing (Always 51) ∷
    row (Control Into) 0xCE Nothing Nothing (Taken 53 4) ∷
    row (Control Iret) 0xCF Nothing Nothing (Always 32) ∷ [])
    ++ (shifts (λ op k. row/ (Shift op) 0xD0 k Rm8 One (Place 2 15))
    ++ (shifts (λ op k. row/ (Shift op) 0xD1 k Rm16 One (Place 2 15))
    ++ (shifts (λ op k. row/ (Shift op) 0xD2 k Rm8 Cl (Counted 8 20))
    ++ (shifts (λ op k. row/ (Shift op) 0xD3 k Rm16 Cl (Counted 8 20))
    ++ ((
    row (Adjust Aam) 0xD4 Ten Nothing (Always 83) ∷
    row (Adjust Aad) 0xD5 Ten Nothing (Always 60) ∷
    row (Transfer Xlat) 0xD7 Nothing Nothing (Always 11) ∷
    row (Processor Esc) 0xD8 EscNumber Rm16 (Place 2 8) ∷
    row (Looping Loopne) 0xE0 Rel8 Nothing (Taken 19 5) ∷
    row (Looping Loope) 0xE1 Rel8 Nothing (Taken 18 6) ∷
    row (Looping Loop) 0xE2 Rel8 Nothing (Taken 17 5) ∷
    row (Looping Jcxz) 0xE3 Rel8 Nothing (Taken 18 6) ∷
    row (Transfer In) 0xE4 Al Imm8 (Always 10) ∷
    row (Transfer In) 0xE5 Ax Imm8 (Always 10) ∷
    row (Transfer In) 0xEC Al Dx (Always 8) ∷
    row (Transfer In) 0xED Ax Dx (Always 8) ∷
    row (Transfer Out) 0xE6 Imm8 Al (Always 10) ∷
    row (Transfer Out) 0xE7 Imm8 Ax (Always 10) ∷
    row (Transfer Out) 0xEE Dx Al (Always 8) ∷
    row (Transfer Out) 0xEF Dx Ax (Always 8) ∷
    row (Control Call) 0xE8 Rel16 Nothing (Always 19) ∷
    row (Control Jmp) 0xE9 Rel16 Nothing (Always 15) ∷
    row (Control Jmp) 0xEB Rel8 Nothing (Always 15) ∷
    row (Control CallFar) 0x9A Far Nothing (Always 28) ∷
    row (Control JmpFar) 0xEA Far Nothing (Always 15) ∷
    row (Processor Hlt) 0xF4 Nothing Nothing (Always 2) ∷
    row (Processor Cmc) 0xF5 Nothing Nothing (Always 2) ∷
    row (Processor Clc) 0xF8 Nothing Nothing (Always 2) ∷
    row (Processor Stc) 0xF9 Nothing Nothing (Always 2) ∷
    row (Processor Cli) 0xFA Nothing Nothing (Always 2) ∷
    row (Processor Sti) 0xFB Nothing Nothing (Always 2) ∷
    row (Processor Cld) 0xFC Nothing Nothing (Always 2) ∷
    row (Processor Std) 0xFD Nothing Nothing (Always 2) ∷
    row/ (Unary Not) 0xF6 2 Rm8 Nothing (Place 3 15) ∷
    row/ (Unary Neg) 0xF6 3 Rm8 Nothing (Place 3 15) ∷
    row/ (Unary Not) 0xF7 2 Rm16 Nothing (Place 3 15) ∷
    row/ (Unary Neg) 0xF7 3 Rm16 Nothing (Place 3 15) ∷
    row/ (Product Mul) 0xF6 4 Rm8 Nothing (Place 70 76) ∷
    row/ (Product Imul) 0xF6 5 Rm8 Nothing (Place 80 86) ∷
    row/ (Product Div) 0xF6 6 Rm8 Nothing (Place 80 86) ∷
    row/ (Product Idiv) 0xF6 7 Rm8 Nothing (Place 101 107) ∷
    row/ (Product Mul) 0xF7 4 Rm16 Nothing (Place 118 124) ∷
    row/ (Product Imul) 0xF7 5 Rm16 Nothing (Place 128 134) ∷
    row/ (Product Div) 0xF7 6 Rm16 Nothing (Place 144 150) ∷
    row/ (Product Idiv) 0xF7 7 Rm16 Nothing (Place 165 171) ∷
    row/ (Unary Inc) 0xFE 0 Rm8 Nothing (Place 3 15) ∷
    row/ (Unary Dec) 0xFE 1 Rm8 Nothing (Place 3 15) ∷
    row/ (Unary Inc) 0xFF 0 Rm16 Nothing (Place 3 15) ∷
    row/ (Unary Dec) 0xFF 1 Rm16 Nothing (Place 3 15) ∷
    row/ (Control Call) 0xFF 2 Rm16 Nothing (Place 16 21) ∷
    row/ (Control Jmp) 0xFF 4 Rm16 Nothing (Place 11 18) ∷
    row/ (Control CallFar) 0xFF 3 Memory Nothing (InMemory 37) ∷
    row/ (Control JmpFar) 0xFF 5 Memory Nothing (InMemory 24) ∷ [])
    -- rows that are decoded and never written
    ++ (arithmetics (λ op k. row/ (Arithmetic op) 0x82 k Rm8 Imm8 (with_immediate op))
    ++ (
    row/ (Arithmetic Or) 0x83 1 Rm16 Signed8 (with_immediate Or) ∷
    row/ (Arithmetic And) 0x83 4 Rm16 Signed8 (with_immediate And) ∷
    row/ (Arithmetic Xor) 0x83 6 Rm16 Signed8 (with_immediate Xor) ∷ []))))))))))))))))))
