-- The laws of the words, computed on each word.
use Rattle.std.proofs.Common.{◌≡◌, ℕ, List, Some, inl, inr, refl}
use Rattle.isa.specs.declared.operation.Operation.{Operation}
use Rattle.isa.specs.declared.operation.Operation.TheVariants.{Arithmetic, Shift, Product, Unary, Jump, Looping, Strings, Adjust, Transfer, Control, Processor}
use Rattle.isa.specs.declared.operation.Arithmetic.{Arithmetic as ArithmeticType}
use Rattle.isa.specs.declared.operation.Shift.{Shift as ShiftType}
use Rattle.isa.specs.declared.operation.Product.{Product as ProductType}
use Rattle.isa.specs.declared.operation.Unary.{Unary as UnaryType}
use Rattle.isa.specs.declared.operation.JumpCondition.{JumpCondition}
use Rattle.isa.specs.declared.operation.Looping.{Looping as LoopingType}
use Rattle.isa.specs.declared.operation.Strings.{Strings as StringsType}
use Rattle.isa.specs.declared.operation.Adjust.{Adjust as AdjustType}
use Rattle.isa.specs.declared.operation.Transfer.{Transfer as TransferType}
use Rattle.isa.specs.declared.operation.Control.{Control as ControlType}
use Rattle.isa.specs.declared.operation.Processor.{Processor as ProcessorType}
use Rattle.isa.specs.declared.operation.Arithmetic.TheVariants.{Add, Or, Adc, Sbb, And, Sub, Xor, Cmp, Test}
use Rattle.isa.specs.declared.operation.Shift.TheVariants.{Rol, Ror, Rcl, Rcr, Shl, Shr, Sar}
use Rattle.isa.specs.declared.operation.Product.TheVariants.{Mul, Imul, Div, Idiv}
use Rattle.isa.specs.declared.operation.Unary.TheVariants.{Inc, Dec, Not, Neg}
use Rattle.isa.specs.declared.operation.JumpCondition.TheVariants.{Overflow, NotOverflow, Below, NotBelow, Zero, NotZero, BelowOrZero, Above}
use Rattle.isa.specs.declared.operation.JumpCondition.TheVariants.{Sign, NotSign, Parity, NotParity, Less, NotLess, LessOrZero, Greater}
use Rattle.isa.specs.declared.operation.Looping.TheVariants.{Loopne, Loope, Loop, Jcxz}
use Rattle.isa.specs.declared.operation.Strings.TheVariants.{Movsb, Movsw, Cmpsb, Cmpsw, Stosb, Stosw, Lodsb, Lodsw, Scasb, Scasw}
use Rattle.isa.specs.declared.operation.Adjust.TheVariants.{Daa, Das, Aaa, Aas, Aam, Aad, Cbw, Cwd}
use Rattle.isa.specs.declared.operation.Transfer.TheVariants.{Mov, Xchg, Lea, Les, Lds, Push, Pop, Pushf, Popf, Sahf, Lahf, Xlat, In, Out}
use Rattle.isa.specs.declared.operation.Control.TheVariants.{Jmp, Call, Ret, JmpFar, CallFar, Retf, Int3, Int, Into, Iret}
use Rattle.isa.specs.declared.operation.Processor.TheVariants.{Hlt, Cmc, Clc, Stc, Cli, Sti, Cld, Std, Wait, Esc}
use Rattle.isa.specs.declared.register.ByteRegister.TheVariants.{Al, Cl, Dl, Bl, Ah, Ch, Dh, Bh}
use Rattle.isa.specs.declared.register.WordRegister.TheVariants.{Ax, Cx, Dx, Bx, Sp, Bp, Si, Di}
use Rattle.isa.specs.declared.register.SegmentRegister.TheVariants.{Es, Cs, Ss, Ds}
use Rattle.isa.specs.declared.form.Prefix.TheVariants as prefixes
use Rattle.isa.specs.declared.form.Repeat.TheVariants.{Repne, Rep}
use Rattle.dialect.specs.declared.mnemonic.Mnemonic.{Mnemonic}
use Rattle.dialect.specs.declared.mnemonic.Mnemonic.TheVariants as mnemonics
use Rattle.dialect.specs.declared.register.Register.TheVariants as registers
use Rattle.dialect.specs.declared.keyword.Keyword.TheVariants as keywords
use Rattle.dialect.specs.declared.meaning.Meaning.TheVariants as meanings
use Rattle.dialect.specs.Words.{words, spells, meaning_of}
use Rattle.dialect.specs.Names.{operation_name}
use Rattle.dialect.specs.DialectLaws.{OperationsAreRead, RegistersAreRead, PrefixesAreRead, KeywordsAreRead, StandsFor}

abbrev Plain : List ℕ → Operation → Type 0
Plain name operation = meaning_of name ≡ Some (meanings.Mnemonic (mnemonics.Plain operation))

arithmetic_read : (x : ArithmeticType) → Plain (operation_name (Arithmetic x)) (Arithmetic x)
unfolding words meaning_of spells
arithmetic_read Add = refl
arithmetic_read Or = refl
arithmetic_read Adc = refl
arithmetic_read Sbb = refl
arithmetic_read And = refl
arithmetic_read Sub = refl
arithmetic_read Xor = refl
arithmetic_read Cmp = refl
arithmetic_read Test = refl

shift_read : (x : ShiftType) → Plain (operation_name (Shift x)) (Shift x)
unfolding words meaning_of spells
shift_read Rol = refl
shift_read Ror = refl
shift_read Rcl = refl
shift_read Rcr = refl
shift_read Shl = refl
shift_read Shr = refl
shift_read Sar = refl

product_read : (x : ProductType) → Plain (operation_name (Product x)) (Product x)
unfolding words meaning_of spells
product_read Mul = refl
product_read Imul = refl
product_read Div = refl
product_read Idiv = refl

unary_read : (x : UnaryType) → Plain (operation_name (Unary x)) (Unary x)
unfolding words meaning_of spells
unary_read Inc = refl
unary_read Dec = refl
unary_read Not = refl
unary_read Neg = refl

jump_read : (x : JumpCondition) → Plain (operation_name (Jump x)) (Jump x)
unfolding words meaning_of spells
jump_read Overflow = refl
jump_read NotOverflow = refl
jump_read Below = refl
jump_read NotBelow = refl
jump_read Zero = refl
jump_read NotZero = refl
jump_read BelowOrZero = refl
jump_read Above = refl
jump_read Sign = refl
jump_read NotSign = refl
jump_read Parity = refl
jump_read NotParity = refl
jump_read Less = refl
jump_read NotLess = refl
jump_read LessOrZero = refl
jump_read Greater = refl

looping_read : (x : LoopingType) → Plain (operation_name (Looping x)) (Looping x)
unfolding words meaning_of spells
looping_read Loopne = refl
looping_read Loope = refl
looping_read Loop = refl
looping_read Jcxz = refl

strings_read : (x : StringsType) → Plain (operation_name (Strings x)) (Strings x)
unfolding words meaning_of spells
strings_read Movsb = refl
strings_read Movsw = refl
strings_read Cmpsb = refl
strings_read Cmpsw = refl
strings_read Stosb = refl
strings_read Stosw = refl
strings_read Lodsb = refl
strings_read Lodsw = refl
strings_read Scasb = refl
strings_read Scasw = refl

adjust_read : (x : AdjustType) → Plain (operation_name (Adjust x)) (Adjust x)
unfolding words meaning_of spells
adjust_read Daa = refl
adjust_read Das = refl
adjust_read Aaa = refl
adjust_read Aas = refl
adjust_read Aam = refl
adjust_read Aad = refl
adjust_read Cbw = refl
adjust_read Cwd = refl

transfer_read : (x : TransferType) → Plain (operation_name (Transfer x)) (Transfer x)
unfolding words meaning_of spells
transfer_read Mov = refl
transfer_read Xchg = refl
transfer_read Lea = refl
transfer_read Les = refl
transfer_read Lds = refl
transfer_read Push = refl
transfer_read Pop = refl
transfer_read Pushf = refl
transfer_read Popf = refl
transfer_read Sahf = refl
transfer_read Lahf = refl
transfer_read Xlat = refl
transfer_read In = refl
transfer_read Out = refl

processor_read : (x : ProcessorType) → Plain (operation_name (Processor x)) (Processor x)
unfolding words meaning_of spells
processor_read Hlt = refl
processor_read Cmc = refl
processor_read Clc = refl
processor_read Stc = refl
processor_read Cli = refl
processor_read Sti = refl
processor_read Cld = refl
processor_read Std = refl
processor_read Wait = refl
processor_read Esc = refl

-- an operation's first mnemonic stands for it when it is read
abbrev IsRead : Operation → Type 0
IsRead operation = (m : Mnemonic) × (meaning_of (operation_name operation) ≡ Some (meanings.Mnemonic m)) × StandsFor m operation

control_read : (x : ControlType) → IsRead (Control x)
unfolding words meaning_of spells
control_read Jmp = (mnemonics.Jmp, refl, inl refl)
control_read Call = (mnemonics.Call, refl, inl refl)
control_read Ret = (mnemonics.Plain (Control Ret), refl, inl refl)
control_read JmpFar = (mnemonics.Jmp, refl, inr refl)
control_read CallFar = (mnemonics.Call, refl, inr refl)
control_read Retf = (mnemonics.Plain (Control Retf), refl, inl refl)
control_read Int3 = (mnemonics.Plain (Control Int3), refl, inl refl)
control_read Int = (mnemonics.Plain (Control Int), refl, inl refl)
control_read Into = (mnemonics.Plain (Control Into), refl, inl refl)
control_read Iret = (mnemonics.Plain (Control Iret), refl, inl refl)

plain : (operation : Operation) → Plain (operation_name operation) operation → IsRead operation
plain operation is = (mnemonics.Plain operation, is, inl refl)

pub operations_read : OperationsAreRead
operations_read (Arithmetic x) = plain (Arithmetic x) (arithmetic_read x)
operations_read (Shift x) = plain (Shift x) (shift_read x)
operations_read (Product x) = plain (Product x) (product_read x)
operations_read (Unary x) = plain (Unary x) (unary_read x)
operations_read (Jump x) = plain (Jump x) (jump_read x)
operations_read (Looping x) = plain (Looping x) (looping_read x)
operations_read (Strings x) = plain (Strings x) (strings_read x)
operations_read (Adjust x) = plain (Adjust x) (adjust_read x)
operations_read (Transfer x) = plain (Transfer x) (transfer_read x)
operations_read (Control x) = control_read x
operations_read (Processor x) = plain (Processor x) (processor_read x)

pub registers_read : RegistersAreRead
unfolding words meaning_of spells
registers_read (registers.Byte Al) = refl
registers_read (registers.Byte Cl) = refl
registers_read (registers.Byte Dl) = refl
registers_read (registers.Byte Bl) = refl
registers_read (registers.Byte Ah) = refl
registers_read (registers.Byte Ch) = refl
registers_read (registers.Byte Dh) = refl
registers_read (registers.Byte Bh) = refl
registers_read (registers.Word Ax) = refl
registers_read (registers.Word Cx) = refl
registers_read (registers.Word Dx) = refl
registers_read (registers.Word Bx) = refl
registers_read (registers.Word Sp) = refl
registers_read (registers.Word Bp) = refl
registers_read (registers.Word Si) = refl
registers_read (registers.Word Di) = refl
registers_read (registers.Segment Es) = refl
registers_read (registers.Segment Cs) = refl
registers_read (registers.Segment Ss) = refl
registers_read (registers.Segment Ds) = refl

pub prefixes_read : PrefixesAreRead
unfolding words meaning_of spells
prefixes_read (prefixes.Segment Es) = refl
prefixes_read (prefixes.Segment Cs) = refl
prefixes_read (prefixes.Segment Ss) = refl
prefixes_read (prefixes.Segment Ds) = refl
prefixes_read prefixes.Lock = refl
prefixes_read (prefixes.Repeat Repne) = refl
prefixes_read (prefixes.Repeat Rep) = refl

pub keywords_read : KeywordsAreRead
unfolding words meaning_of spells
keywords_read keywords.Segment = refl
keywords_read keywords.At = refl
keywords_read keywords.Ends = refl
keywords_read keywords.Equ = refl
keywords_read keywords.Org = refl
keywords_read keywords.Db = refl
keywords_read keywords.Dw = refl
keywords_read keywords.Dd = refl
keywords_read keywords.Dup = refl
keywords_read keywords.Seg = refl
keywords_read keywords.Byte = refl
keywords_read keywords.Word = refl
keywords_read keywords.Far = refl
keywords_read keywords.Short = refl
