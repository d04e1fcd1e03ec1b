-- The words of the dialect: mnemonics with their aliases (8086 Family User's Manual, "Instruction Set"), registers,
-- prefixes, and the words of statements and operands. If several words mean the same, the first is the one that is
-- written.
-- To be believed: the headline rests on it.
use Rattle.std.specs.Prelude.{ℕ, Bool, List, [], ◌∷◌, codes, map, find, Option, is_some}
use Rattle.std.specs.Option.{option_map}
use Rattle.std.specs.Char.{to_ascii_lowercase}
use Rattle.std.specs.Str.{bytes_eq}
use Rattle.isa.specs.declared.operation.Operation.{Operation}
use Rattle.isa.specs.declared.operation.Operation.TheVariants.{Arithmetic, Shift, Product, Unary, Jump, Looping}
use Rattle.isa.specs.declared.operation.Operation.TheVariants.{Strings, Adjust, Transfer, Control, Processor}
use Rattle.isa.specs.declared.operation.Arithmetic.TheVariants.{Add, Or, Adc, Sbb, And, Sub, Xor, Cmp, Test}
use Rattle.isa.specs.declared.operation.Shift.TheVariants.{Rol, Ror, Rcl, Rcr, Shl, Shr, Sar}
use Rattle.isa.specs.declared.operation.Product.TheVariants.{Mul, Imul, Div, Idiv}
use Rattle.isa.specs.declared.operation.Unary.TheVariants.{Inc, Dec, Not, Neg}
use Rattle.isa.specs.declared.operation.JumpCondition.TheVariants.{Overflow, NotOverflow, Below, NotBelow, Zero}
use Rattle.isa.specs.declared.operation.JumpCondition.TheVariants.{NotZero, BelowOrZero, Above, Sign, NotSign, Parity}
use Rattle.isa.specs.declared.operation.JumpCondition.TheVariants.{NotParity, Less, NotLess, LessOrZero, Greater}
use Rattle.isa.specs.declared.operation.Looping.TheVariants.{Loopne, Loope, Loop, Jcxz}
use Rattle.isa.specs.declared.operation.Strings.TheVariants.{Movsb, Movsw, Cmpsb, Cmpsw, Stosb}
use Rattle.isa.specs.declared.operation.Strings.TheVariants.{Stosw, Lodsb, Lodsw, Scasb, Scasw}
use Rattle.isa.specs.declared.operation.Adjust.TheVariants.{Daa, Das, Aaa, Aas, Aam, Aad, Cbw, Cwd}
use Rattle.isa.specs.declared.operation.Transfer.TheVariants.{Mov, Xchg, Lea, Les, Lds, Push, Pop}
use Rattle.isa.specs.declared.operation.Transfer.TheVariants.{Pushf, Popf, Sahf, Lahf, Xlat, In, Out}
use Rattle.isa.specs.declared.operation.Control.TheVariants.{Ret, Retf, Int3, Int, Into, Iret}
use Rattle.isa.specs.declared.operation.Processor.TheVariants.{Hlt, Cmc, Clc, Stc, Cli, Sti, Cld, Std, Wait, Esc}
use Rattle.isa.specs.declared.register.ByteRegister.TheVariants.{Al, Cl, Dl, Bl, Ah, Ch, Dh, Bh}
use Rattle.isa.specs.declared.register.WordRegister.TheVariants.{Ax, Cx, Dx, Bx, Sp, Bp, Si, Di}
use Rattle.isa.specs.declared.register.SegmentRegister.TheVariants.{Es, Cs, Ss, Ds}
use Rattle.isa.specs.declared.form.Prefix.{Prefix as PrefixType}
use Rattle.isa.specs.declared.form.Prefix.TheVariants.{Lock, Repeat}
use Rattle.isa.specs.declared.form.Repeat.TheVariants.{Repne, Rep}
use Rattle.dialect.specs.declared.mnemonic.Mnemonic.{Mnemonic as MnemonicType}
use Rattle.dialect.specs.declared.mnemonic.Mnemonic.TheVariants as mnemonics
use Rattle.dialect.specs.declared.register.Register.{Register as RegisterType}
use Rattle.dialect.specs.declared.register.Register.TheVariants as registers
use Rattle.dialect.specs.declared.keyword.Keyword.{Keyword as KeywordType}
use Rattle.dialect.specs.declared.keyword.Keyword.TheVariants as keywords
use Rattle.dialect.specs.declared.meaning.Entry.{Entry as Kept}
use Rattle.dialect.specs.declared.meaning.Meaning.{Meaning}
use Rattle.dialect.specs.declared.meaning.Meaning.TheVariants as meanings

-- a word in upper case, and what it means
abbrev pub Entry : Type 0
Entry = List ℕ × Meaning

-- an entry, from the form in which the code keeps it
abbrev pub entry_of : Kept → Entry
entry_of e = (e.word.now, e.meaning)

abbrev pub mnemonic : List ℕ → MnemonicType → Entry
mnemonic word m = (word, meanings.Mnemonic m)

abbrev pub plain : List ℕ → Operation → Entry
plain word operation = mnemonic word (mnemonics.Plain operation)

abbrev pub register : List ℕ → RegisterType → Entry
register word r = (word, meanings.Register r)

abbrev pub prefix : List ℕ → PrefixType → Entry
prefix word p = (word, meanings.Prefix p)

abbrev pub keyword : List ℕ → KeywordType → Entry
keyword word k = (word, meanings.Keyword k)

unfoldable pub words : List Entry
words =
    plain (codes "ADD") (Arithmetic Add) ∷
    plain (codes "OR") (Arithmetic Or) ∷
    plain (codes "ADC") (Arithmetic Adc) ∷
    plain (codes "SBB") (Arithmetic Sbb) ∷
    plain (codes "AND") (Arithmetic And) ∷
    plain (codes "SUB") (Arithmetic Sub) ∷
    plain (codes "XOR") (Arithmetic Xor) ∷
    plain (codes "CMP") (Arithmetic Cmp) ∷
    plain (codes "TEST") (Arithmetic Test) ∷
    plain (codes "ROL") (Shift Rol) ∷
    plain (codes "ROR") (Shift Ror) ∷
    plain (codes "RCL") (Shift Rcl) ∷
    plain (codes "RCR") (Shift Rcr) ∷
    plain (codes "SHL") (Shift Shl) ∷
    plain (codes "SAL") (Shift Shl) ∷
    plain (codes "SHR") (Shift Shr) ∷
    plain (codes "SAR") (Shift Sar) ∷
    plain (codes "MUL") (Product Mul) ∷
    plain (codes "IMUL") (Product Imul) ∷
    plain (codes "DIV") (Product Div) ∷
    plain (codes "IDIV") (Product Idiv) ∷
    plain (codes "INC") (Unary Inc) ∷
    plain (codes "DEC") (Unary Dec) ∷
    plain (codes "NOT") (Unary Not) ∷
    plain (codes "NEG") (Unary Neg) ∷
    plain (codes "JO") (Jump Overflow) ∷
    plain (codes "JNO") (Jump NotOverflow) ∷
    plain (codes "JB") (Jump Below) ∷
    plain (codes "JC") (Jump Below) ∷
    plain (codes "JNAE") (Jump Below) ∷
    plain (codes "JNB") (Jump NotBelow) ∷
    plain (codes "JNC") (Jump NotBelow) ∷
    plain (codes "JAE") (Jump NotBelow) ∷
    plain (codes "JZ") (Jump Zero) ∷
    plain (codes "JE") (Jump Zero) ∷
    plain (codes "JNZ") (Jump NotZero) ∷
    plain (codes "JNE") (Jump NotZero) ∷
    plain (codes "JBE") (Jump BelowOrZero) ∷
    plain (codes "JNA") (Jump BelowOrZero) ∷
    plain (codes "JA") (Jump Above) ∷
    plain (codes "JNBE") (Jump Above) ∷
    plain (codes "JS") (Jump Sign) ∷
    plain (codes "JNS") (Jump NotSign) ∷
    plain (codes "JP") (Jump Parity) ∷
    plain (codes "JPE") (Jump Parity) ∷
    plain (codes "JNP") (Jump NotParity) ∷
    plain (codes "JPO") (Jump NotParity) ∷
    plain (codes "JL") (Jump Less) ∷
    plain (codes "JNGE") (Jump Less) ∷
    plain (codes "JGE") (Jump NotLess) ∷
    plain (codes "JNL") (Jump NotLess) ∷
    plain (codes "JLE") (Jump LessOrZero) ∷
    plain (codes "JNG") (Jump LessOrZero) ∷
    plain (codes "JG") (Jump Greater) ∷
    plain (codes "JNLE") (Jump Greater) ∷
    plain (codes "LOOPNE") (Looping Loopne) ∷
    plain (codes "LOOPNZ") (Looping Loopne) ∷
    plain (codes "LOOPE") (Looping Loope) ∷
    plain (codes "LOOPZ") (Looping Loope) ∷
    plain (codes "LOOP") (Looping Loop) ∷
    plain (codes "JCXZ") (Looping Jcxz) ∷
    plain (codes "MOVSB") (Strings Movsb) ∷
    plain (codes "MOVSW") (Strings Movsw) ∷
    plain (codes "CMPSB") (Strings Cmpsb) ∷
    plain (codes "CMPSW") (Strings Cmpsw) ∷
    plain (codes "STOSB") (Strings Stosb) ∷
    plain (codes "STOSW") (Strings Stosw) ∷
    plain (codes "LODSB") (Strings Lodsb) ∷
    plain (codes "LODSW") (Strings Lodsw) ∷
    plain (codes "SCASB") (Strings Scasb) ∷
    plain (codes "SCASW") (Strings Scasw) ∷
    plain (codes "DAA") (Adjust Daa) ∷
    plain (codes "DAS") (Adjust Das) ∷
    plain (codes "AAA") (Adjust Aaa) ∷
    plain (codes "AAS") (Adjust Aas) ∷
    plain (codes "AAM") (Adjust Aam) ∷
    plain (codes "AAD") (Adjust Aad) ∷
    plain (codes "CBW") (Adjust Cbw) ∷
    plain (codes "CWD") (Adjust Cwd) ∷
    plain (codes "MOV") (Transfer Mov) ∷
    plain (codes "XCHG") (Transfer Xchg) ∷
    plain (codes "LEA") (Transfer Lea) ∷
    plain (codes "LES") (Transfer Les) ∷
    plain (codes "LDS") (Transfer Lds) ∷
    plain (codes "PUSH") (Transfer Push) ∷
    plain (codes "POP") (Transfer Pop) ∷
    plain (codes "PUSHF") (Transfer Pushf) ∷
    plain (codes "POPF") (Transfer Popf) ∷
    plain (codes "SAHF") (Transfer Sahf) ∷
    plain (codes "LAHF") (Transfer Lahf) ∷
    plain (codes "XLAT") (Transfer Xlat) ∷
    plain (codes "IN") (Transfer In) ∷
    plain (codes "OUT") (Transfer Out) ∷
    mnemonic (codes "JMP") mnemonics.Jmp ∷
    mnemonic (codes "CALL") mnemonics.Call ∷
    plain (codes "RET") (Control Ret) ∷
    plain (codes "RETF") (Control Retf) ∷
    plain (codes "INT3") (Control Int3) ∷
    plain (codes "INT") (Control Int) ∷
    plain (codes "INTO") (Control Into) ∷
    plain (codes "IRET") (Control Iret) ∷
    plain (codes "HLT") (Processor Hlt) ∷
    plain (codes "CMC") (Processor Cmc) ∷
    plain (codes "CLC") (Processor Clc) ∷
    plain (codes "STC") (Processor Stc) ∷
    plain (codes "CLI") (Processor Cli) ∷
    plain (codes "STI") (Processor Sti) ∷
    plain (codes "CLD") (Processor Cld) ∷
    plain (codes "STD") (Processor Std) ∷
    plain (codes "WAIT") (Processor Wait) ∷
    plain (codes "ESC") (Processor Esc) ∷
    mnemonic (codes "NOP") mnemonics.Nop ∷
    register (codes "AL") (registers.Byte Al) ∷
    register (codes "CL") (registers.Byte Cl) ∷
    register (codes "DL") (registers.Byte Dl) ∷
    register (codes "BL") (registers.Byte Bl) ∷
    register (codes "AH") (registers.Byte Ah) ∷
    register (codes "CH") (registers.Byte Ch) ∷
    register (codes "DH") (registers.Byte Dh) ∷
    register (codes "BH") (registers.Byte Bh) ∷
    register (codes "AX") (registers.Word Ax) ∷
    register (codes "CX") (registers.Word Cx) ∷
    register (codes "DX") (registers.Word Dx) ∷
    register (codes "BX") (registers.Word Bx) ∷
    register (codes "SP") (registers.Word Sp) ∷
    register (codes "BP") (registers.Word Bp) ∷
    register (codes "SI") (registers.Word Si) ∷
    register (codes "DI") (registers.Word Di) ∷
    register (codes "ES") (registers.Segment Es) ∷
    register (codes "CS") (registers.Segment Cs) ∷
    register (codes "SS") (registers.Segment Ss) ∷
    register (codes "DS") (registers.Segment Ds) ∷
    prefix (codes "LOCK") Lock ∷
    prefix (codes "REPNE") (Repeat Repne) ∷
    prefix (codes "REPNZ") (Repeat Repne) ∷
    prefix (codes "REP") (Repeat Rep) ∷
    prefix (codes "REPE") (Repeat Rep) ∷
    prefix (codes "REPZ") (Repeat Rep) ∷
    keyword (codes "SEGMENT") keywords.Segment ∷
    keyword (codes "AT") keywords.At ∷
    keyword (codes "ENDS") keywords.Ends ∷
    keyword (codes "EQU") keywords.Equ ∷
    keyword (codes "ORG") keywords.Org ∷
    keyword (codes "DB") keywords.Db ∷
    keyword (codes "DW") keywords.Dw ∷
    keyword (codes "DD") keywords.Dd ∷
    keyword (codes "DUP") keywords.Dup ∷
    keyword (codes "SEG") keywords.Seg ∷
    keyword (codes "BYTE") keywords.Byte ∷
    keyword (codes "WORD") keywords.Word ∷
    keyword (codes "FAR") keywords.Far ∷
    keyword (codes "SHORT") keywords.Short ∷ []

-- whether a word spells a keyword, in upper or lower case
unfoldable pub spells : List ℕ → List ℕ → Bool
spells word keyword = bytes_eq (map to_ascii_lowercase word) (map to_ascii_lowercase keyword)

-- what a word means, in upper or lower case; `None` if it isn't among the words
unfoldable pub meaning_of : List ℕ → Option Meaning
meaning_of word = option_map (λ e. e.1) (find (λ e. spells word e.0) words)

abbrev pub is_reserved : List ℕ → Bool
is_reserved word = is_some (meaning_of word)
