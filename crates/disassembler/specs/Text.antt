-- The text of an instruction, in the assembler's dialect: prefix words in their order, the operation's first mnemonic,
-- and the operands. Numbers are a `0`, two or four hexadecimal digits and `h` (this board's choice).
-- To be believed: the headline rests on it.
use Rattle.std.specs.Prelude.{ℕ, ◌+◌, ◌/◌, ◌%◌, ◌==◌, Bool, true, false, ◌&&◌}
use Rattle.std.specs.Prelude.{if◌then◌else◌, Option, Some, None, List, [], ◌∷◌, ◌++◌, codes}
use Rattle.std.specs.List.{flat_map}
use Rattle.std.specs.Fmt.{digit_glyph}
use Rattle.isa.specs.declared.operation.Operation.{Operation}
use Rattle.isa.specs.declared.operation.Operation.TheVariants.{Transfer}
use Rattle.isa.specs.declared.operation.Transfer.TheVariants.{Xchg}
use Rattle.isa.specs.declared.register.WordRegister.TheVariants as word_registers
use Rattle.isa.specs.declared.form.Base.{Base}
use Rattle.isa.specs.declared.form.Base.TheVariants.{BxSi, BxDi, BpSi, BpDi, Si, Di, Bp, Bx}
use Rattle.isa.specs.declared.form.Prefix.{Prefix}
use Rattle.isa.specs.declared.form.Prefix.TheVariants.{Segment}
use Rattle.isa.specs.declared.form.Form.{Form}
use Rattle.isa.specs.declared.form.Values.{Values}
use Rattle.isa.specs.declared.form.Instr.{Instr}
use Rattle.isa.specs.declared.row.Kind.{Kind}
use Rattle.isa.specs.declared.row.Kind.TheVariants as kinds
use Rattle.isa.specs.Row.{first_of, operation_of, second_of}
use Rattle.isa.specs.Encoding.{instr_length}
use Rattle.dialect.specs.declared.keyword.Keyword.{Keyword}
use Rattle.dialect.specs.declared.keyword.Keyword.TheVariants as keywords
use Rattle.dialect.specs.declared.mnemonic.Mnemonic.TheVariants as mnemonics
use Rattle.dialect.specs.Names.{keyword_name, mnemonic_name, operation_name}
use Rattle.dialect.specs.Names.{prefix_name, register_name, word_register_name}
use Rattle.disassembler.specs.declared.written.Memory.{Memory as MemoryType}
use Rattle.disassembler.specs.declared.written.Written.{Written}
use Rattle.disassembler.specs.declared.written.Written.TheVariants.{Nothing, Register, One, Byte}
use Rattle.disassembler.specs.declared.written.Written.TheVariants.{Word, Short, Far, Memory}
use Rattle.disassembler.specs.Written.{written_operand}

-- two hexadecimal digits, in upper case
abbrev pub digits_of : ℕ → List ℕ
digits_of byte = digit_glyph true (byte / 16) ∷ digit_glyph true (byte % 16) ∷ []

abbrev pub byte_text : ℕ → List ℕ
byte_text byte = codes "0" ++ (digits_of byte ++ codes "h")

abbrev pub word_text : ℕ → List ℕ
word_text word = codes "0" ++ (digits_of (word / 256) ++ (digits_of (word % 256) ++ codes "h"))

-- two terms with a plus between them
abbrev pub sum_of : List ℕ → List ℕ → List ℕ
sum_of left right = left ++ (codes "+" ++ right)

abbrev pub base_text : Base → List ℕ
base_text BxSi = sum_of (word_register_name word_registers.Bx) (word_register_name word_registers.Si)
base_text BxDi = sum_of (word_register_name word_registers.Bx) (word_register_name word_registers.Di)
base_text BpSi = sum_of (word_register_name word_registers.Bp) (word_register_name word_registers.Si)
base_text BpDi = sum_of (word_register_name word_registers.Bp) (word_register_name word_registers.Di)
base_text Si = word_register_name word_registers.Si
base_text Di = word_register_name word_registers.Di
base_text Bp = word_register_name word_registers.Bp
base_text Bx = word_register_name word_registers.Bx

abbrev pub address_text : Option Base → Option ℕ → List ℕ
address_text None None = []
address_text None (Some displacement) = word_text displacement
address_text (Some base) None = base_text base
address_text (Some base) (Some displacement) = sum_of (base_text base) (word_text displacement)

abbrev pub size_text : Option Keyword → List ℕ
size_text None = []
size_text (Some size) = keyword_name size ++ codes " "

-- an operand in memory: `WORD [BP+DI+00012h]`
abbrev pub memory_text : MemoryType → List ℕ
memory_text m = size_text m.size ++ (codes "[" ++ (address_text m.base m.displacement ++ codes "]"))

-- an operand as it is written
abbrev pub operand_text : Written → List ℕ
operand_text Nothing = []
operand_text (Register register) = register_name register
operand_text One = codes "1"
operand_text (Byte number) = byte_text number
operand_text (Word number) = word_text number
operand_text (Short target) = keyword_name keywords.Short ++ (codes " " ++ word_text target)
operand_text (Far segment offset) =
    keyword_name keywords.Far ++ (codes " " ++ (word_text segment ++ (codes ":" ++ word_text offset)))
operand_text (Memory memory) = memory_text memory

-- the second operand, with a comma before it
abbrev pub second_text : Written → List ℕ
second_text Nothing = []
second_text second = codes "," ++ operand_text second

-- the operands after the mnemonic
abbrev pub operands_text : Written → Written → List ℕ
operands_text Nothing second = []
operands_text first second = codes " " ++ (operand_text first ++ second_text second)

abbrev pub is_xchg : Operation → Bool
is_xchg (Transfer Xchg) = true
is_xchg _ = false

abbrev pub is_ax : Kind → Bool
is_ax kinds.Ax = true
is_ax _ = false

-- whether a form is XCHG AX,AX in one byte, which is written as NOP
abbrev pub is_nop : Form → Bool
is_nop f = is_xchg (operation_of f.row) && (is_ax (first_of f.row) && f.code == 0)

-- the text of an instruction without prefixes, if the next instruction stands at the offset `next`
abbrev pub plain_text : Form → Values → ℕ → List ℕ
plain_text f v next =
    operation_name (operation_of f.row)
    ++ operands_text (written_operand f v next (first_of f.row) (second_of f.row))
    (written_operand f v next (second_of f.row) (first_of f.row))

unfoldable pub body_text : Form → Values → ℕ → List ℕ
body_text f v next = if is_nop f then mnemonic_name mnemonics.Nop else plain_text f v next

-- a prefix as it is written, with a blank after it
abbrev pub prefix_text : Prefix → List ℕ
prefix_text (Segment register) = prefix_name (Segment register) ++ codes ": "
prefix_text prefix = prefix_name prefix ++ codes " "

-- the text of an instruction that stands at the offset `ip`
unfoldable pub instr_text : Instr → ℕ → List ℕ
instr_text i ip =
    flat_map prefix_text i.prefixes.items ++ body_text i.form i.values ((ip + instr_length i) % 65536)
