-- How many words of data a step of an instruction reads and writes in memory, each of which takes clocks of its own in
-- the second table (8086 Family User's Manual, "Instruction Set Reference Data": transfers).
-- To be believed: the headline rests on it.
use Rattle.std.specs.Prelude.{ℕ, ◌+◌, ◌*◌, Bool, cond, ◌&&◌}
use Rattle.board_types.specs.declared.choice.ClockTable.{ClockTable}
use Rattle.board_types.specs.declared.choice.ClockTable.TheVariants.{C1, C2}
use Rattle.isa.specs.declared.operation.Operation.{Operation}
use Rattle.isa.specs.declared.operation.Operation.TheVariants.{Arithmetic, Shift, Product, Unary}
use Rattle.isa.specs.declared.operation.Operation.TheVariants.{Strings, Transfer, Control}
use Rattle.isa.specs.declared.operation.Arithmetic.{Arithmetic as ArithmeticType}
use Rattle.isa.specs.declared.operation.Arithmetic.TheVariants.{Cmp, Test}
use Rattle.isa.specs.declared.operation.Transfer.{Transfer as TransferType}
use Rattle.isa.specs.declared.operation.Transfer.TheVariants.{Mov, Xchg, Les, Lds, Push, Pop, Pushf, Popf}
use Rattle.isa.specs.declared.operation.Control.{Control as ControlType}
use Rattle.isa.specs.declared.operation.Control.TheVariants.{Jmp, Call, Ret, JmpFar, CallFar}
use Rattle.isa.specs.declared.operation.Control.TheVariants.{Retf, Int3, Int, Into, Iret}
use Rattle.isa.specs.declared.operation.Strings.{Strings as StringsType}
use Rattle.isa.specs.declared.operation.Strings.TheVariants.{Movsw, Cmpsw, Stosw, Lodsw, Scasw}
use Rattle.isa.specs.declared.row.Kind.{Kind}
use Rattle.isa.specs.declared.row.Kind.TheVariants.{Rm16, At16, Memory}
use Rattle.isa.specs.declared.form.Place.{Place}
use Rattle.isa.specs.declared.form.Place.TheVariants.{Register}
use Rattle.isa.specs.declared.form.Instr.{Instr}
use Rattle.isa.specs.declared.outcome.Outcome.{Outcome}
use Rattle.isa.specs.Clocks.{clocks_of, is_repeated}

-- how many words in memory mod and r/m name: one, or none if they name a register
abbrev pub word_at_place : Place → ℕ
word_at_place (Register _) = 0
word_at_place _ = 1

-- how many words in memory an operand is, one or none
abbrev pub word_at : Kind → Place → ℕ
word_at Rm16 place = word_at_place place
word_at At16 place = 1
word_at _ place = 0

-- the words of an arithmetic operation: CMP and TEST only read, every other one writes its first operand back
abbrev pub arithmetic_words : ArithmeticType → ℕ → ℕ → ℕ
arithmetic_words Cmp a b = a + b
arithmetic_words Test a b = a + b
arithmetic_words _ a b = 2 * a + b

-- the words of a transfer: XCHG reads both operands and writes both, a far pointer is two words, and a push or a pop is
-- one
abbrev pub transfer_words : TransferType → ℕ → ℕ → ℕ
transfer_words Mov a b = a + b
transfer_words Xchg a b = 2 * (a + b)
transfer_words Les a b = 2
transfer_words Lds a b = 2
transfer_words Push a b = a + 1
transfer_words Pop a b = a + 1
transfer_words Pushf a b = 1
transfer_words Popf a b = 1
transfer_words _ a b = 0

-- the words of an operand that is a far pointer in memory: two
abbrev pub pointer_words : Kind → ℕ
pointer_words Memory = 2
pointer_words _ = 0

-- the words of an entry: an interrupt pushes three words and reads its vector, of two
abbrev pub entry_words : ℕ
entry_words = 5

abbrev pub control_words : ControlType → ℕ → Kind → Bool → ℕ
control_words Jmp a kind taken = a
control_words Call a kind taken = a + 1
control_words Ret a kind taken = 1
control_words JmpFar a kind taken = pointer_words kind
control_words CallFar a kind taken = pointer_words kind + 2
control_words Retf a kind taken = 2
control_words Int3 a kind taken = entry_words
control_words Int a kind taken = entry_words
control_words Into a kind taken = cond taken entry_words 0
control_words Iret a kind taken = 3

-- the words of one element of a string instruction: its read, its write, or both
abbrev pub element_words : StringsType → ℕ
element_words Movsw = 2
element_words Cmpsw = 2
element_words Stosw = 1
element_words Lodsw = 1
element_words Scasw = 1
element_words _ = 0

-- the words of an operation whose operands are a and b words in memory, the first of this kind
abbrev pub words_of : Operation → ℕ → ℕ → Kind → Bool → ℕ
words_of (Arithmetic op) a b kind taken = arithmetic_words op a b
words_of (Shift op) a b kind taken = 2 * a
words_of (Product op) a b kind taken = a + b
words_of (Unary op) a b kind taken = 2 * a
words_of (Strings op) a b kind taken = element_words op
words_of (Transfer op) a b kind taken = transfer_words op a b
words_of (Control op) a b kind taken = control_words op a kind taken
words_of _ a b kind taken = 0

-- the words of an instruction that one step completes, or of an iteration of its repeat, by whether the jump or the
-- interrupt is taken
unfoldable pub whole_words : Instr → Bool → ℕ
whole_words i taken =
    words_of i.form.row.operation (word_at i.form.row.first i.form.place) (word_at i.form.row.second i.form.place)
    i.form.row.first taken

-- the words of a step with this outcome. A repeat with CX 0 reads and writes nothing; a division without a quotient
-- enters its interrupt
unfoldable pub data_words : Instr → Outcome → ℕ
data_words i o =
    cond (is_repeated i && o.cx_zero) 0 (whole_words i o.taken + cond o.fault entry_words 0)

-- the clocks that a table adds for this number of words
abbrev pub word_clocks : ClockTable → ℕ → ℕ
word_clocks C1 words = 0
word_clocks C2 words = 4 * words

-- the clocks of a step with this outcome, by either table
unfoldable pub clocks_in : ClockTable → Instr → Outcome → ℕ
clocks_in table i o = clocks_of i o + word_clocks table (data_words i o)
