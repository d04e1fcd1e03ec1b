-- What a step writes to memory, counted on any bus, and the words of data, on which its clocks depend: they are those
-- that it reads and those that it writes (8086 Family User's Manual, "Instruction Set").
-- To be believed by callers of this crate: the headline does not rest on it.
use Rattle.std.specs.Prelude.{ℕ, ◌≡◌, ◌+◌, ◌*◌, ◌==◌, Bool, true, false, cond, ◌&&◌, if◌then◌else◌, Some}
use Rattle.board_types.specs.declared.choice.ClockTable.{ClockTable}
use Rattle.bus.specs.Bus.{BusMeaning}
use Rattle.isa.specs.declared.operation.Operation.{Operation}
use Rattle.isa.specs.declared.operation.Operation.TheVariants.{Arithmetic, Shift, Product, Unary}
use Rattle.isa.specs.declared.operation.Operation.TheVariants.{Strings, Transfer, Control}
use Rattle.isa.specs.declared.operation.Arithmetic.TheVariants.{Cmp, Test}
use Rattle.isa.specs.declared.operation.Transfer.TheVariants.{Mov, Xchg, Les, Lds, Push, Pop, Pushf, Popf}
use Rattle.isa.specs.declared.operation.Control.TheVariants.{Jmp, Call, Ret, JmpFar, CallFar}
use Rattle.isa.specs.declared.operation.Control.TheVariants.{Retf, Int3, Int, Into, Iret}
use Rattle.isa.specs.declared.operation.Strings.{Strings as StringsType}
use Rattle.isa.specs.declared.operation.Strings.TheVariants.{Movsb, Movsw, Cmpsw, Stosb, Stosw, Lodsw, Scasw}
use Rattle.isa.specs.declared.row.Kind.{Kind}
use Rattle.isa.specs.declared.row.Kind.TheVariants.{Rm8, At8}
use Rattle.isa.specs.declared.form.Place.{Place}
use Rattle.isa.specs.declared.form.Place.TheVariants.{Register}
use Rattle.isa.specs.declared.form.Instr.{Instr}
use Rattle.isa.specs.declared.outcome.Outcome.{Outcome}
use Rattle.isa.specs.Row.{operation_of, first_of, second_of}
use Rattle.isa.specs.Encoding.{IsInstr}
use Rattle.isa.specs.Clocks.{is_repeated}
use Rattle.isa.specs.WordCounts.{word_at, pointer_words, data_words, clocks_in}
use Rattle.decode.specs.declared.decoding.Decoding.TheVariants.{Found}
use Rattle.execute_machine.specs.Locations.{machine}
use Rattle.execute_meaning.specs.declared.boundary.Cause.{Cause}
use Rattle.execute_meaning.specs.declared.repeating.Repeating.{Repeating}
use Rattle.execute_meaning.specs.Boundaries.{after_enter}
use Rattle.execute_meaning.specs.Cpu.{CpuState}
use Rattle.execute_meaning.specs.Meaning.{outcome_of, iteration_outcome, after_fetch, after_step, after_again}

-- how many bytes in memory mod and r/m name: one, or none if they name a register
abbrev pub byte_at_place : Place → ℕ
byte_at_place (Register _) = 0
byte_at_place _ = 1

-- how many bytes in memory an operand is, one or none
abbrev pub byte_at : Kind → Place → ℕ
byte_at Rm8 place = byte_at_place place
byte_at At8 place = 1
byte_at _ place = 0

-- how many of its operands' words, or bytes, in memory an operation reads, if the first has a of them and the second b
abbrev pub operands_read : Operation → ℕ → ℕ → ℕ
operands_read (Arithmetic _) a b = a + b
operands_read (Shift _) a b = a
operands_read (Product _) a b = a + b
operands_read (Unary _) a b = a
operands_read (Transfer Mov) a b = b
operands_read (Transfer Xchg) a b = a + b
operands_read (Transfer Push) a b = a
operands_read (Control Jmp) a b = a
operands_read (Control Call) a b = a
operands_read _ a b = 0

-- how many of its operands' words, or bytes, in memory an operation writes, if the first has a of them and the second b
abbrev pub operands_written : Operation → ℕ → ℕ → ℕ
operands_written (Arithmetic Cmp) a b = 0
operands_written (Arithmetic Test) a b = 0
operands_written (Arithmetic _) a b = a
operands_written (Shift _) a b = a
operands_written (Unary _) a b = a
operands_written (Transfer Mov) a b = a
operands_written (Transfer Xchg) a b = a + b
operands_written (Transfer Pop) a b = a
operands_written _ a b = 0

-- the words that an operation reads besides its operands: from the stack, of a far pointer, and of a vector
abbrev pub words_fetched : Operation → Kind → Bool → ℕ
words_fetched (Transfer Les) kind taken = 2
words_fetched (Transfer Lds) kind taken = 2
words_fetched (Transfer Pop) kind taken = 1
words_fetched (Transfer Popf) kind taken = 1
words_fetched (Control JmpFar) kind taken = pointer_words kind
words_fetched (Control CallFar) kind taken = pointer_words kind
words_fetched (Control Ret) kind taken = 1
words_fetched (Control Retf) kind taken = 2
words_fetched (Control Iret) kind taken = 3
words_fetched (Control Int3) kind taken = 2
words_fetched (Control Int) kind taken = 2
words_fetched (Control Into) kind taken = cond taken 2 0
words_fetched _ kind taken = 0

-- the words that an operation pushes
abbrev pub words_pushed : Operation → Bool → ℕ
words_pushed (Transfer Push) taken = 1
words_pushed (Transfer Pushf) taken = 1
words_pushed (Control Call) taken = 1
words_pushed (Control CallFar) taken = 2
words_pushed (Control Int3) taken = 3
words_pushed (Control Int) taken = 3
words_pushed (Control Into) taken = cond taken 3 0
words_pushed _ taken = 0

-- the words that an element of a string instruction reads, the words that it writes, and the bytes that it writes
abbrev pub elements_read : Operation → ℕ
elements_read (Strings Movsw) = 1
elements_read (Strings Cmpsw) = 2
elements_read (Strings Lodsw) = 1
elements_read (Strings Scasw) = 1
elements_read _ = 0

abbrev pub elements_written : Operation → ℕ
elements_written (Strings Movsw) = 1
elements_written (Strings Stosw) = 1
elements_written _ = 0

abbrev pub byte_elements_written : Operation → ℕ
byte_elements_written (Strings Movsb) = 1
byte_elements_written (Strings Stosb) = 1
byte_elements_written _ = 0

-- the words and bytes of an instruction that one step completes, or of an iteration of its repeat
abbrev pub whole_words_read : Operation → Instr → Bool → ℕ
whole_words_read op i taken =
    operands_read op (word_at (first_of i.form.row) i.form.place) (word_at (second_of i.form.row) i.form.place)
    + words_fetched op (first_of i.form.row) taken + elements_read op

abbrev pub whole_words_written : Operation → Instr → Bool → ℕ
whole_words_written op i taken =
    operands_written op (word_at (first_of i.form.row) i.form.place) (word_at (second_of i.form.row) i.form.place)
    + words_pushed op taken + elements_written op

abbrev pub whole_bytes_written : Operation → Instr → ℕ
whole_bytes_written op i =
    operands_written op (byte_at (first_of i.form.row) i.form.place) (byte_at (second_of i.form.row) i.form.place)
    + byte_elements_written op

-- The words and bytes of a step with this outcome. A repeat with CX 0 has none; a division without a quotient pushes
-- three words more, and reads a vector of two.
unfoldable pub read_words : Instr → Outcome → ℕ
read_words i o =
    cond (is_repeated i && o.cx_zero) 0 (whole_words_read (operation_of i.form.row) i o.taken + cond o.fault 2 0)

unfoldable pub written_words : Instr → Outcome → ℕ
written_words i o =
    cond (is_repeated i && o.cx_zero) 0 (whole_words_written (operation_of i.form.row) i o.taken + cond o.fault 3 0)

unfoldable pub written_bytes : Instr → Outcome → ℕ
written_bytes i o = cond (is_repeated i && o.cx_zero) 0 (whole_bytes_written (operation_of i.form.row) i)

-- the words of data are those that are read and those that are written
abbrev pub WordsAreReadOrWritten : Type 0
WordsAreReadOrWritten = (i : Instr) (o : Outcome) → data_words i o ≡ read_words i o + written_words i o

-- a count that each memory write raises by 1, and that port accesses leave as it is
pub record CountsWrites {S : Type 0} (bus : BusMeaning S) (count : S → ℕ) : Type 0 where
  pub write : (s : S) (address byte : ℕ) → count (bus.after_write s address byte) ≡ count s + 1
  pub input : (s : S) (port : ℕ) → count (bus.after_input s port) ≡ count s
  pub output : (s : S) (port byte : ℕ) → count (bus.after_output s port byte) ≡ count s

-- the outcome of a step of an instruction; IP is the next one's already
abbrev pub outcome_in : {S : Type 0} → BusMeaning S → CpuState → S → Operation → Instr → Outcome
outcome_in bus p s (Strings op) i =
    if is_repeated i then iteration_outcome true (p.registers.cx == 0)
    else outcome_of bus (machine p.registers s) (Strings op) i
outcome_in bus p s op i = outcome_of bus (machine p.registers s) op i

abbrev pub found_by : {S : Type 0} → BusMeaning S → CpuState → S → Instr → ℕ → Outcome
found_by bus p s i size = outcome_in bus (after_fetch p size) s (operation_of i.form.row) i

-- how many bytes a step with this outcome writes
abbrev pub bytes_of_writes : Instr → Outcome → ℕ
bytes_of_writes i o = 2 * written_words i o + written_bytes i o

-- how many bytes an iteration writes
abbrev pub bytes_of_element : StringsType → ℕ
bytes_of_element op = 2 * elements_written (Strings op) + byte_elements_written (Strings op)

-- The outcome of a step, of the next iteration of a repeat and of an entry decides their clocks, and how many bytes
-- they write, even to addresses that take none.
pub record WritesAreTold {S : Type 0} (bus : BusMeaning S) (count : S → ℕ) : Type 0 where
  pub step : (table : ClockTable) (p : CpuState) (s : S) (i : Instr) (size : ℕ) → IsInstr i
      → ((after_step bus table p s (Found i size)).clocks ≡ clocks_in table i (found_by bus p s i size))
      × (count (after_step bus table p s (Found i size)).bus ≡ count s + bytes_of_writes i (found_by bus p s i size))
  pub again : (p : CpuState) (s : S) (r : Repeating) → p.repeat ≡ Some r → ((after_again bus p s).clocks ≡ r.clocks)
      × (count (after_again bus p s).bus ≡ count s + bytes_of_element r.operation)
  pub enter : (table : ClockTable) (p : CpuState) (s : S) (kind : ℕ) (cause : Cause)
      → count (after_enter bus table p s kind cause).bus ≡ count s + 6

-- on any bus, any count of memory writes goes up as outcomes say
abbrev pub WritesAreCounted : {S : Type 0} → BusMeaning S → Type 0
WritesAreCounted {S} bus = (count : S → ℕ) → CountsWrites bus count → WritesAreTold bus count
