-- The names by which operations, registers, prefixes and keywords are written: the first of the words for each.
-- To be believed: the headline rests on it.
use Rattle.std.specs.Prelude.{ℕ, Bool, true, false, List, [], find}
use Rattle.std.specs.Option.{option_map_or}
use denote.Enum.Bare.{sameb}
use Rattle.isa.specs.declared.operation.Operation.{Operation}
use Rattle.isa.specs.declared.operation.Operation.TheVariants.{Arithmetic, Shift, Product, Unary, Jump, Looping}
use Rattle.isa.specs.declared.operation.Operation.TheVariants.{Strings, Adjust, Transfer, Control, Processor}
use Rattle.isa.specs.declared.operation.Control.TheVariants as control
use Rattle.isa.specs.declared.register.WordRegister.{WordRegister}
use Rattle.isa.specs.declared.form.Prefix.{Prefix}
use Rattle.isa.specs.declared.form.Prefix.TheVariants as prefixes
use Rattle.isa.specs.contracts.operation.Arithmetic.{the_type as arithmetics}
use Rattle.isa.specs.contracts.operation.Shift.{the_type as shifts}
use Rattle.isa.specs.contracts.operation.Product.{the_type as products}
use Rattle.isa.specs.contracts.operation.Unary.{the_type as unaries}
use Rattle.isa.specs.contracts.operation.JumpCondition.{the_type as conditions}
use Rattle.isa.specs.contracts.operation.Looping.{the_type as loopings}
use Rattle.isa.specs.contracts.operation.Strings.{the_type as strings}
use Rattle.isa.specs.contracts.operation.Adjust.{the_type as adjusts}
use Rattle.isa.specs.contracts.operation.Transfer.{the_type as transfers}
use Rattle.isa.specs.contracts.operation.Control.{the_type as controls}
use Rattle.isa.specs.contracts.operation.Processor.{the_type as processors}
use Rattle.isa.specs.contracts.register.ByteRegister.{the_type as byte_registers}
use Rattle.isa.specs.contracts.register.WordRegister.{the_type as word_registers}
use Rattle.isa.specs.contracts.register.SegmentRegister.{the_type as segment_registers}
use Rattle.isa.specs.contracts.form.Repeat.{the_type as repeats}
use Rattle.dialect.specs.contracts.keyword.Keyword.{the_type as keywords}
use Rattle.dialect.specs.declared.mnemonic.Mnemonic.{Mnemonic}
use Rattle.dialect.specs.declared.mnemonic.Mnemonic.TheVariants as mnemonics
use Rattle.dialect.specs.declared.register.Register.{Register}
use Rattle.dialect.specs.declared.register.Register.TheVariants as registers
use Rattle.dialect.specs.declared.keyword.Keyword.{Keyword}
use Rattle.dialect.specs.declared.meaning.Meaning.{Meaning}
use Rattle.dialect.specs.declared.meaning.Meaning.TheVariants as meanings
use Rattle.dialect.specs.Words.{words}

-- whether two operations are the same; `sameb` compares two values of an enum without fields
abbrev pub is_same_operation : Operation → Operation → Bool
is_same_operation (Arithmetic a) (Arithmetic b) = sameb arithmetics a b
is_same_operation (Shift a) (Shift b) = sameb shifts a b
is_same_operation (Product a) (Product b) = sameb products a b
is_same_operation (Unary a) (Unary b) = sameb unaries a b
is_same_operation (Jump a) (Jump b) = sameb conditions a b
is_same_operation (Looping a) (Looping b) = sameb loopings a b
is_same_operation (Strings a) (Strings b) = sameb strings a b
is_same_operation (Adjust a) (Adjust b) = sameb adjusts a b
is_same_operation (Transfer a) (Transfer b) = sameb transfers a b
is_same_operation (Control a) (Control b) = sameb controls a b
is_same_operation (Processor a) (Processor b) = sameb processors a b
is_same_operation a b = false

abbrev pub is_same_mnemonic : Mnemonic → Mnemonic → Bool
is_same_mnemonic (mnemonics.Plain a) (mnemonics.Plain b) = is_same_operation a b
is_same_mnemonic mnemonics.Jmp mnemonics.Jmp = true
is_same_mnemonic mnemonics.Call mnemonics.Call = true
is_same_mnemonic mnemonics.Nop mnemonics.Nop = true
is_same_mnemonic a b = false

abbrev pub is_same_register : Register → Register → Bool
is_same_register (registers.Byte a) (registers.Byte b) = sameb byte_registers a b
is_same_register (registers.Word a) (registers.Word b) = sameb word_registers a b
is_same_register (registers.Segment a) (registers.Segment b) = sameb segment_registers a b
is_same_register a b = false

abbrev pub is_same_prefix : Prefix → Prefix → Bool
is_same_prefix prefixes.Lock prefixes.Lock = true
is_same_prefix (prefixes.Repeat a) (prefixes.Repeat b) = sameb repeats a b
is_same_prefix a b = false

abbrev pub is_same_meaning : Meaning → Meaning → Bool
is_same_meaning (meanings.Mnemonic a) (meanings.Mnemonic b) = is_same_mnemonic a b
is_same_meaning (meanings.Register a) (meanings.Register b) = is_same_register a b
is_same_meaning (meanings.Prefix a) (meanings.Prefix b) = is_same_prefix a b
is_same_meaning (meanings.Keyword a) (meanings.Keyword b) = sameb keywords a b
is_same_meaning a b = false

-- the first word with this meaning
abbrev pub name_of : Meaning → List ℕ
name_of meaning = option_map_or (λ e. e.0) (find (λ e. is_same_meaning meaning e.1) words) []

-- the mnemonic of an operation, as it is written; a far jump or call has the name of the near one
abbrev pub operation_name : Operation → List ℕ
operation_name (Control control.Jmp) = name_of (meanings.Mnemonic mnemonics.Jmp)
operation_name (Control control.JmpFar) = name_of (meanings.Mnemonic mnemonics.Jmp)
operation_name (Control control.Call) = name_of (meanings.Mnemonic mnemonics.Call)
operation_name (Control control.CallFar) = name_of (meanings.Mnemonic mnemonics.Call)
operation_name operation = name_of (meanings.Mnemonic (mnemonics.Plain operation))

abbrev pub mnemonic_name : Mnemonic → List ℕ
mnemonic_name (mnemonics.Plain operation) = operation_name operation
mnemonic_name mnemonic = name_of (meanings.Mnemonic mnemonic)

abbrev pub register_name : Register → List ℕ
register_name r = name_of (meanings.Register r)

abbrev pub word_register_name : WordRegister → List ℕ
word_register_name r = register_name (registers.Word r)

-- a prefix as it is written; a segment override is its register, which a colon follows
abbrev pub prefix_name : Prefix → List ℕ
prefix_name (prefixes.Segment r) = register_name (registers.Segment r)
prefix_name prefix = name_of (meanings.Prefix prefix)

abbrev pub keyword_name : Keyword → List ℕ
keyword_name k = name_of (meanings.Keyword k)
