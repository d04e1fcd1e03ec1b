-- Instructions: what they ask of the encoding table, their prefixes, and the numbers in their fields.
-- To be believed: the headline rests on it.
use Rattle.std.specs.Prelude.{ℕ, ℤ, pos, ◌≡◌, ◌+◌, nat_le, if◌then◌else◌, List}
use Rattle.std.specs.Prelude.{[], ◌∷◌, ◌++◌, length, map, Option, None, Some}
use Rattle.std.specs.Option.{option_map}
use Rattle.isa.specs.declared.register.SegmentRegister.{SegmentRegister}
use Rattle.isa.specs.declared.form.Prefix.{Prefix}
use Rattle.isa.specs.declared.form.Prefix.TheVariants.{Segment}
use Rattle.isa.specs.declared.form.Form.{Form}
use Rattle.isa.specs.declared.form.Values.{Values}
use Rattle.isa.specs.Encoding.{encoding, form_length, prefix_byte}
use Rattle.isa.specs.Table.{rows}
use Rattle.assembler_syntax.specs.declared.expression.Term.{Term}
use Rattle.assembler_syntax.specs.declared.operand.Address.{Address}
use Rattle.assembler_syntax.specs.declared.operand.Operand.{Operand}
use Rattle.assembler_syntax.specs.declared.operand.Operand.TheVariants.{Register, One, Value, Memory}
use Rattle.assembler_syntax.specs.declared.operand.Operand.TheVariants.{Short, FarLabel, FarPointer}
use Rattle.assembler_syntax.specs.declared.statement.Instruction.{Instruction}
use Rattle.assembler_form.specs.declared.operand.Number.{Number}
use Rattle.assembler_form.specs.declared.operand.Number.TheVariants as numbers
use Rattle.assembler_form.specs.declared.operand.KnownMemory.{KnownMemory}
use Rattle.assembler_form.specs.declared.operand.KnownOperand.{KnownOperand}
use Rattle.assembler_form.specs.declared.operand.KnownOperand.TheVariants as known
use Rattle.assembler_form.specs.declared.asked.Asked.{Asked}
use Rattle.assembler_form.specs.declared.fields.Numbers.{Numbers}
use Rattle.assembler_form.specs.Asked.{asked}
use Rattle.assembler_form.specs.Choice.{IsChosen, NoneTakes}
use Rattle.assembler_meaning.specs.declared.symbol.Location.{Location}
use Rattle.assembler_meaning.specs.Values.{Names, value_of, constant_of, label_of}

-- the one, or else the other
abbrev pub or_else : {A : Type 0} → Option A → Option A → Option A
or_else None other = other
or_else (Some x) other = Some x

abbrev pub operand_override : Operand → Option SegmentRegister
operand_override (Memory a) = a.segment
operand_override operand = None

-- the segment register before the brackets of the operand in memory; no row takes two operands in memory
abbrev pub override_of : List Operand → Option SegmentRegister
override_of [] = None
override_of (operand ∷ more) = or_else (operand_override operand) (override_of more)

abbrev pub override_prefix : Option SegmentRegister → List Prefix
override_prefix None = []
override_prefix (Some segment) = Segment segment ∷ []

-- the prefixes in written order, and just before the opcode the override of the operand
unfoldable pub prefixes_of : Instruction → List Prefix
prefixes_of i = i.prefixes ++ override_prefix (override_of i.operands)

-- a number as the table is asked for it: a constant's value, or none that is known yet
abbrev pub number_by : Option ℤ → Number
number_by (Some n) = numbers.Constant n
number_by None = numbers.Later

abbrev pub known_number : Names → List Term → Number
known_number names terms = number_by (constant_of names terms)

abbrev pub known_displacement : Names → Option (List Term) → Number
known_displacement names None = numbers.Constant (pos 0)
known_displacement names (Some terms) = known_number names terms

abbrev pub known_memory : Names → Address → KnownMemory
known_memory names a = record {
  size = a.size;
  base = a.base;
  displacement = known_displacement names a.displacement;
}

-- what an operand asks of the table, in the light of the names that are known: only a constant's value counts
abbrev pub known_operand : Names → Operand → KnownOperand
known_operand names (Register r) = known.Register r
known_operand names One = known.One
known_operand names (Value terms) = known.Number (known_number names terms)
known_operand names (Memory a) = known.Memory (known_memory names a)
known_operand names (Short terms) = known.Short
known_operand names (FarLabel name) = known.Far
known_operand names (FarPointer s o) = known.Far

-- the operands of an instruction, which are at most two, as no row has more
abbrev pub known_operands : Names → List Operand → Option (KnownOperand × KnownOperand)
known_operands names [] = Some (known.Nothing, known.Nothing)
known_operands names (first ∷ []) = Some (known_operand names first, known.Nothing)
known_operands names (first ∷ second ∷ []) = Some (known_operand names first, known_operand names second)
known_operands names more = None

-- what an instruction asks of the table, if it has at most seven prefixes and two operands
unfoldable pub instruction_asked : Names → Instruction → Option Asked
instruction_asked names i =
    if nat_le (length (prefixes_of i)) 7 then option_map (λ os. asked i.mnemonic os.0 os.1)
    (known_operands names i.operands) else None

-- the form that the table has for what is asked, or none if no row takes it
abbrev pub IsChosenFor : Asked → Option Form → Type 0
IsChosenFor a (Some f) = IsChosen a f
IsChosenFor a None = NoneTakes rows a

abbrev pub IsFormFor : Option Asked → Option Form → Type 0
IsFormFor (Some a) form = IsChosenFor a form
IsFormFor None form = form ≡ None

abbrev pub instruction_size : Form → Instruction → ℕ
instruction_size f i = length (prefixes_of i) + form_length f

-- the numbers of no operands
abbrev pub no_numbers : Numbers
no_numbers = record { displacement = pos 0; number = pos 0; segment = pos 0 }

abbrev pub with_number : Numbers → ℤ → Numbers
with_number n number = record n { number = number }

abbrev pub with_displacement : Numbers → ℤ → Numbers
with_displacement n displacement = record n { displacement = displacement }

abbrev pub with_label : Numbers → Location → Numbers
with_label n place = record n { number = pos place.offset; segment = pos place.segment }

abbrev pub with_pointer : Numbers → Option ℤ → Option ℤ → Option Numbers
with_pointer n (Some segment) (Some offset) = Some (record n { number = offset; segment = segment })
with_pointer n segment offset = None

abbrev pub displacement_value : Names → ℕ → Option (List Term) → Option ℤ
displacement_value names here None = Some (pos 0)
displacement_value names here (Some terms) = value_of names here terms

abbrev pub numbers_with : Names → ℕ → Numbers → Operand → Option Numbers
numbers_with names here n (Register r) = Some n
numbers_with names here n One = Some (with_number n (pos 1))
numbers_with names here n (Value terms) = option_map (with_number n) (value_of names here terms)
numbers_with names here n (Short terms) = option_map (with_number n) (value_of names here terms)
numbers_with names here n (Memory a) = option_map (with_displacement n) (displacement_value names here a.displacement)
numbers_with names here n (FarLabel name) = option_map (with_label n) (label_of names name)
numbers_with names here n (FarPointer s o) = with_pointer n (value_of names here s) (value_of names here o)

abbrev pub numbers_after : Names → ℕ → Option Numbers → List Operand → Option Numbers
numbers_after names here None operands = None
numbers_after names here (Some n) [] = Some n
numbers_after names here (Some n) (operand ∷ more) = numbers_after names here (numbers_with names here n operand) more

-- The numbers that the operands name, in a line that stands at the offset `here`. There are none if a name isn't
-- defined, or is no label after FAR.
unfoldable pub numbers_of : Names → ℕ → List Operand → Option Numbers
numbers_of names here operands = numbers_after names here (Some no_numbers) operands

-- the bytes of an instruction: its prefixes, and the encoding that the table gives its form
abbrev pub code_bytes : Form → Instruction → Values → List ℕ
code_bytes f i v = map prefix_byte (prefixes_of i) ++ encoding f v
