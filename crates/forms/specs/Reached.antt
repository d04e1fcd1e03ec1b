-- What an instruction reaches in memory and at ports, as its bytes tell: of a string instruction one element.
-- To be believed by callers of this crate: the headline does not rest on it.
use Rattle.std.specs.Prelude.{ℕ, ◌+◌, ◌*◌, Bool, true, false, ◌&&◌, if◌then◌else◌, Option, None, Some}
use Rattle.isa.specs.declared.form.Instr.{Instr}
use Rattle.isa.specs.declared.operation.Operation.{Operation}
use Rattle.isa.specs.declared.operation.Operation.TheVariants.{Product, Strings, Transfer}
use Rattle.isa.specs.declared.operation.Product.TheVariants.{Div, Idiv}
use Rattle.isa.specs.declared.operation.Strings.TheVariants.{Movsb, Cmpsb, Lodsb, Scasb}
use Rattle.isa.specs.declared.operation.Transfer.TheVariants.{Xlat, In, Out}
use Rattle.isa.specs.declared.row.Kind.{Kind}
use Rattle.isa.specs.declared.row.Kind.TheVariants.{Ax, Dx}
use Rattle.isa.specs.Row.{first_of, operation_of, second_of}
use Rattle.execute_meaning.specs.AccessCounts.{byte_at, operands_read, whole_bytes_written, whole_words_read}
use Rattle.execute_meaning.specs.AccessCounts.{whole_words_written}
use Rattle.forms.specs.declared.accesses.Accesses.{Accesses}
use Rattle.forms.specs.declared.accesses.PortAccess.{PortAccess}
use Rattle.forms.specs.declared.accesses.PortName.{PortName}
use Rattle.forms.specs.declared.accesses.PortName.TheVariants as names

-- the bytes that an element of a string instruction, or XLAT, reads
abbrev pub byte_elements_read : Operation → ℕ
byte_elements_read (Strings Movsb) = 1
byte_elements_read (Strings Cmpsb) = 2
byte_elements_read (Strings Lodsb) = 1
byte_elements_read (Strings Scasb) = 1
byte_elements_read (Transfer Xlat) = 1
byte_elements_read op = 0

abbrev pub divides : Operation → Bool
divides (Product Div) = true
divides (Product Idiv) = true
divides op = false

-- an entry reads a vector of four bytes and pushes six
abbrev pub bytes_read : Operation → Instr → Bool → ℕ
bytes_read op i entered =
    2 * whole_words_read op i entered
    + operands_read op (byte_at (first_of i.form.row) i.form.place) (byte_at (second_of i.form.row) i.form.place)
    + byte_elements_read op + (if divides op && entered then 4 else 0)

abbrev pub bytes_written : Operation → Instr → Bool → ℕ
bytes_written op i entered =
    2 * whole_words_written op i entered + whole_bytes_written op i + (if divides op && entered then 6 else 0)

-- how many bytes in memory an instruction reads and writes, if it enters an interrupt that it may enter, or if not
unfoldable pub accesses_of : Instr → Bool → Accesses
accesses_of i entered = record {
  read = bytes_read (operation_of i.form.row) i entered;
  written = bytes_written (operation_of i.form.row) i entered;
}

abbrev pub is_ax : Kind → Bool
is_ax Ax = true
is_ax kind = false

abbrev pub port_name : Kind → ℕ → PortName
port_name Dx number = names.InDx
port_name kind number = names.Number number

abbrev pub port_by : Operation → Instr → Option PortAccess
port_by (Transfer In) i = Some (record {
  is_read = true;
  name = port_name (second_of i.form.row) i.values.number;
  is_word = is_ax (first_of i.form.row);
})
port_by (Transfer Out) i = Some (record {
  is_read = false;
  name = port_name (first_of i.form.row) i.values.number;
  is_word = is_ax (second_of i.form.row);
})
port_by op i = None

-- the port that an instruction reaches, if it reaches one: a word is there and at the next port
unfoldable pub port_of : Instr → Option PortAccess
port_of i = port_by (operation_of i.form.row) i
