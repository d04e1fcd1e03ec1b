-- The bytes of lines at their addresses, in the light of all names of the source.
-- To be believed: the headline rests on it.
use Rattle.std.specs.Prelude.{ℕ, zero, suc, pos, ◌+◌, Bool, false, not, ◌||◌, ◌&&◌, ◌==◌, nat_lt, nat_le}
use Rattle.std.specs.Prelude.{if◌then◌else◌, List, [], ◌∷◌, Option, None, Some, is_some, is_none}
use Rattle.std.specs.Option.{option_map_or}
use Rattle.std.specs.List.{list_any, list_all, flat_map}
use Rattle.board_types.specs.Address.{physical}
use Rattle.isa.specs.declared.form.Form.{Form}
use Rattle.isa.specs.declared.form.Values.{Values}
use Rattle.assembler_syntax.specs.declared.statement.Statement.{Statement}
use Rattle.assembler_syntax.specs.declared.statement.Statement.TheVariants as statements
use Rattle.assembler_syntax.specs.declared.statement.Instruction.{Instruction}
use Rattle.assembler_form.specs.declared.fields.Numbers.{Numbers}
use Rattle.assembler_form.specs.Fields.{values_of}
use Rattle.assembler.specs.declared.fault.SourceFault.{SourceFault}
use Rattle.assembler.specs.declared.fault.SourceFault.TheVariants.{Undefined, OutOfRange}
use Rattle.assembler.specs.declared.fault.SourceFault.TheVariants.{OutOfSegment, Overlap, NotLoadable}
use Rattle.assembler.specs.declared.kept_line.Content.{Content}
use Rattle.assembler.specs.declared.kept_line.Content.TheVariants.{Data, Code}
use Rattle.assembler_meaning.specs.declared.symbol.Location.{Location}
use Rattle.assembler_meaning.specs.Values.{Names}
use Rattle.assembler_meaning.specs.Instructions.{numbers_of, code_bytes}
use Rattle.assembler_meaning.specs.Data.{are_items_known, do_items_fit, data_bytes}
use Rattle.assembler.specs.LocatedLines.{LocatedLine}

-- what a line places: data, or an instruction in its form
abbrev pub content_of : Statement → Option Form → Option Content
content_of (statements.Data width items) form = Some (Data width items)
content_of (statements.Instruction i) (Some f) = Some (Code f i)
content_of statement form = None

-- the numbers in an instruction's fields; a target is counted from the next instruction on
abbrev pub fields_for : Form → ℕ → Option Numbers → Option Values
fields_for f next (Some n) = values_of f (pos next) n
fields_for f next None = None

abbrev pub fields_of : Names → Location → ℕ → Form → Instruction → Option Values
fields_of names location size f i = fields_for f (location.offset + size) (numbers_of names location.offset i.operands)

-- the bytes of what stands at a location
abbrev pub bytes_by : Names → Location → ℕ → Option Content → List ℕ
bytes_by names location size (Some (Data width items)) = data_bytes names location.offset width items
bytes_by names location size (Some (Code f i)) = option_map_or (code_bytes f i) (fields_of names location size f i) []
bytes_by names location size None = []

-- the address n bytes after a location
abbrev pub address_after : Location → ℕ → ℕ
address_after location n = physical location.segment (location.offset + n)

-- these bytes at addresses that rise by one, from n bytes after a location on
abbrev pub bytes_from : Location → ℕ → List ℕ → List (ℕ × ℕ)
bytes_from location n [] = []
bytes_from location n (b ∷ bs) = (address_after location n, b) ∷ bytes_from location (n + 1) bs

abbrev pub placed_at : Names → Option Location → ℕ → Option Content → List (ℕ × ℕ)
placed_at names (Some location) size content = bytes_from location 0 (bytes_by names location size content)
placed_at names None size content = []

-- what a row places: addresses, each with its byte
unfoldable pub placed_by : Names → LocatedLine → List (ℕ × ℕ)
placed_by names located = placed_at names located.location located.size (content_of located.line.statement located.form)

abbrev pub placed_by_all : Names → List LocatedLine → List (ℕ × ℕ)
placed_by_all names located_lines = flat_map (placed_by names) located_lines

-- whether a name is used that no line defines, or that is no label though one is wanted
abbrev pub lacks_name : Names → Location → Option Content → Bool
lacks_name names location (Some (Data width items)) = not (are_items_known names location.offset items)
lacks_name names location (Some (Code f i)) = is_none (numbers_of names location.offset i.operands)
lacks_name names location None = false

-- whether a number doesn't fit
abbrev pub has_wrong_number : Names → Location → ℕ → Option Content → Bool
has_wrong_number names location size (Some (Data width items)) = not (do_items_fit names location.offset width items)
has_wrong_number names location size (Some (Code f i)) = is_none (fields_of names location size f i)
has_wrong_number names location size None = false

-- whether a byte or a label lies past the segment's end
abbrev pub is_past_end : Location → ℕ → Bool → Bool
is_past_end location size has_label =
    (nat_lt 0 size && nat_lt 65536 (location.offset + size)) || (has_label && nat_lt 65535 location.offset)

abbrev pub is_loadable : ℕ → Bool
is_loadable address = nat_lt address 0xA0000 || (nat_le 0xF0000 address && nat_lt address 0x100000)

-- the addresses of this many bytes, from n bytes after a location on
abbrev pub addresses_from : Location → ℕ → ℕ → List ℕ
addresses_from location n zero = []
addresses_from location n (suc more) = address_after location n ∷ addresses_from location (n + 1) more

-- The fault of what stands at a location, in the light of all names and of the addresses that are taken. If there are
-- several, it is the one with the least number.
abbrev pub fault_at : Names → (ℕ → Bool) → Bool → Location → ℕ → Option Content → Option SourceFault
fault_at names is_taken has_label location size content =
    if lacks_name names location content then Some Undefined else (
    if has_wrong_number names location size content then Some OutOfRange else (
    if is_past_end location size has_label then Some OutOfSegment else (
    if list_any is_taken (addresses_from location 0 size) then Some Overlap else (
    if list_all is_loadable (addresses_from location 0 size) then None else Some NotLoadable))))

-- the fault of what a line places; outside of segments a line places nothing
unfoldable pub late_fault : Names → (ℕ → Bool) → Bool → Option Location → ℕ → Option Content → Option SourceFault
late_fault names is_taken has_label (Some location) size content =
    fault_at names is_taken has_label location size content
late_fault names is_taken has_label None size content = None

-- whether an earlier line placed a byte at the address
abbrev pub is_placed : List (ℕ × ℕ) → ℕ → Bool
is_placed placed address = list_any (λ entry. entry.0 == address) placed

-- the fault that a row has in the light of the rows before it
abbrev pub located_fault : Names → List LocatedLine → LocatedLine → Option SourceFault
located_fault names before located =
    late_fault names (is_placed (placed_by_all names before)) (is_some located.line.label) located.location located.size
    (content_of located.line.statement located.form)
