-- The instructions of an accepted source, decoded from a memory that holds its image.
-- Laws: claims above the definitions, each proved as the contract of a function.
use Rattle.std.specs.Prelude.{ℕ, ◌≡◌, ◌<◌, List, Some, Contains}
use Rattle.board_types.specs.Image.{image_byte}
use Rattle.isa.specs.declared.form.Form.{Form}
use Rattle.isa.specs.declared.form.Values.{Values}
use Rattle.isa.specs.declared.form.Instr.{Instr}
use Rattle.decode.specs.declared.decoding.Decoding.TheVariants.{Found}
use Rattle.decode.specs.Decoding.{code_at, decoded_from}
use Rattle.assembler_syntax.specs.declared.statement.Instruction.{Instruction as Written}
use Rattle.assembler_syntax.specs.declared.statement.Statement.TheVariants.{Instruction}
use Rattle.assembler_meaning.specs.declared.symbol.Location.{Location}
use Rattle.assembler_meaning.specs.Instructions.{prefixes_of}
use Rattle.assembler_meaning.specs.Values.{Names}
use Rattle.assembler.specs.Placement.{fields_of}
use Rattle.assembler.specs.LocatedLines.{LocatedLine, names_of}
use Rattle.assembler.specs.Gives.{Gives}

-- a memory of bytes that has each byte of the image at its address; what it has elsewhere is open
pub record HoldsImage (byte : ℕ → ℕ) (image : List (ℕ × ℕ)) : Type 0 where
  pub bytes : (address : ℕ) → byte address < 256
  pub holds : (address b : ℕ) → image_byte image address ≡ Some b → byte address ≡ b

-- a line's instruction as one of the encoding table, in its form and with the numbers of its fields
abbrev pub instr_of : Form → Written → Values → Instr
instr_of f i v = record { prefixes = record { items = prefixes_of i }; form = f; values = v }

-- A row with an instruction has a form and a place, each of its numbers is known and fits, and decoding this memory at
-- that place gives this instruction, with as many bytes as the row.
pub record DecodesBack (byte : ℕ → ℕ) (names : Names) (row : LocatedLine) (i : Written) : Type 0 where
  pub form : Form
  pub location : Location
  pub numbers : Values
  pub has_form : row.form ≡ Some form
  pub has_place : row.location ≡ Some location
  pub has_numbers : fields_of names location row.size form i ≡ Some numbers
  pub decodes : decoded_from (code_at byte location.segment location.offset) ≡ Found (instr_of form i numbers) row.size

-- in each memory that holds the image of an accepted source, each instruction of the source decodes back
abbrev pub BytesDecodeBack : Type 0
BytesDecodeBack =
    (source : List ℕ) (image : List (ℕ × ℕ)) (gives : Gives source image) (byte : ℕ → ℕ) → HoldsImage byte image
    → (row : LocatedLine) (i : Written) → Contains gives.located_lines row → row.line.statement ≡ Instruction i
    → DecodesBack byte (names_of gives.located_lines) row i
