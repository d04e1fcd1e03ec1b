-- The texts of decoded instructions in an accepted source, decoded again.
-- Laws: claims above the definitions, each proved as the contract of a function.
use Rattle.std.specs.Prelude.{ℕ, ◌≡◌, List, Some, Ok, Contains}
use Rattle.isa.specs.declared.form.Instr.{Instr}
use Rattle.isa.specs.Encoding.{IsInstr}
use Rattle.decode.specs.declared.decoding.Decoding.TheVariants.{Found}
use Rattle.decode.specs.Decoding.{code_at, decoded_from}
use Rattle.disassembler.specs.Text.{instr_text}
use Rattle.assembler_syntax.specs.Lines.{read_line}
use Rattle.assembler_meaning.specs.declared.symbol.Location.{Location}
use Rattle.assembler.specs.LocatedLines.{LocatedLine}
use Rattle.assembler.specs.Gives.{Gives}
use Rattle.assembler_laws.specs.DecodingBack.{HoldsImage}
use Rattle.assembler_laws.specs.SameMeaning.{MeansTheSame}

-- an instruction of this many bytes is decoded at the location, and means the same
pub record DecodesTheSame (byte : ℕ → ℕ) (location : Location) (size : ℕ) (i : Instr) : Type 0 where
  pub again : Instr
  pub decodes : decoded_from (code_at byte location.segment location.offset) ≡ Found again size
  pub same : MeansTheSame i again location.offset

-- In each memory that holds the image of an accepted source, at the place of each line that says what an instruction's
-- text at that offset says, an instruction is decoded that means the same as that one.
abbrev pub TextsDecodeTheSame : Type 0
TextsDecodeTheSame =
    (source : List ℕ) (image : List (ℕ × ℕ)) (gives : Gives source image) (byte : ℕ → ℕ) → HoldsImage byte image
    → (row : LocatedLine) (location : Location) (i : Instr) → Contains gives.located_lines row → IsInstr i
    → row.location ≡ Some location → read_line (instr_text i location.offset) ≡ Ok row.line
    → DecodesTheSame byte location row.size i
