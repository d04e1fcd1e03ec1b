-- What is decoded is in the table.
use Rattle.std.proofs.Common.{ℕ, List}
use Rattle.decode.specs.declared.decoding.Decoding.{Decoding}
use Rattle.decode.specs.declared.decoding.Decoding.TheVariants.{Found, NoRow}
use Rattle.decode.specs.Decoding.{IsDecoded}
use Rattle.decode.specs.DecodedSlots.{FitsTable}

pub fits : (bytes : List ℕ) (d : Decoding) → IsDecoded bytes d → FitsTable d
fits bytes (Found i size) exact = exact.stands.is_instr.form
fits bytes NoRow exact = tt
