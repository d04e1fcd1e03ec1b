-- Whether an instruction was found.
-- For proofs alone: no public contract rests on it.
use Rattle.std.specs.Prelude.{Bool, true, false}
use Rattle.decode.specs.declared.decoding.Decoding.{Decoding}
use Rattle.decode.specs.declared.decoding.Decoding.TheVariants.{Found, NoRow}

abbrev pub is_found : Decoding → Bool
is_found (Found i size) = true
is_found NoRow = false
