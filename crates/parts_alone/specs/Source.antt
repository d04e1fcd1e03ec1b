-- What a source's HEX text is.
-- For proofs alone: no public contract rests on it.
use Rattle.std.specs.Prelude.{ℕ, ◌≡◌, List}
use Rattle.assembler.specs.Gives.{Gives}
use Rattle.loader.specs.HexText.{hex_text}

-- the source gives an image, and this is its HEX text
pub record IsHexOf (source text : List ℕ) : Type 0 where
  pub image : List (ℕ × ℕ)
  pub gives : Gives source image
  pub is_text : text ≡ hex_text image
