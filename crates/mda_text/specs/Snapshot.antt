-- What the adapter holds of text memory as the last mark found it.
-- For proofs alone: no public contract rests on it.
use Rattle.std.specs.Prelude.{ℕ, ◌≡◌, ◌<◌, ◌+◌, ◌*◌, ◌/◌, Bool, false, List, [], slice_index, slice_index_or}
use Rattle.mda_text.specs.Mda.{MdaState}
use Rattle.mda_text.specs.Screen.{characters}

-- an adapter that shows this text memory
abbrev pub showing : List ℕ → ℕ → Bool → MdaState
showing bytes start video = record {
  bytes = bytes;
  index = 0;
  start = start;
  cursor = 0;
  video = video;
  raster = 0;
  kept = [];
  last_mark = 0;
  next_mark = 0;
}

-- text memory is still the copy, except in the blocks of 32 bytes that are marked as written
abbrev pub IsCopied : List ℕ → List ℕ → List Bool → Type 0
IsCopied bytes copy written =
    (k : ℕ) → k < 4096 → slice_index_or written (k / 32) false ≡ false → slice_index bytes k ≡ slice_index copy k

-- the characters that are kept are those that the copy shows, and text memory is still the copy in unmarked blocks
pub record Recalls (bytes kept copy : List ℕ) (start : ℕ) (video : Bool) (written : List Bool) : Type 0 where
  pub shown : kept ≡ characters (showing copy start video)
  pub copied : IsCopied bytes copy written

-- a word has the same two bytes in text memory and in the copy
pub record SameWord (bytes copy : List ℕ) (word : ℕ) : Type 0 where
  pub code : slice_index bytes (2 * word) ≡ slice_index copy (2 * word)
  pub attribute : slice_index bytes (2 * word + 1) ≡ slice_index copy (2 * word + 1)
