-- Where two lists of bytes differ.
-- To be believed by callers of this crate: the headline does not rest on it.
use Rattle.std.specs.Prelude.{ℕ, ◌≡◌, ◌≢◌, ◌<◌, List, length, slice_index}

-- the least place where two lists of one length differ
pub record DiffersFirstAt (a b : List ℕ) (place : ℕ) : Type 0 where
  pub within : place < length a
  pub before : (k : ℕ) → k < place → slice_index a k ≡ slice_index b k
  pub here : slice_index a place ≢ slice_index b place
