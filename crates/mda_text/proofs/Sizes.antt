-- The sizes as numbers, and power-on from its parts.
use Rattle.std.proofs.Common.{◌≡◌, ℕ, List, replicate, refl, ap, ◌∙◌, false}
use Rattle.mda_text.specs.Mda.{MdaState, text_size, cell_count, power_on}
use Rattle.mda_text.specs.Screen.{row_count, column_count}

pub text_size_is : text_size ≡ 4096
unfolding text_size
text_size_is = refl

pub cell_count_is : cell_count ≡ 2000
unfolding cell_count
cell_count_is = refl

pub row_count_is : row_count ≡ 25
unfolding row_count
row_count_is = refl

pub column_count_is : column_count ≡ 80
unfolding column_count
column_count_is = refl

abbrev blank : List ℕ → List ℕ → MdaState
blank bytes kept = record {
  bytes = bytes;
  index = 0;
  start = 0;
  cursor = 0;
  video = false;
  raster = 0;
  kept = kept;
  last_mark = 0;
  next_mark = 1;
}

pub powered : (bytes kept : List ℕ) (n k : ℕ) → bytes ≡ replicate n 0 → n ≡ text_size → kept ≡ replicate k 0 → k ≡ cell_count → blank bytes kept ≡ power_on
unfolding power_on
powered bytes kept n k of_bytes size of_kept count =
    ap (λ b. blank b kept) (of_bytes ∙ ap (λ i. replicate i 0) size)
    ∙ ap (blank (replicate text_size 0)) (of_kept ∙ ap (λ i. replicate i 0) count)
