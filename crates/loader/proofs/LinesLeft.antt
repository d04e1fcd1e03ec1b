-- What is left to write of an image's HEX text while its entries are gone through.
use Rattle.std.proofs.Common.{suc, ◌≡◌, ◌∙◌, ℕ, ◌-◌, ◌/◌, ◌<◌, List, [], ◌∷◌, ◌++◌, length, refl, sym, ap, arith}
use Rattle.std.proofs.Common.{append_assoc, inl, inr, Option, None, Some}
use Rattle.std.specs.List.{AllByRecursion}
use Rattle.std.specs.List.Sorted.{IsStrictlySortedBy}
use Rattle.std.specs.Map.{keys_of}
use Rattle.std.specs.Ordering.{nat_cmp}
use Rattle.std.specs.declared.cmp.Ordering.TheVariants.{Less}
use Rattle.std.proofs.lemmas.Bool.{le-leb as le_yes, lt-leb as le_not}
use Rattle.std.proofs.lemmas.List.Elements.{recursion_from_All}
use Rattle.std.proofs.lemmas.Map.Keys.{sorted_tail}
use Rattle.board_types.specs.Image.{IsImage, IsLoadable}
use Rattle.board_types.proofs.ImageBytes.{less_is}
use Rattle.loader.specs.HexText.{bytes_from, end_line, hex_lines, hex_text, longest_run, row_lines}
use Rattle.loader.proofs.Runs.{head_below, run_at}

-- after `front` the rest of an image's entries is left, and the lines of it without its first `skip` bytes
pub record IsLeft (image rest : List (ℕ × ℕ)) (bank : Option ℕ) (skip : ℕ) (done : List ℕ) : Type 0 where
  pub front : List (ℕ × ℕ)
  pub entries : front ++ rest ≡ image
  pub text : done ++ hex_lines bank skip rest ≡ hex_text image

pub left_first : (image : List (ℕ × ℕ)) → IsLeft image image None 0 []
unfolding hex_text
left_first image = record { front = []; entries = refl; text = refl }

pub left_whole : (image : List (ℕ × ℕ)) (bank : Option ℕ) (skip : ℕ) (done : List ℕ) → IsLeft image [] bank skip done → done ++ end_line ≡ hex_text image
left_whole image bank skip done left = left.text

one_on : (front rest image : List (ℕ × ℕ)) (e : ℕ × ℕ) → front ++ (e ∷ rest) ≡ image → (front ++ (e ∷ [])) ++ rest ≡ image
one_on front rest image e is = append_assoc front (e ∷ []) rest ∙ is

pub left_skipped : (image rest : List (ℕ × ℕ)) (bank : Option ℕ) (skip less : ℕ) (done : List ℕ) (e : ℕ × ℕ)
    → skip ≡ suc less → IsLeft image (e ∷ rest) bank skip done → IsLeft image rest bank less done
left_skipped image rest bank skip less done e is left = record {
  front = left.front ++ (e ∷ []);
  entries = one_on left.front rest image e left.entries;
  text = rw is at left.text;
}

-- an entry below all of those in a list, one of which is this
below_one : (k a b : ℕ) (front rest : List (ℕ × ℕ)) → AllByRecursion (λ y. nat_cmp k y ≡ Less) (keys_of (front ++ ((a, b) ∷ rest))) → k < a
below_one k a b [] rest all = less_is k a all.0
below_one k a b (e ∷ front) rest all = below_one k a b front rest all.1

all_from : (a : ℕ) (es : List (ℕ × ℕ)) → AllByRecursion (λ y. nat_cmp a y ≡ Less) (keys_of es) → bytes_from es a ≡ es
all_from a [] above = refl
all_from a (e ∷ es) above =
    let over : a < e.0 = less_is a e.0 above.0 in
    rw (le_yes a e.0 (omega (arith, over))) (ap (λ r. e ∷ r) (all_from a es above.1))

-- the bytes from an entry's address on are the entry and those after it
from_entry : (a b : ℕ) (front rest : List (ℕ × ℕ)) → IsStrictlySortedBy nat_cmp (keys_of (front ++ ((a, b) ∷ rest)))
    → bytes_from (front ++ ((a, b) ∷ rest)) a ≡ (a, b) ∷ rest
from_entry a b [] rest sorted = rw (le_yes a a (omega arith)) (ap (λ r. (a, b) ∷ r) (all_from a rest (head_below (a, b) rest sorted)))
from_entry a b (e ∷ front) rest sorted =
    rw (le_not a e.0 (below_one e.0 a b front rest (head_below e (front ++ ((a, b) ∷ rest)) sorted)))
    (from_entry a b front rest (sorted_tail nat_cmp e.0 (keys_of (front ++ ((a, b) ∷ rest))) sorted))

pub left_from : (image rest : List (ℕ × ℕ)) (bank : Option ℕ) (skip : ℕ) (done : List ℕ) (a b : ℕ)
    → IsImage image → IsLeft image ((a, b) ∷ rest) bank skip done → bytes_from image a ≡ (a, b) ∷ rest
left_from image rest bank skip done a b whole left =
    rw (sym left.entries) (from_entry a b left.front rest (rw (sym left.entries) at whole.rising))

loadable_one : (a b : ℕ) (front rest : List (ℕ × ℕ)) → AllByRecursion IsLoadable (keys_of (front ++ ((a, b) ∷ rest))) → a < 0x100000
loadable_one a b [] rest all = within all.0
  where
    within : IsLoadable a → a < 0x100000
    within (inl low) = omega arith
    within (inr rom) = omega arith
loadable_one a b (e ∷ front) rest all = loadable_one a b front rest all.1

pub left_within : (image rest : List (ℕ × ℕ)) (bank : Option ℕ) (skip : ℕ) (done : List ℕ) (a b : ℕ)
    → IsImage image → IsLeft image ((a, b) ∷ rest) bank skip done → a < 0x100000
left_within image rest bank skip done a b whole left =
    loadable_one a b left.front rest (recursion_from_All IsLoadable _ (rw (sym left.entries) at whole.loadable))

-- a row at an entry has a byte
pub left_row_some : (image rest : List (ℕ × ℕ)) (a b : ℕ) → bytes_from image a ≡ (a, b) ∷ rest → 0 < length (longest_run (bytes_from image a) a 16)
left_row_some image rest a b is = rw (run_at 15 a b (bytes_from image a) rest is) (omega arith)

-- once a row is written, the rest is left without the row's other bytes
pub left_row : (image rest : List (ℕ × ℕ)) (bank : Option ℕ) (skip : ℕ) (done : List ℕ) (a b : ℕ)
    → skip ≡ 0 → bytes_from image a ≡ (a, b) ∷ rest → IsLeft image ((a, b) ∷ rest) bank skip done
    → IsLeft image rest (Some (a / 65536)) (length (longest_run (bytes_from image a) a 16) - 1)
    (done ++ row_lines bank a (longest_run (bytes_from image a) a 16))
left_row image rest bank skip done a b none is left = record {
  front = left.front ++ ((a, b) ∷ []);
  entries = one_on left.front rest image (a, b) left.entries;
  text = rw is (append_assoc done (row_lines bank a (longest_run ((a, b) ∷ rest) a 16)) _ ∙ (rw none at left.text));
}
