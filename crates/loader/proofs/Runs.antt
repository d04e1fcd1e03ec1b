-- The bytes of an image from an address on, and their runs.
use Rattle.std.proofs.Common.{zero, suc, ◌≡◌, ◌∙◌, ℕ, ◌+◌, ◌-◌, ◌%◌, ◌/◌, ◌<◌, ◌≤◌, ◌==◌, List, [], ◌∷◌, ◌++◌, length, refl, subst, sym, ap, ap₂}
use Rattle.std.proofs.Common.{append_assoc, append-nil, inl, inr, arith, Bool, true, false, Option, None, Some, nat_lt, nat_le, if◌then◌else◌}
use Rattle.std.specs.List.{AllByRecursion}
use Rattle.std.specs.List.Sorted.{IsStrictlySortedBy}
use Rattle.std.specs.Map.{keys_of}
use Rattle.std.specs.Ordering.{nat_cmp}
use Rattle.std.specs.declared.cmp.Ordering.TheVariants.{Less}
use Rattle.std.proofs.lemmas.Bool.{cases_lt, eq-eqb as eq_yes, le-leb as le_yes, le-ltb as lt_not, lt-leb as le_not, lt-ltb as lt_yes}
use Rattle.std.proofs.lemmas.Bool.Decides.{nat_tests}
use Rattle.std.proofs.lemmas.Map.Keys.{sorted_tail}
use Rattle.board_types.specs.Image.{IsLoadable, image_byte}
use Rattle.board_types.proofs.ImageBytes.{eq_not, none_below}
use Rattle.loader.specs.HexText.{bytes_from, hex_lines, row_lines, longest_run}

-- if an image has no byte at an address, its bytes from there on are those after it
pub gets_none : (a : ℕ) (es : List (ℕ × ℕ)) → image_byte es a ≡ None → bytes_from es a ≡ bytes_from es (a + 1)
gets_none a [] h = refl
gets_none a (e ∷ es) h = elim (cases_lt a e.0) [
  | inl below ↦
      rw (le_yes a e.0 (omega arith), le_yes (a + 1) e.0 (omega arith)) (ap (λ r. e ∷ r) (gets_none a es (rw (lt_yes a e.0 below) at h)))
  | inr not_below ↦ elim (cases_lt e.0 a) [
    | inl above ↦
        rw (le_not a e.0 above, le_not (a + 1) e.0 (omega arith)) (gets_none a es (rw (lt_not a e.0 not_below, eq_not a e.0 above) at h))
    | inr not_above ↦ absurd (some_none e.1 (rw (lt_not a e.0 not_below, eq_yes a e.0 (omega arith)) at h))
  ]
]
  where
    some_none : (b : ℕ) → Some b ≡ None → ⊥
    some_none b is = cc

pub head_below : (e : ℕ × ℕ) (es : List (ℕ × ℕ)) → IsStrictlySortedBy nat_cmp (keys_of (e ∷ es)) → AllByRecursion (λ y. nat_cmp e.0 y ≡ Less) (keys_of es)
unfolding IsStrictlySortedBy
head_below e es sorted = sorted.0

-- if an image has a byte at an address, its bytes from there on are that one and those after it
pub gets_some : (a b : ℕ) (es : List (ℕ × ℕ)) → IsStrictlySortedBy nat_cmp (keys_of es) → image_byte es a ≡ Some b
    → bytes_from es a ≡ (a, b) ∷ bytes_from es (a + 1)
gets_some a b [] sorted h = cc
gets_some a b (e ∷ es) sorted h = elim (cases_lt a e.0) [
  | inl below ↦
      let none : image_byte es a ≡ None = none_below a e.0 es (head_below e es sorted) (omega arith) in
      absurd (none_some none (rw (lt_yes a e.0 below) at h))
  | inr not_below ↦ elim (cases_lt e.0 a) [
    | inl above ↦
        rw (le_not a e.0 above, le_not (a + 1) e.0 (omega arith))
        (gets_some a b es (sorted_tail nat_cmp e.0 (keys_of es) sorted) (rw (lt_not a e.0 not_below, eq_not a e.0 above) at h))
    | inr not_above ↦
        let key : e.0 ≡ a = omega arith in
        let byte : e.1 ≡ b = some_same (rw (lt_not a e.0 not_below, eq_yes a e.0 (sym key)) at h) in
        let none : image_byte es a ≡ None = none_below a e.0 es (head_below e es sorted) (omega arith) in
        rw (le_yes a e.0 (omega arith), le_not (a + 1) e.0 (omega arith))
        (ap₂ (λ x xs. x ∷ xs) (ap₂ (λ x y. (x, y)) key byte) (gets_none a es none))
  ]
]
  where
    none_some : {x : Option ℕ} {b : ℕ} → x ≡ None → x ≡ Some b → ⊥
    none_some is other = cc

    some_same : {x b : ℕ} → Some x ≡ Some b → x ≡ b
    some_same is = cc

-- the run at a byte
pub run_at : (n a b : ℕ) (es rest : List (ℕ × ℕ)) → es ≡ (a, b) ∷ rest
    → longest_run es a (suc n) ≡ b ∷ (if (a + 1) % 65536 == 0 then [] else longest_run rest (a + 1) n)
run_at n a b es rest is = rw (is, eq_yes a a refl) refl

-- there is no run from an address without a byte
pub no_run : (n a : ℕ) (es : List (ℕ × ℕ)) → longest_run (bytes_from es (a + 1)) a n ≡ []
no_run zero a es = refl
no_run (suc n) a [] = refl
no_run (suc n) a (e ∷ es) = elim (cases_lt e.0 (a + 1)) [
  | inl under ↦ rw (le_not (a + 1) e.0 under) (no_run (suc n) a es)
  | inr over ↦ rw (le_yes (a + 1) e.0 over, eq_not e.0 a (omega arith)) refl
]

-- the lines after a run are those from the address after it
abbrev pub Skips : ℕ → ℕ → List (ℕ × ℕ) → Option ℕ → Type 0
Skips n a es last =
    hex_lines last (length (longest_run (bytes_from es a) a n)) (bytes_from es a)
    ≡ hex_lines last 0 (bytes_from es (a + length (longest_run (bytes_from es a) a n)))

skips_none : (n a : ℕ) (es : List (ℕ × ℕ)) (last : Option ℕ) → image_byte es a ≡ None → Skips (suc n) a es last
skips_none n a es last none =
    let empty : longest_run (bytes_from es a) a (suc n) ≡ [] = rw (gets_none a es none) (no_run (suc n) a es) in
    let same : a + 0 ≡ a = omega arith in
    rw empty (rw same refl)

skips_bank : (n a b : ℕ) (es : List (ℕ × ℕ)) (last : Option ℕ) (ends : Bool) → Skips n (a + 1) es last
    → hex_lines last (length (b ∷ (if ends then [] else longest_run (bytes_from es (a + 1)) (a + 1) n))) ((a, b) ∷ bytes_from es (a + 1))
    ≡ hex_lines last 0 (bytes_from es (a + length (b ∷ (if ends then [] else longest_run (bytes_from es (a + 1)) (a + 1) n))))
skips_bank n a b es last true more = let same : a + suc 0 ≡ a + 1 = omega arith in rw same refl
skips_bank n a b es last false more =
    let same : a + suc (length (longest_run (bytes_from es (a + 1)) (a + 1) n)) ≡ a + 1 + length (longest_run (bytes_from es (a + 1)) (a + 1) n) =
    omega arith in
    rw same more

skips_some : (n a b : ℕ) (es : List (ℕ × ℕ)) (last : Option ℕ) → IsStrictlySortedBy nat_cmp (keys_of es)
    → image_byte es a ≡ Some b → Skips n (a + 1) es last → Skips (suc n) a es last
skips_some n a b es last sorted some more =
    let is : bytes_from es a ≡ (a, b) ∷ bytes_from es (a + 1) = gets_some a b es sorted some in
    rw (run_at n a b (bytes_from es a) (bytes_from es (a + 1)) is, is) (skips_bank n a b es last ((a + 1) % 65536 == 0) more)

skips_by : (n a : ℕ) (es : List (ℕ × ℕ)) (last found : Option ℕ)
    → IsStrictlySortedBy nat_cmp (keys_of es) → image_byte es a ≡ found → Skips n (a + 1) es last → Skips (suc n) a es last
skips_by n a es last None sorted is more = skips_none n a es last is
skips_by n a es last (Some b) sorted is more = skips_some n a b es last sorted is more

pub skips : (n a : ℕ) (es : List (ℕ × ℕ)) (last : Option ℕ) → IsStrictlySortedBy nat_cmp (keys_of es) → Skips n a es last
skips zero a es last sorted = let same : a + 0 ≡ a = omega arith in rw same refl
skips (suc n) a es last sorted = skips_by n a es last (image_byte es a) sorted refl (skips n (a + 1) es last sorted)

-- a row ends at an address without a byte
pub row_ends : (count start : ℕ) (row whole : List ℕ) (es : List (ℕ × ℕ)) → image_byte es (start + count) ≡ None
    → row ++ longest_run (bytes_from es (start + count)) (start + count) (16 - count) ≡ whole → row ≡ whole
row_ends count start row whole es none so_far =
    let empty : longest_run (bytes_from es (start + count)) (start + count) (16 - count) ≡ [] =
    rw (gets_none (start + count) es none) (no_run (16 - count) (start + count) es) in
    sym (append-nil row) ∙ ap (λ r. row ++ r) (sym empty) ∙ so_far

row_step : (count start b : ℕ) (row new whole : List ℕ) (es : List (ℕ × ℕ)) → count < 16 → IsStrictlySortedBy nat_cmp (keys_of es)
    → image_byte es (start + count) ≡ Some b → new ≡ row ++ b ∷ [] → row ++ longest_run (bytes_from es (start + count)) (start + count) (16 - count) ≡ whole
    → new ++ (if (start + count + 1) % 65536 == 0 then [] else longest_run (bytes_from es (start + count + 1)) (start + count + 1) (16 - (count + 1))) ≡ whole
row_step count start b row new whole es within sorted some pushed so_far =
    let left : 16 - count ≡ suc (16 - (count + 1)) = omega arith in
    let is = gets_some (start + count) b es sorted some in
    let next = run_at (16 - (count + 1)) (start + count) b (bytes_from es (start + count)) (bytes_from es (start + count + 1)) is in
    rw pushed (append_assoc row (b ∷ []) _ ∙ ap (λ r. row ++ r) (sym next) ∙ (rw left at so_far))

-- a row ends at the end of its bank
pub row_full : (count start b : ℕ) (row new whole : List ℕ) (es : List (ℕ × ℕ))
    → count < 16 → IsStrictlySortedBy nat_cmp (keys_of es) → image_byte es (start + count) ≡ Some b → new ≡ row ++ b ∷ []
    → row ++ longest_run (bytes_from es (start + count)) (start + count) (16 - count) ≡ whole → (start + count + 1) % 65536 ≡ 0 → new ≡ whole
row_full count start b row new whole es within sorted some pushed so_far ends =
    let P : Bool → Type 0 = λ t. new ++ (if t then [] else longest_run (bytes_from es (start + count + 1)) (start + count + 1) (16 - (count + 1))) ≡ whole in
    sym (append-nil new) ∙ subst P (eq_yes ((start + count + 1) % 65536) 0 ends) (row_step count start b row new whole es within sorted some pushed so_far)

-- a row goes on after a byte that doesn't end its bank
pub row_goes_on : (count start b : ℕ) (row new whole : List ℕ) (es : List (ℕ × ℕ)) → count < 16 → IsStrictlySortedBy nat_cmp (keys_of es)
    → image_byte es (start + count) ≡ Some b → new ≡ row ++ b ∷ [] → row ++ longest_run (bytes_from es (start + count)) (start + count) (16 - count) ≡ whole
    → ((start + count + 1) % 65536 ≡ 0 → ⊥) → new ++ longest_run (bytes_from es (start + (count + 1))) (start + (count + 1)) (16 - (count + 1)) ≡ whole
row_goes_on count start b row new whole es within sorted some pushed so_far goes =
    let next : start + (count + 1) ≡ start + count + 1 = omega arith in
    let P : Bool → Type 0 = λ t. new ++ (if t then [] else longest_run (bytes_from es (start + count + 1)) (start + count + 1) (16 - (count + 1))) ≡ whole in
    rw next (subst P (other ((start + count + 1) % 65536) goes) (row_step count start b row new whole es within sorted some pushed so_far))
  where
    other : (x : ℕ) → (x ≡ 0 → ⊥) → (x == 0) ≡ false
    other x differs = grind (arith, nat_tests)

pub some_row : (a b : ℕ) (es : List (ℕ × ℕ)) → IsStrictlySortedBy nat_cmp (keys_of es) → image_byte es a ≡ Some b
    → 0 < length (longest_run (bytes_from es a) a 16)
some_row a b es sorted some = rw (run_at 15 a b (bytes_from es a) (bytes_from es (a + 1)) (gets_some a b es sorted some)) (omega arith)

pub row_lines_at : (a b : ℕ) (es rest : List (ℕ × ℕ)) (last : Option ℕ) → es ≡ (a, b) ∷ rest → 0 < length (longest_run es a 16)
    → hex_lines last 0 es ≡ row_lines last a (longest_run es a 16) ++ hex_lines (Some (a / 65536)) (length (longest_run es a 16)) es
row_lines_at a b es rest last is some = rw is (by_size (longest_run ((a, b) ∷ rest) a 16) (rw is at some))
  where
    by_size : (row : List ℕ) → 0 < length row
        → row_lines last a row ++ hex_lines (Some (a / 65536)) (length row - 1) rest
        ≡ row_lines last a row ++ hex_lines (Some (a / 65536)) (length row) ((a, b) ∷ rest)
    by_size [] some = absurd (omega arith)
    by_size (x ∷ xs) some = let less : suc (length xs) - 1 ≡ length xs = omega arith in rw less refl

-- the lines of a row come before those of the bytes after it
pub row_before : (a b : ℕ) (es : List (ℕ × ℕ)) (last : Option ℕ) → IsStrictlySortedBy nat_cmp (keys_of es) → image_byte es a ≡ Some b
    → hex_lines last 0 (bytes_from es a)
    ≡ row_lines last a (longest_run (bytes_from es a) a 16) ++ hex_lines (Some (a / 65536)) 0 (bytes_from es (a + length (longest_run (bytes_from es a) a 16)))
row_before a b es last sorted is =
    row_lines_at a b (bytes_from es a) (bytes_from es (a + 1)) last (gets_some a b es sorted is) (some_row a b es sorted is)
    ∙ ap (λ r. row_lines last a (longest_run (bytes_from es a) a 16) ++ r) (skips 16 a es (Some (a / 65536)) sorted)

pub from_first : (es : List (ℕ × ℕ)) → bytes_from es 0 ≡ es
from_first [] = refl
from_first (e ∷ es) = rw (le_yes 0 e.0 (omega arith)) (ap (λ r. e ∷ r) (from_first es))

-- no byte of an image lies past the last address
pub from_end : (a : ℕ) (es : List (ℕ × ℕ)) → AllByRecursion IsLoadable (keys_of es) → 0x100000 ≤ a → bytes_from es a ≡ []
from_end a [] all past = refl
from_end a (e ∷ es) all past = rw (le_not a e.0 (within all.0)) (from_end a es all.1 past)
  where
    within : IsLoadable e.0 → e.0 < a
    within (inl low) = omega arith
    within (inr rom) = omega arith
