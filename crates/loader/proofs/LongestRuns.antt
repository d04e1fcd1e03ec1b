-- The text of an image has the longest runs.
use Rattle.std.proofs.Common.{zero, suc, ◌≡◌, ◌∙◌, ℕ, ◌+◌, ◌%◌, ◌/◌, ◌≤◌, ◌==◌, List, [], ◌∷◌, ◌++◌, length, refl}
use Rattle.std.proofs.Common.{subst, sym, ap, inl, inr, arith, Bool, true, false, Option, None, Some, if◌then◌else◌}
use Rattle.std.specs.Prelude.{◌⊎◌}
use Rattle.std.specs.List.{AllByRecursion, flat_map}
use Rattle.std.specs.List.Sorted.{IsStrictlySortedBy}
use Rattle.std.specs.Map.{keys_of}
use Rattle.std.specs.Ordering.{nat_cmp}
use Rattle.std.proofs.lemmas.Bool.Decides.{nat_tests}
use Rattle.std.proofs.lemmas.List.Elements.{recursion_from_All}
use Rattle.board_types.specs.Image.{IsImage, IsLoadable, image_byte}
use Rattle.loader.specs.HexText.{bytes_from, hex_lines, hex_text, longest_run, row_lines}
use Rattle.loader.specs.Laws.{HasLongestRuns, IsLongest, Run, entries_from, lines_of_runs}
use Rattle.loader.proofs.Runs.{from_end, from_first, gets_none, gets_some, no_run, row_before, run_at, some_row}

-- ---- one run
abbrev Ends : List (ℕ × ℕ) → ℕ → ℕ → List ℕ → Type 0
Ends es n a row = (length row ≡ n) ⊎ (((a + length row) % 65536 ≡ 0) ⊎ (image_byte es (a + length row) ≡ None))

-- a run has the bytes of an image from an address on, at most n of them
record IsRun (es : List (ℕ × ℕ)) (n a : ℕ) (row : List ℕ) : Type 0 where
  entries : entries_from a row ++ bytes_from es (a + length row) ≡ bytes_from es a
  few : length row ≤ n
  one_bank : a % 65536 + length row ≤ 65536
  ends : Ends es n a row

same_end : (a : ℕ) → a + 0 ≡ a
same_end a = omega arith

empty_run : (es : List (ℕ × ℕ)) (n a : ℕ) → Ends es n a [] → IsRun es n a []
empty_run es n a ends = record {
  entries = ap (bytes_from es) (same_end a);
  few = omega arith;
  one_bank = omega arith;
  ends = ends;
}

bank_end : (x : ℕ) → (x == 0) ≡ true → x ≡ 0
bank_end x is = grind (arith, nat_tests)

no_bank_end : (x : ℕ) → (x == 0) ≡ false → x ≡ 0 → ⊥
no_bank_end x is none = absurd (grind (arith, nat_tests))

ends_later : (es : List (ℕ × ℕ)) (n a b : ℕ) (row : List ℕ) → Ends es n (a + 1) row → Ends es (suc n) a (b ∷ row)
ends_later es n a b row (inl full) = inl (ap suc full)
ends_later es n a b row (inr (inl bank)) =
    let same : a + 1 + length row ≡ a + suc (length row) = omega arith in inr (inl (rw (← same) bank))
ends_later es n a b row (inr (inr none)) =
    let same : a + 1 + length row ≡ a + suc (length row) = omega arith in inr (inr (rw (← same) none))

longer_run : (es : List (ℕ × ℕ)) (n a b : ℕ) (row : List ℕ) (ends : Bool) → ((a + 1) % 65536 == 0) ≡ ends → bytes_from es a ≡ (a, b) ∷ bytes_from es (a + 1)
    → IsRun es n (a + 1) row → IsRun es (suc n) a (b ∷ (if ends then [] else row))
longer_run es n a b row true at is run =
    let one : a + suc zero ≡ a + 1 = omega arith in
    record {
      entries = ap (λ k. (a, b) ∷ bytes_from es k) one ∙ sym is;
      few = omega arith;
      one_bank = omega arith;
      ends = inr (inl (rw one (bank_end ((a + 1) % 65536) at)));
    }
longer_run es n a b row false at is run =
    let next : a + suc (length row) ≡ a + 1 + length row = omega arith in
    let few : length row ≤ n = run.few in
    let bank : (a + 1) % 65536 + length row ≤ 65536 = run.one_bank in
    let inside : (a + 1) % 65536 ≡ 0 → ⊥ = no_bank_end ((a + 1) % 65536) at in
    record {
      entries = ap (λ k. (a, b) ∷ (entries_from (a + 1) row ++ bytes_from es k)) next ∙ ap (λ xs. (a, b) ∷ xs) run.entries ∙ sym is;
      few = omega (arith, few);
      one_bank = omega (arith, bank, inside);
      ends = ends_later es n a b row run.ends;
    }

run_by : (es : List (ℕ × ℕ)) (n a : ℕ) (found : Option ℕ) → IsStrictlySortedBy nat_cmp (keys_of es) → image_byte es a ≡ found
    → IsRun es n (a + 1) (longest_run (bytes_from es (a + 1)) (a + 1) n) → IsRun es (suc n) a (longest_run (bytes_from es a) a (suc n))
run_by es n a None sorted at more =
    let empty : longest_run (bytes_from es a) a (suc n) ≡ [] = rw (gets_none a es at) (no_run (suc n) a es) in
    subst (IsRun es (suc n) a) (sym empty) (empty_run es (suc n) a (inr (inr (rw (same_end a) at))))
run_by es n a (Some b) sorted at more =
    let is : bytes_from es a ≡ (a, b) ∷ bytes_from es (a + 1) = gets_some a b es sorted at in
    subst (IsRun es (suc n) a) (sym (run_at n a b (bytes_from es a) (bytes_from es (a + 1)) is))
    (longer_run es n a b (longest_run (bytes_from es (a + 1)) (a + 1) n) ((a + 1) % 65536 == 0) refl is more)

is_run : (es : List (ℕ × ℕ)) (n a : ℕ) → IsStrictlySortedBy nat_cmp (keys_of es) → IsRun es n a (longest_run (bytes_from es a) a n)
is_run es zero a sorted = empty_run es zero a (inl refl)
is_run es (suc n) a sorted = run_by es n a (image_byte es a) sorted refl (is_run es n (a + 1) sorted)

-- ---- all runs from an address on
record AreRuns (es : List (ℕ × ℕ)) (a : ℕ) (last : Option ℕ) : Type 0 where
  runs : List Run
  text : hex_lines last 0 (bytes_from es a) ≡ lines_of_runs last runs
  bytes : flat_map (λ (run : Run). entries_from run.address run.bytes) runs ≡ bytes_from es a
  longest : AllByRecursion (IsLongest es) runs

first_run : (es : List (ℕ × ℕ)) (a b : ℕ) (last : Option ℕ) → IsStrictlySortedBy nat_cmp (keys_of es) → image_byte es a ≡ Some b
    → AreRuns es (a + length (longest_run (bytes_from es a) a 16)) (Some (a / 65536)) → AreRuns es a last
first_run es a b last sorted at more =
    let row : List ℕ = longest_run (bytes_from es a) a 16 in
    let run = is_run es 16 a sorted in
    record {
      runs = record { address = a; bytes = row } ∷ more.runs;
      text = row_before a b es last sorted at ∙ ap (λ (rest : List ℕ). row_lines last a row ++ rest) more.text;
      bytes = ap (λ (rest : List (ℕ × ℕ)). entries_from a row ++ rest) more.bytes ∙ run.entries;
      longest = (record { some = some_row a b es sorted at; few = run.few; one_bank = run.one_bank; ends = run.ends }, more.longest);
    }

no_run_here : (es : List (ℕ × ℕ)) (a : ℕ) (last : Option ℕ) → image_byte es a ≡ None → AreRuns es (a + 1) last → AreRuns es a last
no_run_here es a last none more = record {
  runs = more.runs;
  text = ap (hex_lines last 0) (gets_none a es none) ∙ more.text;
  bytes = more.bytes ∙ sym (gets_none a es none);
  longest = more.longest;
}

no_more_runs : (es : List (ℕ × ℕ)) (a : ℕ) (last : Option ℕ) → bytes_from es a ≡ [] → AreRuns es a last
no_more_runs es a last none = record { runs = []; text = ap (hex_lines last 0) none; bytes = sym none; longest = tt }

abbrev FromEach : List (ℕ × ℕ) → ℕ → Type 0
FromEach es k = (a : ℕ) (last : Option ℕ) → 0x100000 ≤ a + k → AreRuns es a last

runs_by : (es : List (ℕ × ℕ)) (k a : ℕ) (last found : Option ℕ)
    → IsStrictlySortedBy nat_cmp (keys_of es) → image_byte es a ≡ found → 0x100000 ≤ a + suc k → FromEach es k → AreRuns es a last
runs_by es k a last None sorted at reaches more = no_run_here es a last at (more (a + 1) last (omega (arith, reaches)))
runs_by es k a last (Some b) sorted at reaches more =
    let some = some_row a b es sorted at in
    first_run es a b last sorted at (more (a + length (longest_run (bytes_from es a) a 16)) (Some (a / 65536)) (omega (arith, reaches, some)))

runs_from : (es : List (ℕ × ℕ)) (k : ℕ) → IsStrictlySortedBy nat_cmp (keys_of es) → AllByRecursion IsLoadable (keys_of es) → FromEach es k
runs_from es zero sorted loadable a last reaches = no_more_runs es a last (from_end a es loadable (omega (arith, reaches)))
runs_from es (suc k) sorted loadable a last reaches = runs_by es k a last (image_byte es a) sorted refl reaches (runs_from es k sorted loadable)

pub has_longest_runs : (image : List (ℕ × ℕ)) → IsImage image → HasLongestRuns image
unfolding hex_text
has_longest_runs image is =
    let all = runs_from image 0x100000 is.rising (recursion_from_All IsLoadable (keys_of image) is.loadable) 0 None (omega arith) in
    record {
      runs = all.runs;
      text = ap (hex_lines None 0) (sym (from_first image)) ∙ all.text;
      bytes = all.bytes ∙ from_first image;
      longest = all.longest;
    }
