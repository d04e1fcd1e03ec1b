-- The text that is written for an image gives it back.
use Rattle.std.proofs.Common.{zero, suc, ◌≡◌, ◌∙◌, ℕ, ◌+◌, ◌*◌, ◌%◌, ◌/◌, ◌<◌, ◌≤◌, ◌==◌, ◌&&◌, List, [], ◌∷◌, ◌++◌, length, take, slice_index, sum}
use Rattle.std.proofs.Common.{refl, subst, sym, ap, append_assoc, append-nil, inl, inr, arith, Bool, true, false, Option, None, Some, Ok, if◌then◌else◌}
use Rattle.std.specs.List.{AllByRecursion, fold}
use Rattle.std.specs.List.Sorted.{IsStrictlySortedBy}
use Rattle.std.specs.Map.{keys_of, values_of}
use Rattle.std.specs.Ordering.{nat_cmp}
use Rattle.std.specs.BTreeMap.{insert_entry}
use Rattle.std.specs.declared.cmp.Ordering.TheVariants.{Less}
use Rattle.std.proofs.lemmas.Bool.{cases_eq, eq-eqb as eq_yes, le-ltb as lt_not}
use Rattle.std.proofs.lemmas.Bool.Decides.{nat_tests}
use Rattle.std.proofs.lemmas.List.Elements.{recursion_from_All}
use Rattle.hex.specs.Hex.{IsBytes, decode_pairs, encode_upper, encode_with, hex_digit_value, upper_digits}
use Rattle.hex.proofs.HexLemmas.{IsDigits-upper_digits, decode_of-encode_upper}
use Rattle.board_types.specs.Image.{IsImage, IsLoadable}
use Rattle.board_types.proofs.ImageBytes.{eq_not, less_is}
use Rattle.loader.specs.declared.hex_record.Extension.{Extension}
use Rattle.loader.specs.declared.hex_record.Extension.TheVariants.{Segment}
use Rattle.loader.specs.HexText.{bank_line, checksum, data_line, end_line, hex_text, is_bank, hex_lines, record_line, row_lines, longest_run}
use Rattle.loader.specs.Laws.{ReadsBack}
use Rattle.loader.specs.Lines.{unless_last, without_spaces}
use Rattle.board_types.specs.TextLines.{onto_first, text_lines}
use Rattle.loader.specs.Reading.{after_line, after_record, image_after, image_of, load_state}
use Rattle.loader.specs.Records.{◌>>=◌, HexRecord, address_in, are_loadable, extension_at, bytes_at}
use Rattle.loader.specs.Records.{is_loadable, placed_bytes, record_in, record_of, record_of_type, with_bytes}
use Rattle.loader.proofs.Runs.{row_lines_at, run_at}

-- ---- lines

abbrev Plain : List ℕ → Type 0
Plain [] = Unit {0}
Plain (b ∷ bs) = (32 < b) × Plain bs

other : (b c : ℕ) → c ≤ 32 → 32 < b → (b == c) ≡ false
other b c small large = eq_not b c (omega arith)

first_line : (line rest : List ℕ) → Plain line → text_lines (line ++ 10 ∷ rest) ≡ line ∷ text_lines rest
first_line [] rest plain = refl
first_line (b ∷ bs) rest plain =
    rw (other b 10 (omega arith) plain.0, other b 13 (omega arith) plain.0) (ap (onto_first b) (first_line bs rest plain.1))

no_spaces : (line : List ℕ) → Plain line → without_spaces line ≡ line
no_spaces [] plain = refl
no_spaces (b ∷ []) plain = rw (other b 32 (omega arith) plain.0) refl
no_spaces (b ∷ c ∷ cs) plain = ap (unless_last b) (no_spaces (c ∷ cs) plain.1)

digit_plain : (c d : ℕ) → hex_digit_value c ≡ Some d → 32 < c
digit_plain c d h = grind (arith)

abbrev Fit : List ℕ → Type 0
Fit [] = Unit {0}
Fit (b ∷ bs) = (b < 256) × Fit bs

bytes_more : (b : ℕ) (bs : List ℕ) → b < 256 → IsBytes bs → IsBytes (b ∷ bs)
bytes_more b bs small are zero = small
bytes_more b bs small are (suc k) = are k

are_bytes : (bs : List ℕ) → Fit bs → IsBytes bs
are_bytes [] fit = λ k. omega arith
are_bytes (b ∷ bs) fit = bytes_more b bs fit.0 (are_bytes bs fit.1)

encoded_plain : (bs : List ℕ) → Fit bs → Plain (encode_upper bs)
unfolding encode_with
encoded_plain [] fit = tt
encoded_plain (b ∷ bs) fit =
    let in_range : b < 256 = fit.0 in (
      digit_plain _ (b / 16) (IsDigits-upper_digits (b / 16) (omega arith)),
      (digit_plain _ (b % 16) (IsDigits-upper_digits (b % 16) (omega arith)), encoded_plain bs fit.1),
    )

encoded_together : (xs ys : List ℕ) → encode_upper xs ++ encode_upper ys ≡ encode_upper (xs ++ ys)
unfolding encode_with
encoded_together [] ys = refl
encoded_together (x ∷ xs) ys = ap (λ r. slice_index upper_digits (x / 16) ∷ slice_index upper_digits (x % 16) ∷ r) (encoded_together xs ys)

abbrev summed : List ℕ → List ℕ
summed bytes = bytes ++ checksum bytes ∷ []

as_line : (bytes rest : List ℕ) → record_line bytes ++ rest ≡ (58 ∷ encode_upper (summed bytes)) ++ (10 ∷ rest)
unfolding record_line
as_line bytes rest = ap (λ r. 58 ∷ r)
    (append_assoc (encode_upper bytes) (encode_upper (checksum bytes ∷ []) ++ 10 ∷ []) rest
    ∙ ap (λ r. encode_upper bytes ++ r) (append_assoc (encode_upper (checksum bytes ∷ [])) (10 ∷ []) rest)
    ∙ sym (append_assoc (encode_upper bytes) (encode_upper (checksum bytes ∷ [])) (10 ∷ rest))
    ∙ ap (λ r. r ++ 10 ∷ rest) (encoded_together bytes (checksum bytes ∷ [])))

fit_more : (bs : List ℕ) (b : ℕ) → Fit bs → b < 256 → Fit (bs ++ b ∷ [])
fit_more [] b fit small = (small, tt)
fit_more (x ∷ xs) b fit small = (fit.0, fit_more xs b fit.1 small)

fit_summed : (bytes : List ℕ) → Fit bytes → Fit (summed bytes)
fit_summed bytes fit = fit_more bytes (checksum bytes) fit (omega arith)

fold_more : (a : ℕ) (bs : List ℕ) (b : ℕ) → fold ◌+◌ a (bs ++ b ∷ []) ≡ fold ◌+◌ a bs + b
fold_more a [] b = refl
fold_more a (x ∷ xs) b = fold_more (a + x) xs b

sum_more : (bs : List ℕ) (b : ℕ) → sum (bs ++ b ∷ []) ≡ sum bs + b
sum_more bs b = fold_more 0 bs b

adds_up : (bytes : List ℕ) → sum (summed bytes) % 256 ≡ 0
adds_up bytes = let more = sum_more bytes (checksum bytes) in omega (arith, more)

-- ---- records

read_record : (bytes : List ℕ) → Fit bytes → (length (summed bytes) == slice_index (summed bytes) 0 + 5) ≡ true
    → record_of (58 ∷ encode_upper (summed bytes)) ≡ record_in (summed bytes)
unfolding record_of
read_record bytes fit size = rw (decode_of-encode_upper (summed bytes) (are_bytes (summed bytes) (fit_summed bytes fit)), size) refl

bank_in : (bank : ℕ) → record_in (summed (2 ∷ 0 ∷ 0 ∷ 2 ∷ 16 * bank ∷ 0 ∷ [])) ≡ Ok (extension_at (Segment (4096 * bank)))
unfolding record_in record_of_type
bank_in bank =
    let same : 256 * (16 * bank) + 0 ≡ 4096 * bank = omega arith in
    rw (eq_yes _ 0 (adds_up (2 ∷ 0 ∷ 0 ∷ 2 ∷ 16 * bank ∷ 0 ∷ []))) (ap (λ p. Ok (extension_at (Segment p))) same)

take_front : (xs ys : List ℕ) → take (length xs) (xs ++ ys) ≡ xs
take_front [] ys = refl
take_front (x ∷ xs) ys = ap (λ r. x ∷ r) (take_front xs ys)

abbrev data_of : ℕ → List ℕ → List ℕ
data_of address row = length row ∷ address % 65536 / 256 ∷ address % 256 ∷ 0 ∷ row

data_in : (address : ℕ) (row : List ℕ) → record_in (summed (data_of address row)) ≡ Ok (bytes_at (address % 65536) row)
unfolding record_in record_of_type
data_in address row =
    let same : 256 * (address % 65536 / 256) + address % 256 ≡ address % 65536 = omega arith in
    rw (eq_yes _ 0 (adds_up (data_of address row)), take_front row (checksum (data_of address row) ∷ [])) (ap (λ o. Ok (bytes_at o row)) same)

one_line : (number : ℕ) (extension next : Extension) (held found : List (ℕ × ℕ)) (line : List ℕ) (lines : List (List ℕ)) → without_spaces line ≡ line
    → after_line extension held line ≡ Ok (load_state (Some next) found)
    → image_after number extension held (line ∷ lines) ≡ image_after (number + 1) next found lines
one_line number extension next held found line lines plain after = rw (plain, after) refl

not_blank : (extension : Extension) (held : List (ℕ × ℕ)) (b : ℕ) (bs : List ℕ)
    → after_line extension held (b ∷ bs) ≡ (record_of (b ∷ bs) >>= after_record extension held)
unfolding after_line
not_blank extension held b bs = rw (eq_not (suc (length bs)) 0 (omega arith)) refl

record_read : (number : ℕ) (extension next : Extension) (held found : List (ℕ × ℕ)) (bytes rest : List ℕ) (said : HexRecord) → Fit bytes
    → (length (summed bytes) == slice_index (summed bytes) 0 + 5) ≡ true → record_in (summed bytes) ≡ Ok said
    → after_record extension held said ≡ Ok (load_state (Some next) found)
    → image_after number extension held (text_lines (record_line bytes ++ rest)) ≡ image_after (number + 1) next found (text_lines rest)
record_read number extension next held found bytes rest said fit size is after =
    let line = 58 ∷ encode_upper (summed bytes) in
    let plain : Plain line = (omega arith, encoded_plain (summed bytes) (fit_summed bytes fit)) in
    let read : record_of line ≡ Ok said = read_record bytes fit size ∙ is in
    let said_after : (record_of line >>= after_record extension held) ≡ Ok (load_state (Some next) found) =
    ap (λ r. r >>= after_record extension held) read ∙ after in
    let line_after = not_blank extension held 58 (encode_upper (summed bytes)) ∙ said_after in
    ap (λ t. image_after number extension held (text_lines t)) (as_line bytes rest) ∙ ap (image_after number extension held) (first_line line rest plain)
    ∙ one_line number extension next held found line (text_lines rest) (no_spaces line plain) line_after

ends : (number : ℕ) (extension : Extension) (held : List (ℕ × ℕ)) → image_after number extension held (text_lines end_line) ≡ Ok held
unfolding after_line record_of record_in record_of_type decode_pairs
ends number extension held = refl

-- ---- what stands in an image

-- rising addresses from this one on, all of them the board's, each with a byte
abbrev Rises : ℕ → List (ℕ × ℕ) → Type 0
Rises n [] = Unit {0}
Rises n (e ∷ es) = (n ≤ e.0) × (is_loadable e.0 ≡ true) × (e.1 < 256) × (e.0 < 0x100000) × Rises (e.0 + 1) es

-- all addresses are below this one
abbrev Under : ℕ → List (ℕ × ℕ) → Type 0
Under n [] = Unit {0}
Under n (e ∷ es) = (e.0 < n) × Under n es

under_more : (n m : ℕ) (held : List (ℕ × ℕ)) (e : ℕ × ℕ) → n ≤ e.0 → m ≡ e.0 + 1 → Under n held → Under m (held ++ e ∷ [])
under_more n m [] e low is under = (omega arith, tt)
under_more n m (x ∷ xs) e low is under = let below : x.0 < n = under.0 in (omega arith, under_more n m xs e low is under.1)

put_last : (n : ℕ) (held : List (ℕ × ℕ)) (e : ℕ × ℕ) → n ≤ e.0 → Under n held → insert_entry nat_cmp held e.0 e.1 ≡ held ++ e ∷ []
put_last n [] e low under = refl
put_last n (x ∷ xs) e low under =
    let below : x.0 < e.0 = omega (arith, under.0) in
    rw (lt_not e.0 x.0 (omega arith), eq_not e.0 x.0 below) (ap (λ r. x ∷ r) (put_last n xs e low under.1))

and_both : (a b : Bool) → a ≡ true → b ≡ true → (a && b) ≡ true
and_both true b is also = also
and_both false b is also = cc

joined : (n : ℕ) (held taken left : List (ℕ × ℕ)) → Under n held → Rises n (taken ++ left) → with_bytes held taken ≡ held ++ taken
joined n held [] left under rises = sym (append-nil held)
joined n held (e ∷ es) left under rises =
    ap (λ r. with_bytes r es) (put_last n held e rises.0 under)
    ∙ joined (e.0 + 1) (held ++ e ∷ []) es left (under_more n (e.0 + 1) held e rises.0 refl under) rises.4
    ∙ append_assoc held (e ∷ []) es

loadable : (n : ℕ) (taken left : List (ℕ × ℕ)) → Rises n (taken ++ left) → are_loadable taken ≡ true
loadable n [] left rises = refl
loadable n (e ∷ es) left rises = and_both (is_loadable e.0) (are_loadable es) rises.1 (loadable (e.0 + 1) es left rises.4)

go_on : (n : ℕ) (held taken left : List (ℕ × ℕ)) → Under n held → Rises n (taken ++ left) → (m : ℕ) × (Under m (held ++ taken) × Rises m left)
go_on n held [] left under rises = (n, (subst (Under n) (sym (append-nil held)) under, rises))
go_on n held (e ∷ es) left under rises =
    let more = go_on (e.0 + 1) (held ++ e ∷ []) es left (under_more n (e.0 + 1) held e rises.0 refl under) rises.4 in
    (more.0, (subst (Under more.0) (append_assoc held (e ∷ []) es) more.1.0, more.1.1))

-- a run's bytes are the first of the image, at their own addresses
abbrev Placed : ℕ → ℕ → List (ℕ × ℕ) → List ℕ → Type 0
Placed bank offset es row =
    (taken : List (ℕ × ℕ))
    × ((left : List (ℕ × ℕ)) × ((es ≡ taken ++ left) × (placed_bytes (Segment (4096 * bank)) offset row ≡ taken) × (length row ≡ length taken)))

address_is : (bank a offset : ℕ) → a ≡ 65536 * bank + offset → offset < 65536 → bank < 16 → address_in (Segment (4096 * bank)) offset ≡ a
address_is bank a offset is small few = omega arith

placed_more : (bank a offset : ℕ) (e : ℕ × ℕ) (es : List (ℕ × ℕ)) (row : List ℕ) → a ≡ 65536 * bank + offset → offset < 65536 → bank < 16 → e.0 ≡ a
    → Placed bank (offset + 1) es row → Placed bank offset (e ∷ es) (e.1 ∷ row)
placed_more bank a offset e es row is small few here more =
    let at : address_in (Segment (4096 * bank)) offset ≡ e.0 = address_is bank a offset is small few ∙ sym here in (
      e ∷ more.0,
      (
        more.1.0,
        (
          ap (λ r. e ∷ r) more.1.1.0,
          ap (λ x. (x, e.1) ∷ placed_bytes (Segment (4096 * bank)) (offset + 1) row) at ∙ ap (λ r. e ∷ r) more.1.1.1,
          ap suc more.1.1.2,
        ),
      ),
    )

differs : (a b : ℕ) → (a ≡ b → ⊥) → (a == b) ≡ false
differs a b not_same = grind (arith, nat_tests)

run_placed : (n bank a offset : ℕ) (es : List (ℕ × ℕ)) → a ≡ 65536 * bank + offset → offset < 65536 → bank < 16 → Placed bank offset es (longest_run es a n)
run_placed zero bank a offset es is small few = ([], (es, (refl, refl, refl)))
run_placed (suc n) bank a offset [] is small few = ([], ([], (refl, refl, refl)))
run_placed (suc n) bank a offset (e ∷ es) is small few = elim (cases_eq e.0 a) [
  | inl here ↦ elim (cases_eq ((a + 1) % 65536) 0) [
    | inl last ↦ rw (eq_yes e.0 a here, eq_yes ((a + 1) % 65536) 0 last) (placed_more bank a offset e es [] is small few here ([], (es, (refl, refl, refl))))
    | inr more ↦
        let next : a + 1 ≡ 65536 * bank + (offset + 1) = omega arith in
        let below : offset + 1 < 65536 = omega arith in
        rw (eq_yes e.0 a here, differs ((a + 1) % 65536) 0 more)
        (placed_more bank a offset e es (longest_run es (a + 1) n) is small few here (run_placed n bank (a + 1) (offset + 1) es next below few))
  ]
  | inr elsewhere ↦ rw (differs e.0 a elsewhere) ([], (e ∷ es, (refl, refl, refl)))
]

run_small : (n a : ℕ) (es : List (ℕ × ℕ)) → length (longest_run es a n) ≤ n
run_small zero a es = omega arith
run_small (suc n) a [] = omega arith
run_small (suc n) a (e ∷ es) = by (e.0 == a) ((a + 1) % 65536 == 0) (longest_run es (a + 1) n) (run_small n (a + 1) es)
  where
    by : (here last : Bool) (row : List ℕ) → length row ≤ n → length (if here then e.1 ∷ (if last then [] else row) else []) ≤ suc n
    by true true row small = omega arith
    by true false row small = omega arith
    by false last row small = omega arith

run_fit : (n a from_address : ℕ) (es : List (ℕ × ℕ)) → Rises from_address es → Fit (longest_run es a n)
run_fit zero a m es rises = tt
run_fit (suc n) a m [] rises = tt
run_fit (suc n) a m (e ∷ es) rises = by (e.0 == a) ((a + 1) % 65536 == 0) (longest_run es (a + 1) n) rises.2 (run_fit n (a + 1) (e.0 + 1) es rises.4)
  where
    by : (here last : Bool) (row : List ℕ) → e.1 < 256 → Fit row → Fit (if here then e.1 ∷ (if last then [] else row) else [])
    by true true row small fit = (small, tt)
    by true false row small fit = (small, fit)
    by false last row small fit = tt

-- ---- the text

skipped : (last : Option ℕ) (taken left : List (ℕ × ℕ)) → hex_lines last (length taken) (taken ++ left) ≡ hex_lines last 0 left
skipped last [] left = refl
skipped last (e ∷ es) left = skipped last es left

abbrev Follows : Option ℕ → Extension → Type 0
Follows None extension = Unit {0}
Follows (Some bank) extension = extension ≡ Segment (4096 * bank)

-- the extension of a bank is in force after the bank's line, or if it was in force before
bank_read : (number bank : ℕ) (extension : Extension) (held : List (ℕ × ℕ)) (last : Option ℕ) (rest : List ℕ) → bank < 16 → Follows last extension
    → (next : ℕ) × (image_after number extension held (text_lines ((if is_bank last bank then [] else bank_line bank) ++ rest))
    ≡ image_after next (Segment (4096 * bank)) held (text_lines rest))
bank_read number bank extension held last rest few follows = by last follows
  where
    said : image_after number extension held (text_lines (bank_line bank ++ rest)) ≡ image_after (number + 1) (Segment (4096 * bank)) held (text_lines rest)
    said = record_read number extension (Segment (4096 * bank)) held held (2 ∷ 0 ∷ 0 ∷ 2 ∷ 16 * bank ∷ 0 ∷ []) rest (extension_at (Segment (4096 * bank)))
        (omega arith, (omega arith, (omega arith, (omega arith, (omega arith, (omega arith, tt)))))) refl (bank_in bank) refl

    by : (o : Option ℕ) → Follows o extension
        → (next : ℕ) × (image_after number extension held (text_lines ((if is_bank o bank then [] else bank_line bank) ++ rest))
        ≡ image_after next (Segment (4096 * bank)) held (text_lines rest))
    by None f = (number + 1, said)
    by (Some l) f = elim (cases_eq l bank) [
      | inl same ↦ rw (eq_yes l bank same) (number, ap (λ b. image_after number b held (text_lines rest)) (f ∙ ap (λ b. Segment (4096 * b)) same))
      | inr not_same ↦ rw (differs l bank not_same) (number + 1, said)
    ]

row_read : (number address : ℕ) (extension : Extension) (held taken : List (ℕ × ℕ)) (row rest : List ℕ) → Fit row → length row < 256
    → placed_bytes extension (address % 65536) row ≡ taken → are_loadable taken ≡ true
    → image_after number extension held (text_lines (data_line address row ++ rest))
    ≡ image_after (number + 1) extension (with_bytes held taken) (text_lines rest)
row_read number address extension held taken row rest fit small are load =
    record_read number extension extension held (with_bytes held taken) (data_of address row) rest (bytes_at (address % 65536) row)
    (small, (omega arith, (omega arith, (omega arith, fit))))
    (eq_yes _ _ (record_of_size row (checksum (data_of address row)))) (data_in address row) (rw (are, load) refl)
  where
    record_of_size : (xs : List ℕ) (b : ℕ) → suc (suc (suc (suc (length (xs ++ b ∷ []))))) ≡ length xs + 5
    record_of_size [] b = refl
    record_of_size (x ∷ xs) b = let more = record_of_size xs b in omega (arith, more)

run_some : (e : ℕ × ℕ) (es : List (ℕ × ℕ)) → 0 < length (longest_run (e ∷ es) e.0 16)
run_some e es = rw (run_at 15 e.0 e.1 (e ∷ es) es refl) (omega arith)

-- the lines of a row, and then those of the bytes after it
row_split : (last : Option ℕ) (e : ℕ × ℕ) (es taken left : List (ℕ × ℕ)) → e ∷ es ≡ taken ++ left → length (longest_run (e ∷ es) e.0 16) ≡ length taken
    → hex_lines last 0 (e ∷ es) ≡ (if is_bank last (e.0 / 65536) then [] else bank_line (e.0 / 65536))
    ++ (data_line e.0 (longest_run (e ∷ es) e.0 16) ++ hex_lines (Some (e.0 / 65536)) 0 left)
row_split last e es taken left is size =
    let row = longest_run (e ∷ es) e.0 16 in
    let bank : Option ℕ = Some (e.0 / 65536) in
    row_lines_at e.0 e.1 (e ∷ es) es last refl (run_some e es)
    ∙ ap (λ n. row_lines last e.0 row ++ hex_lines bank n (e ∷ es)) size
    ∙ ap (λ xs. row_lines last e.0 row ++ hex_lines bank (length taken) xs) is
    ∙ ap (λ t. row_lines last e.0 row ++ t) (skipped bank taken left)
    ∙ append_assoc (if is_bank last (e.0 / 65536) then [] else bank_line (e.0 / 65536)) (data_line e.0 row) (hex_lines bank 0 left)

shorter : (all taken left : List (ℕ × ℕ)) → all ≡ taken ++ left → length all ≡ length taken + length left
shorter all taken left is = ap length is ∙ added taken
  where
    added : (xs : List (ℕ × ℕ)) → length (xs ++ left) ≡ length xs + length left
    added [] = omega arith
    added (x ∷ xs) = let more = added xs in omega (arith, more)

rest_read : (fuel : ℕ) (rest : List (ℕ × ℕ)) (number n : ℕ) (extension : Extension) (held : List (ℕ × ℕ)) (last : Option ℕ) → length rest ≤ fuel
    → Follows last extension → Under n held → Rises n rest → image_after number extension held (text_lines (hex_lines last 0 rest)) ≡ Ok (held ++ rest)
rest_read fuel [] number n extension held last enough follows under rises = ends number extension held ∙ ap Ok (sym (append-nil held))
rest_read zero (e ∷ es) number n extension held last enough follows under rises = absurd (omega arith)
rest_read (suc fuel) (e ∷ es) number n extension held last enough follows under rises =
    let bank : ℕ = e.0 / 65536 in
    let row = longest_run (e ∷ es) e.0 16 in
    let few : bank < 16 = omega (arith, rises.3) in
    let address : e.0 ≡ 65536 * bank + e.0 % 65536 = omega arith in
    let p = run_placed 16 bank e.0 (e.0 % 65536) (e ∷ es) address (omega arith) few in
    let taken = p.0 in
    let left = p.1.0 in
    let is : e ∷ es ≡ taken ++ left = p.1.1.0 in
    let rises_on : Rises n (taken ++ left) = subst (Rises n) is rises in
    let on = go_on n held taken left under rises_on in
    let size : length row ≡ length taken = p.1.1.2 in
    let less : length left ≤ fuel = omega (arith, shorter (e ∷ es) taken left is, size, run_some e es, enough) in
    let small : length row < 256 = omega (arith, run_small 16 e.0 (e ∷ es)) in
    let rest : List ℕ = hex_lines (Some bank) 0 left in
    let b = bank_read number bank extension held last (data_line e.0 row ++ rest) few follows in
    ap (λ t. image_after number extension held (text_lines t)) (row_split last e es taken left is size)
    ∙ b.1
    ∙ row_read b.0 e.0 (Segment (4096 * bank)) held taken row rest (run_fit 16 e.0 n (e ∷ es) rises) small p.1.1.1 (loadable n taken left rises_on)
    ∙ ap (λ h. image_after (b.0 + 1) (Segment (4096 * bank)) h (text_lines rest)) (joined n held taken left under rises_on)
    ∙ rest_read fuel left (b.0 + 1) on.0 (Segment (4096 * bank)) (held ++ taken) (Some bank) less refl on.1.0 on.1.1
    ∙ ap Ok (append_assoc held taken left)
    ∙ ap (λ xs. Ok (held ++ xs)) (sym is)

is_loadable_of : (a : ℕ) → IsLoadable a → is_loadable a ≡ true
is_loadable_of a (inl low) = grind (arith, nat_tests)
is_loadable_of a (inr rom) = grind (arith, nat_tests)

below_end : (a : ℕ) → IsLoadable a → a < 0x100000
below_end a (inl low) = omega arith
below_end a (inr rom) = omega arith

-- what an image is, said from its first byte on
rises_from : (n : ℕ) (es : List (ℕ × ℕ)) → AllByRecursion (λ k. n ≤ k) (keys_of es) → IsStrictlySortedBy nat_cmp (keys_of es)
    → AllByRecursion IsLoadable (keys_of es) → AllByRecursion (λ byte. byte < 256) (values_of es) → Rises n es
unfolding IsStrictlySortedBy
rises_from n [] low sorted load bytes = tt
rises_from n (e ∷ es) low sorted load bytes =
    (low.0, is_loadable_of e.0 load.0, bytes.0, below_end e.0 load.0, rises_from (e.0 + 1) es (above (keys_of es) sorted.0) sorted.1 load.1 bytes.1)
  where
    above : (ks : List ℕ) → AllByRecursion (λ y. nat_cmp e.0 y ≡ Less) ks → AllByRecursion (λ k. e.0 + 1 ≤ k) ks
    above [] all = tt
    above (k ∷ ks) all = (omega (arith, less_is e.0 k all.0), above ks all.1)

from_zero : (ks : List ℕ) → AllByRecursion (λ k. 0 ≤ k) ks
from_zero [] = tt
from_zero (k ∷ ks) = (omega arith, from_zero ks)

pub reads_back : (image : List (ℕ × ℕ)) → IsImage image → ReadsBack image
unfolding image_of hex_text
reads_back image is_image =
    rest_read (length image) image 0 0 (Segment 0) [] None (omega arith) tt tt
    (rises_from 0 image (from_zero (keys_of image)) is_image.rising (recursion_from_All IsLoadable (keys_of image) is_image.loadable)
    (recursion_from_All (λ byte. byte < 256) (values_of image) is_image.bytes))
