-- What a text gives, by its records.
use Rattle.std.proofs.Common.{◌≡◌, ◌∙◌, ℕ, ◌+◌, ◌&&◌, List, [], ◌∷◌, ◌++◌, map, not, refl, sym, ap}
use Rattle.std.proofs.Common.{Bool, true, false, Option, None, Some, Result, Ok, Err, if◌then◌else◌}
use Rattle.std.specs.List.{AllByRecursion}
use Rattle.std.specs.List.Sorted.{IsStrictlySortedBy}
use Rattle.board_types.specs.Image.{image_byte}
use Rattle.board_types.proofs.ImageBytes.{same_bytes}
use Rattle.loader.specs.declared.hex_fault.RecordFault.{RecordFault}
use Rattle.loader.specs.declared.hex_fault.HexFault.{HexFault}
use Rattle.loader.specs.declared.hex_fault.HexFault.TheVariants.{InLine}
use Rattle.loader.specs.declared.hex_fault.RecordFault.TheVariants.{AfterEnd, NotLoadable}
use Rattle.loader.specs.declared.hex_record.Extension.{Extension}
use Rattle.loader.specs.declared.hex_record.Extension.TheVariants.{Segment}
use Rattle.loader.specs.Laws.{bytes_of, filled_lines, is_end, last_byte, later_or, LoadsRecords}
use Rattle.loader.specs.Lines.{without_spaces}
use Rattle.board_types.specs.TextLines.{text_lines}
use Rattle.loader.specs.Reading.{after_end, after_line, after_record, at_extension, image_after, image_of, in_line, is_blank, load_state}
use Rattle.loader.specs.Records.{◌>>=◌, HexRecord, bytes_at, end_of_file, extension_at, start_at}
use Rattle.loader.specs.Records.{are_loadable, is_loadable, placed_bytes, record_of, with_bytes}
use Rattle.loader.proofs.LaterBytes.{later_bytes_win, sorted_with}

abbrev pub given_ok : List (ℕ × ℕ) → Result (List (ℕ × ℕ)) HexFault
given_ok image = Ok image

pub same_ok : (x y : List (ℕ × ℕ)) → given_ok x ≡ given_ok y → x ≡ y
same_ok x y is = cc

end_blank : (number : ℕ) (held image : List (ℕ × ℕ)) (lines : List (List ℕ))
    → after_end number held lines ≡ Ok image → (filled_lines lines ≡ []) × (image ≡ held)
end_blank number held image [] is = (refl, sym (same_ok held image is))
end_blank number held image (line ∷ lines) is = by (is_blank (without_spaces line)) is (end_blank (number + 1) held image lines)
  where
    by : (blank : Bool) → (if blank then after_end (number + 1) held lines else Err (InLine AfterEnd (number + 1))) ≡ Ok image
        → (after_end (number + 1) held lines ≡ Ok image → (filled_lines lines ≡ []) × (image ≡ held))
        → ((if not blank then without_spaces line ∷ filled_lines lines else filled_lines lines) ≡ []) × (image ≡ held)
    by true given more = more given
    by false given more = cc

blank_end : (number : ℕ) (held : List (ℕ × ℕ)) (lines : List (List ℕ)) → filled_lines lines ≡ [] → after_end number held lines ≡ Ok held
blank_end number held [] is = refl
blank_end number held (line ∷ lines) is = by (is_blank (without_spaces line)) is (blank_end (number + 1) held lines)
  where
    by : (blank : Bool) → (if not blank then without_spaces line ∷ filled_lines lines else filled_lines lines) ≡ []
        → (filled_lines lines ≡ [] → after_end (number + 1) held lines ≡ Ok held)
        → (if blank then after_end (number + 1) held lines else Err (InLine AfterEnd (number + 1))) ≡ Ok held
    by true given more = more given
    by false given more = cc

pub all_append : (xs ys : List (ℕ × ℕ)) → are_loadable (xs ++ ys) ≡ (are_loadable xs && are_loadable ys)
all_append [] ys = refl
all_append (x ∷ xs) ys = by (is_loadable x.0) (all_append xs ys)
  where
    by : (t : Bool) → are_loadable (xs ++ ys) ≡ (are_loadable xs && are_loadable ys)
        → (t && are_loadable (xs ++ ys)) ≡ ((t && are_loadable xs) && are_loadable ys)
    by true same = same
    by false same = refl

pub put_append : (held xs ys : List (ℕ × ℕ)) → with_bytes held (xs ++ ys) ≡ with_bytes (with_bytes held xs) ys
put_append held [] ys = refl
put_append held (x ∷ xs) ys = put_append (with_bytes held (x ∷ [])) xs ys

-- what comes of a line that isn't blank
abbrev goes_on : ℕ → Extension → List (ℕ × ℕ) → List (List ℕ) → Result HexRecord RecordFault → Result (List (ℕ × ℕ)) HexFault
goes_on number extension held lines r =
    in_line (number + 1) (r >>= after_record extension held)
    (λ s. at_extension s.extension (after_end (number + 1) s.image lines) (λ next. image_after (number + 1) next s.image lines))

abbrev ends_with : ℕ → Extension → List (ℕ × ℕ) → List (List ℕ) → List ℕ → Bool → Result (List (ℕ × ℕ)) HexFault
ends_with number extension held lines line blank =
    if blank then image_after (number + 1) extension held lines else goes_on number extension held lines (record_of line)

image_by : (number : ℕ) (extension : Extension) (held : List (ℕ × ℕ)) (line : List ℕ) (lines : List (List ℕ))
    → image_after number extension held (line ∷ lines) ≡ ends_with number extension held lines (without_spaces line) (is_blank (without_spaces line))
unfolding after_line
image_by number extension held line lines = by (is_blank (without_spaces line)) (without_spaces line)
  where
    by : (blank : Bool) (l : List ℕ)
        → in_line (number + 1) (if blank then Ok (load_state (Some extension) held) else (record_of l >>= after_record extension held))
        (λ s. at_extension s.extension (after_end (number + 1) s.image lines) (λ next. image_after (number + 1) next s.image lines))
        ≡ ends_with number extension held lines l blank
    by true l = refl
    by false l = refl

abbrev filled_by : List ℕ → List (List ℕ) → Bool → List (List ℕ)
filled_by line lines blank = if not blank then line ∷ lines else lines

abbrev GivesBy : Extension → List (ℕ × ℕ) → List (List ℕ) → List (ℕ × ℕ) → List HexRecord → Type 0
GivesBy extension held said image records =
    (map record_of said ≡ map Ok (records ++ end_of_file ∷ [])) × AllByRecursion (λ r. is_end r ≡ false) records
    × (are_loadable (bytes_of extension records) ≡ true) × (image ≡ with_bytes held (bytes_of extension records))

abbrev SomeGive : Extension → List (ℕ × ℕ) → List (List ℕ) → List (ℕ × ℕ) → Type 0
SomeGive extension held said image = (records : List HexRecord) × GivesBy extension held said image records

-- ---- what is read has its records

record_given : (number : ℕ) (extension : Extension) (held image : List (ℕ × ℕ)) (line : List ℕ) (lines : List (List ℕ)) (r : Result HexRecord RecordFault)
    → record_of line ≡ r → goes_on number extension held lines r ≡ Ok image
    → ((b : Extension) (h : List (ℕ × ℕ)) → image_after (number + 1) b h lines ≡ Ok image → SomeGive b h (filled_lines lines) image)
    → SomeGive extension held (line ∷ filled_lines lines) image
record_given number extension held image line lines (Err fault) read is more = cc
record_given number extension held image line lines (Ok (bytes_at offset content)) read is more =
    by (are_loadable (placed_bytes extension offset content)) refl is
  where
    by : (t : Bool) → are_loadable (placed_bytes extension offset content) ≡ t
        → in_line (number + 1) (if t then Ok (load_state (Some extension) (with_bytes held (placed_bytes extension offset content))) else Err NotLoadable)
        (λ s. at_extension s.extension (after_end (number + 1) s.image lines) (λ next. image_after (number + 1) next s.image lines))
        ≡ Ok image
        → SomeGive extension held (line ∷ filled_lines lines) image
    by true load given =
        let m = more extension (with_bytes held (placed_bytes extension offset content)) given in (
          bytes_at offset content ∷ m.0,
          (
            rw (read, m.1.0) refl,
            (refl, m.1.1),
            rw (all_append (placed_bytes extension offset content) (bytes_of extension m.0), load) m.1.2,
            m.1.3 ∙ sym (put_append held (placed_bytes extension offset content) (bytes_of extension m.0)),
          ),
        )
    by false load given = cc
record_given number extension held image line lines (Ok end_of_file) read is more =
    let e = end_blank (number + 1) held image lines is in
    ([], (rw (read, e.0) refl, tt, refl, e.1))
record_given number extension held image line lines (Ok (extension_at next)) read is more =
    let m = more next held is in (extension_at next ∷ m.0, (rw (read, m.1.0) refl, (refl, m.1.1), m.1.2, m.1.3))
record_given number extension held image line lines (Ok start_at) read is more =
    let m = more extension held is in (start_at ∷ m.0, (rw (read, m.1.0) refl, (refl, m.1.1), m.1.2, m.1.3))

line_given : (number : ℕ) (extension : Extension) (held image : List (ℕ × ℕ)) (line : List ℕ) (lines : List (List ℕ)) (blank : Bool)
    → ends_with number extension held lines line blank ≡ Ok image
    → ((b : Extension) (h : List (ℕ × ℕ)) → image_after (number + 1) b h lines ≡ Ok image → SomeGive b h (filled_lines lines) image)
    → SomeGive extension held (filled_by line (filled_lines lines) blank) image
line_given number extension held image line lines true is more = more extension held is
line_given number extension held image line lines false is more = record_given number extension held image line lines (record_of line) refl is more

given : (number : ℕ) (extension : Extension) (held image : List (ℕ × ℕ)) (lines : List (List ℕ))
    → image_after number extension held lines ≡ Ok image → SomeGive extension held (filled_lines lines) image
given number extension held image [] is = cc
given number extension held image (line ∷ lines) is =
    line_given number extension held image (without_spaces line) lines (is_blank (without_spaces line)) (sym (image_by number extension held line lines) ∙ is)
    (λ b h. given (number + 1) b h image lines)

-- ---- what has records is read

pub head_same : {A : Type 0} {x y : A} {xs ys : List A} → x ∷ xs ≡ y ∷ ys → x ≡ y
head_same is = cc

pub tail_same : {A : Type 0} {x y : A} {xs ys : List A} → x ∷ xs ≡ y ∷ ys → xs ≡ ys
tail_same is = cc

none_mapped : (lines : List (List ℕ)) → map record_of lines ≡ [] → lines ≡ []
none_mapped [] is = refl
none_mapped (line ∷ lines) is = cc

both_parts : (a b : Bool) → (a && b) ≡ true → (a ≡ true) × (b ≡ true)
both_parts true b is = (refl, is)
both_parts false b is = cc

record_reads : (number : ℕ) (extension : Extension) (held image : List (ℕ × ℕ)) (line : List ℕ) (lines : List (List ℕ)) (records : List HexRecord)
    → GivesBy extension held (line ∷ filled_lines lines) image records
    → ((b : Extension) (h : List (ℕ × ℕ)) → SomeGive b h (filled_lines lines) image → image_after (number + 1) b h lines ≡ Ok image)
    → goes_on number extension held lines (record_of line) ≡ Ok image
record_reads number extension held image line lines [] g more =
    let read : record_of line ≡ Ok end_of_file = head_same g.0 in
    let none : filled_lines lines ≡ [] = none_mapped (filled_lines lines) (tail_same g.0) in
    rw read (blank_end (number + 1) held lines none ∙ ap Ok (sym g.3))
record_reads number extension held image line lines (bytes_at offset content ∷ rs) g more =
    let read : record_of line ≡ Ok (bytes_at offset content) = head_same g.0 in
    let bytes = placed_bytes extension offset content in
    let load = both_parts (are_loadable bytes) (are_loadable (bytes_of extension rs)) (sym (all_append bytes (bytes_of extension rs)) ∙ g.2) in
    rw (read, load.0) (more extension (with_bytes held bytes) (rs, (tail_same g.0, g.1.1, load.1, g.3 ∙ put_append held bytes (bytes_of extension rs))))
record_reads number extension held image line lines (end_of_file ∷ rs) g more = let never : true ≡ false = g.1.0 in cc
record_reads number extension held image line lines (extension_at next ∷ rs) g more =
    let read : record_of line ≡ Ok (extension_at next) = head_same g.0 in
    rw read (more next held (rs, (tail_same g.0, g.1.1, g.2, g.3)))
record_reads number extension held image line lines (start_at ∷ rs) g more =
    let read : record_of line ≡ Ok start_at = head_same g.0 in
    rw read (more extension held (rs, (tail_same g.0, g.1.1, g.2, g.3)))

line_reads : (number : ℕ) (extension : Extension) (held image : List (ℕ × ℕ)) (line : List ℕ) (lines : List (List ℕ)) (blank : Bool)
    → SomeGive extension held (filled_by line (filled_lines lines) blank) image
    → ((b : Extension) (h : List (ℕ × ℕ)) → SomeGive b h (filled_lines lines) image → image_after (number + 1) b h lines ≡ Ok image)
    → ends_with number extension held lines line blank ≡ Ok image
line_reads number extension held image line lines true g more = more extension held g
line_reads number extension held image line lines false g more = record_reads number extension held image line lines g.0 g.1 more

no_lines : (records : List HexRecord) → [] ≡ map {B = Result HexRecord RecordFault} Ok (records ++ end_of_file ∷ []) → ⊥
no_lines [] is = cc
no_lines (r ∷ rs) is = cc

reads : (number : ℕ) (extension : Extension) (held image : List (ℕ × ℕ)) (lines : List (List ℕ))
    → SomeGive extension held (filled_lines lines) image → image_after number extension held lines ≡ Ok image
reads number extension held image [] g = absurd (no_lines g.0 g.1.0)
reads number extension held image (line ∷ lines) g =
    image_by number extension held line lines
    ∙ line_reads number extension held image (without_spaces line) lines (is_blank (without_spaces line)) g (λ b h. reads (number + 1) b h image lines)

only_before : (x : Option ℕ) → later_or x None ≡ x
only_before None = refl
only_before (Some byte) = refl

-- the bytes of records put into nothing
pub put_byte : (bytes : List (ℕ × ℕ)) (address : ℕ) → image_byte (with_bytes [] bytes) address ≡ last_byte bytes address
put_byte bytes address = later_bytes_win [] bytes address ∙ only_before (last_byte bytes address)

pub loads_records : LoadsRecords
unfolding image_of IsStrictlySortedBy
loads_records text image rises = (
  λ is.
      let g = given 0 (Segment 0) [] image (text_lines text) is in (
        g.0,
        record {
          lines = g.1.0;
          one_end = g.1.1;
          loadable = g.1.2;
          bytes = λ address. ap (λ es. image_byte es address) g.1.3 ∙ put_byte (bytes_of (Segment 0) g.0) address;
        },
      ),
  λ g.
      let put = with_bytes [] (bytes_of (Segment 0) g.0) in
      let same : image ≡ put = same_bytes image put rises (sorted_with [] (bytes_of (Segment 0) g.0) tt)
      (λ address. g.1.bytes address ∙ sym (put_byte (bytes_of (Segment 0) g.0) address)) in
      reads 0 (Segment 0) [] image (text_lines text) (g.0, (g.1.lines, g.1.one_end, g.1.loadable, same)),
)
