-- Two neighbouring lines of data records that share no address may change places.
use Rattle.std.proofs.Common.{◌≡◌, ◌∙◌, ℕ, ◌==◌, ◌&&◌, Bool, true, false, not, List, [], ◌∷◌, ◌++◌, map, filter}
use Rattle.std.proofs.Common.{length, refl, sym, ap, ap₂, subst, append_assoc, arith, Result, Ok, if◌then◌else◌}
use Rattle.std.specs.List.{AllByRecursion}
use Rattle.std.proofs.lemmas.List.{map-append}
use Rattle.std.proofs.lemmas.List.Elements.{filter-append}
use Rattle.board_types.specs.Image.{image_byte}
use Rattle.board_types.proofs.ImageBytes.{eq_not}
use Rattle.loader.specs.declared.hex_fault.RecordFault.{RecordFault}
use Rattle.loader.specs.declared.hex_record.Extension.{Extension}
use Rattle.loader.specs.declared.hex_record.Extension.TheVariants.{Segment}
use Rattle.loader.specs.Laws.{AreApart, bytes_of, extension_after, filled_lines, is_end, last_byte, LinesChangePlaces}
use Rattle.loader.specs.Lines.{without_spaces}
use Rattle.loader.specs.Reading.{is_blank}
use Rattle.loader.specs.Records.{HexRecord, bytes_at, end_of_file, extension_at, start_at, are_loadable, placed_bytes, record_of}
use Rattle.loader.proofs.Loaded.{all_append, head_same, put_byte, tail_same}
use Rattle.loader.proofs.Places.{records_change_places}

abbrev Answer : Type 0
Answer = Result HexRecord RecordFault

abbrev said : List HexRecord → List Answer
said records = map Ok records

-- ---- what the lines say

filled_append : (xs ys : List (List ℕ)) → filled_lines (xs ++ ys) ≡ filled_lines xs ++ filled_lines ys
filled_append xs ys =
    ap (filter (λ line. not (is_blank line))) (map-append without_spaces xs ys)
    ∙ filter-append (λ line. not (is_blank line)) (map without_spaces xs) (map without_spaces ys)

not_blank : (line : List ℕ) (r : HexRecord) (rest : List (List ℕ)) → record_of line ≡ Ok r → (if not (is_blank line) then line ∷ rest else rest) ≡ line ∷ rest
unfolding record_of
not_blank [] r rest is = cc
not_blank (b ∷ bs) r rest is =
    let more : (length (b ∷ bs) == 0) ≡ false = eq_not (length (b ∷ bs)) 0 (omega arith) in
    ap (λ t. if not t then (b ∷ bs) ∷ rest else rest) more

both_say : (one two : List ℕ) (x y : HexRecord) (after : List (List ℕ)) → record_of (without_spaces one) ≡ Ok x → record_of (without_spaces two) ≡ Ok y
    → map record_of (filled_lines (one ∷ two ∷ after)) ≡ Ok x ∷ Ok y ∷ map record_of (filled_lines after)
both_say one two x y after is_x is_y =
    ap (map record_of) (not_blank (without_spaces one) x (filled_lines (two ∷ after)) is_x
    ∙ ap (λ r. without_spaces one ∷ r) (not_blank (without_spaces two) y (filled_lines after) is_y))
    ∙ ap₂ (λ a b. a ∷ b ∷ map record_of (filled_lines after)) is_x is_y

all_say : (before after : List (List ℕ)) (one two : List ℕ) (records : List HexRecord) (x y : HexRecord) → map record_of (filled_lines before) ≡ said records
    → record_of (without_spaces one) ≡ Ok x → record_of (without_spaces two) ≡ Ok y
    → map record_of (filled_lines (before ++ one ∷ two ∷ after)) ≡ said records ++ Ok x ∷ Ok y ∷ map record_of (filled_lines after)
all_say before after one two records x y first is_x is_y =
    ap (map record_of) (filled_append before (one ∷ two ∷ after)) ∙ map-append record_of (filled_lines before) (filled_lines (one ∷ two ∷ after))
    ∙ ap₂ (λ (a b : List Answer). a ++ b) first (both_say one two x y after is_x is_y)

-- ---- the records are those before, the two, and others

abbrev told : HexRecord → Answer
told record' = Ok record'

ok_same : (x y : HexRecord) → told x ≡ told y → x ≡ y
ok_same x y is = cc

no_end : (m : ℕ) (xs : List ℕ) → told (bytes_at m xs) ≡ told end_of_file → ⊥
no_end m xs is = cc

some_left : (records : List HexRecord) (x : Answer) (rest : List Answer) → said records ++ x ∷ rest ≡ [] → ⊥
some_left [] x rest is = cc
some_left (r ∷ rs) x rest is = cc

abbrev Split : List HexRecord → List HexRecord → HexRecord → HexRecord → List Answer → Type 0
Split records all x y rest = (others : List HexRecord) × (all ≡ records ++ x ∷ y ∷ others) × (rest ≡ said (others ++ end_of_file ∷ []))

split : (records all : List HexRecord) (m n : ℕ) (xs ys : List ℕ) (rest : List Answer)
    → said records ++ Ok (bytes_at m xs) ∷ Ok (bytes_at n ys) ∷ rest ≡ said (all ++ end_of_file ∷ []) → Split records all (bytes_at m xs) (bytes_at n ys) rest
split [] [] m n xs ys rest is = absurd (no_end m xs (head_same is))
split [] (r ∷ []) m n xs ys rest is = absurd (no_end n ys (head_same (tail_same is)))
split [] (r ∷ s ∷ others) m n xs ys rest is =
    let one : bytes_at m xs ≡ r = ok_same _ _ (head_same is) in
    let two : bytes_at n ys ≡ s = ok_same _ _ (head_same (tail_same is)) in
    (others, ap₂ (λ (a b : HexRecord). a ∷ b ∷ others) (sym one) (sym two), tail_same (tail_same is))
split (r ∷ rs) [] m n xs ys rest is = absurd (some_left rs _ _ (tail_same is))
split (r ∷ rs) (s ∷ ss) m n xs ys rest is =
    let first : r ≡ s = ok_same _ _ (head_same is) in
    let more = split rs ss m n xs ys rest (tail_same is) in
    (more.0, ap₂ (λ (a : HexRecord) (b : List HexRecord). a ∷ b) (sym first) more.1, more.2)

-- ---- the other text

ends_swap : (P : HexRecord → Type 0) (records others : List HexRecord) (x y : HexRecord)
    → AllByRecursion P (records ++ x ∷ y ∷ others) → AllByRecursion P (records ++ y ∷ x ∷ others)
ends_swap P [] others x y all = (all.1.0, (all.0, all.1.1))
ends_swap P (r ∷ rs) others x y all = (all.0, ends_swap P rs others x y all.1)

turned : (a b c : Bool) → (a && (b && c)) ≡ (b && (a && c))
turned true true c = refl
turned true false c = refl
turned false true c = refl
turned false false c = refl

three : (xs ys zs : List (ℕ × ℕ)) → are_loadable (xs ++ (ys ++ zs)) ≡ (are_loadable xs && (are_loadable ys && are_loadable zs))
three xs ys zs = all_append xs (ys ++ zs) ∙ ap (λ t. are_loadable xs && t) (all_append ys zs)

load_swap : (extension : Extension) (records others : List HexRecord) (m n : ℕ) (xs ys : List ℕ)
    → are_loadable (bytes_of extension (records ++ bytes_at m xs ∷ bytes_at n ys ∷ others))
    ≡ are_loadable (bytes_of extension (records ++ bytes_at n ys ∷ bytes_at m xs ∷ others))
load_swap e [] others m n xs ys =
    let one = placed_bytes e m xs in
    let two = placed_bytes e n ys in
    let rest = bytes_of e others in
    three one two rest ∙ turned (are_loadable one) (are_loadable two) (are_loadable rest) ∙ sym (three two one rest)
load_swap e (bytes_at o c ∷ rs) others m n xs ys =
    all_append (placed_bytes e o c) _ ∙ ap (λ t. are_loadable (placed_bytes e o c) && t) (load_swap e rs others m n xs ys)
    ∙ sym (all_append (placed_bytes e o c) _)
load_swap e (end_of_file ∷ rs) others m n xs ys = load_swap e rs others m n xs ys
load_swap e (extension_at next ∷ rs) others m n xs ys = load_swap next rs others m n xs ys
load_swap e (start_at ∷ rs) others m n xs ys = load_swap e rs others m n xs ys

byte_swap : (records others : List HexRecord) (m n : ℕ) (xs ys : List ℕ)
    → AreApart (placed_bytes (extension_after (Segment 0) records) m xs) (placed_bytes (extension_after (Segment 0) records) n ys)
    → (address : ℕ) → last_byte (bytes_of (Segment 0) (records ++ bytes_at m xs ∷ bytes_at n ys ∷ others)) address
    ≡ last_byte (bytes_of (Segment 0) (records ++ bytes_at n ys ∷ bytes_at m xs ∷ others)) address
byte_swap records others m n xs ys apart address =
    sym (put_byte (bytes_of (Segment 0) (records ++ bytes_at m xs ∷ bytes_at n ys ∷ others)) address)
    ∙ ap (λ image. image_byte image address) (records_change_places (Segment 0) [] records others m n xs ys apart)
    ∙ put_byte (bytes_of (Segment 0) (records ++ bytes_at n ys ∷ bytes_at m xs ∷ others)) address

pub lines_change_places : LinesChangePlaces
lines_change_places text other before after one two records m n xs ys is_text is_other first is_one is_two apart image loads =
    let x = bytes_at m xs in
    let y = bytes_at n ys in
    let made = loads.1 in
    let lines : said records ++ Ok x ∷ Ok y ∷ map record_of (filled_lines after) ≡ said (loads.0 ++ end_of_file ∷ []) =
    sym (all_say before after one two records x y first is_one is_two) ∙ ap (λ ls. map record_of (filled_lines ls)) (sym is_text) ∙ made.lines in
    let found = split records loads.0 m n xs ys (map record_of (filled_lines after)) lines in
    let others = found.0 in
    let turned_records = records ++ y ∷ x ∷ others in
    let turned_lines : said records ++ Ok y ∷ Ok x ∷ said (others ++ end_of_file ∷ []) ≡ said (turned_records ++ end_of_file ∷ []) =
    sym (map-append Ok records (y ∷ x ∷ (others ++ end_of_file ∷ []))) ∙ ap said (sym (append_assoc records (y ∷ x ∷ others) (end_of_file ∷ []))) in (
      turned_records,
      record {
        lines = ap (λ ls. map record_of (filled_lines ls)) is_other ∙ all_say before after two one records y x first is_two is_one
            ∙ ap (λ rest. said records ++ Ok y ∷ Ok x ∷ rest) found.2 ∙ turned_lines;
        one_end = ends_swap (λ r. is_end r ≡ false) records others x y (subst (AllByRecursion (λ r. is_end r ≡ false)) found.1 made.one_end);
        loadable = sym (load_swap (Segment 0) records others m n xs ys) ∙ ap (λ rs. are_loadable (bytes_of (Segment 0) rs)) (sym found.1) ∙ made.loadable;
        bytes = λ address.
            made.bytes address ∙ ap (λ rs. last_byte (bytes_of (Segment 0) rs) address) found.1 ∙ byte_swap records others m n xs ys apart address;
      },
    )
