-- Where lines stand: what the last SEGMENT and ORG say, and the sizes of the lines since then.
use Rattle.std.proofs.Common.{◌≡◌, ◌∙◌, ℕ, ℤ, ◌+◌, ◌||◌, List, [], ◌∷◌, ◌++◌, refl, sym, ap, subst, arith, Bool, true, false}
use Rattle.std.proofs.Common.{inl, inr, Option, None, Some, is_some, is_none, append_assoc, append-nil, option_and_then}
use Rattle.std.specs.Prelude.{pos, negsuc, ◌⊎◌, sum_by}
use Rattle.std.specs.Option.{option_map}
use Rattle.std.specs.List.{AllByRecursion}
use Rattle.std.proofs.lemmas.Bool.{or_parts}
use Rattle.std.proofs.lemmas.List.Sums.{fold-append, sum_by_push}
use Rattle.assembler_syntax.specs.declared.statement.Statement.{Statement}
use Rattle.assembler_syntax.specs.declared.statement.Statement.TheVariants.{Empty, Segment, Ends, Equ, Org, Data, Instruction}
use Rattle.assembler_meaning.specs.declared.symbol.Location.{Location}
use Rattle.assembler_meaning.specs.Values.{Names, constant_of}
use Rattle.assembler_meaning.specs.Data.{is_other, natural}
use Rattle.assembler.specs.LocatedLines.{LocatedLine, has_unknown_constant, has_wrong_constant, names_of, opened_at}
use Rattle.assembler.specs.LocatedLines.{set_to, location_after, location_following, stands_outside, wants_segment}
use Rattle.assembler_laws.specs.Places.{IsCountedTo, IsOpenAt, SaysOffset, SaysParagraph, changes_segment, sets_location}
use Rattle.assembler.proofs.AnsweringPlaces.{CleanThere}
use Rattle.assembler_laws.proofs.Prefixes.{has_none, HasNone}

abbrev pub size_of_row : LocatedLine → ℕ
size_of_row row = row.size

abbrev pub at_place : ℕ → ℕ → Location
at_place paragraph offset = record { segment = paragraph; offset = offset }

-- the place after one more line
pub after_more : (before : List LocatedLine) (row : LocatedLine) → location_following (before ++ row ∷ []) ≡ row.next
after_more before row = fold-append (λ (location : Option Location) (r : LocatedLine). r.next) None before (row ∷ [])

pub next_is : (before : List LocatedLine) (row : LocatedLine) → CleanThere before row
    → location_following (before ++ row ∷ []) ≡ location_after (names_of before) (location_following before) row.line.statement row.size
next_is before row there = after_more before row ∙ there.clean.is_located_line.next

all_push : {X : Type 0} (P : X → Type 0) (xs : List X) (x : X) → AllByRecursion P xs → P x → AllByRecursion P (xs ++ x ∷ [])
all_push P [] x all is = (is, tt)
all_push P (y ∷ ys) x all is = (all.0, all_push P ys x all.1 is)

-- ---- from the place to what says it
open_more : (lines : List LocatedLine) (row : LocatedLine) (paragraph : ℕ) → changes_segment row.line.statement ≡ false → IsOpenAt lines paragraph
    → IsOpenAt (lines ++ row ∷ []) paragraph
open_more lines row paragraph stays opened = record {
  before = opened.before;
  opening = opened.opening;
  since = opened.since ++ row ∷ [];
  split = ap (λ (ls : List LocatedLine). ls ++ row ∷ []) opened.split ∙ append_assoc opened.before (opened.opening ∷ opened.since) (row ∷ []);
  says = opened.says;
  stays = all_push (λ (r : LocatedLine). changes_segment r.line.statement ≡ false) opened.since row opened.stays stays;
}

counted_more : (lines : List LocatedLine) (row : LocatedLine) (offset : ℕ) → sets_location row.line.statement ≡ false → IsCountedTo lines offset
    → IsCountedTo (lines ++ row ∷ []) (offset + row.size)
counted_more lines row offset stays to =
    let count : sum_by size_of_row (to.since ++ row ∷ []) ≡ sum_by size_of_row to.since + row.size = sum_by_push size_of_row to.since row in
    let was : offset ≡ to.base + sum_by size_of_row to.since = to.counted in
    record {
      before = to.before;
      setting = to.setting;
      since = to.since ++ row ∷ [];
      split = ap (λ (ls : List LocatedLine). ls ++ row ∷ []) to.split ∙ append_assoc to.before (to.setting ∷ to.since) (row ∷ []);
      base = to.base;
      says = to.says;
      stays = all_push (λ (r : LocatedLine). sets_location r.line.statement ≡ false) to.since row to.stays stays;
      counted = ap (λ (n : ℕ). n + row.size) was
          ∙ (let same : (to.base + sum_by size_of_row to.since) + row.size ≡ to.base + sum_by size_of_row (to.since ++ row ∷ []) = omega (arith, count) in
          same);
    }

-- a statement that says the whole place, one that says the offset in the same segment, and one that says nothing
record Opens (known : Names) (statement : Statement) (location : Location) : Type 0 where
  pub paragraph : SaysParagraph known statement location.segment
  pub offset : SaysOffset known statement location.offset

record Sets (known : Names) (here : Option Location) (statement : Statement) (location : Location) : Type 0 where
  pub stays : changes_segment statement ≡ false
  pub offset : SaysOffset known statement location.offset
  pub from : Location
  pub was : here ≡ Some from
  pub same : from.segment ≡ location.segment

record Moves (here : Option Location) (statement : Statement) (size : ℕ) (location : Location) : Type 0 where
  pub stays : changes_segment statement ≡ false
  pub counts : sets_location statement ≡ false
  pub from : Location
  pub was : here ≡ Some from
  pub same : from.segment ≡ location.segment
  pub moved : from.offset + size ≡ location.offset

abbrev Told : Names → Option Location → Statement → ℕ → Location → Type 0
Told known here statement size location = Opens known statement location ⊎ (Sets known here statement location ⊎ Moves here statement size location)

some_is : (a b : Location) → Some a ≡ Some b → a ≡ b
some_is a b is = cc

opened_by : (o : Option ℤ) (location : Location) → option_map opened_at o ≡ Some location → is_other (pos 0) (pos 65535) o ≡ false
    → (o ≡ Some (pos location.segment)) × (location.offset ≡ 0)
opened_by None location at wrong = absurd (let never : None ≡ Some location = at in cc)
opened_by (Some (pos p)) location at wrong =
    let is : opened_at (pos p) ≡ location = some_is (opened_at (pos p)) location at in
    (ap (λ (l : Location). Some (pos l.segment)) is, sym (ap (λ (l : Location). l.offset) is))
opened_by (Some (negsuc p)) location at wrong = absurd (let never : true ≡ false = wrong in cc)

set_by : (o : Option ℤ) (here : Option Location) (location : Location) → option_and_then (λ v. option_map (set_to v) here) o ≡ Some location
    → is_other (pos 0) (pos 65535) o ≡ false
    → (o ≡ Some (pos location.offset)) × ((from : Location) × (here ≡ Some from) × (from.segment ≡ location.segment))
set_by None here location at wrong = absurd (let never : None ≡ Some location = at in cc)
set_by (Some (pos n)) None location at wrong = absurd (let never : None ≡ Some location = at in cc)
set_by (Some (pos n)) (Some from) location at wrong =
    let is : set_to (pos n) from ≡ location = some_is (set_to (pos n) from) location at in
    (ap (λ (l : Location). Some (pos l.offset)) is, (from, refl, ap (λ (l : Location). l.segment) is))
set_by (Some (negsuc n)) here location at wrong = absurd (let never : true ≡ false = wrong in cc)

moved_by : (here : Option Location) (statement : Statement) (size : ℕ) (location : Location) → changes_segment statement ≡ false
    → sets_location statement ≡ false → option_map (λ (l : Location). at_place l.segment (l.offset + size)) here ≡ Some location
    → Moves here statement size location
moved_by None statement size location stays counts at = absurd (let never : None ≡ Some location = at in cc)
moved_by (Some from) statement size location stays counts at =
    let is : at_place from.segment (from.offset + size) ≡ location = some_is (at_place from.segment (from.offset + size)) location at in
    record {
      stays = stays;
      counts = counts;
      from = from;
      was = refl;
      same = ap (λ (l : Location). l.segment) is;
      moved = ap (λ (l : Location). l.offset) is;
    }

told_by : (known : Names) (here : Option Location) (statement : Statement) (size : ℕ) (location : Location)
    → has_wrong_constant known statement ≡ false → location_after known here statement size ≡ Some location → Told known here statement size location
told_by known here Empty size location wrong at = inr (inr (moved_by here Empty size location refl refl at))
told_by known here (Segment name n) size location wrong at =
    let is = opened_by (constant_of known n) location at wrong in inl (record { paragraph = is.0; offset = is.1 })
told_by known here Ends size location wrong at = absurd (let never : None ≡ Some location = at in cc)
told_by known here (Equ name n) size location wrong at = inr (inr (moved_by here (Equ name n) size location refl refl at))
told_by known here (Org n) size location wrong at =
    let is = set_by (constant_of known n) here location at wrong in
    inr (inl (record { stays = refl; offset = is.0; from = is.1.0; was = is.1.1; same = is.1.2 }))
told_by known here (Data width items) size location wrong at = inr (inr (moved_by here (Data width items) size location refl refl at))
told_by known here (Instruction i) size location wrong at = inr (inr (moved_by here (Instruction i) size location refl refl at))

abbrev pub IsTold : List LocatedLine → Type 0
IsTold lines = (location : Location) → location_following lines ≡ Some location → IsOpenAt lines location.segment × IsCountedTo lines location.offset

opens_here : (before : List LocatedLine) (row : LocatedLine) (paragraph : ℕ) → SaysParagraph (names_of before) row.line.statement paragraph
    → IsOpenAt (before ++ row ∷ []) paragraph
opens_here before row paragraph says = record { before = before; opening = row; since = []; split = refl; says = says; stays = tt }

counts_here : (before : List LocatedLine) (row : LocatedLine) (offset : ℕ) → SaysOffset (names_of before) row.line.statement offset
    → IsCountedTo (before ++ row ∷ []) offset
counts_here before row offset says = record {
  before = before;
  setting = row;
  since = [];
  split = refl;
  base = offset;
  says = says;
  stays = tt;
  counted = let same : offset ≡ offset + 0 = omega arith in same;
}

told_more : (before : List LocatedLine) (row : LocatedLine) (location : Location)
    → IsTold before → Told (names_of before) (location_following before) row.line.statement row.size location
    → IsOpenAt (before ++ row ∷ []) location.segment × IsCountedTo (before ++ row ∷ []) location.offset
told_more before row location is (inl opens) = (opens_here before row location.segment opens.paragraph, counts_here before row location.offset opens.offset)
told_more before row location is (inr (inl sets)) =
    let was = is sets.from sets.was in
    (open_more before row location.segment sets.stays (subst (IsOpenAt before) sets.same was.0), counts_here before row location.offset sets.offset)
told_more before row location is (inr (inr moves)) =
    let was = is moves.from moves.was in (
      open_more before row location.segment moves.stays (subst (IsOpenAt before) moves.same was.0),
      subst (IsCountedTo (before ++ row ∷ [])) moves.moved (counted_more before row moves.from.offset moves.counts was.1),
    )

pub told_after : (before : List LocatedLine) (row : LocatedLine) → CleanThere before row → IsTold before → IsTold (before ++ row ∷ [])
told_after before row there is location at =
    let none : HasNone (names_of before) row.location row.line row.form =
    has_none (names_of before) row.location row.line row.form there.clean.clean in
    told_more before row location is
    (told_by (names_of before) (location_following before) row.line.statement row.size location none.wrong (sym (next_is before row there) ∙ at))

pub told_of_none : IsTold []
told_of_none location at = absurd (let never : None ≡ Some location = at in cc)

-- ---- from what says the place to the place
abbrev pub AreClean : List LocatedLine → Type 0
AreClean lines = (before : List LocatedLine) (row : LocatedLine) (after : List LocatedLine) → lines ≡ before ++ row ∷ after → CleanThere before row

-- a claim that holds if no line was passed, and holds for one more line if it holds for those that were passed, holds
-- after all lines
walked : (P : List LocatedLine → Type 0) (before : List LocatedLine) (test : LocatedLine → Bool)
    → ((passed : List LocatedLine) (row : LocatedLine) → CleanThere (before ++ passed) row → test row ≡ false → P passed → P (passed ++ row ∷ []))
    → (passed since : List LocatedLine) → AreClean (before ++ (passed ++ since)) → AllByRecursion (λ row. test row ≡ false) since
    → P passed → P (passed ++ since)
walked P before test more passed [] clean stays there = subst P (sym (append-nil passed)) there
walked P before test more passed (row ∷ since) clean stays there =
    let same : (passed ++ row ∷ []) ++ since ≡ passed ++ row ∷ since = append_assoc passed (row ∷ []) since in
    let now = more passed row (clean (before ++ passed) row since (sym (append_assoc before passed (row ∷ since)))) stays.0 there in
    subst P same
    (walked P before test more (passed ++ row ∷ []) since (λ b r a is. clean b r a (ap (λ (ls : List LocatedLine). before ++ ls) (sym same) ∙ is)) stays.1 now)

abbrev IsIn : ℕ → Option Location → Type 0
IsIn paragraph here = (offset : ℕ) × (here ≡ Some (at_place paragraph offset))

abbrev IsTo : ℕ → Option Location → Type 0
IsTo offset here = (paragraph : ℕ) × (here ≡ Some (at_place paragraph offset))

set_within : (paragraph : ℕ) (o : Option ℤ) (here : Option Location) → is_none o ≡ false → IsIn paragraph here
    → IsIn paragraph (option_and_then (λ v. option_map (set_to v) here) o)
set_within paragraph None here known is = absurd (let never : true ≡ false = known in cc)
set_within paragraph (Some n) here known is = (_, ap (option_map (set_to n)) is.1)

moved_within : (paragraph size : ℕ) (here : Option Location) → IsIn paragraph here
    → IsIn paragraph (option_map (λ (l : Location). at_place l.segment (l.offset + size)) here)
moved_within paragraph size here is = (is.0 + size, ap (option_map (λ (l : Location). at_place l.segment (l.offset + size))) is.1)

in_more : (known : Names) (here : Option Location) (statement : Statement) (size paragraph : ℕ) → has_unknown_constant known statement ≡ false
    → changes_segment statement ≡ false → IsIn paragraph here → IsIn paragraph (location_after known here statement size)
in_more known here Empty size paragraph unknown stays is = moved_within paragraph size here is
in_more known here (Segment name n) size paragraph unknown stays is = absurd (let never : true ≡ false = stays in cc)
in_more known here Ends size paragraph unknown stays is = absurd (let never : true ≡ false = stays in cc)
in_more known here (Equ name n) size paragraph unknown stays is = moved_within paragraph size here is
in_more known here (Org n) size paragraph unknown stays is = set_within paragraph (constant_of known n) here unknown is
in_more known here (Data width items) size paragraph unknown stays is = moved_within paragraph size here is
in_more known here (Instruction i) size paragraph unknown stays is = moved_within paragraph size here is

moved_to : (offset size : ℕ) (here : Option Location) → IsTo offset here
    → IsTo (offset + size) (option_map (λ (l : Location). at_place l.segment (l.offset + size)) here)
moved_to offset size here is = (is.0, ap (option_map (λ (l : Location). at_place l.segment (l.offset + size))) is.1)

to_more : (known : Names) (here : Option Location) (statement : Statement) (size offset : ℕ) → sets_location statement ≡ false
    → IsTo offset here → IsTo (offset + size) (location_after known here statement size)
to_more known here Empty size offset stays is = moved_to offset size here is
to_more known here (Segment name n) size offset stays is = absurd (let never : true ≡ false = stays in cc)
to_more known here Ends size offset stays is = absurd (let never : true ≡ false = stays in cc)
to_more known here (Equ name n) size offset stays is = moved_to offset size here is
to_more known here (Org n) size offset stays is = absurd (let never : true ≡ false = stays in cc)
to_more known here (Data width items) size offset stays is = moved_to offset size here is
to_more known here (Instruction i) size offset stays is = moved_to offset size here is

-- a segment is open after the statement that says its paragraph
in_first : (known : Names) (here : Option Location) (statement : Statement) (size paragraph : ℕ) → SaysParagraph known statement paragraph
    → IsIn paragraph (location_after known here statement size)
in_first known here Empty size paragraph says = absurd says
in_first known here (Segment name n) size paragraph says = (0, ap (option_map opened_at) says)
in_first known here Ends size paragraph says = absurd says
in_first known here (Equ name n) size paragraph says = absurd says
in_first known here (Org n) size paragraph says = absurd says
in_first known here (Data width items) size paragraph says = absurd says
in_first known here (Instruction i) size paragraph says = absurd says

opened_to : (o : Option ℤ) (offset : ℕ) → is_none o ≡ false → offset ≡ 0 → IsTo offset (option_map opened_at o)
opened_to None offset known zeroth = absurd (let never : true ≡ false = known in cc)
opened_to (Some n) offset known zeroth = (natural n, ap (λ (k : ℕ). Some (at_place (natural n) k)) (sym zeroth))

set_at : (o : Option ℤ) (here : Option Location) (offset : ℕ) → is_some here ≡ true → o ≡ Some (pos offset)
    → IsTo offset (option_and_then (λ v. option_map (set_to v) here) o)
set_at o None offset placed says = absurd (let never : false ≡ true = placed in cc)
set_at o (Some from) offset placed says = (from.segment, ap (option_and_then (λ v. option_map (set_to v) (Some from))) says)

place_wanted : (here : Option Location) (labelled wants : Bool) → wants ≡ true → (outside : Option Location → Bool)
    → outside None ≡ (labelled || wants) → outside here ≡ false → is_some here ≡ true
place_wanted (Some location) labelled wants is outside at none = refl
place_wanted None labelled wants is outside at none = absurd (let never : true ≡ false = sym is ∙ (or_parts labelled wants (sym at ∙ none)).1 in cc)

to_first : (known : Names) (here : Option Location) (statement : Statement) (size offset : ℕ) → has_unknown_constant known statement ≡ false
    → (wants_segment statement ≡ true → is_some here ≡ true) → SaysOffset known statement offset
    → IsTo offset (location_after known here statement size)
to_first known here Empty size offset unknown placed says = absurd says
to_first known here (Segment name n) size offset unknown placed says = opened_to (constant_of known n) offset unknown says
to_first known here Ends size offset unknown placed says = absurd says
to_first known here (Equ name n) size offset unknown placed says = absurd says
to_first known here (Org n) size offset unknown placed says = set_at (constant_of known n) here offset (placed refl) says
to_first known here (Data width items) size offset unknown placed says = absurd says
to_first known here (Instruction i) size offset unknown placed says = absurd says

none_of : (before : List LocatedLine) (row : LocatedLine) → CleanThere before row → HasNone (names_of before) row.location row.line row.form
none_of before row there = has_none (names_of before) row.location row.line row.form there.clean.clean

opened_location : (lines : List LocatedLine) (paragraph : ℕ) → AreClean lines → IsOpenAt lines paragraph → IsIn paragraph (location_following lines)
opened_location lines paragraph clean opened =
    let front : List LocatedLine = opened.before ++ opened.opening ∷ [] in
    let parts : lines ≡ front ++ opened.since = opened.split ∙ sym (append_assoc opened.before (opened.opening ∷ []) opened.since) in
    let first : IsIn paragraph (location_following front) =
    let there = clean opened.before opened.opening opened.since opened.split in
    subst (IsIn paragraph) (sym (next_is opened.before opened.opening there))
    (in_first (names_of opened.before) (location_following opened.before) opened.opening.line.statement opened.opening.size paragraph opened.says) in
    let all = walked (λ (passed : List LocatedLine). IsIn paragraph (location_following (front ++ passed))) front
    (λ (row : LocatedLine). changes_segment row.line.statement)
    (λ passed row there stays is.
    subst (λ (ls : List LocatedLine). IsIn paragraph (location_following ls)) (append_assoc front passed (row ∷ []))
    (subst (IsIn paragraph) (sym (next_is (front ++ passed) row there))
    (in_more (names_of (front ++ passed)) (location_following (front ++ passed)) row.line.statement row.size paragraph
    (none_of (front ++ passed) row there).unknown stays is)))
    [] opened.since (λ b r a is. clean b r a (parts ∙ is)) opened.stays
    (subst (λ (ls : List LocatedLine). IsIn paragraph (location_following ls)) (sym (append-nil front)) first) in
    subst (λ (ls : List LocatedLine). IsIn paragraph (location_following ls)) (sym parts) all

counted_location : (lines : List LocatedLine) (offset : ℕ) → AreClean lines → IsCountedTo lines offset → IsTo offset (location_following lines)
counted_location lines offset clean to =
    let front : List LocatedLine = to.before ++ to.setting ∷ [] in
    let parts : lines ≡ front ++ to.since = to.split ∙ sym (append_assoc to.before (to.setting ∷ []) to.since) in
    let first : IsTo to.base (location_following front) =
    let there = clean to.before to.setting to.since to.split in
    let none = none_of to.before to.setting there in
    subst (IsTo to.base) (sym (next_is to.before to.setting there))
    (to_first (names_of to.before) (location_following to.before) to.setting.line.statement to.setting.size to.base none.unknown
    (λ wants. place_wanted (location_following to.before) (is_some to.setting.line.label) (wants_segment to.setting.line.statement) wants
    (λ (here : Option Location). stands_outside here to.setting.line) refl
    (ap (λ (here : Option Location). stands_outside here to.setting.line) (sym there.clean.is_located_line.location) ∙ none.outside)) to.says) in
    let At : List LocatedLine → Type 0 = λ passed. IsTo (to.base + sum_by size_of_row passed) (location_following (front ++ passed)) in
    let all = walked At front (λ (row : LocatedLine). sets_location row.line.statement)
    (λ passed row there stays is.
    let more : (to.base + sum_by size_of_row passed) + row.size ≡ to.base + sum_by size_of_row (passed ++ row ∷ []) =
    omega (arith, sum_by_push size_of_row passed row) in
    subst (λ (n : ℕ). IsTo n (location_following (front ++ (passed ++ row ∷ [])))) more
    (subst (λ (ls : List LocatedLine). IsTo ((to.base + sum_by size_of_row passed) + row.size) (location_following ls)) (append_assoc front passed (row ∷ []))
    (subst (IsTo ((to.base + sum_by size_of_row passed) + row.size)) (sym (next_is (front ++ passed) row there))
    (to_more (names_of (front ++ passed)) (location_following (front ++ passed)) row.line.statement row.size (to.base + sum_by size_of_row passed) stays is))))
    [] to.since (λ b r a is. clean b r a (parts ∙ is)) to.stays
    (subst (λ (ls : List LocatedLine). IsTo (to.base + 0) (location_following ls)) (sym (append-nil front))
    (subst (λ (n : ℕ). IsTo n (location_following front)) (let same : to.base ≡ to.base + 0 = omega arith in same) first)) in
    subst (λ (n : ℕ). IsTo n (location_following lines)) (sym to.counted)
    (subst (λ (ls : List LocatedLine). IsTo (to.base + sum_by size_of_row to.since) (location_following ls)) (sym parts) all)

both_are : (location : Location) (here : Option Location) → IsIn location.segment here → IsTo location.offset here → here ≡ Some location
both_are location here inside to =
    let same : at_place location.segment inside.0 ≡ at_place to.0 location.offset = some_is _ _ (sym inside.1 ∙ to.1) in
    to.1 ∙ ap (λ (l : Location). Some (at_place l.segment location.offset)) (sym same)

pub stands_at : (lines : List LocatedLine) (location : Location) → AreClean lines → IsOpenAt lines location.segment → IsCountedTo lines location.offset
    → location_following lines ≡ Some location
stands_at lines location clean opened to =
    both_are location (location_following lines) (opened_location lines location.segment clean opened) (counted_location lines location.offset clean to)
