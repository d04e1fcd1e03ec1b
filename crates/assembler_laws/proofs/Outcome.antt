-- Each source has an outcome: an image that it gives, or a first fault.
use Rattle.std.proofs.Common.{◌≡◌, ◌∙◌, ℕ, zero, suc, ◌+◌, ◌<◌, ◌≤◌, List, [], ◌∷◌, ◌++◌, length, get_or, refl, sym, ap, subst}
use Rattle.std.proofs.Common.{arith, inl, inr, Bool, true, false, Option, None, Some, Result, Ok, Err, append_assoc, append-nil}
use Rattle.std.specs.Prelude.{◌⊎◌, ◌≢◌, slice_get, IsTrue}
use Rattle.std.proofs.lemmas.Bool.{cases_lt}
use Rattle.isa.specs.declared.form.Form.{Form}
use Rattle.isa.specs.declared.row.Row.{Row as TableRow}
use Rattle.isa.specs.Row.{first_of, operation_of, second_of}
use Rattle.isa.specs.Table.{rows as table}
use Rattle.assembler_form.specs.declared.asked.Asked.{Asked}
use Rattle.assembler_form.specs.Choice.{IsFirst as IsFirstRow, NoneTakes}
use Rattle.assembler_form.specs.OperandBytes.{form_with}
use Rattle.assembler_form.specs.Takes.{is_of, Takes}
use Rattle.assembler_lexeme.specs.declared.fault.SyntaxFault.{SyntaxFault}
use Rattle.assembler_syntax.specs.declared.statement.Line.{Line}
use Rattle.assembler_syntax.specs.declared.statement.Statement.{Statement}
use Rattle.assembler_syntax.specs.declared.statement.Statement.TheVariants.{Empty, Segment, Ends, Equ, Org, Data, Instruction}
use Rattle.board_types.specs.TextLines.{text_lines}
use Rattle.assembler_syntax.specs.Lines.{read_line}
use Rattle.assembler_meaning.specs.Instructions.{instruction_asked, IsChosenFor, IsFormFor}
use Rattle.assembler_meaning.specs.Values.{Names}
use Rattle.assembler.specs.declared.fault.AsmFault.{AsmFault}
use Rattle.assembler.specs.declared.fault.AsmFault.TheVariants.{SourceTooLong, InLine, Memory}
use Rattle.assembler.specs.declared.fault.SourceFault.{SourceFault}
use Rattle.assembler.specs.FirstFault.{AreFaultless, IsFirst, IsTextFault, fault_of_line}
use Rattle.assembler.specs.FirstPass.{located_of}
use Rattle.assembler.specs.Gives.{source_limit, Gives}
use Rattle.assembler.specs.Placement.{placed_by_all, located_fault}
use Rattle.assembler.specs.LocatedLines.{LocatedLine, AreLocatedLines, IsCleanLine, IsFormOf, IsLocatedLine, early_fault, names_of, location_following}
use Rattle.assembler.specs.SecondPass.{with_entries}
use Rattle.assembler.proofs.PlacingWhole.{are_placed, no_entries, lines_sized}
use Rattle.assembler.proofs.ReadingFaults.{is_located_line}
use Rattle.assembler_laws.specs.FirstFaults.{EachSourceHasAnOutcome}
use Rattle.assembler_laws.proofs.CleanRows.{all_clean}
use Rattle.assembler_laws.proofs.Operations.{one_or_other}
use Rattle.assembler_laws.proofs.PlacedBytes.{all_place_bytes, image_of_rows}

-- ---- a form of the table, or none
test_or : (b : Bool) → IsTrue b ⊎ (IsTrue b → ⊥)
test_or true = inl refl
test_or false = inr (λ is. let never : false ≡ true = is in cc)

takes_by : (r : TableRow) (a : Asked) → (operation_of r ≡ a.operation) ⊎ (operation_of r ≡ a.operation → ⊥)
    → IsTrue (is_of a.operation (first_of r) a.first) ⊎ (IsTrue (is_of a.operation (first_of r) a.first) → ⊥)
    → IsTrue (is_of a.operation (second_of r) a.second) ⊎ (IsTrue (is_of a.operation (second_of r) a.second) → ⊥) → Takes r a ⊎ (Takes r a → ⊥)
takes_by r a (inr not) one two = inr (λ takes. not takes.operation)
takes_by r a (inl is) (inr not) two = inr (λ takes. not takes.first)
takes_by r a (inl is) (inl one) (inr not) = inr (λ takes. not takes.second)
takes_by r a (inl is) (inl one) (inl two) = inl (record { operation = is; first = one; second = two })

takes_or : (r : TableRow) (a : Asked) → Takes r a ⊎ (Takes r a → ⊥)
takes_or r a =
    takes_by r a (one_or_other (operation_of r) a.operation)
    (test_or (is_of a.operation (first_of r) a.first)) (test_or (is_of a.operation (second_of r) a.second))

earlier_not : (r : TableRow) (rs : List TableRow) (a : Asked) (place : ℕ) → (Takes r a → ⊥)
    → ((i : ℕ) (s : TableRow) → i < place → slice_get rs i ≡ Some s → Takes s a → ⊥)
    → (i : ℕ) (s : TableRow) → i < suc place → slice_get (r ∷ rs) i ≡ Some s → Takes s a → ⊥
earlier_not r rs a place not before zero s small is takes = let same : r ≡ s = cc in not (subst (λ (t : TableRow). Takes t a) (sym same) takes)
earlier_not r rs a place not before (suc i) s small is takes = before i s (omega (arith, small)) is takes

none_more : (r : TableRow) (rs : List TableRow) (a : Asked) → (Takes r a → ⊥) → NoneTakes rs a
    → (s : TableRow) (k : ℕ) → k < length (r ∷ rs) → get_or (r ∷ rs) k s ≡ s → Takes s a → ⊥
none_more r rs a not none s zero within is takes = not (subst (λ (t : TableRow). Takes t a) (sym is) takes)
none_more r rs a not none s (suc k) within is takes = none s (k, omega (arith, within), is) takes

first_more : (r : TableRow) (rs : List TableRow) (a : Asked) → Takes r a ⊎ (Takes r a → ⊥) → ((s : TableRow) × IsFirstRow rs a s) ⊎ NoneTakes rs a
    → ((s : TableRow) × IsFirstRow (r ∷ rs) a s) ⊎ NoneTakes (r ∷ rs) a
first_more r rs a (inl takes) rest = inl (r, record { place = 0; stands = refl; takes = takes; earlier = λ i s small. absurd (omega (arith, small)) })
first_more r rs a (inr not) (inl found) = inl (
  found.0,
  record {
    place = suc found.1.place;
    stands = found.1.stands;
    takes = found.1.takes;
    earlier = earlier_not r rs a found.1.place not found.1.earlier;
  },
)
first_more r rs a (inr not) (inr none) = inr (λ s there. none_more r rs a not none s there.0 there.1 there.2)

first_or_none : (rs : List TableRow) (a : Asked) → ((s : TableRow) × IsFirstRow rs a s) ⊎ NoneTakes rs a
first_or_none [] a = inr (λ r there. let within = there.1 in absurd (omega (arith, within)))
first_or_none (r ∷ rs) a = first_more r rs a (takes_or r a) (first_or_none rs a)

row_with : (r : TableRow) (a : Asked) → (form_with r a).row ≡ r
unfolding form_with
row_with r a = refl

form_by : (a : Asked) → ((s : TableRow) × IsFirstRow table a s) ⊎ NoneTakes table a → (form : Option Form) × IsChosenFor a form
form_by a (inl found) =
    let same : (form_with found.0 a).row ≡ found.0 = row_with found.0 a in (
      Some (form_with found.0 a),
      record {
        first = subst (IsFirstRow table a) (sym same) found.1;
        parts = ap (λ (r : TableRow). form_with r a) (sym same);
      },
    )
form_by a (inr none) = (None, none)

pub form_for : (o : Option Asked) → (form : Option Form) × IsFormFor o form
form_for None = (None, refl)
form_for (Some a) = form_by a (first_or_none table a)

form_of : (names : Names) (statement : Statement) → (form : Option Form) × IsFormOf names statement form
form_of names Empty = (None, refl)
form_of names (Segment name n) = (None, refl)
form_of names Ends = (None, refl)
form_of names (Equ name n) = (None, refl)
form_of names (Org n) = (None, refl)
form_of names (Data width items) = (None, refl)
form_of names (Instruction i) = form_for (instruction_asked names i)

-- ---- a text makes a clean row, or has a fault
abbrev HasOutcome : List LocatedLine → List ℕ → Type 0
HasOutcome before text =
    ((row : LocatedLine) × IsCleanLine before text row) ⊎ ((fault : SourceFault) × IsTextFault (names_of before) (location_following before) text fault)

row_outcome : (before : List LocatedLine) (text : List ℕ) (row : LocatedLine) → IsLocatedLine (names_of before) (location_following before) text row
    → (o : Option SourceFault) → early_fault (names_of before) row.location row.line row.form ≡ o → HasOutcome before text
row_outcome before text row is None at = inl (row, record { is_located_line = is; clean = at })
row_outcome before text row is (Some fault) at = inr (fault, inr (row, is, at))

read_outcome : (before : List LocatedLine) (text : List ℕ) (r : Result Line SyntaxFault) → read_line text ≡ r → HasOutcome before text
read_outcome before text (Ok line) reads =
    let form = form_of (names_of before) line.statement in
    let row : LocatedLine = located_of (names_of before) (location_following before) line form.0 in
    row_outcome before text row (is_located_line (names_of before) (location_following before) text line form.0 reads form.1)
    (early_fault (names_of before) row.location row.line row.form) refl
read_outcome before text (Err found) reads = inr (fault_of_line found, inl (found, reads, refl))

text_outcome : (before : List LocatedLine) (text : List ℕ) → HasOutcome before text
text_outcome before text = read_outcome before text (read_line text) refl

-- ---- all texts make clean rows, or one has the first fault
record HasEarly (before : List LocatedLine) (texts : List (List ℕ)) : Type 0 where
  pub front : List (List ℕ)
  pub text : List ℕ
  pub back : List (List ℕ)
  pub texts_are : texts ≡ front ++ text ∷ back
  pub located_lines : List LocatedLine
  pub clean : AreLocatedLines before front located_lines
  pub fault : SourceFault
  pub found : IsTextFault (names_of (before ++ located_lines)) (location_following (before ++ located_lines)) text fault

abbrev HaveOutcome : List LocatedLine → List (List ℕ) → Type 0
HaveOutcome before texts = ((rows : List LocatedLine) × AreLocatedLines before texts rows) ⊎ HasEarly before texts

texts_after : (before : List LocatedLine) (text : List ℕ) (texts : List (List ℕ)) (row : LocatedLine)
    → IsCleanLine before text row → HaveOutcome (before ++ row ∷ []) texts → HaveOutcome before (text ∷ texts)
texts_after before text texts row is (inl clean) = inl (row ∷ clean.0, (is, clean.1))
texts_after before text texts row is (inr early) = inr (record {
  front = text ∷ early.front;
  text = early.text;
  back = early.back;
  texts_are = ap (λ (ts : List (List ℕ)). text ∷ ts) early.texts_are;
  located_lines = row ∷ early.located_lines;
  clean = (is, early.clean);
  fault = early.fault;
  found = subst (λ (rs : List LocatedLine). IsTextFault (names_of rs) (location_following rs) early.text early.fault)
      (append_assoc before (row ∷ []) early.located_lines) early.found;
})

fault_first : (before : List LocatedLine) (text : List ℕ) (texts : List (List ℕ)) (fault : SourceFault)
    → IsTextFault (names_of before) (location_following before) text fault → HaveOutcome before (text ∷ texts)
fault_first before text texts fault found = inr (record {
  front = [];
  text = text;
  back = texts;
  texts_are = refl;
  located_lines = [];
  clean = tt;
  fault = fault;
  found = subst (λ (rs : List LocatedLine). IsTextFault (names_of rs) (location_following rs) text fault) (sym (append-nil before)) found;
})

texts_outcome : (before : List LocatedLine) (texts : List (List ℕ)) → HaveOutcome before texts
texts_outcome before [] = inl ([], tt)
texts_outcome before (text ∷ texts) = elim (text_outcome before text) [
  | inl made ↦ texts_after before text texts made.0 made.1 (texts_outcome (before ++ made.0 ∷ []) texts)
  | inr has ↦ fault_first before text texts has.0 has.1
]

-- ---- rows can all be placed, or one has the first fault
record HasLate (names : Names) (before rows : List LocatedLine) : Type 0 where
  pub front : List LocatedLine
  pub located : LocatedLine
  pub back : List LocatedLine
  pub rows_are : rows ≡ front ++ located ∷ back
  pub placed : AreFaultless names before front
  pub fault : SourceFault
  pub found : located_fault names (before ++ front) located ≡ Some fault

abbrev CanBePlaced : Names → List LocatedLine → List LocatedLine → Type 0
CanBePlaced names before rows = AreFaultless names before rows ⊎ HasLate names before rows

rows_after : (names : Names) (before : List LocatedLine) (row : LocatedLine) (rows : List LocatedLine)
    → located_fault names before row ≡ None → CanBePlaced names (before ++ row ∷ []) rows → CanBePlaced names before (row ∷ rows)
rows_after names before row rows none (inl free) = inl (none, free)
rows_after names before row rows none (inr late) = inr (record {
  front = row ∷ late.front;
  located = late.located;
  back = late.back;
  rows_are = ap (λ (rs : List LocatedLine). row ∷ rs) late.rows_are;
  placed = (none, late.placed);
  fault = late.fault;
  found = ap (λ (rs : List LocatedLine). located_fault names rs late.located) (sym (append_assoc before (row ∷ []) late.front)) ∙ late.found;
})

rows_by : (names : Names) (before : List LocatedLine) (row : LocatedLine) (rows : List LocatedLine) (o : Option SourceFault)
    → located_fault names before row ≡ o → CanBePlaced names (before ++ row ∷ []) rows → CanBePlaced names before (row ∷ rows)
rows_by names before row rows None at rest = rows_after names before row rows at rest
rows_by names before row rows (Some fault) at rest = inr (record {
  front = [];
  located = row;
  back = rows;
  rows_are = refl;
  placed = tt;
  fault = fault;
  found = ap (λ (rs : List LocatedLine). located_fault names rs row) (append-nil before) ∙ at;
})

rows_outcome : (names : Names) (before rows : List LocatedLine) → CanBePlaced names before rows
rows_outcome names before [] = inl tt
rows_outcome names before (row ∷ rows) = rows_by names before row rows (located_fault names before row) refl (rows_outcome names (before ++ row ∷ []) rows)

-- ---- the law
abbrev Outcome : List ℕ → Type 0
Outcome source =
    ((fault : AsmFault) × (fault ≢ Memory) × IsFirst source fault)
    ⊎ ((image : List (ℕ × ℕ)) × Gives source image)

in_line : (fault : SourceFault) (number : ℕ) → InLine fault number ≢ Memory
in_line fault number is = cc

too_long : SourceTooLong ≢ Memory
too_long is = cc

-- clean rows that can all be placed place an image
gives_image : (source : List ℕ) (rows : List LocatedLine) → length source ≤ source_limit
    → AreLocatedLines [] (text_lines source) rows → AreFaultless (names_of rows) [] rows → (image : List (ℕ × ℕ)) × Gives source image
gives_image source rows within are free =
    let names : Names = names_of rows in
    let sized = lines_sized names [] (text_lines source) rows are refl in
    let is_image = image_of_rows names [] rows [] no_entries free sized (all_place_bytes names rows (all_clean [] (text_lines source) rows are)) in (
      with_entries [] (placed_by_all names rows),
      record { within = within; located_lines = rows; are_located_lines = are; placed = are_placed names rows free sized refl is_image },
    )

late_outcome : (source : List ℕ) (rows : List LocatedLine) → length source ≤ source_limit
    → AreLocatedLines [] (text_lines source) rows → CanBePlaced (names_of rows) [] rows → Outcome source
late_outcome source rows within are (inl free) = inr (gives_image source rows within are free)
late_outcome source rows within are (inr late) = inl (
  InLine late.fault (length late.front + 1),
  in_line late.fault (length late.front + 1),
  (
    within,
    inr (record {
      located_lines = rows;
      clean = are;
      found = record {
        front = late.front;
        located = late.located;
        back = late.back;
        split = late.rows_are;
        counted = refl;
        placed = late.placed;
        found = late.found;
      };
    }),
  ),
)

early_outcome : (source : List ℕ) → length source ≤ source_limit → HaveOutcome [] (text_lines source) → Outcome source
early_outcome source within (inl clean) = late_outcome source clean.0 within clean.1 (rows_outcome (names_of clean.0) [] clean.0)
early_outcome source within (inr early) = inl (
  InLine early.fault (length early.front + 1),
  in_line early.fault (length early.front + 1),
  (
    within,
    inl (record {
      front = early.front;
      text = early.text;
      back = early.back;
      texts = early.texts_are;
      counted = refl;
      located_lines = early.located_lines;
      clean = early.clean;
      found = early.found;
    }),
  ),
)

pub each_source_has_an_outcome : EachSourceHasAnOutcome
each_source_has_an_outcome source = elim (cases_lt source_limit (length source)) [
  | inl long ↦ inl (SourceTooLong, too_long, long)
  | inr within ↦ early_outcome source within (texts_outcome [] (text_lines source))
]
