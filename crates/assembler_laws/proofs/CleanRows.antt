-- What is known of an instruction's row in a source that is accepted.
use Rattle.std.proofs.Common.{◌≡◌, ◌∙◌, ℕ, zero, suc, ◌<◌, ◌≤◌, ◌||◌, List, [], ◌∷◌, ◌++◌, length, get_or, Contains, refl, sym}
use Rattle.std.proofs.Common.{ap, subst, arith, Bool, true, false, Option, None, Some, is_some, is_none, nat_le, if◌then◌else◌}
use Rattle.std.specs.Prelude.{pos}
use Rattle.std.specs.List.{AllByRecursion, flat_map}
use Rattle.std.proofs.lemmas.Bool.{or_parts}
use Rattle.std.proofs.lemmas.Bool.Decides.{nat_tests}
use Rattle.std.proofs.lemmas.List.Elements.{Contains-append_left, Contains-append_right}
use Rattle.isa.specs.declared.form.Form.{Form}
use Rattle.isa.specs.declared.form.Values.{Values}
use Rattle.isa.specs.Encoding.{FitsForm, IsForm}
use Rattle.isa.specs.Table.{rows as table}
use Rattle.assembler_syntax.specs.declared.statement.Line.{Line}
use Rattle.assembler_syntax.specs.declared.statement.Instruction.{Instruction as Written}
use Rattle.assembler_syntax.specs.declared.statement.Statement.TheVariants.{Instruction}
use Rattle.assembler_form.specs.declared.asked.Asked.{Asked}
use Rattle.assembler_form.specs.declared.fields.Numbers.{Numbers}
use Rattle.assembler_form.specs.Choice.{IsChosen}
use Rattle.assembler_form.proofs.FieldRanges.{values_fit}
use Rattle.assembler_form.proofs.Shapes.{form_of_first}
use Rattle.assembler_meaning.specs.declared.symbol.Location.{Location}
use Rattle.assembler_meaning.specs.Instructions.{instruction_asked, instruction_size, prefixes_of, IsFormFor}
use Rattle.assembler_meaning.specs.Values.{Names}
use Rattle.assembler.specs.declared.fault.SourceFault.TheVariants.{BadLine, UnknownName, BadForm, TwiceDefined, NoSegment}
use Rattle.assembler.specs.Placement.{fields_for}
use Rattle.assembler.specs.LocatedLines.{LocatedLine, AreLocatedLines, IsCleanLine, IsFormOf, early_fault, defines_again, has_unknown_constant}
use Rattle.assembler.specs.LocatedLines.{has_wrong_constant, lacks_form, names_of, opens_within, size_of, stands_outside, wants_segment}

-- ---- what holds of each row
there_at : {X : Type 0} (P : X → Type 0) (xs : List X) (x : X) → AllByRecursion P xs → (k : ℕ) → k < length xs → get_or xs k x ≡ x → P x
there_at P [] x all k within is = absurd (omega (arith, within))
there_at P (y ∷ ys) x all zero within is = subst P is all.0
there_at P (y ∷ ys) x all (suc k) within is = there_at P ys x all.1 k (omega arith) is

pub all_there : {X : Type 0} (P : X → Type 0) (xs : List X) (x : X) → AllByRecursion P xs → Contains xs x → P x
all_there P xs x all within = there_at P xs x all within.0 within.1 within.2

placed_at : {X Y : Type 0} (f : X → List Y) (xs : List X) (x : X) (y : Y) → Contains (f x) y → (k : ℕ) → k < length xs → get_or xs k x ≡ x
    → Contains (flat_map f xs) y
placed_at f [] x y there k within is = absurd (omega (arith, within))
placed_at f (first ∷ xs) x y there zero within is = Contains-append_left (f first) (flat_map f xs) y (subst (λ z. Contains (f z) y) (sym is) there)
placed_at f (first ∷ xs) x y there (suc k) within is = Contains-append_right (f first) (flat_map f xs) y (placed_at f xs x y there k (omega arith) is)

-- what one row places, all rows place
pub placed_there : {X Y : Type 0} (f : X → List Y) (xs : List X) (x : X) (y : Y) → Contains xs x → Contains (f x) y → Contains (flat_map f xs) y
placed_there f xs x y within there = placed_at f xs x y there within.0 within.1 within.2

pub record IsClean (row : LocatedLine) : Type 0 where
  pub before : List LocatedLine
  pub text : List ℕ
  pub clean : IsCleanLine before text row

pub all_clean : (before : List LocatedLine) (texts : List (List ℕ)) (rows : List LocatedLine) → AreLocatedLines before texts rows → AllByRecursion IsClean rows
all_clean before [] [] are = tt
all_clean before [] (row ∷ rows) are = absurd are
all_clean before (text ∷ texts) [] are = absurd are
all_clean before (text ∷ texts) (row ∷ rows) are =
    (record { before = before; text = text; clean = are.0 }, all_clean (before ++ row ∷ []) texts rows are.1)

pub clean_there : (texts : List (List ℕ)) (rows : List LocatedLine) (row : LocatedLine) → AreLocatedLines [] texts rows → Contains rows row → IsClean row
clean_there texts rows row are within = all_there IsClean rows row (all_clean [] texts rows are) within

-- ---- an instruction without a fault has a form and a place
pub record HasNeither (lacks stands : Bool) : Type 0 where
  pub formed : lacks ≡ false
  pub placed : stands ≡ false

neither_by : (a b c d e : Bool)
    → (if a then Some BadLine
    else (if b then Some UnknownName else (if c then Some BadForm else (if d then Some TwiceDefined else (if e then Some NoSegment else None)))))
    ≡ None
    → HasNeither c e
neither_by true b c d e none = absurd (let never : Some BadLine ≡ None = none in cc)
neither_by false true c d e none = absurd (let never : Some UnknownName ≡ None = none in cc)
neither_by false false true d e none = absurd (let never : Some BadForm ≡ None = none in cc)
neither_by false false false true e none = absurd (let never : Some TwiceDefined ≡ None = none in cc)
neither_by false false false false true none = absurd (let never : Some NoSegment ≡ None = none in cc)
neither_by false false false false false none = record { formed = refl; placed = refl }

has_neither : (known : Names) (location : Option Location) (line : Line) (form : Option Form) → early_fault known location line form ≡ None
    → HasNeither (lacks_form line.statement form) (stands_outside location line)
unfolding early_fault
has_neither known location line form none =
    neither_by (opens_within location line.statement || has_wrong_constant known line.statement) (has_unknown_constant known line.statement)
    (lacks_form line.statement form) (defines_again known line) (stands_outside location line) none

place_there : (location : Option Location) (line : Line) (i : Written) → line.statement ≡ Instruction i → stands_outside location line ≡ false
    → (place : Location) × (location ≡ Some place)
place_there (Some place) line i is placed = (place, refl)
place_there None line i is placed =
    absurd (let never : true ≡ false = sym (ap wants_segment is) ∙ (or_parts (is_some line.label) (wants_segment line.statement) placed).1 in cc)

form_there : (form : Option Form) (i : Written) → lacks_form (Instruction i) form ≡ false → (f : Form) × (form ≡ Some f)
form_there (Some f) i formed = (f, refl)
form_there None i formed = absurd (let never : true ≡ false = formed in cc)

-- ---- the form is one of the table, and there are at most seven prefixes
pub chosen_there : (o : Option Asked) (f : Form) → IsFormFor o (Some f) → (a : Asked) × (o ≡ Some a) × IsChosen a f
chosen_there (Some a) f is = (a, refl, is)
chosen_there None f is = absurd (let never : Some f ≡ None = is in cc)

few_by : (few : Bool) (n : ℕ) (o : Option Asked) (a : Asked) → nat_le n 7 ≡ few → (if few then o else None) ≡ Some a → n ≤ 7
few_by true n o a is some = grind (arith, nat_tests)
few_by false n o a is some = absurd (let never : None ≡ Some a = some in cc)

few_prefixes : (known : Names) (i : Written) (a : Asked) → instruction_asked known i ≡ Some a → length (prefixes_of i) ≤ 7
unfolding instruction_asked
few_prefixes known i a is = few_by (nat_le (length (prefixes_of i)) 7) (length (prefixes_of i)) _ a refl is

pub record HasPlace (row : LocatedLine) (i : Written) : Type 0 where
  pub form : Form
  pub location : Location
  pub has_form : row.form ≡ Some form
  pub has_place : row.location ≡ Some location
  pub is_form : IsForm form
  pub few : length (prefixes_of i) ≤ 7
  pub size : row.size ≡ instruction_size form i

pub has_place : (row : LocatedLine) (i : Written) → row.line.statement ≡ Instruction i → IsClean row → HasPlace row i
has_place row i is there =
    let is_located_line = there.clean.is_located_line in
    let known : Names = names_of there.before in
    let neither = has_neither known row.location row.line row.form there.clean.clean in
    let place = place_there row.location row.line i is neither.placed in
    let form = form_there row.form i (sym (ap (λ s. lacks_form s row.form) is) ∙ neither.formed) in
    let formed : IsFormOf known (Instruction i) (Some form.0) =
    subst (IsFormOf known (Instruction i)) form.1 (subst (λ s. IsFormOf known s row.form) is is_located_line.form) in
    let chosen = chosen_there (instruction_asked known i) form.0 formed in
    record {
      form = form.0;
      location = place.0;
      has_form = form.1;
      has_place = place.1;
      is_form = form_of_first form.0 form.0.row chosen.0 table chosen.2.parts refl chosen.2.first;
      few = few_prefixes known i chosen.0 chosen.1;
      size = is_located_line.size ∙ ap (λ s. size_of known s row.form) is ∙ ap (size_of known (Instruction i)) form.1;
    }

-- ---- the numbers of an instruction fit its form's fields
pub some_there : {X : Type 0} (o : Option X) → is_none o ≡ false → (x : X) × (o ≡ Some x)
some_there (Some x) is = (x, refl)
some_there None is = absurd (let never : true ≡ false = is in cc)

pub fields_fit : (f : Form) (next : ℕ) (o : Option Numbers) (v : Values) → fields_for f next o ≡ Some v → FitsForm f v
fields_fit f next (Some n) v is = values_fit f (pos next) n v is
fields_fit f next None v is = absurd (let never : None ≡ Some v = is in cc)
