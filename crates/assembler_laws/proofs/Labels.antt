-- What labels stand for, how many bytes lines place, and the law of places.
use Rattle.std.proofs.Common.{◌≡◌, ◌∙◌, ℕ, ℤ, ◌+◌, List, [], ◌∷◌, ◌++◌, length, refl, sym, ap, subst, arith}
use Rattle.std.proofs.Common.{◌||◌, Bool, true, false, cond, Option, None, Some, is_some, is_none, append_assoc}
use Rattle.std.specs.Option.{option_map_or}
use Rattle.std.specs.List.{AllByRecursion}
use Rattle.std.specs.Str.{bytes_eq}
use Rattle.std.proofs.lemmas.Bool.{or_parts}
use Rattle.std.proofs.lemmas.Grind.{flat_map-append}
use Rattle.std.proofs.lemmas.Slice.Eq.{bytes_eq-Decides}
use Rattle.isa.specs.declared.form.Form.{Form}
use Rattle.assembler_lexeme.specs.declared.name.Name.{Name}
use Rattle.assembler_syntax.specs.declared.expression.Term.{Term}
use Rattle.assembler_syntax.specs.declared.statement.Line.{Line}
use Rattle.assembler_syntax.specs.declared.statement.Statement.{Statement}
use Rattle.assembler_syntax.specs.declared.statement.Statement.TheVariants.{Empty, Segment, Ends, Equ, Org, Data, Instruction}
use Rattle.board_types.specs.TextLines.{text_lines}
use Rattle.assembler_meaning.specs.declared.symbol.Location.{Location}
use Rattle.assembler_meaning.specs.declared.symbol.Symbol.{Symbol}
use Rattle.assembler_meaning.specs.declared.symbol.Symbol.TheVariants.{Label, Constant}
use Rattle.assembler_meaning.specs.Values.{Names, constant_of, is_defined, meaning, same_name}
use Rattle.assembler.specs.Gives.{Fits}
use Rattle.assembler.specs.Placement.{bytes_by, bytes_from, content_of, placed_at, placed_by}
use Rattle.assembler.specs.LocatedLines.{LocatedLine, AreLocatedLines, constant_definition, defines_again, has_unknown_constant, is_same, label_definition}
use Rattle.assembler.specs.LocatedLines.{names_of, size_of, location_following, statement_definition, statement_name, stands_outside, wants_segment}
use Rattle.assembler.proofs.AnsweringPlaces.{clean_there, fits_there, placed_there, line_length, CleanThere}
use Rattle.assembler_laws.specs.Places.{LinesStandWhereCounted, StandsWhereCounted, said_constant}
use Rattle.assembler_laws.proofs.Prefixes.{along, has_none, HasNone}
use Rattle.assembler_laws.proofs.Standing.{stands_at, told_after, told_of_none, AreClean, IsTold}

-- ---- what a label stands for
bytes_same : (bytes : List ℕ) → bytes_eq bytes bytes ≡ true
bytes_same bytes = (bytes_eq-Decides bytes bytes).1 refl

looked_past : (passes : Bool) (first : Symbol) (rest whole end : Option Symbol) → is_some (cond passes (Some first) rest) ≡ false
    → (is_some rest ≡ false → whole ≡ end) → cond passes (Some first) whole ≡ end
looked_past true first rest whole end none then = absurd (let never : true ≡ false = none in cc)
looked_past false first rest whole end none then = then none

new_there : (name : Name) (known more : Names) → is_defined known name ≡ false → meaning (known ++ more) name ≡ meaning more name
new_there name [] more new = refl
new_there name (entry ∷ known) more new =
    looked_past (same_name name entry.0) entry.1 (meaning known name) (meaning (known ++ more) name) (meaning more name) new (new_there name known more)

not_known : (known : Names) (label : Option Name) (name : Name) → label ≡ Some name → option_map_or (is_defined known) label false ≡ false
    → is_defined known name ≡ false
not_known known label name is new = sym (ap (λ (l : Option Name). option_map_or (is_defined known) l false) is) ∙ new

labelled : (here : Option Location) (line : Line) (name : Name) → line.label ≡ Some name → stands_outside here line ≡ false
    → (location : Location) × (here ≡ Some location)
labelled (Some location) line name is placed = (location, refl)
labelled None line name is placed =
    absurd (let never : true ≡ false = sym (ap is_some is) ∙ (or_parts (is_some line.label) (wants_segment line.statement) placed).0 in cc)

label_there : (known rest : Names) (here : Option Location) (line : Line) (name : Name) (location : Location) → line.label ≡ Some name → here ≡ Some location
    → is_defined known name ≡ false
    → meaning (known ++ ((label_definition here line.label ++ statement_definition known line.statement) ++ rest)) name ≡ Some (Label location)
label_there known rest here line name location is at new =
    new_there name known ((label_definition here line.label ++ statement_definition known line.statement) ++ rest) new
    ∙ ap (λ (o : Option Location). meaning ((label_definition o line.label ++ statement_definition known line.statement) ++ rest) name) at
    ∙ ap (λ (l : Option Name). meaning ((label_definition (Some location) l ++ statement_definition known line.statement) ++ rest) name) is
    ∙ ap (λ (b : Bool). cond b (Some (Label location)) (meaning (statement_definition known line.statement ++ rest) name)) (bytes_same name.letters)

-- ---- what the name of a constant stands for
differs_back : (found : Bool) (a b : Name) → same_name b a ≡ found → same_name a b ≡ false → found ≡ false
differs_back false a b is differ = refl
differs_back true a b is differ =
    let same : b.letters ≡ a.letters = (bytes_eq-Decides b.letters a.letters).0 is in
    absurd (let never : true ≡ false = sym ((bytes_eq-Decides a.letters b.letters).1 (sym same)) ∙ differ in cc)

label_differs : (a b : Name) → same_name a b ≡ false → same_name b a ≡ false
label_differs a b differ = differs_back (same_name b a) a b refl differ

skip_label : (location : Option Location) (label : Option Name) (rest : Names) (name : Name) → is_same label (Some name) ≡ false
    → meaning (label_definition location label ++ rest) name ≡ meaning rest name
skip_label None None rest name differ = refl
skip_label None (Some label) rest name differ = refl
skip_label (Some location) None rest name differ = refl
skip_label (Some location) (Some label) rest name differ =
    ap (λ (b : Bool). cond b (Some (Label location)) (meaning rest name)) (label_differs label name differ)

found_first : (name : Name) (o : Option ℤ) (rest : Names) → is_none o ≡ false
    → (n : ℤ) × (o ≡ Some n) × (meaning (constant_definition name o ++ rest) name ≡ Some (Constant n))
found_first name (Some n) rest known =
    (n, refl, ap (λ (b : Bool). cond b (Some (Constant n)) (meaning rest name)) (bytes_same name.letters))
found_first name None rest known = absurd (let never : true ≡ false = known in cc)

some_once : (p q : Name × List Term) → Some p ≡ Some q → p ≡ q
some_once p q is = cc

same_pair : (p q : Name × List Term) → Some p ≡ Some q → (p.0 ≡ q.0) × (p.1 ≡ q.1)
same_pair p q is = let same : p ≡ q = some_once p q is in (ap (λ (r : Name × List Term). r.0) same, ap (λ (r : Name × List Term). r.1) same)

never_named : (p : Name × List Term) → None ≡ Some p → ⊥
never_named p is = cc

constant_by : (known : Names) (said : Name) (n : List Term) (rest : Names) (name : Name) (terms : List Term) → said ≡ name → n ≡ terms
    → (m : ℤ) × (constant_of known n ≡ Some m) × (meaning (constant_definition said (constant_of known n) ++ rest) said ≡ Some (Constant m))
    → (m : ℤ) × (constant_of known terms ≡ Some m) × (meaning (constant_definition said (constant_of known n) ++ rest) name ≡ Some (Constant m))
constant_by known said n rest name terms one two is = (
  is.0,
  ap (constant_of known) (sym two) ∙ is.1,
  ap (meaning (constant_definition said (constant_of known n) ++ rest)) (sym one) ∙ is.2,
)

constant_first : (known : Names) (statement : Statement) (rest : Names) (name : Name) (terms : List Term) → said_constant statement ≡ Some (name, terms)
    → has_unknown_constant known statement ≡ false
    → (statement_name statement ≡ Some name)
    × ((n : ℤ) × (constant_of known terms ≡ Some n) × (meaning (statement_definition known statement ++ rest) name ≡ Some (Constant n)))
constant_first known Empty rest name terms is unknown = absurd (never_named (name, terms) is)
constant_first known (Segment said n) rest name terms is unknown =
    let same = same_pair (said, n) (name, terms) is in
    (ap (λ (m : Name). Some m) same.0, constant_by known said n rest name terms same.0 same.1 (found_first said (constant_of known n) rest unknown))
constant_first known Ends rest name terms is unknown = absurd (never_named (name, terms) is)
constant_first known (Equ said n) rest name terms is unknown =
    let same = same_pair (said, n) (name, terms) is in
    (ap (λ (m : Name). Some m) same.0, constant_by known said n rest name terms same.0 same.1 (found_first said (constant_of known n) rest unknown))
constant_first known (Org n) rest name terms is unknown = absurd (never_named (name, terms) is)
constant_first known (Data width items) rest name terms is unknown = absurd (never_named (name, terms) is)
constant_first known (Instruction i) rest name terms is unknown = absurd (never_named (name, terms) is)

constant_there : (known rest : Names) (here : Option Location) (line : Line) (name : Name) (terms : List Term)
    → said_constant line.statement ≡ Some (name, terms) → has_unknown_constant known line.statement ≡ false → defines_again known line ≡ false
    → (n : ℤ) × (constant_of known terms ≡ Some n)
    × (meaning (known ++ ((label_definition here line.label ++ statement_definition known line.statement) ++ rest)) name ≡ Some (Constant n))
constant_there known rest here line name terms is unknown again =
    let first = constant_first known line.statement rest name terms is unknown in
    let news : (option_map_or (is_defined known) (statement_name line.statement) false || is_same line.label (statement_name line.statement)) ≡ false =
    (or_parts (option_map_or (is_defined known) line.label false) _ again).1 in
    let new : is_defined known name ≡ false =
    not_known known (statement_name line.statement) name first.0 (or_parts (option_map_or (is_defined known) (statement_name line.statement) false) _ news).0 in
    let differ : is_same line.label (Some name) ≡ false =
    sym (ap (λ (o : Option Name). is_same line.label o) first.0)
    ∙ (or_parts (option_map_or (is_defined known) (statement_name line.statement) false) (is_same line.label (statement_name line.statement)) news).1 in
    let own : Names = statement_definition known line.statement in (
      first.1.0,
      first.1.1,
      new_there name known ((label_definition here line.label ++ own) ++ rest) new
          ∙ ap (λ (ns : Names). meaning ns name) (append_assoc (label_definition here line.label) own rest)
          ∙ skip_label here line.label (own ++ rest) name differ ∙ first.1.2,
    )

-- ---- how many bytes a line places
bytes_count : (location : Location) (n : ℕ) (bytes : List ℕ) → length (bytes_from location n bytes) ≡ length bytes
bytes_count location n [] = refl
bytes_count location n (b ∷ bs) = let more = bytes_count location (n + 1) bs in omega (arith, more)

nothing_outside : (known : Names) (form : Option Form) (statement : Statement) → wants_segment statement ≡ false → size_of known statement form ≡ 0
nothing_outside known form Empty wants = refl
nothing_outside known form (Segment name n) wants = refl
nothing_outside known form Ends wants = refl
nothing_outside known form (Equ name n) wants = refl
nothing_outside known form (Org n) wants = refl
nothing_outside known form (Data width items) wants = absurd (let never : true ≡ false = wants in cc)
nothing_outside known form (Instruction i) wants = absurd (let never : true ≡ false = wants in cc)

placed_nowhere : (names : Names) (row : LocatedLine) → row.location ≡ None → placed_by names row ≡ []
unfolding placed_by
placed_nowhere names row at = ap (λ (o : Option Location). placed_at names o row.size (content_of row.line.statement row.form)) at

counted_at : (front : List LocatedLine) (row : LocatedLine) (back : List LocatedLine) → CleanThere front row → Fits (names_of (front ++ row ∷ back)) row
    → (here : Option Location) → row.location ≡ here → length (placed_by (names_of (front ++ row ∷ back)) row) ≡ row.size
counted_at front row back there fits (Some location) at =
    ap length (placed_there (names_of (front ++ row ∷ back)) row location at)
    ∙ bytes_count location 0 (bytes_by (names_of (front ++ row ∷ back)) location row.size (content_of row.line.statement row.form))
    ∙ line_length front row back there.text location there.clean (fits location at)
counted_at front row back there fits None at =
    let none : HasNone (names_of front) row.location row.line row.form = has_none (names_of front) row.location row.line row.form there.clean.clean in
    let wants : wants_segment row.line.statement ≡ false =
    (or_parts (is_some row.line.label) (wants_segment row.line.statement)
    (ap (λ (o : Option Location). stands_outside o row.line) (sym at) ∙ none.outside)).1 in
    ap length (placed_nowhere (names_of (front ++ row ∷ back)) row at)
    ∙ sym (there.clean.is_located_line.size ∙ nothing_outside (names_of front) row.form row.line.statement wants)

-- ---- the law
stands_so : (texts : List (List ℕ)) (front : List LocatedLine) (row : LocatedLine) (back : List LocatedLine) → AreLocatedLines [] texts (front ++ row ∷ back)
    → Fits (names_of (front ++ row ∷ back)) row → AreClean front → StandsWhereCounted (names_of (front ++ row ∷ back)) front row
stands_so texts front row back are fits clean =
    let there : CleanThere front row = clean_there [] texts front row back are in
    let none : HasNone (names_of front) row.location row.line row.form = has_none (names_of front) row.location row.line row.form there.clean.clean in
    let told : IsTold front = along IsTold told_after [] texts front row back are told_of_none in
    let at : row.location ≡ location_following front = there.clean.is_located_line.location in
    record {
      place = λ location. ((λ is. told location (sym at ∙ is)), (λ counted. at ∙ stands_at front location clean counted.0 counted.1));
      label = λ name is.
          let location = labelled row.location row.line name is none.outside in (
            location.0,
            location.1,
            ap (λ (ns : Names). meaning ns name) (flat_map-append (λ (r : LocatedLine). r.names) front (row ∷ back))
                ∙ ap (λ (ns : Names). meaning (names_of front ++ (ns ++ names_of back)) name) there.clean.is_located_line.names
                ∙ label_there (names_of front) (names_of back) (location_following front) row.line name location.0 is (sym at ∙ location.1)
                (not_known (names_of front) row.line.label name is
                (or_parts (option_map_or (is_defined (names_of front)) row.line.label false) _ none.again).0),
          );
      constant = λ name terms is.
          let named = constant_there (names_of front) (names_of back) (location_following front) row.line name terms is none.unknown none.again in (
            named.0,
            named.1,
            ap (λ (ns : Names). meaning ns name) (flat_map-append (λ (r : LocatedLine). r.names) front (row ∷ back))
                ∙ ap (λ (ns : Names). meaning (names_of front ++ (ns ++ names_of back)) name) there.clean.is_located_line.names ∙ named.2,
          );
      bytes = counted_at front row back there fits row.location refl;
    }

pub lines_stand_where_counted : LinesStandWhereCounted
lines_stand_where_counted source image gives front row back split =
    let texts : List (List ℕ) = text_lines source in
    let are : AreLocatedLines [] texts (front ++ row ∷ back) = subst (AreLocatedLines [] texts) split gives.are_located_lines in
    let fits : Fits (names_of gives.located_lines) row =
    fits_there (names_of gives.located_lines) front row back (subst (AllByRecursion (Fits (names_of gives.located_lines))) split gives.placed.fit) in
    let clean : AreClean front = λ b r a is.
    clean_there [] texts b r (a ++ row ∷ back)
    (subst (AreLocatedLines [] texts)
    (split ∙ ap (λ (rs : List LocatedLine). rs ++ row ∷ back) is ∙ append_assoc b (r ∷ a) (row ∷ back)) gives.are_located_lines) in
    subst (λ (rows : List LocatedLine). StandsWhereCounted (names_of rows) front row) (sym split)
    (stands_so texts front row back are (subst (λ (rows : List LocatedLine). Fits (names_of rows) row) split fits) clean)
