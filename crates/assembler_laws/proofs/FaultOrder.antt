-- The fault that is answered for a line is the one with the least number, and each fault belongs to one pass.
use Rattle.std.proofs.Common.{◌≡◌, ◌∙◌, ℕ, ◌<◌, ◌≤◌, ◌&&◌, ◌||◌, not, nat_lt, List, refl, ap, subst, arith}
use Rattle.std.proofs.Common.{inl, inr, Bool, true, false, Option, None, Some, is_some, if◌then◌else◌}
use Rattle.std.specs.Prelude.{◌⊎◌, ◌↔◌}
use Rattle.std.specs.List.{list_all, list_any}
use Rattle.std.proofs.lemmas.Bool.{and_parts}
use Rattle.std.proofs.lemmas.Bool.Decides.{nat_tests}
use Rattle.isa.specs.declared.form.Form.{Form}
use Rattle.assembler_lexeme.specs.declared.fault.SyntaxFault.{SyntaxFault}
use Rattle.assembler_lexeme.specs.declared.fault.SyntaxFault.TheVariants as line_faults
use Rattle.assembler_syntax.specs.declared.statement.Line.{Line}
use Rattle.assembler_meaning.specs.declared.symbol.Location.{Location}
use Rattle.assembler_meaning.specs.Values.{Names}
use Rattle.assembler.specs.declared.fault.SourceFault.{SourceFault}
use Rattle.assembler.specs.declared.fault.SourceFault.TheVariants.{BadLine, UnknownName, BadForm, TwiceDefined, Undefined}
use Rattle.assembler.specs.declared.fault.SourceFault.TheVariants.{OutOfRange, OutOfSegment, Overlap, NoSegment, NotLoadable}
use Rattle.assembler.specs.declared.kept_line.Content.{Content}
use Rattle.assembler.specs.FirstFault.{HasLateFault, IsTextFault, fault_of_line, source_fault_number}
use Rattle.assembler.specs.Placement.{addresses_from, content_of, fault_at, has_wrong_number, is_loadable}
use Rattle.assembler.specs.Placement.{is_past_end, is_placed, lacks_name, late_fault, placed_by_all}
use Rattle.assembler.specs.LocatedLines.{LocatedLine, defines_again, early_fault, has_unknown_constant, has_wrong_constant}
use Rattle.assembler.specs.LocatedLines.{lacks_form, names_of, opens_within, location_following, stands_outside}
use Rattle.assembler_laws.specs.FirstFaults.{FaultsComeInPasses, HasEarly, HasLate, IsLeast, LeastNumbersComeFirst, is_early}
use Rattle.assembler_laws.proofs.Uniqueness.{never_both}

no : {X : Type 0} → false ≡ true → X
no is = absurd (let never : false ≡ true = is in cc)

some_is : (a b : SourceFault) → Some a ≡ Some b → a ≡ b
some_is a b is = cc

-- ---- tests in their order, each with the fault that it finds
data Tests : Type 0 where
  none : Tests
  test : Bool → SourceFault → Tests → Tests

abbrev found_by : Tests → Option SourceFault
found_by none = None
found_by (test fails fault more) = if fails then Some fault else found_by more

abbrev Finds : Tests → SourceFault → Type 0
Finds none other = ⊥
Finds (test fails fault more) other = ((fails ≡ true) × (fault ≡ other)) ⊎ Finds more other

-- the faults' numbers rise, from above one on
abbrev rises : ℕ → Tests → Bool
rises n none = true
rises n (test fails fault more) = nat_lt n (source_fault_number fault) && rises (source_fault_number fault) more

below : (m n : ℕ) → nat_lt m n ≡ true → m < n
below m n is = grind (arith, nat_tests)

above_by : (n : ℕ) (fails : Bool) (fault : SourceFault) (more : Tests) (other : SourceFault) → n < source_fault_number fault
    → (Finds more other → source_fault_number fault < source_fault_number other) → Finds (test fails fault more) other → n < source_fault_number other
above_by n fails fault more other first rest (inl is) = subst (λ (f : SourceFault). n < source_fault_number f) is.1 first
above_by n fails fault more other first rest (inr later) = let next = rest later in omega (arith, first, next)

above : (n : ℕ) (tests : Tests) (other : SourceFault) → rises n tests ≡ true → Finds tests other → n < source_fault_number other
above n none other up found = absurd found
above n (test fails fault more) other up found =
    let parts = and_parts (nat_lt n (source_fault_number fault)) (rises (source_fault_number fault) more) up in
    above_by n fails fault more other (below n (source_fault_number fault) parts.0) (above (source_fault_number fault) more other parts.1) found

following : (n : ℕ) (fault : SourceFault) (more : Tests) → rises n (test false fault more) ≡ true → rises (source_fault_number fault) more ≡ true
following n fault more up = (and_parts (nat_lt n (source_fault_number fault)) (rises (source_fault_number fault) more) up).1

found_is_least : (n : ℕ) (tests : Tests) (fault : SourceFault) → rises n tests ≡ true → found_by tests ≡ Some fault → IsLeast (Finds tests) fault
found_is_least n none fault up is = absurd (let never : None ≡ Some fault = is in cc)
found_is_least n (test true first more) fault up is =
    subst (IsLeast (Finds (test true first more))) (some_is first fault is) (record { has = inl (refl, refl); least = least })
  where
    least : (other : SourceFault) → Finds (test true first more) other → source_fault_number first ≤ source_fault_number other
    least other (inl same) = let number = ap source_fault_number same.1 in omega (arith, number)
    least other (inr later) = let over = above (source_fault_number first) more other (following n first more up) later in omega (arith, over)
found_is_least n (test false first more) fault up is =
    let least = found_is_least (source_fault_number first) more fault (following n first more up) is in
    record { has = inr least.has; least = over least.least }
  where
    over : ((other : SourceFault) → Finds more other → source_fault_number fault ≤ source_fault_number other)
        → (other : SourceFault) → Finds (test false first more) other → source_fault_number fault ≤ source_fault_number other
    over each other (inl same) = no same.0
    over each other (inr later) = each other later

least_is_found : (n : ℕ) (tests : Tests) (fault : SourceFault) → rises n tests ≡ true → IsLeast (Finds tests) fault → found_by tests ≡ Some fault
least_is_found n none fault up is = absurd is.has
least_is_found n (test true first more) fault up is = by is.has
  where
    by : Finds (test true first more) fault → Some first ≡ Some fault
    by (inl same) = ap Some same.1
    by (inr later) =
        let over = above (source_fault_number first) more fault (following n first more up) later in
        let least = is.least first (inl (refl, refl)) in
        absurd (omega (arith, over, least))
least_is_found n (test false first more) fault up is =
    least_is_found (source_fault_number first) more fault (following n first more up)
    (record { has = by is.has; least = λ other later. is.least other (inr later) })
  where
    by : Finds (test false first more) fault → Finds more fault
    by (inl same) = no same.0
    by (inr later) = later

-- what each of the tests' faults has
abbrev Each : (SourceFault → Type 0) → Tests → Type 0
Each P none = Unit {0}
Each P (test fails fault more) = (fails ≡ true → P fault) × Each P more

each_has : (P : SourceFault → Type 0) (tests : Tests) (fault : SourceFault) → Each P tests → Finds tests fault → P fault
each_has P none fault each found = absurd found
each_has P (test fails first more) fault each (inl is) = subst P is.1 (each.0 is.0)
each_has P (test fails first more) fault each (inr later) = each_has P more fault each.1 later

found_least : (P : SourceFault → Type 0) (tests : Tests) (fault : SourceFault)
    → rises 0 tests ≡ true → Each P tests → ((other : SourceFault) → P other → Finds tests other) → (found_by tests ≡ Some fault) ↔ IsLeast P fault
found_least P tests fault up each finds = (
  (λ is.
      let least = found_is_least 0 tests fault up is in
      record { has = each_has P tests fault each least.has; least = λ other has. least.least other (finds other has) }),
  (λ is. least_is_found 0 tests fault up (record { has = finds fault is.has; least = λ other found. is.least other (each_has P tests other each found) })),
)

-- ---- the tests of the first pass
abbrev early_tests : Names → Option Location → Line → Option Form → Tests
early_tests known location line form =
    test (opens_within location line.statement || has_wrong_constant known line.statement) BadLine (test (has_unknown_constant known line.statement) UnknownName
    (test (lacks_form line.statement form) BadForm (test (defines_again known line) TwiceDefined (test (stands_outside location line) NoSegment none))))

early_finds : (known : Names) (location : Option Location) (line : Line) (form : Option Form) (fault : SourceFault)
    → HasEarly known location line form fault → Finds (early_tests known location line form) fault
early_finds known location line form BadLine is = inl (is, refl)
early_finds known location line form UnknownName is = inr (inl (is, refl))
early_finds known location line form BadForm is = inr (inr (inl (is, refl)))
early_finds known location line form TwiceDefined is = inr (inr (inr (inl (is, refl))))
early_finds known location line form NoSegment is = inr (inr (inr (inr (inl (is, refl)))))
early_finds known location line form fault is = absurd is

early_least : (known : Names) (location : Option Location) (line : Line) (form : Option Form) (fault : SourceFault)
    → (early_fault known location line form ≡ Some fault) ↔ IsLeast (HasEarly known location line form) fault
unfolding early_fault
early_least known location line form fault =
    found_least (HasEarly known location line form) (early_tests known location line form) fault refl
    ((λ is. is), ((λ is. is), ((λ is. is), ((λ is. is), ((λ is. is), tt))))) (early_finds known location line form)

-- ---- the tests of the second pass
not_true : (b : Bool) → not b ≡ true → b ≡ false
not_true true is = no is
not_true false is = refl

abbrev late_by : Bool → Bool → Bool → Bool → Bool → Tests
late_by a b c d e = test a Undefined (test b OutOfRange (test c OutOfSegment (test d Overlap (test (not e) NotLoadable none))))

late_same : (a b c d e : Bool) → found_by (late_by a b c d e)
    ≡ (if a then Some Undefined
    else (if b then Some OutOfRange else (if c then Some OutOfSegment else (if d then Some Overlap else (if e then None else Some NotLoadable)))))
late_same a b c d true = refl
late_same a b c d false = refl

abbrev late_tests : Names → (ℕ → Bool) → Bool → Location → ℕ → Option Content → Tests
late_tests names is_taken has_label location size content =
    late_by (lacks_name names location content) (has_wrong_number names location size content) (is_past_end location size has_label)
    (list_any is_taken (addresses_from location 0 size)) (list_all is_loadable (addresses_from location 0 size))

late_finds : (names : Names) (is_taken : ℕ → Bool) (has_label : Bool) (location : Location) (size : ℕ) (content : Option Content) (fault : SourceFault)
    → HasLate names is_taken has_label location size content fault → Finds (late_tests names is_taken has_label location size content) fault
late_finds names is_taken has_label location size content Undefined is = inl (is, refl)
late_finds names is_taken has_label location size content OutOfRange is = inr (inl (is, refl))
late_finds names is_taken has_label location size content OutOfSegment is = inr (inr (inl (is, refl)))
late_finds names is_taken has_label location size content Overlap is = inr (inr (inr (inl (is, refl))))
late_finds names is_taken has_label location size content NotLoadable is = inr (inr (inr (inr (inl (ap not is, refl)))))
late_finds names is_taken has_label location size content fault is = absurd is

late_least : (names : Names) (is_taken : ℕ → Bool) (has_label : Bool) (location : Location) (size : ℕ) (content : Option Content) (fault : SourceFault)
    → (fault_at names is_taken has_label location size content ≡ Some fault) ↔ IsLeast (HasLate names is_taken has_label location size content) fault
late_least names is_taken has_label location size content fault =
    subst (λ (o : Option SourceFault). (o ≡ Some fault) ↔ IsLeast (HasLate names is_taken has_label location size content) fault) (late_same _ _ _ _ _)
    (found_least (HasLate names is_taken has_label location size content) (late_tests names is_taken has_label location size content) fault refl
    ((λ is. is), ((λ is. is), ((λ is. is), ((λ is. is), (not_true _, tt))))) (late_finds names is_taken has_label location size content))

pub least_numbers_come_first : LeastNumbersComeFirst
least_numbers_come_first = record { early = early_least; late = late_least }

-- ---- the two passes
of_reading : (found : SyntaxFault) → is_early (fault_of_line found) ≡ true
of_reading line_faults.BadCharacter = refl
of_reading line_faults.BadLine = refl
of_reading line_faults.UnknownName = refl

text_is_early : (names : Names) (location : Option Location) (text : List ℕ) (fault : SourceFault)
    → IsTextFault names location text fault → is_early fault ≡ true
text_is_early names location text fault (inl read) = ap is_early read.2 ∙ of_reading read.0
text_is_early names location text fault (inr found) =
    let row : LocatedLine = found.0 in
    each_has (λ f. is_early f ≡ true) (early_tests names row.location row.line row.form) fault
    ((λ is. refl), ((λ is. refl), ((λ is. refl), ((λ is. refl), ((λ is. refl), tt)))))
    (early_finds names row.location row.line row.form fault ((early_least names row.location row.line row.form fault).0 found.2).has)

late_is_late : (names : Names) (is_taken : ℕ → Bool) (has_label : Bool) (here : Option Location) (size : ℕ) (content : Option Content) (fault : SourceFault)
    → late_fault names is_taken has_label here size content ≡ Some fault → is_early fault ≡ false
unfolding late_fault
late_is_late names is_taken has_label None size content fault is = absurd (let never : None ≡ Some fault = is in cc)
late_is_late names is_taken has_label (Some location) size content fault is =
    each_has (λ f. is_early f ≡ false) (late_tests names is_taken has_label location size content) fault
    ((λ is. refl), ((λ is. refl), ((λ is. refl), ((λ is. refl), ((λ is. refl), tt)))))
    (late_finds names is_taken has_label location size content fault ((late_least names is_taken has_label location size content fault).0 is).has)

row_is_late : (rows : List LocatedLine) (fault : SourceFault) (number : ℕ) → HasLateFault rows fault number → is_early fault ≡ false
row_is_late rows fault number late =
    late_is_late (names_of rows) (is_placed (placed_by_all (names_of rows) late.front))
    (is_some late.located.line.label) late.located.location late.located.size (content_of late.located.line.statement late.located.form) fault late.found

pub faults_come_in_passes : FaultsComeInPasses
faults_come_in_passes source = record {
  early = λ fault number is. text_is_early (names_of is.located_lines) (location_following is.located_lines) is.text fault is.found;
  late = λ fault number is. row_is_late is.located_lines fault number is.found;
  never_both = never_both source;
}
