-- Renamed statements have the same forms, sizes, places and faults, and define the renamed names.
use Rattle.std.proofs.Common.{◌≡◌, ◌∙◌, ℕ, false, ◌||◌, if◌then◌else◌, List, Option, None, Some, option_and_then, refl, sym, ap, subst}
use Rattle.std.specs.Prelude.{ℤ, pos, negsuc, is_some, is_none}
use Rattle.std.specs.Option.{option_map, option_map_or}
use Rattle.isa.specs.declared.form.Form.{Form}
use Rattle.assembler_lexeme.specs.declared.name.Name.{Name}
use Rattle.assembler_syntax.specs.declared.expression.Term.{Term}
use Rattle.assembler_syntax.specs.declared.statement.Line.{Line}
use Rattle.assembler_syntax.specs.declared.statement.Statement.{Statement}
use Rattle.assembler_syntax.specs.declared.statement.Statement.TheVariants.{Empty, Segment, Ends, Equ, Org, Data, Instruction}
use Rattle.assembler_form.specs.declared.asked.Asked.{Asked}
use Rattle.assembler_meaning.specs.declared.symbol.Location.{Location}
use Rattle.assembler_meaning.specs.Values.{Names, constant_of, is_defined}
use Rattle.assembler_meaning.specs.Instructions.{IsFormFor}
use Rattle.assembler_meaning.specs.Data.{is_other, is_wrong_count, is_unknown}
use Rattle.assembler.specs.declared.fault.SourceFault.TheVariants.{BadLine, UnknownName, BadForm, TwiceDefined, NoSegment}
use Rattle.assembler.specs.LocatedLines.{IsFormOf, size_of, opened_at, set_to, location_after, label_definition, constant_definition}
use Rattle.assembler.specs.LocatedLines.{statement_definition, has_wrong_constant, has_unknown_constant, opens_within, lacks_form}
use Rattle.assembler.specs.LocatedLines.{statement_name, is_same, defines_again, wants_segment, stands_outside, early_fault}
use Rattle.assembler_laws.specs.Sameness.{IsOneToOne, renamed_terms, renamed_statement, renamed_line}
use Rattle.assembler_laws.proofs.SamenessNames.{renamed_names, same_constant, same_defined}
use Rattle.assembler_laws.proofs.SamenessInstructions.{same_asked, same_instruction_size}
use Rattle.assembler_laws.proofs.SamenessData.{any_count, same_data_size}

module _ (rename : Name → Name) (once : IsOneToOne rename) where
  pub same_form : (names : Names) (statement : Statement) (form : Option Form)
      → IsFormOf names statement form → IsFormOf (renamed_names rename names) (renamed_statement rename statement) form
  same_form names Empty form is = is
  same_form names (Segment name n) form is = is
  same_form names Ends form is = is
  same_form names (Equ name n) form is = is
  same_form names (Org n) form is = is
  same_form names (Data width items) form is = is
  same_form names (Instruction i) form is = subst (λ (a : Option Asked). IsFormFor a form) (sym (same_asked rename once names i)) is

  pub same_size : (names : Names) (statement : Statement) (form : Option Form)
      → size_of (renamed_names rename names) (renamed_statement rename statement) form ≡ size_of names statement form
  same_size names Empty form = refl
  same_size names (Segment name n) form = refl
  same_size names Ends form = refl
  same_size names (Equ name n) form = refl
  same_size names (Org n) form = refl
  same_size names (Data width items) form = same_data_size rename once names width items
  same_size names (Instruction i) None = refl
  same_size names (Instruction i) (Some f) = same_instruction_size rename once f i

  pub same_next : (names : Names) (here : Option Location) (statement : Statement) (size : ℕ)
      → location_after (renamed_names rename names) here (renamed_statement rename statement) size ≡ location_after names here statement size
  same_next names here Empty size = refl
  same_next names here (Segment name n) size = ap (option_map opened_at) (same_constant rename once names n)
  same_next names here Ends size = refl
  same_next names here (Equ name n) size = refl
  same_next names here (Org n) size = ap (option_and_then (λ (v : ℤ). option_map (set_to v) here)) (same_constant rename once names n)
  same_next names here (Data width items) size = refl
  same_next names here (Instruction i) size = refl

  pub label_renamed : (here : Option Location) (label : Option Name)
      → label_definition here (option_map rename label) ≡ renamed_names rename (label_definition here label)
  label_renamed None None = refl
  label_renamed None (Some name) = refl
  label_renamed (Some location) None = refl
  label_renamed (Some location) (Some name) = refl

  constant_renamed : (name : Name) (n : Option ℤ) → constant_definition (rename name) n ≡ renamed_names rename (constant_definition name n)
  constant_renamed name None = refl
  constant_renamed name (Some n) = refl

  pub statement_renamed : (names : Names) (statement : Statement)
      → statement_definition (renamed_names rename names) (renamed_statement rename statement) ≡ renamed_names rename (statement_definition names statement)
  statement_renamed names Empty = refl
  statement_renamed names (Segment name n) =
      ap (constant_definition (rename name)) (same_constant rename once names n) ∙ constant_renamed name (constant_of names n)
  statement_renamed names Ends = refl
  statement_renamed names (Equ name n) =
      ap (constant_definition (rename name)) (same_constant rename once names n) ∙ constant_renamed name (constant_of names n)
  statement_renamed names (Org n) = refl
  statement_renamed names (Data width items) = refl
  statement_renamed names (Instruction i) = refl

  same_wrong_constant : (names : Names) (statement : Statement)
      → has_wrong_constant (renamed_names rename names) (renamed_statement rename statement) ≡ has_wrong_constant names statement
  same_wrong_constant names Empty = refl
  same_wrong_constant names (Segment name n) = ap (is_other (pos 0) (pos 65535)) (same_constant rename once names n)
  same_wrong_constant names Ends = refl
  same_wrong_constant names (Equ name n) = ap (is_other (negsuc 2147483647) (pos 4294967295)) (same_constant rename once names n)
  same_wrong_constant names (Org n) = ap (is_other (pos 0) (pos 65535)) (same_constant rename once names n)
  same_wrong_constant names (Data width items) =
      any_count rename once (is_wrong_count (renamed_names rename names)) (is_wrong_count names)
      (λ terms. ap (is_other (pos 1) (pos 65535)) (same_constant rename once names terms)) items
  same_wrong_constant names (Instruction i) = refl

  same_unknown : (names : Names) (terms : List Term) → is_unknown (renamed_names rename names) (renamed_terms rename terms) ≡ is_unknown names terms
  same_unknown names terms = λ i. is_none (same_constant rename once names terms i)

  same_unknown_constant : (names : Names) (statement : Statement)
      → has_unknown_constant (renamed_names rename names) (renamed_statement rename statement) ≡ has_unknown_constant names statement
  same_unknown_constant names Empty = refl
  same_unknown_constant names (Segment name n) = same_unknown names n
  same_unknown_constant names Ends = refl
  same_unknown_constant names (Equ name n) = same_unknown names n
  same_unknown_constant names (Org n) = same_unknown names n
  same_unknown_constant names (Data width items) =
      any_count rename once (is_unknown (renamed_names rename names)) (is_unknown names) (same_unknown names) items
  same_unknown_constant names (Instruction i) = refl

  same_opening : (here : Option Location) (statement : Statement) → opens_within here (renamed_statement rename statement) ≡ opens_within here statement
  same_opening None Empty = refl
  same_opening None (Segment name n) = refl
  same_opening None Ends = refl
  same_opening None (Equ name n) = refl
  same_opening None (Org n) = refl
  same_opening None (Data width items) = refl
  same_opening None (Instruction i) = refl
  same_opening (Some location) Empty = refl
  same_opening (Some location) (Segment name n) = refl
  same_opening (Some location) Ends = refl
  same_opening (Some location) (Equ name n) = refl
  same_opening (Some location) (Org n) = refl
  same_opening (Some location) (Data width items) = refl
  same_opening (Some location) (Instruction i) = refl

  same_lack : (statement : Statement) (form : Option Form) → lacks_form (renamed_statement rename statement) form ≡ lacks_form statement form
  same_lack Empty form = refl
  same_lack (Segment name n) form = refl
  same_lack Ends form = refl
  same_lack (Equ name n) form = refl
  same_lack (Org n) form = refl
  same_lack (Data width items) form = refl
  same_lack (Instruction i) None = refl
  same_lack (Instruction i) (Some f) = refl

  same_statement_name : (statement : Statement) → statement_name (renamed_statement rename statement) ≡ option_map rename (statement_name statement)
  same_statement_name Empty = refl
  same_statement_name (Segment name n) = refl
  same_statement_name Ends = refl
  same_statement_name (Equ name n) = refl
  same_statement_name (Org n) = refl
  same_statement_name (Data width items) = refl
  same_statement_name (Instruction i) = refl

  same_known : (names : Names) (name : Option Name)
      → option_map_or (is_defined (renamed_names rename names)) (option_map rename name) false ≡ option_map_or (is_defined names) name false
  same_known names None = refl
  same_known names (Some name) = same_defined rename once names name

  same_two : (a b : Option Name) → is_same (option_map rename a) (option_map rename b) ≡ is_same a b
  same_two None None = refl
  same_two None (Some b) = refl
  same_two (Some a) None = refl
  same_two (Some a) (Some b) = once a b

  same_again : (names : Names) (line : Line) → defines_again (renamed_names rename names) (renamed_line rename line) ≡ defines_again names line
  same_again names line =
      let known : option_map_or (is_defined (renamed_names rename names)) (statement_name (renamed_statement rename line.statement)) false
      ≡ option_map_or (is_defined names) (statement_name line.statement) false =
      ap (λ (n : Option Name). option_map_or (is_defined (renamed_names rename names)) n false) (same_statement_name line.statement)
      ∙ same_known names (statement_name line.statement) in
      let two : is_same (option_map rename line.label) (statement_name (renamed_statement rename line.statement))
      ≡ is_same line.label (statement_name line.statement) =
      ap (is_same (option_map rename line.label)) (same_statement_name line.statement) ∙ same_two line.label (statement_name line.statement) in
      λ i. same_known names line.label i || (known i || two i)

  same_want : (statement : Statement) → wants_segment (renamed_statement rename statement) ≡ wants_segment statement
  same_want Empty = refl
  same_want (Segment name n) = refl
  same_want Ends = refl
  same_want (Equ name n) = refl
  same_want (Org n) = refl
  same_want (Data width items) = refl
  same_want (Instruction i) = refl

  pub same_labelling : (label : Option Name) → is_some (option_map rename label) ≡ is_some label
  same_labelling None = refl
  same_labelling (Some name) = refl

  same_outside : (here : Option Location) (line : Line) → stands_outside here (renamed_line rename line) ≡ stands_outside here line
  same_outside None line = λ i. same_labelling line.label i || same_want line.statement i
  same_outside (Some location) line = refl

  pub same_early : (names : Names) (here : Option Location) (line : Line) (form : Option Form)
      → early_fault (renamed_names rename names) here (renamed_line rename line) form ≡ early_fault names here line form
  unfolding early_fault
  same_early names here line form =
      λ i. if same_opening here line.statement i || same_wrong_constant names line.statement i then Some BadLine else (
      if same_unknown_constant names line.statement i then Some UnknownName else (
      if same_lack line.statement form i then Some BadForm else (
      if same_again names line i then Some TwiceDefined else (
      if same_outside here line i then Some NoSegment else None))))
