-- What a line without a fault keeps to, and its row.
use Rattle.std.proofs.Common.{◌≡◌, ℕ, ◌+◌, ◌^◌, ◌≤◌, refl, sym, ap, ◌∙◌, subst, arith, Bool, true, false, ◌||◌}
use Rattle.std.proofs.Common.{if◌then◌else◌, List, ◌++◌, Option, None, Some, Ok, IfSome, append_assoc, inr, length}
use Rattle.isa.specs.Encoding.{IsForm}
use Rattle.isa.specs.declared.form.Form.{Form}
use Rattle.assembler_syntax.specs.declared.statement.Line.{Line}
use Rattle.assembler_syntax.specs.declared.statement.Statement.{Statement}
use Rattle.assembler_syntax.specs.declared.statement.Statement.TheVariants.{Empty, Segment, Ends, Equ, Org, Data, Instruction}
use Rattle.assembler_syntax.specs.Lines.{read_line}
use Rattle.assembler.specs.declared.fault.SourceFault.{SourceFault}
use Rattle.assembler.specs.declared.fault.SourceFault.TheVariants.{BadLine, UnknownName, BadForm, TwiceDefined, NoSegment}
use Rattle.assembler.specs.declared.kept_line.KeptLine.{KeptLine}
use Rattle.assembler.specs.declared.kept_line.Content.{Content}
use Rattle.assembler.specs.declared.early.Before.{Before}
use Rattle.assembler_meaning.specs.declared.symbol.Location.{Location}
use Rattle.assembler_meaning.specs.Values.{Names, AreSmall, term_limit}
use Rattle.assembler.specs.LocatedLines.{IsFormOf, IsLocatedLine, defines_again, early_fault, has_unknown_constant, has_wrong_constant}
use Rattle.assembler.specs.LocatedLines.{label_definition, lacks_form, opens_within, size_of, stands_outside, statement_definition}
use Rattle.assembler.specs.Placement.{content_of}
use Rattle.assembler.specs.FirstFault.{IsTextFault}
use Rattle.assembler_meaning.specs.declared.symbol.Symbol.{Symbol}
use Rattle.assembler_lexeme.specs.declared.name.Name.{Name}
use Rattle.assembler.specs.Gives.{source_limit}
use Rattle.assembler.proofs.ReadingWeights.{within_more}
use Rattle.assembler.specs.FirstPass.{AddsLine, KeepsLine, definition_names, offset_of, located_of, size_limit}
use Rattle.assembler.specs.KeptLines.{EndsBy, IsContent, IsSteady, content_in}
use Rattle.assembler_syntax.specs.Weights.{IsWithin, are_terms_within, statement_weight}
use Rattle.assembler.proofs.ReadingNames.{or_false, small_append, small_label, small_statement}

-- each test of the chain that finds no fault was false
record AllFalse (a b c d e : Bool) : Type 0 where
  first : a ≡ false
  second : b ≡ false
  third : c ≡ false
  fourth : d ≡ false
  fifth : e ≡ false

chain_none : (a b c d e : Bool)
    → (if a then Some BadLine
    else (if b then Some UnknownName else (if c then Some BadForm else (if d then Some TwiceDefined else (if e then Some NoSegment else None)))))
    ≡ None
    → AllFalse a b c d e
chain_none true b c d e none = cc
chain_none false true c d e none = cc
chain_none false false true d e none = cc
chain_none false false false true e none = cc
chain_none false false false false true none = cc
chain_none false false false false false none = record { first = refl; second = refl; third = refl; fourth = refl; fifth = refl }

pub record IsClean (names : Names) (line : Line) : Type 0 where
  pub constants : has_wrong_constant names line.statement ≡ false
  pub undefined : defines_again names line ≡ false

pub is_clean : (names : Names) (location : Option Location) (line : Line) (form : Option Form)
    → early_fault names location line form ≡ None → IsClean names line
unfolding early_fault
is_clean names location line form none =
    let all = chain_none (opens_within location line.statement || has_wrong_constant names line.statement)
    (has_unknown_constant names line.statement) (lacks_form line.statement form) (defines_again names line) (stands_outside location line) none in
    record { constants = (or_false (opens_within location line.statement) (has_wrong_constant names line.statement) all.first).1; undefined = all.fourth }

-- the row of a line
pub is_located_line : (names : Names) (location : Option Location) (text : List ℕ) (line : Line) (form : Option Form)
    → read_line text ≡ Ok line → IsFormOf names line.statement form → IsLocatedLine names location text (located_of names location line form)
is_located_line names location text line form reads chosen = record { reads = reads; form = chosen; size = refl; location = refl; next = refl; names = refl }

pub located_fault : (names : Names) (location : Option Location) (text : List ℕ) (line : Line) (form : Option Form) (fault : SourceFault)
    → read_line text ≡ Ok line → IsFormOf names line.statement form → early_fault names location line form ≡ Some fault → IsTextFault names location text fault
located_fault names location text line form fault reads chosen found =
    inr (located_of names location line form, is_located_line names location text line form reads chosen, found)

ends_by : (limit : ℕ) (location : Option Location) (size : ℕ) → offset_of location + size ≤ limit → EndsBy limit location size
ends_by limit None size near = tt
ends_by limit (Some location) size near = near

is_content : (statement : Statement) (form : Option Form) → are_terms_within term_limit statement ≡ true → IfSome form IsForm
    → IsContent (content_of statement form)
is_content Empty form short shape = tt
is_content (Segment name n) form short shape = tt
is_content Ends form short shape = tt
is_content (Equ name n) form short shape = tt
is_content (Org n) form short shape = tt
is_content (Data width items) form short shape = short
is_content (Instruction i) None short shape = tt
is_content (Instruction i) (Some f) short shape = (short, shape)

lighter : (size weight n : ℕ) → size ≤ size_limit weight → weight ≤ n → size ≤ size_limit n
lighter size weight n bound light = omega arith

steady : (kept : KeptLine) (location : Option Location) (size : ℕ) (statement : Statement) (form : Option Form)
    → kept.location ≡ location → kept.size ≡ size → content_in kept ≡ content_of statement form
    → offset_of location + size ≤ 2 ^ 40 → are_terms_within term_limit statement ≡ true → IfSome form IsForm → IsSteady kept
steady kept location size statement form is sized holds near short shape = record {
  ends = subst (λ (o : Option Location). EndsBy (2 ^ 40) o kept.size) (sym is) (ends_by (2 ^ 40) location kept.size (rw sized near));
  content = subst (λ (o : Option Content). IsContent o) (sym holds) (is_content statement form short shape);
}

nearer : (a size n : ℕ) → size ≤ size_limit n → a + size_limit n ≤ 2 ^ 40 → a + size ≤ 2 ^ 40
nearer a size n bound room = omega arith

near : (a n : ℕ) → a + size_limit n ≤ 2 ^ 40 → a ≤ 2 ^ 40
near a n room = omega arith

longer : (a b size n : ℕ) → size ≤ size_limit n → b ≤ a + size + 65535 → b ≤ a + size_limit n + 65535
longer a b size n bound grows = omega arith

-- what the state and the kept row are after a line without a fault
pub adds_line : (old new : Before) (start length : ℕ) (line : Line) (form : Option Form) (kept : KeptLine)
    → AreSmall old.symbols.entries → offset_of old.location + size_limit length ≤ 2 ^ 40 → are_terms_within term_limit line.statement ≡ true
    → statement_weight line.statement ≤ length
    → IfSome form IsForm → IsClean old.symbols.entries line
    → size_of old.symbols.entries line.statement form ≤ size_limit (statement_weight line.statement)
    → offset_of new.location ≤ offset_of old.location + size_of old.symbols.entries line.statement form + 65535
    → new.location ≡ (located_of old.symbols.entries old.location line form).next
    → new.symbols.entries ≡ (old.symbols.entries ++ label_definition old.location line.label) ++ statement_definition old.symbols.entries line.statement
    → KeepsLine start length kept (located_of old.symbols.entries old.location line form)
    → AddsLine old new start length (located_of old.symbols.entries old.location line form) kept
adds_line old new start length line form kept small room short light shape clean bound grows next names keeps =
    let size = lighter (size_of old.symbols.entries line.statement form) (statement_weight line.statement) length bound light in
    record {
      location = next;
      names = names ∙ append_assoc old.symbols.entries (label_definition old.location line.label) (statement_definition old.symbols.entries line.statement);
      keeps = keeps;
      steady = steady kept old.location (size_of old.symbols.entries line.statement form) line.statement form keeps.location keeps.size keeps.content
          (nearer (offset_of old.location) (size_of old.symbols.entries line.statement form) length size room) short shape;
      small = subst (λ (n : Names). AreSmall n) (sym names)
          (small_append (old.symbols.entries ++ label_definition old.location line.label) (statement_definition old.symbols.entries line.statement)
          (small_append old.symbols.entries (label_definition old.location line.label) small
          (small_label old.location line.label (near (offset_of old.location) length room)))
          (small_statement old.symbols.entries line.statement clean.constants));
      grows = longer (offset_of old.location) (offset_of new.location) (size_of old.symbols.entries line.statement form) length size grows;
    }

pub is_short : (start n : ℕ) (statement : Statement) → start + n ≤ source_limit → IsWithin n statement → are_terms_within term_limit statement ≡ true
is_short start n statement place within = let le : n ≤ term_limit = omega arith in within_more n term_limit le statement within.terms

pub is_light : (start n : ℕ) (statement : Statement) → start + n ≤ source_limit → IsWithin n statement → statement_weight statement ≤ term_limit
is_light start n statement place within = omega (arith, within.pieces)

pub added_names : (old mid new : Names) (l d : Option (Name × Symbol)) (ls ds : Names)
    → definition_names l ≡ ls → definition_names d ≡ ds → mid ≡ old ++ definition_names l → new ≡ mid ++ definition_names d → new ≡ (old ++ ls) ++ ds
added_names old mid new l d ls ds label constant first second =
    second ∙ ap (λ (m : Names). m ++ definition_names d) (first ∙ ap (λ (n : Names). old ++ n) label) ∙ ap (λ (n : Names). (old ++ ls) ++ n) constant
