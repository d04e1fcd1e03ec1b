-- The lines of a source make one list of rows.
use Rattle.std.proofs.Common.{◌≡◌, ℕ, List, [], ◌∷◌, ◌++◌, refl, sym, ap, ap₂, ◌∙◌, subst, Option, None, Some, Result, Ok, Contains, append_assoc, append-nil}
use Rattle.std.specs.Prelude.{slice_get}
use Rattle.std.proofs.lemmas.Option.{get_or_from_slice_get, slice_get_within}
use Rattle.isa.specs.declared.form.Form.{Form}
use Rattle.isa.specs.declared.row.Row.{Row as TableRow}
use Rattle.isa.specs.Table.{rows as table_rows}
use Rattle.assembler_lexeme.specs.declared.fault.SyntaxFault.{SyntaxFault}
use Rattle.assembler_syntax.specs.declared.statement.Line.{Line}
use Rattle.assembler_syntax.specs.declared.statement.Statement.{Statement}
use Rattle.assembler_syntax.specs.declared.statement.Statement.TheVariants.{Empty, Segment, Ends, Equ, Org, Data, Instruction}
use Rattle.assembler_form.specs.declared.asked.Asked.{Asked}
use Rattle.assembler_form.specs.Choice.{IsChosen, NoneTakes}
use Rattle.assembler_form.proofs.First.{one_form}
use Rattle.assembler_meaning.specs.declared.symbol.Location.{Location}
use Rattle.assembler_meaning.specs.Values.{Names}
use Rattle.assembler_meaning.specs.Instructions.{instruction_asked, IsChosenFor, IsFormFor}
use Rattle.assembler.specs.LocatedLines.{LocatedLine, IsLocatedLine, IsCleanLine, AreLocatedLines, IsFormOf, names_of}
use Rattle.assembler.specs.LocatedLines.{location_following, size_of, location_after, label_definition, statement_definition}

-- a row of the encoding table that was chosen takes what is asked
found_there : (rs : List TableRow) (place : ℕ) (r : TableRow) → slice_get rs place ≡ Some r → Contains rs r
found_there rs place r stands = (place, slice_get_within rs place r stands, get_or_from_slice_get rs place r r stands)

not_none : (a : Asked) (f : Form) → IsChosen a f → NoneTakes table_rows a → ⊥
not_none a f is none = none f.row (found_there table_rows is.first.place f.row is.first.stands) is.first.takes

one_choice : (a : Asked) (f g : Option Form) → IsChosenFor a f → IsChosenFor a g → f ≡ g
one_choice a None None is also = refl
one_choice a None (Some g) is also = absurd (not_none a g also is)
one_choice a (Some f) None is also = absurd (not_none a f is also)
one_choice a (Some f) (Some g) is also = ap (λ (x : Form). Some x) (one_form a f g is also)

one_form_for : (a : Option Asked) (f g : Option Form) → IsFormFor a f → IsFormFor a g → f ≡ g
one_form_for None f g is also = is ∙ sym also
one_form_for (Some a) f g is also = one_choice a f g is also

one_form_of : (names : Names) (statement : Statement) (f g : Option Form) → IsFormOf names statement f → IsFormOf names statement g → f ≡ g
one_form_of names Empty f g is also = is ∙ sym also
one_form_of names (Segment name n) f g is also = is ∙ sym also
one_form_of names Ends f g is also = is ∙ sym also
one_form_of names (Equ name n) f g is also = is ∙ sym also
one_form_of names (Org n) f g is also = is ∙ sym also
one_form_of names (Data width items) f g is also = is ∙ sym also
one_form_of names (Instruction i) f g is also = one_form_for (instruction_asked names i) f g is also

abbrev read : Line → Result Line SyntaxFault
read line = Ok line

read_same : (a b : Line) → read a ≡ read b → a ≡ b
read_same a b is = cc

-- a text makes one row
pub one_located : (known : Names) (here : Option Location) (text : List ℕ) (r s : LocatedLine)
    → IsLocatedLine known here text r → IsLocatedLine known here text s → r ≡ s
one_located known here text r s is also =
    let line : r.line ≡ s.line = read_same r.line s.line (sym is.reads ∙ also.reads) in
    let form : r.form ≡ s.form =
    one_form_of known s.line.statement r.form s.form (subst (λ (l : Line). IsFormOf known l.statement r.form) line is.form) also.form in
    let size : r.size ≡ s.size =
    is.size ∙ (ap₂ (λ (l : Line) (f : Option Form). size_of known l.statement f) line form ∙ sym also.size) in
    let location : r.location ≡ s.location = is.location ∙ sym also.location in
    let next : r.next ≡ s.next =
    is.next ∙ (ap₂ (λ (l : Line) (n : ℕ). location_after known here l.statement n) line size ∙ sym also.next) in
    let names : r.names ≡ s.names =
    is.names ∙ (ap (λ (l : Line). label_definition here l.label ++ statement_definition known l.statement) line ∙ sym also.names) in
    λ i. record { line = line i; form = form i; size = size i; location = location i; next = next i; names = names i }

one_clean : (before : List LocatedLine) (text : List ℕ) (r s : LocatedLine) → IsCleanLine before text r → IsCleanLine before text s → r ≡ s
one_clean before text r s is also = one_located (names_of before) (location_following before) text r s is.is_located_line also.is_located_line

-- the texts make one list of rows
pub one_lines : (before : List LocatedLine) (texts : List (List ℕ)) (rs ss : List LocatedLine)
    → AreLocatedLines before texts rs → AreLocatedLines before texts ss → rs ≡ ss
one_lines before [] [] [] is also = refl
one_lines before [] [] (s ∷ ss) is also = absurd also
one_lines before [] (r ∷ rs) ss is also = absurd is
one_lines before (text ∷ texts) [] ss is also = absurd is
one_lines before (text ∷ texts) (r ∷ rs) [] is also = absurd also
one_lines before (text ∷ texts) (r ∷ rs) (s ∷ ss) is also =
    let same : r ≡ s = one_clean before text r s is.0 also.0 in
    ap₂ (λ (x : LocatedLine) (xs : List LocatedLine). x ∷ xs) same
    (one_lines (before ++ s ∷ []) texts rs ss (subst (λ (x : LocatedLine). AreLocatedLines (before ++ x ∷ []) texts rs) same is.1) also.1)

-- the rows of the texts before one, and its own
pub record LinesUpTo (before : List LocatedLine) (front : List (List ℕ)) (text : List ℕ) : Type 0 where
  pub located_lines : List LocatedLine
  pub clean : AreLocatedLines before front located_lines
  pub located : LocatedLine
  pub is_located_line : IsCleanLine (before ++ located_lines) text located

pub lines_up_to : (before : List LocatedLine) (front : List (List ℕ)) (text : List ℕ) (back : List (List ℕ)) (rs : List LocatedLine)
    → AreLocatedLines before (front ++ text ∷ back) rs → LinesUpTo before front text
lines_up_to before [] text back [] are = absurd are
lines_up_to before [] text back (r ∷ rs) are = record {
  located_lines = [];
  clean = tt;
  located = r;
  is_located_line = subst (λ (xs : List LocatedLine). IsCleanLine xs text r) (sym (append-nil before)) are.0;
}
lines_up_to before (first ∷ front) text back [] are = absurd are
lines_up_to before (first ∷ front) text back (r ∷ rs) are =
    let rest = lines_up_to (before ++ r ∷ []) front text back rs are.1 in
    record {
      located_lines = r ∷ rest.located_lines;
      clean = (are.0, rest.clean);
      located = rest.located;
      is_located_line =
          subst (λ (xs : List LocatedLine). IsCleanLine xs text rest.located) (append_assoc before (r ∷ []) rest.located_lines) rest.is_located_line;
    }
