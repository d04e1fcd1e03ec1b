-- What holds of the lines before each line of a source that is accepted.
use Rattle.std.proofs.Common.{◌≡◌, ℕ, ◌||◌, List, [], ◌∷◌, ◌++◌, sym, subst, false, Option, None, append_assoc, append-nil}
use Rattle.std.proofs.lemmas.Bool.{or_parts}
use Rattle.isa.specs.declared.form.Form.{Form}
use Rattle.assembler_syntax.specs.declared.statement.Line.{Line}
use Rattle.assembler_meaning.specs.declared.symbol.Location.{Location}
use Rattle.assembler_meaning.specs.Values.{Names}
use Rattle.assembler.specs.declared.fault.SourceFault.TheVariants.{BadLine, UnknownName, BadForm, TwiceDefined, NoSegment}
use Rattle.assembler.specs.LocatedLines.{LocatedLine, AreLocatedLines, early_fault, defines_again, has_unknown_constant}
use Rattle.assembler.specs.LocatedLines.{has_wrong_constant, lacks_form, opens_within, stands_outside}
use Rattle.assembler.proofs.AnsweringPlaces.{CleanThere}
use Rattle.assembler.proofs.PlacingLines.{is_else}

-- a claim that holds of no lines, and of the lines before a line with it if it holds of those, holds of the lines
-- before each
pub along : (P : List LocatedLine → Type 0) → ((before : List LocatedLine) (row : LocatedLine) → CleanThere before row → P before → P (before ++ row ∷ []))
    → (before : List LocatedLine) (texts : List (List ℕ)) (front : List LocatedLine) (row : LocatedLine) (back : List LocatedLine)
    → AreLocatedLines before texts (front ++ row ∷ back)
    → P before → P (before ++ front)
along P more before [] [] row back are there = absurd are
along P more before (text ∷ texts) [] row back are there = subst P (sym (append-nil before)) there
along P more before [] (first ∷ front) row back are there = absurd are
along P more before (text ∷ texts) (first ∷ front) row back are there =
    subst P (append_assoc before (first ∷ []) front)
    (along P more (before ++ first ∷ []) texts front row back are.1 (more before first (record { text = text; clean = are.0 }) there))

-- the faults that a clean line hasn't
pub record HasNone (known : Names) (location : Option Location) (line : Line) (form : Option Form) : Type 0 where
  pub opens : opens_within location line.statement ≡ false
  pub wrong : has_wrong_constant known line.statement ≡ false
  pub unknown : has_unknown_constant known line.statement ≡ false
  pub lacks : lacks_form line.statement form ≡ false
  pub again : defines_again known line ≡ false
  pub outside : stands_outside location line ≡ false

pub has_none : (known : Names) (location : Option Location) (line : Line) (form : Option Form) → early_fault known location line form ≡ None
    → HasNone known location line form
unfolding early_fault
has_none known location line form none =
    let first = is_else (opens_within location line.statement || has_wrong_constant known line.statement) BadLine _ none in
    let second = is_else (has_unknown_constant known line.statement) UnknownName _ first.goes_on in
    let third = is_else (lacks_form line.statement form) BadForm _ second.goes_on in
    let fourth = is_else (defines_again known line) TwiceDefined _ third.goes_on in
    let fifth = is_else (stands_outside location line) NoSegment None fourth.goes_on in
    record {
      opens = (or_parts (opens_within location line.statement) (has_wrong_constant known line.statement) first.fails).0;
      wrong = (or_parts (opens_within location line.statement) (has_wrong_constant known line.statement) first.fails).1;
      unknown = second.fails;
      lacks = third.fails;
      again = fourth.fails;
      outside = fifth.fails;
    }
