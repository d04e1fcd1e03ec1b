-- Lines that say the same but for their names make rows that are the same but for them.
use Rattle.std.proofs.Common.{◌≡◌, ◌∙◌, ℕ, List, [], ◌∷◌, ◌++◌, map, Option, None, Result, Ok, refl, sym, ap, ap₂, subst}
use Rattle.std.specs.Prelude.{fold}
use Rattle.assembler_lexeme.specs.declared.fault.SyntaxFault.{SyntaxFault}
use Rattle.assembler_lexeme.specs.declared.name.Name.{Name}
use Rattle.assembler_syntax.specs.declared.statement.Line.{Line}
use Rattle.assembler_meaning.specs.declared.symbol.Location.{Location}
use Rattle.assembler_meaning.specs.Values.{Names}
use Rattle.assembler.specs.LocatedLines.{LocatedLine, IsLocatedLine, IsCleanLine, AreLocatedLines, names_of}
use Rattle.assembler.specs.LocatedLines.{location_following, label_definition, statement_definition, early_fault}
use Rattle.assembler_laws.specs.Sameness.{IsOneToOne, renamed_line, StandPairwise, DifferInNames}
use Rattle.assembler_laws.proofs.SamenessNames.{renamed_names, renamed_after}
use Rattle.assembler_laws.proofs.SamenessStatements.{same_form, same_size, same_next, label_renamed, statement_renamed, same_early}

abbrev pub renamed_row : (Name → Name) → LocatedLine → LocatedLine
renamed_row rename row = record row { line = renamed_line rename row.line; names = renamed_names rename row.names }

abbrev read : Line → Result Line SyntaxFault
read line = Ok line

read_same : (a b : Line) → read a ≡ read b → a ≡ b
read_same a b is = cc

rows_after : (rename : Name → Name) (a b : List LocatedLine) → map (renamed_row rename) (a ++ b) ≡ map (renamed_row rename) a ++ map (renamed_row rename) b
rows_after rename [] b = refl
rows_after rename (r ∷ rs) b = λ i. renamed_row rename r ∷ rows_after rename rs b i

pub names_renamed : (rename : Name → Name) (rows : List LocatedLine) → names_of (map (renamed_row rename) rows) ≡ renamed_names rename (names_of rows)
names_renamed rename [] = refl
names_renamed rename (r ∷ rs) =
    ap (λ (ns : Names). renamed_names rename r.names ++ ns) (names_renamed rename rs) ∙ sym (renamed_after rename r.names (names_of rs))

same_location_from : (rename : Name → Name) (location : Option Location) (rows : List LocatedLine)
    → fold (λ (s : Option Location) (r : LocatedLine). r.next) location (map (renamed_row rename) rows)
    ≡ fold (λ (s : Option Location) (r : LocatedLine). r.next) location rows
same_location_from rename location [] = refl
same_location_from rename location (r ∷ rs) = same_location_from rename r.next rs

same_location : (rename : Name → Name) (rows : List LocatedLine) → location_following (map (renamed_row rename) rows) ≡ location_following rows
same_location rename rows = same_location_from rename None rows

module _ (rename : Name → Name) (once : IsOneToOne rename) where
  row_renamed : (known : Names) (here : Option Location) (line other : List ℕ) (row : LocatedLine) → DifferInNames rename line other
      → IsLocatedLine known here line row → IsLocatedLine (renamed_names rename known) here other (renamed_row rename row)
  row_renamed known here line other row differ is = record {
    reads = differ.reads_renamed ∙ ap (λ (l : Line). read (renamed_line rename l)) (read_same differ.says row.line (sym differ.reads ∙ is.reads));
    form = same_form rename once known row.line.statement row.form is.form;
    size = is.size ∙ sym (same_size rename once known row.line.statement row.form);
    location = is.location;
    next = is.next ∙ sym (same_next rename once known here row.line.statement row.size);
    names =
        ap (renamed_names rename) is.names
        ∙ (renamed_after rename (label_definition here row.line.label) (statement_definition known row.line.statement)
        ∙ sym (ap₂ (λ (a b : Names). a ++ b) (label_renamed rename once here row.line.label) (statement_renamed rename once known row.line.statement)));
  }

  clean_renamed : (before : List LocatedLine) (line other : List ℕ) (row : LocatedLine) → DifferInNames rename line other
      → IsCleanLine before line row → IsCleanLine (map (renamed_row rename) before) other (renamed_row rename row)
  clean_renamed before line other row differ is =
      let known : renamed_names rename (names_of before) ≡ names_of (map (renamed_row rename) before) = sym (names_renamed rename before) in
      let here : location_following before ≡ location_following (map (renamed_row rename) before) = sym (same_location rename before) in
      record {
        is_located_line = subst (λ (ns : Names). IsLocatedLine ns (location_following (map (renamed_row rename) before)) other (renamed_row rename row)) known
            (subst (λ (s : Option Location). IsLocatedLine (renamed_names rename (names_of before)) s other (renamed_row rename row)) here
            (row_renamed (names_of before) (location_following before) line other row differ is.is_located_line));
        clean =
            ap (λ (ns : Names). early_fault ns row.location (renamed_line rename row.line) row.form) (sym known)
            ∙ (same_early rename once (names_of before) row.location row.line row.form ∙ is.clean);
      }

  pub rows_renamed : (before : List LocatedLine) (lines others : List (List ℕ)) (rows : List LocatedLine) → StandPairwise (DifferInNames rename) lines others
      → AreLocatedLines before lines rows → AreLocatedLines (map (renamed_row rename) before) others (map (renamed_row rename) rows)
  rows_renamed before [] [] [] differ are = are
  rows_renamed before [] [] (row ∷ rows) differ are = absurd are
  rows_renamed before [] (other ∷ others) rows differ are = absurd differ
  rows_renamed before (line ∷ lines) [] rows differ are = absurd differ
  rows_renamed before (line ∷ lines) (other ∷ others) [] differ are = absurd are
  rows_renamed before (line ∷ lines) (other ∷ others) (row ∷ rows) differ are = (
    clean_renamed before line other row differ.0 are.0,
    subst (λ (rs : List LocatedLine). AreLocatedLines rs others (map (renamed_row rename) rows)) (rows_after rename before (row ∷ []))
        (rows_renamed (before ++ row ∷ []) lines others rows differ.1 are.1),
  )
