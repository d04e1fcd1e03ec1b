-- Lines that are read alike make the same rows.
use Rattle.std.proofs.Common.{ℕ, List, [], ◌∷◌, ◌++◌, sym, ◌∙◌}
use Rattle.board_types.specs.TextLines.{text_lines}
use Rattle.assembler_syntax.specs.SyntaxLaws.{CaseDoesNotCount as CaseDoesNotCountInLines}
use Rattle.assembler.specs.LocatedLines.{LocatedLine, IsCleanLine, AreLocatedLines}
use Rattle.assembler_laws.specs.Sameness.{StandPairwise, DifferInCase, CaseDoesNotCount}

row_alike : CaseDoesNotCountInLines → (before : List LocatedLine) (line other : List ℕ) (row : LocatedLine)
    → DifferInCase line other → IsCleanLine before line row → IsCleanLine before other row
row_alike law before line other row alike is = record {
  is_located_line = record {
    reads = sym (law line other alike.characters alike.same_lexemes) ∙ is.is_located_line.reads;
    form = is.is_located_line.form;
    size = is.is_located_line.size;
    location = is.is_located_line.location;
    next = is.is_located_line.next;
    names = is.is_located_line.names;
  };
  clean = is.clean;
}

rows_alike : CaseDoesNotCountInLines → (before : List LocatedLine) (lines others : List (List ℕ)) (rows : List LocatedLine)
    → StandPairwise DifferInCase lines others → AreLocatedLines before lines rows → AreLocatedLines before others rows
rows_alike law before [] [] rows alike are = are
rows_alike law before [] (other ∷ others) rows alike are = absurd alike
rows_alike law before (line ∷ lines) [] rows alike are = absurd alike
rows_alike law before (line ∷ lines) (other ∷ others) [] alike are = absurd are
rows_alike law before (line ∷ lines) (other ∷ others) (row ∷ rows) alike are =
    (row_alike law before line other row alike.0 are.0, rows_alike law (before ++ row ∷ []) lines others rows alike.1 are.1)

pub case_is_nothing : CaseDoesNotCountInLines → CaseDoesNotCount
case_is_nothing law s t image alike within gives = record {
  within = within;
  located_lines = gives.located_lines;
  are_located_lines = rows_alike law [] (text_lines s) (text_lines t) gives.located_lines alike gives.are_located_lines;
  placed = gives.placed;
}
