-- What the first pass keeps of the rows for the second, and the bounds that keep the second from overflowing.
-- For proofs alone: no public contract rests on it.
use Rattle.std.specs.Prelude.{ℕ, ◌≡◌, ◌≤◌, ◌+◌, ◌^◌, true, List, [], ◌∷◌}
use Rattle.std.specs.Prelude.{length, take, drop, Option, None, Some, is_some}
use Rattle.std.specs.Option.{option_map}
use Rattle.std.specs.Box.{box_value}
use Rattle.std.specs.List.{AllByRecursion}
use Rattle.isa.specs.Encoding.{IsForm}
use Rattle.assembler_syntax.specs.declared.statement.Statement.TheVariants as statements
use Rattle.board_types.specs.TextLines.{text_lines}
use Rattle.assembler_syntax.specs.Weights.{are_terms_within}
use Rattle.assembler.specs.declared.kept_line.Content.{Content}
use Rattle.assembler.specs.declared.kept_line.Content.TheVariants.{Data, Code}
use Rattle.assembler.specs.declared.kept_line.KeptLine.{KeptLine}
use Rattle.assembler_meaning.specs.declared.symbol.Location.{Location}
use Rattle.assembler_meaning.specs.Values.{Names, AreSmall, term_limit}
use Rattle.assembler.specs.Gives.{source_limit}
use Rattle.assembler.specs.Placement.{content_of}
use Rattle.assembler.specs.LocatedLines.{LocatedLine, AreLocatedLines, names_of}

-- what a kept row places
abbrev pub content_in : KeptLine → Option Content
content_in kept = option_map box_value kept.content

-- what is kept of a line: where its text stands in the source, and what its row places
pub record Keeps (source said : List ℕ) (kept : KeptLine) (located : LocatedLine) : Type 0 where
  pub inside : kept.start + kept.length ≤ length source
  pub text : take kept.length (drop kept.start source) ≡ said
  pub label : kept.has_label ≡ is_some located.line.label
  pub location : kept.location ≡ located.location
  pub size : kept.size ≡ located.size
  pub content : content_in kept ≡ content_of located.line.statement located.form

abbrev pub AreKept : List ℕ → List (List ℕ) → List KeptLine → List LocatedLine → Type 0
AreKept source [] [] [] = Unit {0}
AreKept source (text ∷ texts) (kept ∷ more) (located ∷ located_lines) =
    Keeps source text kept located × AreKept source texts more located_lines
AreKept source texts kept located_lines = ⊥

-- what a line places is bounded: its expressions are short, and its form is one of the table's
abbrev pub IsContent : Option Content → Type 0
IsContent (Some (Data width items)) = are_terms_within term_limit (statements.Data width items) ≡ true
IsContent (Some (Code f i)) = (are_terms_within term_limit (statements.Instruction i) ≡ true) × IsForm f
IsContent None = Unit {0}

abbrev pub EndsBy : ℕ → Option Location → ℕ → Type 0
EndsBy limit (Some location) size = location.offset + size ≤ limit
EndsBy limit None size = Unit {0}

pub record IsSteady (kept : KeptLine) : Type 0 where
  pub ends : EndsBy (2 ^ 40) kept.location kept.size
  pub content : IsContent (content_in kept)

-- the source's lines make clean rows, which are kept as these, and define these names
pub record Reads (source : List ℕ) (names : Names) (kept : List KeptLine) : Type 0 where
  pub within : length source ≤ source_limit
  pub located_lines : List LocatedLine
  pub are_located_lines : AreLocatedLines [] (text_lines source) located_lines
  pub are_kept : AreKept source (text_lines source) kept located_lines
  pub names_are : names ≡ names_of located_lines
  pub small : AreSmall names
  pub steady : AllByRecursion IsSteady kept
