-- Rows that are the same but for their names place the same bytes.
use Rattle.std.proofs.Common.{◌≡◌, ◌∙◌, ℕ, ◌+◌, ◌==◌, List, [], ◌∷◌, map, Option, None, Some, refl, sym, ap, subst, Contains}
use Rattle.std.specs.Prelude.{not, is_none, ◌↔◌}
use Rattle.std.specs.Option.{option_map, option_map_or}
use Rattle.std.specs.List.{AllByRecursion, IsDistinct}
use Rattle.std.specs.Map.{keys_of}
use Rattle.isa.specs.declared.form.Form.{Form}
use Rattle.isa.specs.declared.form.Values.{Values}
use Rattle.board_types.specs.Image.{image_byte}
use Rattle.assembler_lexeme.specs.declared.name.Name.{Name}
use Rattle.assembler_syntax.specs.declared.statement.Statement.{Statement}
use Rattle.assembler_syntax.specs.declared.statement.Statement.TheVariants as statements
use Rattle.assembler_syntax.specs.declared.statement.Instruction.{Instruction}
use Rattle.board_types.specs.TextLines.{text_lines}
use Rattle.assembler_meaning.specs.declared.symbol.Location.{Location}
use Rattle.assembler_meaning.specs.Values.{Names}
use Rattle.assembler.specs.declared.kept_line.Content.{Content}
use Rattle.assembler.specs.declared.kept_line.Content.TheVariants.{Data, Code}
use Rattle.assembler.specs.Placement.{content_of, fields_for, fields_of, bytes_by, bytes_from, placed_at}
use Rattle.assembler.specs.Placement.{placed_by, placed_by_all, lacks_name, has_wrong_number, is_past_end}
use Rattle.assembler.specs.LocatedLines.{LocatedLine, names_of}
use Rattle.assembler.specs.Gives.{Fits, ArePlaced}
use Rattle.assembler_laws.specs.Sameness.{IsOneToOne, renamed_item, renamed_instruction, renamed_statement, RenamingDoesNotCount}
use Rattle.assembler_laws.proofs.SamenessNames.{renamed_names, flat_changed}
use Rattle.assembler_laws.proofs.SamenessInstructions.{same_numbers, same_code}
use Rattle.assembler_laws.proofs.SamenessData.{same_items_known, same_items_fit, same_data_bytes}
use Rattle.assembler_laws.proofs.SamenessStatements.{same_labelling}
use Rattle.assembler_laws.proofs.SamenessRows.{renamed_row, names_renamed, rows_renamed}

abbrev renamed_content : (Name → Name) → Content → Content
renamed_content rename (Data width items) = Data width (map (renamed_item rename) items)
renamed_content rename (Code f i) = Code f (renamed_instruction rename i)

content_renamed : (rename : Name → Name) (statement : Statement) (form : Option Form)
    → content_of (renamed_statement rename statement) form ≡ option_map (renamed_content rename) (content_of statement form)
content_renamed rename statements.Empty form = refl
content_renamed rename (statements.Segment name n) form = refl
content_renamed rename statements.Ends form = refl
content_renamed rename (statements.Equ name n) form = refl
content_renamed rename (statements.Org n) form = refl
content_renamed rename (statements.Data width items) form = refl
content_renamed rename (statements.Instruction i) None = refl
content_renamed rename (statements.Instruction i) (Some f) = refl

module _ (rename : Name → Name) (once : IsOneToOne rename) where
  same_fields : (names : Names) (location : Location) (size : ℕ) (f : Form) (i : Instruction)
      → fields_of (renamed_names rename names) location size f (renamed_instruction rename i) ≡ fields_of names location size f i
  same_fields names location size f i = ap (fields_for f (location.offset + size)) (same_numbers rename once names location.offset i.operands)

  same_bytes : (names : Names) (location : Location) (size : ℕ) (content : Option Content)
      → bytes_by (renamed_names rename names) location size (option_map (renamed_content rename) content) ≡ bytes_by names location size content
  same_bytes names location size None = refl
  same_bytes names location size (Some (Data width items)) = same_data_bytes rename once names location.offset width items
  same_bytes names location size (Some (Code f i)) =
      λ k. option_map_or (λ (v : Values). same_code rename once f i v k) (same_fields names location size f i k) []

  same_placed_at : (names : Names) (location : Option Location) (size : ℕ) (content : Option Content)
      → placed_at (renamed_names rename names) location size (option_map (renamed_content rename) content) ≡ placed_at names location size content
  same_placed_at names None size content = refl
  same_placed_at names (Some location) size content = ap (bytes_from location 0) (same_bytes names location size content)

  same_placed : (names : Names) (row : LocatedLine) → placed_by (renamed_names rename names) (renamed_row rename row) ≡ placed_by names row
  unfolding placed_by
  same_placed names row =
      ap (placed_at (renamed_names rename names) row.location row.size) (content_renamed rename row.line.statement row.form)
      ∙ same_placed_at names row.location row.size (content_of row.line.statement row.form)

  same_placed_by_all : (names : Names) (rows : List LocatedLine)
      → placed_by_all (renamed_names rename names) (map (renamed_row rename) rows) ≡ placed_by_all names rows
  same_placed_by_all names rows =
      flat_changed (renamed_row rename) (placed_by (renamed_names rename names)) (placed_by names) (same_placed names) rows

  same_lacks : (names : Names) (location : Location) (content : Option Content)
      → lacks_name (renamed_names rename names) location (option_map (renamed_content rename) content) ≡ lacks_name names location content
  same_lacks names location None = refl
  same_lacks names location (Some (Data width items)) = λ k. not (same_items_known rename once names location.offset items k)
  same_lacks names location (Some (Code f i)) = λ k. is_none (same_numbers rename once names location.offset i.operands k)

  same_wrong : (names : Names) (location : Location) (size : ℕ) (content : Option Content)
      → has_wrong_number (renamed_names rename names) location size (option_map (renamed_content rename) content) ≡ has_wrong_number names location size content
  same_wrong names location size None = refl
  same_wrong names location size (Some (Data width items)) = λ k. not (same_items_fit rename once names location.offset width items k)
  same_wrong names location size (Some (Code f i)) = λ k. is_none (same_fields names location size f i k)

  fits_renamed : (names : Names) (row : LocatedLine) → Fits names row → Fits (renamed_names rename names) (renamed_row rename row)
  fits_renamed names row fits = λ location at.
      let is = fits location at in
      let content = content_renamed rename row.line.statement row.form in
      record {
        known = ap (lacks_name (renamed_names rename names) location) content ∙ (same_lacks names location (content_of row.line.statement row.form) ∙ is.known);
        fits = ap (has_wrong_number (renamed_names rename names) location row.size) content
            ∙ (same_wrong names location row.size (content_of row.line.statement row.form) ∙ is.fits);
        within = ap (is_past_end location row.size) (same_labelling rename once row.line.label) ∙ is.within;
      }

  all_fit_renamed : (names : Names) (rows : List LocatedLine)
      → AllByRecursion (Fits names) rows → AllByRecursion (Fits (renamed_names rename names)) (map (renamed_row rename) rows)
  all_fit_renamed names [] fit = fit
  all_fit_renamed names (row ∷ rows) fit = (fits_renamed names row fit.0, all_fit_renamed names rows fit.1)

  placed_renamed : (rows : List LocatedLine) (image : List (ℕ × ℕ)) → ArePlaced rows image → ArePlaced (map (renamed_row rename) rows) image
  placed_renamed rows image is =
      let names : renamed_names rename (names_of rows) ≡ names_of (map (renamed_row rename) rows) = sym (names_renamed rename rows) in
      let same : placed_by_all (names_of rows) rows ≡ placed_by_all (names_of (map (renamed_row rename) rows)) (map (renamed_row rename) rows) =
      sym (same_placed_by_all (names_of rows) rows)
      ∙ ap (λ (ns : Names). placed_by_all ns (map (renamed_row rename) rows)) names in
      record {
        fit = subst (λ (ns : Names). AllByRecursion (Fits ns) (map (renamed_row rename) rows)) names (all_fit_renamed (names_of rows) rows is.fit);
        once = subst (λ (placed : List (ℕ × ℕ)). IsDistinct (λ a b. a == b) (keys_of placed)) same is.once;
        is_image = is.is_image;
        bytes = subst (λ (placed : List (ℕ × ℕ)). (address byte : ℕ) → (image_byte image address ≡ Some byte) ↔ Contains placed (address, byte)) same is.bytes;
      }

pub renaming_is_nothing : RenamingDoesNotCount
renaming_is_nothing rename once s t image differ within gives = record {
  within = within;
  located_lines = map (renamed_row rename) gives.located_lines;
  are_located_lines = rows_renamed rename once [] (text_lines s) (text_lines t) gives.located_lines differ gives.are_located_lines;
  placed = placed_renamed rename once gives.located_lines image gives.placed;
}
