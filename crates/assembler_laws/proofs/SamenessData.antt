-- Renamed data has the same size and the same bytes.
use Rattle.std.proofs.Common.{◌≡◌, ◌∙◌, ℕ, Bool, ◌+◌, ◌*◌, ◌||◌, List, [], ◌∷◌, map, true, refl, ap}
use Rattle.std.specs.Prelude.{is_some}
use Rattle.std.specs.Option.{option_map_or}
use Rattle.std.specs.List.{list_all, list_any, flat_map}
use Rattle.assembler_lexeme.specs.declared.name.Name.{Name}
use Rattle.assembler_syntax.specs.declared.expression.Term.{Term}
use Rattle.assembler_syntax.specs.declared.statement.DataWidth.{DataWidth}
use Rattle.assembler_syntax.specs.declared.statement.Piece.{Piece}
use Rattle.assembler_syntax.specs.declared.statement.Piece.TheVariants.{Value, Text}
use Rattle.assembler_syntax.specs.declared.statement.Item.{Item}
use Rattle.assembler_syntax.specs.declared.statement.Item.TheVariants.{Once, Repeated}
use Rattle.assembler_meaning.specs.Values.{Names}
use Rattle.assembler_meaning.specs.Data.{counts_of, pieces_of, natural, times_of, piece_size, pieces_size, data_size, fits_width, number_bytes}
use Rattle.assembler_meaning.specs.Data.{is_piece_known, does_piece_fit, are_items_known, do_items_fit, piece_bytes, repeated, item_bytes, data_bytes}
use Rattle.assembler_laws.specs.Sameness.{IsOneToOne, renamed_terms, renamed_piece, renamed_item}
use Rattle.assembler_laws.proofs.SamenessNames.{all_changed, flat_changed, renamed_names, same_value, same_constant}

module _ (rename : Name → Name) (once : IsOneToOne rename) where
  -- the counts before DUP
  pub any_count : (p q : List Term → Bool) → ((terms : List Term) → p (renamed_terms rename terms) ≡ q terms) → (items : List Item)
      → list_any p (counts_of (map (renamed_item rename) items)) ≡ list_any q (counts_of items)
  any_count p q same [] = refl
  any_count p q same (Once piece ∷ items) = any_count p q same items
  any_count p q same (Repeated count each ∷ items) = λ i. same count i || any_count p q same items i

  same_pieces : (item : Item) → pieces_of (renamed_item rename item) ≡ map (renamed_piece rename) (pieces_of item)
  same_pieces (Once piece) = refl
  same_pieces (Repeated count each) = refl

  same_times : (names : Names) (item : Item) → times_of (renamed_names rename names) (renamed_item rename item) ≡ times_of names item
  same_times names (Once piece) = refl
  same_times names (Repeated count each) = λ i. option_map_or natural (same_constant rename once names count i) 0

  same_piece_size : (width : DataWidth) (piece : Piece) → piece_size width (renamed_piece rename piece) ≡ piece_size width piece
  same_piece_size width (Value terms) = refl
  same_piece_size width (Text text) = refl

  same_pieces_size : (width : DataWidth) (pieces : List Piece) → pieces_size width (map (renamed_piece rename) pieces) ≡ pieces_size width pieces
  same_pieces_size width [] = refl
  same_pieces_size width (piece ∷ pieces) = λ i. same_piece_size width piece i + same_pieces_size width pieces i

  item_size : (width : DataWidth) (item : Item) → pieces_size width (pieces_of (renamed_item rename item)) ≡ pieces_size width (pieces_of item)
  item_size width item = ap (pieces_size width) (same_pieces item) ∙ same_pieces_size width (pieces_of item)

  pub same_data_size : (names : Names) (width : DataWidth) (items : List Item)
      → data_size (renamed_names rename names) width (map (renamed_item rename) items) ≡ data_size names width items
  same_data_size names width [] = refl
  same_data_size names width (item ∷ items) = λ i. same_times names item i * item_size width item i + same_data_size names width items i

  same_piece_known : (names : Names) (here : ℕ) (piece : Piece)
      → is_piece_known (renamed_names rename names) here (renamed_piece rename piece) ≡ is_piece_known names here piece
  same_piece_known names here (Value terms) = λ i. is_some (same_value rename once names here terms i)
  same_piece_known names here (Text text) = refl

  same_piece_fit : (names : Names) (here : ℕ) (width : DataWidth) (piece : Piece)
      → does_piece_fit (renamed_names rename names) here width (renamed_piece rename piece) ≡ does_piece_fit names here width piece
  same_piece_fit names here width (Value terms) = λ i. option_map_or (fits_width width) (same_value rename once names here terms i) true
  same_piece_fit names here width (Text text) = refl

  same_piece_bytes : (names : Names) (here : ℕ) (width : DataWidth) (piece : Piece)
      → piece_bytes (renamed_names rename names) here width (renamed_piece rename piece) ≡ piece_bytes names here width piece
  same_piece_bytes names here width (Value terms) = λ i. option_map_or (number_bytes width) (same_value rename once names here terms i) []
  same_piece_bytes names here width (Text text) = refl

  -- what passes in the pieces of each item
  all_pieces : (p q : Piece → Bool) → ((piece : Piece) → p (renamed_piece rename piece) ≡ q piece) → (items : List Item)
      → list_all (λ (item : Item). list_all p (pieces_of item)) (map (renamed_item rename) items)
      ≡ list_all (λ (item : Item). list_all q (pieces_of item)) items
  all_pieces p q same items =
      all_changed (renamed_item rename) (λ (item : Item). list_all p (pieces_of item)) (λ (item : Item). list_all q (pieces_of item))
      (λ item. ap (list_all p) (same_pieces item) ∙ all_changed (renamed_piece rename) p q same (pieces_of item)) items

  pub same_items_known : (names : Names) (here : ℕ) (items : List Item)
      → are_items_known (renamed_names rename names) here (map (renamed_item rename) items) ≡ are_items_known names here items
  unfolding are_items_known
  same_items_known names here items =
      all_pieces (is_piece_known (renamed_names rename names) here) (is_piece_known names here) (same_piece_known names here) items

  pub same_items_fit : (names : Names) (here : ℕ) (width : DataWidth) (items : List Item)
      → do_items_fit (renamed_names rename names) here width (map (renamed_item rename) items) ≡ do_items_fit names here width items
  unfolding do_items_fit
  same_items_fit names here width items =
      all_pieces (does_piece_fit (renamed_names rename names) here width) (does_piece_fit names here width) (same_piece_fit names here width) items

  same_item_bytes : (names : Names) (here : ℕ) (width : DataWidth) (item : Item)
      → item_bytes (renamed_names rename names) here width (renamed_item rename item) ≡ item_bytes names here width item
  same_item_bytes names here width item =
      let bytes : flat_map (piece_bytes (renamed_names rename names) here width) (pieces_of (renamed_item rename item))
      ≡ flat_map (piece_bytes names here width) (pieces_of item) =
      ap (flat_map (piece_bytes (renamed_names rename names) here width)) (same_pieces item)
      ∙ flat_changed (renamed_piece rename) (piece_bytes (renamed_names rename names) here width) (piece_bytes names here width)
      (same_piece_bytes names here width) (pieces_of item) in
      λ i. repeated (same_times names item i) (bytes i)

  pub same_data_bytes : (names : Names) (here : ℕ) (width : DataWidth) (items : List Item)
      → data_bytes (renamed_names rename names) here width (map (renamed_item rename) items) ≡ data_bytes names here width items
  unfolding data_bytes
  same_data_bytes names here width items =
      flat_changed (renamed_item rename) (item_bytes (renamed_names rename names) here width)
      (item_bytes names here width) (same_item_bytes names here width) items
