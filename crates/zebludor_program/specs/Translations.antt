-- How a source of MASM is translated for a caller in C.
-- To be believed by callers of this crate: the headline does not rest on it.
use Rattle.std.specs.Prelude.{ℕ, ◌≡◌, Bool, true, false, List, [], ◌∷◌, ◌++◌, length, map, slice_get}
use Rattle.std.specs.Fmt.{decimal}
use Rattle.std.specs.List.{flat_map}
use Rattle.board_types.specs.TextLines.{text_lines}
use Rattle.masm_text.specs.UserLines.{name_of}
use Rattle.masm_text.specs.declared.place.Line.{Line}
use Rattle.masm_text.specs.declared.place.Place.{Place}
use Rattle.masm_text.specs.declared.place.Text.{Text}
use Rattle.masm.specs.Layouts.{AreTranslation}
use Rattle.masm.specs.declared.translation.Translation.{Translation}
use Rattle.zebludor_program.specs.Buffers.{buffer_after}
use Rattle.zebludor_program.specs.declared.programs.Ended.{Ended}

-- texts with these names, a line each, and of these lengths, whose bytes stand one after the other
pub record AreTexts (names lengths bytes : List ℕ) (texts : List Text) : Type 0 where
  pub are_names : map (λ (text : Text). text.name.now) texts ≡ text_lines names
  pub are_lengths : map (λ (text : Text). length text.bytes.now) texts ≡ lengths
  pub are_bytes : flat_map (λ (text : Text). text.bytes.now) texts ≡ bytes

-- a place as it is printed: `NAME:LINE:`
abbrev pub place_text : List Text → Place → List ℕ
place_text texts place = name_of (slice_get texts place.text) ++ (58 ∷ (decimal place.line ++ 58 ∷ []))

-- how a line of a translation begins: with its place and a tabulator, if there is to be a map
abbrev pub map_text : Bool → List Text → Place → List ℕ
map_text true texts place = place_text texts place ++ 9 ∷ []
map_text false texts place = []

-- the lines of a translation as they are printed
abbrev pub lines_text : Bool → List Text → List Line → List ℕ
lines_text has_map texts [] = []
lines_text has_map texts (line ∷ lines) =
    map_text has_map texts line.place ++ (line.text.items ++ (10 ∷ lines_text has_map texts lines))

-- at status 0 the lines of a translation are printed, each of which comes from a line of the texts
abbrev pub IsTranslation : List Text → Bool → List ℕ → ℕ → Type 0
IsTranslation texts has_map printed status =
    status ≡ 0 → (translation : Translation) × AreTranslation texts translation
    × (printed ≡ lines_text has_map texts translation.lines.items)

-- at status 0 what is printed is a translation of the texts that names, lengths and bytes give
abbrev pub IsTranslated : List ℕ → List ℕ → List ℕ → Bool → List ℕ → ℕ → Type 0
IsTranslated names lengths bytes has_map printed status =
    status ≡ 0 → (texts : List Text) × AreTexts names lengths bytes texts × IsTranslation texts has_map printed status

-- a source was translated, or not, and both of its texts are handed over
pub record Translates (names lengths bytes : List ℕ) (has_map : Bool) (out_old out_new err_old err_new : List ℕ)
    (ended : Ended) : Type 0 where
  pub printed : List ℕ
  pub told : List ℕ
  pub translated : IsTranslated names lengths bytes has_map printed ended.status
  pub out_length : ended.out ≡ length printed
  pub err_length : ended.err ≡ length told
  pub out_is : out_new ≡ buffer_after printed out_old
  pub err_is : err_new ≡ buffer_after told err_old
