-- The lines of the user's texts.
-- To be believed by callers of this crate: the headline does not rest on it.
use Rattle.std.specs.Prelude.{ℕ, ◌≢◌, ◌≤◌, ◌<◌, ◌+◌, List, [], length, map, slice_get, Option, None, Some}
use Rattle.std.specs.Char.{to_ascii_lowercase}
use Rattle.std.specs.List.{All}
use Rattle.std.specs.List.Sorted.{IsSorted}
use Rattle.std.specs.declared.cmp.Ordering.{Ordering}
use Rattle.board_types.specs.TextLines.{text_lines}
use Rattle.masm_text.specs.declared.place.Place.{Place}
use Rattle.masm_text.specs.declared.place.Line.{Line}
use Rattle.masm_text.specs.declared.place.Text.{Text}
use Rattle.masm_text.specs.declared.refusal.Failure.{Failure}
use Rattle.masm_text.specs.declared.refusal.Failure.TheVariants.{Refused, Wanted, Memory}
use Rattle.masm_text.specs.declared.refusal.Note.{Note}
use Rattle.masm_text.specs.declared.refusal.Refusal.{Refusal}

-- the bytes of a text, if it is there
abbrev pub bytes_of : Option Text → List ℕ
bytes_of None = []
bytes_of (Some text) = text.bytes.now

-- the name of a text, if it is there
abbrev pub name_of : Option Text → List ℕ
name_of None = []
name_of (Some text) = text.name.now

-- no text has this name, however its letters are written
abbrev pub IsNotGiven : List Text → List ℕ → Type 0
IsNotGiven texts name =
    (k : ℕ) → k < length texts → map to_ascii_lowercase (name_of (slice_get texts k)) ≢ map to_ascii_lowercase name

-- the lines of the text of this number; none if there is no such text
abbrev pub lines_of : List Text → ℕ → List (List ℕ)
lines_of texts number = text_lines (bytes_of (slice_get texts number))

-- the place is a line of the texts
abbrev pub IsLine : List Text → Place → Type 0
IsLine texts place = (1 ≤ place.line) × (place.line ≤ length (lines_of texts place.text))

-- each refusal is one of a line
abbrev pub AreRefusals : List Text → List Refusal → Type 0
AreRefusals texts refusals = All (λ (refusal : Refusal). IsLine texts refusal.place) refusals

-- at least one line is refused, and each refusal is one of a line
abbrev pub AreSomeRefusals : List Text → List Refusal → Type 0
AreSomeRefusals texts refusals = (1 ≤ length refusals) × AreRefusals texts refusals

-- each note is one of a line
abbrev pub AreNotes : List Text → List Note → Type 0
AreNotes texts notes = All (λ (note : Note). IsLine texts note.place) notes

-- a failure refuses lines of the texts, or wants, at one of them, a text that isn't given
abbrev pub IsFailure : List Text → Failure → Type 0
IsFailure texts (Refused refusals) = AreSomeRefusals texts refusals.items
IsFailure texts (Wanted place name) = IsLine texts place × IsNotGiven texts name.items
IsFailure texts Memory = Unit {0}

-- each line of a translation comes from a line of the texts
abbrev pub AreTranslated : List Text → List Line → Type 0
AreTranslated texts lines = All (λ (line : Line). IsLine texts line.place) lines

-- refusals are in order
abbrev pub IsInOrder : (Refusal → Refusal → Ordering) → Failure → Type 0
IsInOrder cmp (Refused refusals) = IsSorted cmp refusals.items
IsInOrder cmp (Wanted place name) = Unit {0}
IsInOrder cmp Memory = Unit {0}
