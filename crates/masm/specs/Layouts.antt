-- What the second pass makes of lines.
-- To be believed by callers of this crate: the headline does not rest on it.
use Rattle.std.specs.Prelude.{List}
use Rattle.std.specs.List.{All}
use Rattle.masm_text.specs.UserLines.{AreNotes, AreRefusals, AreTranslated, IsLine}
use Rattle.masm_text.specs.declared.place.Text.{Text}
use Rattle.masm.specs.declared.layout.Layout.{Layout}
use Rattle.masm.specs.declared.layout.Placed.{Placed}
use Rattle.masm.specs.declared.translation.Translation.{Translation}
use Rattle.masm.specs.declared.writing.Made.{Made}

-- each line comes from one of the user's lines
abbrev pub ArePlaced : List Text → List Placed → Type 0
ArePlaced texts placed = All (λ (one : Placed). IsLine texts one.line.place) placed

-- the lines that are laid out come from the user's lines, and so do all that were made
abbrev pub IsLaid : List Text → Layout → Type 0
IsLaid texts layout = ArePlaced texts layout.placed.now × AreTranslated texts layout.lines.items

-- all that is made so far comes from the user's lines
abbrev pub AreMade : List Text → Made → Type 0
AreMade texts made =
    ArePlaced texts made.placed.items × AreRefusals texts made.refusals.items × AreNotes texts made.notes.items

-- the lines and the notes of a translation come from the user's lines
abbrev pub AreTranslation : List Text → Translation → Type 0
AreTranslation texts translation =
    AreTranslated texts translation.lines.items × AreNotes texts translation.notes.items
