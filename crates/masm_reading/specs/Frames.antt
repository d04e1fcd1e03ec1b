-- Lines that are still to be read.
-- To be believed by callers of this crate: the headline does not rest on it.
use Rattle.std.specs.Prelude.{ℕ, ◌≡◌, ◌≤◌, ◌+◌, ◌-◌, List, [], length, take, drop, slice_index_or}
use Rattle.std.specs.Prelude.{Result, IfErr, IfSome, IsSomeAnd}
use Rattle.std.specs.List.{All}
use Rattle.board_types.specs.TextLines.{text_lines}
use Rattle.masm_text.specs.UserLines.{IsFailure, IsLine, lines_of, AreRefusals}
use Rattle.masm_text.specs.declared.place.Place.{Place}
use Rattle.masm_text.specs.declared.place.Text.{Text}
use Rattle.masm_text.specs.declared.refusal.Failure.{Failure}
use Rattle.masm_text.specs.declared.refusal.Refusal.{Refusal}
use Rattle.masm_reading.specs.declared.frames.Frame.{Frame}
use Rattle.masm_reading.specs.declared.frames.Frame.TheVariants.{Given, Made}
use Rattle.masm_reading.specs.declared.frames.GivenLines.{GivenLines}
use Rattle.masm_reading.specs.declared.frames.Next.{Next}
use Rattle.masm_reading.specs.declared.frames.SourceLine.{SourceLine}
use Rattle.masm_reading.specs.declared.reading.Progress.{Progress}
use Rattle.masm_reading.specs.declared.reading.Reading.{Reading}

-- the bytes are those of a text after so many of its lines
abbrev pub IsRest : List Text → ℕ → ℕ → List ℕ → Type 0
IsRest texts text line rest = text_lines rest ≡ drop line (lines_of texts text)

-- a line is what stands at its place, but for its end
abbrev pub IsWritten : List Text → SourceLine → Type 0
IsWritten texts line =
    line.text.items ≡
    take (length line.text.items) (slice_index_or (lines_of texts line.place.text) (line.place.line - 1) [])

-- the lines come from the texts
abbrev pub IsFrame : List Text → Frame → Type 0
IsFrame texts (Given given) = IsRest texts given.text given.line given.rest.now
IsFrame texts (Made made) = IsLine texts made.place

-- a step reads a line of theirs, and leaves lines of theirs
abbrev pub IsNext : List Text → Next → Type 0
IsNext texts step =
    IfSome step.line (λ (line : SourceLine). IsLine texts line.place) × IfSome step.left (IsFrame texts)

-- what is left of a text begins after the line that was read
abbrev pub Follows : GivenLines → Frame → Type 0
Follows given (Given rest) = (rest.text ≡ given.text) × (rest.line ≡ given.line + 1)
Follows given (Made made) = 1 ≤ 0

-- a step that reads a line of a text leaves what follows that line
abbrev pub LeavesRest : GivenLines → Next → Type 0
LeavesRest given step = IfSome step.line (λ (line : SourceLine). IsSomeAnd step.left (Follows given))

-- each line is one of the user's, or made of one
abbrev pub AreLines : List Text → List SourceLine → Type 0
AreLines texts lines = All (λ (line : SourceLine). IsLine texts line.place) lines

-- all that the first pass has of lines comes from the texts
abbrev pub IsSound : List Text → Progress → Type 0
IsSound texts progress =
    All (IsFrame texts) progress.frames.items × AreLines texts progress.lines.items ×
    AreRefusals texts progress.refusals.items × IfSome progress.begun (IsLine texts) ×
    IfSome progress.last (IsLine texts) × IfSome progress.end (λ (refusal : Refusal). IsLine texts refusal.place)

-- all that it has comes from the texts, and so does the line that a call takes in
abbrev pub Takes : List Text → Progress → Place → Type 0
Takes texts progress place = IsSound texts progress × IsLine texts place

-- all that it has comes from the texts after a call too, which fails with lines of theirs
abbrev pub GoesOn : {A : Type 0} → List Text → Progress → Result A Failure → Type 0
GoesOn texts progress result = IsSound texts progress × IfErr result (IsFailure texts)

-- all that it leaves comes from the texts
abbrev pub IsReading : List Text → Reading → Type 0
IsReading texts reading = AreLines texts reading.lines.items × AreRefusals texts reading.refusals.items
