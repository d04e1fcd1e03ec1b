-- What holds of changes of a board and of ways back from them.
-- Laws: claims above the definitions, each proved as the contract of a function.
use Rattle.std.specs.Prelude.{ℕ, ◌≡◌, ◌<◌, ◌≤◌, false, length, All, List, [], ◌∷◌, Result}
use Rattle.debugger_meaning.specs.declared.answer.Answer.{Answer}
use Rattle.debugger_meaning.specs.Back.{GoesBack}
use Rattle.debugger_meaning.specs.declared.fault.DebugFault.{DebugFault}
use Rattle.debugger_meaning.specs.Stands.{SessionState, Stands, StandsAfter}
use Rattle.board_plain.specs.Board.{BoardState}
use Rattle.probe_texts.specs.declared.wishes.Edit.{Edit}
use Rattle.probe.specs.Lab.{AnswersLab, belongs, lab_about, LabState, Sets, Undoes}
use Rattle.probe.specs.Probe.{probe_about, session_of}

-- an undo after a change brings back all that was
abbrev pub UndoGoesBack : Type 0
UndoGoesBack =
    (edit : Edit) (s t u : LabState) (first second : Answer) → belongs s ≡ false → length s.earlier < 16
    → Sets edit s t first → Undoes t u second → u ≡ s

-- after a change the probe is one that begins about the changed board, with the stops that it had
abbrev pub ChangeBegins : Type 0
ChangeBegins =
    (edit : Edit) (s t : LabState) (answer : Answer) → Sets edit s t answer
    → t.now ≡ record (probe_about t.now.board) { stops = s.now.stops }

-- no way back leads to before the change
abbrev pub NoWayBackBefore : Type 0
NoWayBackBefore =
    (edit : Edit) (s t : LabState) (answer : Answer) (n : ℕ) (next : SessionState) (told : Answer)
    → Sets edit s t answer → GoesBack n (session_of t.now) next told → ⊥

-- the board stands some clocks after its first one, and so does that of each session that is kept
abbrev pub LabStands : LabState → Type 0
LabStands s = StandsAfter s.now.first s.now.board × All Stands s.earlier

-- a lab answers a line, and goes on
pub record LabAnsweredThen (line : List ℕ) (After : LabState → Type 0) (old : LabState) : Type 0 where
  pub result : Result Answer DebugFault
  pub next : LabState
  pub answers : AnswersLab line old result next
  pub after : After next

-- a lab before a list of lines and after them
abbrev pub LabWalk : List (List ℕ) → LabState → LabState → Type 0
LabWalk [] old new = new ≡ old
LabWalk (line ∷ lines) old new = LabAnsweredThen line (λ next. LabWalk lines next new) old

-- after any lines, changes and undos among them, all boards stand some clocks after their first ones
abbrev pub LabsStand : Type 0
LabsStand =
    (lines : List (List ℕ)) (board : BoardState) (new : LabState) → length board.trail ≤ 32
    → LabWalk lines (lab_about board) new → LabStands new
