-- A probe whose board can be changed as it stands, and the sessions before the changes.
-- To be believed by callers of this crate: the headline does not rest on it.
use Rattle.std.specs.Prelude.{ℕ, ◌≡◌, ◌+◌, ◌==◌, ◌&&◌, nat_le, Bool, true, false, List, [], ◌∷◌, ◌++◌}
use Rattle.std.specs.Prelude.{length, Option, None, Some, Result, MatchResult}
use Rattle.wiring.specs.Cells.{has_cell}
use Rattle.board_plain.specs.declared.change.Change.TheVariants as changes
use Rattle.board_plain.specs.Board.{BoardState}
use Rattle.board_plain.specs.Changes.{changed, with_cell_byte}
use Rattle.board_plain.specs.Plain.{Plain, clock_of}
use Rattle.board_plain.specs.Trail.{last}
use Rattle.debugger_meaning.specs.declared.answer.Answer.{Answer}
use Rattle.debugger_meaning.specs.declared.answer.Answer.TheVariants.{Clock}
use Rattle.debugger_meaning.specs.declared.fault.DebugFault.{DebugFault}
use Rattle.debugger_meaning.specs.declared.fault.DebugFault.TheVariants.{BadScan, StampsFall, ClockLimit, BadCommand}
use Rattle.debugger_meaning.specs.declared.fault.DebugFault.TheVariants.{TooManyStops, Memory, BeforeStart, NoCell}
use Rattle.debugger_meaning.specs.Stands.{SessionState, Shown, shown_of}
use Rattle.probe_texts.specs.declared.wishes.Edit.{Edit}
use Rattle.probe_texts.specs.declared.wishes.Edit.TheVariants as edits
use Rattle.probe_texts.specs.declared.wishes.Wish.{Wish}
use Rattle.probe_texts.specs.declared.wishes.Wish.TheVariants.{Set, Undo}
use Rattle.probe.specs.Probe.{AnswersStopping, probe_about, ProbeState}
use Rattle.probe_texts.specs.Wishes.{wish_of}

-- the probe as it is, and the sessions before its last changes, the oldest first
pub record LabState : Type 0 where
  pub now : ProbeState
  pub earlier : List SessionState

-- a lab that begins
abbrev pub lab_about : BoardState → LabState
lab_about board = record { now = probe_about board; earlier = [] }

-- the board with these bytes in the cells from an address on
abbrev pub with_bytes : ℕ → List ℕ → Plain → Plain
with_bytes address [] s = s
with_bytes address (byte ∷ bytes) s = with_bytes (address + 1) bytes (with_cell_byte s address byte)

-- what a `set` makes of a board
abbrev pub edited : Edit → Plain → Plain
edited (edits.Register register word) s = changed (changes.Register register word) s
edited (edits.Bytes address bytes) s = with_bytes address bytes.items s

-- each of these bytes has a cell
abbrev pub have_cells : ℕ → List ℕ → Plain → Bool
have_cells address [] s = true
have_cells address (byte ∷ bytes) s = has_cell s.chips address && have_cells (address + 1) bytes s

-- a board takes each word for a register, and bytes if all of them have cells
abbrev pub takes_edit : Edit → Plain → Bool
takes_edit (edits.Register register word) s = true
takes_edit (edits.Bytes address bytes) s = have_cells address bytes.items s

-- what a board shows once it is changed: the changes of the speaker's level and the trail stay
abbrev pub shown_edited : Edit → Shown → Shown
shown_edited edit shown = record shown { plain = edited edit shown.plain }

-- the session that gives place to another: its stops go over to that
abbrev pub left_by : ProbeState → SessionState
left_by s = record { first = s.first; board = s.board; stops = [] }

-- a change at the clock of the last change belongs to that one
unfoldable pub belongs : LabState → Bool
belongs s = nat_le 1 (length s.earlier) && (clock_of s.now.board.plain == clock_of s.now.first.plain)

-- the sessions before the changes, once there is one more: the last sixteen
abbrev pub earlier_with : Bool → LabState → List SessionState
earlier_with true s = s.earlier
earlier_with false s = last 16 (s.earlier ++ left_by s.now ∷ [])

-- a session begins about the board as it stands, but for the change; the stops stay
pub record Sets (edit : Edit) (old new : LabState) (answer : Answer) : Type 0 where
  pub taken : takes_edit edit old.now.board.plain ≡ true
  pub first : new.now.first ≡ shown_edited edit (shown_of old.now.board)
  pub board : shown_of new.now.board ≡ new.now.first
  pub stops : new.now.stops ≡ old.now.stops
  pub earlier : new.earlier ≡ earlier_with (belongs old) old
  pub answer_is : answer ≡ Clock (clock_of old.now.board.plain)

-- bytes without cells can't be changed, and a session needs memory, unless it belongs to the last change; nothing
-- changes
abbrev pub RefusesSet : Edit → LabState → LabState → DebugFault → Type 0
RefusesSet edit old new ClockLimit = ⊥
RefusesSet edit old new BadScan = ⊥
RefusesSet edit old new StampsFall = ⊥
RefusesSet edit old new BadCommand = ⊥
RefusesSet edit old new TooManyStops = ⊥
RefusesSet edit old new (Memory None) =
    (takes_edit edit old.now.board.plain ≡ true) × (belongs old ≡ false) × (new ≡ old)
RefusesSet edit old new (Memory (Some clock)) = ⊥
RefusesSet edit old new BeforeStart = ⊥
RefusesSet edit old new NoCell = (takes_edit edit old.now.board.plain ≡ false) × (new ≡ old)

-- back to the session before the last change; the stops stay
pub record Undoes (old new : LabState) (answer : Answer) : Type 0 where
  pub before : SessionState
  pub earlier : old.earlier ≡ new.earlier ++ before ∷ []
  pub now : new.now ≡ record old.now { first = before.first; board = before.board }
  pub answer_is : answer ≡ Clock (clock_of before.board.plain)

-- there is no earlier session
pub record HasNone (old new : LabState) (fault : DebugFault) : Type 0 where
  pub none : old.earlier ≡ []
  pub kept : new ≡ old
  pub fault_is : fault ≡ BeforeStart

abbrev pub AnswersWish : Wish → LabState → Result Answer DebugFault → LabState → Type 0
AnswersWish (Set edit) old result new = MatchResult result (Sets edit old new) (RefusesSet edit old new)
AnswersWish Undo old result new = MatchResult result (Undoes old new) (HasNone old new)

-- a line that asks for no change is answered by the probe
abbrev pub AnswersUnlessWished : Option Wish → List ℕ → LabState → Result Answer DebugFault → LabState → Type 0
AnswersUnlessWished (Some wish) line old result new = AnswersWish wish old result new
AnswersUnlessWished None line old result new =
    AnswersStopping line old.now result new.now × (new.earlier ≡ old.earlier)

abbrev pub AnswersLab : List ℕ → LabState → Result Answer DebugFault → LabState → Type 0
AnswersLab line old result new = AnswersUnlessWished (wish_of line) line old result new
