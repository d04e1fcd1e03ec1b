-- How sessions begin and answer lines for a caller in C.
-- To be believed by callers of this crate: the headline does not rest on it.
use Rattle.std.specs.Prelude.{ℕ, ◌≡◌, ◌⊎◌, Bool, true, false, List, [], length}
use Rattle.std.specs.Prelude.{Option, None, Some, unwrap_or, Result, Ok, Err, MatchOption}
use Rattle.board_plain.specs.Board.{BoardState}
use Rattle.debugger_meaning.specs.declared.answer.Answer.{Answer}
use Rattle.debugger_meaning.specs.declared.fault.DebugFault.{DebugFault}
use Rattle.debugger_meaning.specs.Answers.{fault_number}
use Rattle.debugger_meaning.specs.Stands.{session_about}
use Rattle.probe.specs.Lab.{lab_about}
use Rattle.pcboard_texts.specs.declared.fault.Fault.{Fault}
use Rattle.pcboard_texts.specs.Answer.{IsBoardOf, IsTrueRefusal}
use Rattle.pcboard_texts.specs.RunFaults.{line_of, number_of}
use Rattle.pcboard_texts.specs.Refusal.{want_of_session}
use Rattle.pcboard_texts.specs.Transcript.{AnswersCommand, AnswersTyped, reply_text}
use Rattle.pcprobe_program.specs.Probing.{AnswersProbing}
use Rattle.zebludor_program.specs.Buffers.{buffer_after, status_for}
use Rattle.zebludor_program.specs.declared.answerer.Answerer.{Answerer}
use Rattle.zebludor_program.specs.declared.answerer.Answerer.TheVariants.{Probe, Debugger}
use Rattle.zebludor_program.specs.declared.session.OpenSession.{OpenSession}
use Rattle.zebludor_program.specs.declared.calls.Begun.{Begun}
use Rattle.zebludor_program.specs.declared.calls.Told.{Told}

-- a session about a board: as those of `pcprobe` begin, if it probes, else as those of `pcboard debug` do
abbrev pub begins_as : Bool → BoardState → Answerer
begins_as true board = Probe (lab_about board)
begins_as false board = Debugger (session_about board)

-- how a session answers a line: as those of `pcprobe` do, or as those of `pcboard debug`
abbrev pub AnswersAs : List ℕ → Answerer → Result Answer DebugFault → Answerer → Type 0
AnswersAs line (Probe old) reply (Probe new) = AnswersTyped AnswersProbing line old reply new
AnswersAs line (Probe old) reply (Debugger new) = ⊥
AnswersAs line (Debugger old) reply (Probe new) = ⊥
AnswersAs line (Debugger old) reply (Debugger new) = AnswersTyped AnswersCommand line old reply new

-- a session that begins about a board has told nothing yet
abbrev pub IsAbout : Bool → BoardState → OpenSession → Type 0
IsAbout probes board session = (session.answerer ≡ begins_as probes board) × (reply_text session.reply ≡ [])

-- the bytes and the run file's text give a board, and this session begins about it
pub record BeginsSession (probes hex : Bool) (bytes run : List ℕ) (session : OpenSession) : Type 0 where
  pub board : BoardState
  pub is_board : IsBoardOf hex bytes run board
  pub about : IsAbout probes board session

-- a refusal is true of the texts, or there is no memory for the session
abbrev pub IsRefusal : Bool → List ℕ → List ℕ → Fault → Type 0
IsRefusal hex bytes run fault = IsTrueRefusal hex bytes run fault ⊎ (fault ≡ want_of_session)

-- a session that has begun is in the caller's hands
abbrev pub IsBegun : OpenSession → Option OpenSession → Begun → Type 0
IsBegun one session begun = (session ≡ Some one) × (begun ≡ record { line = 0; fault = 0 })

-- a refusal: the fault's number and its line, 0 if it has none
abbrev pub refusal_told : Fault → Begun
refusal_told fault = record { line = unwrap_or (line_of fault) 0; fault = number_of fault }

-- a refusal is told, and there is no session
abbrev pub IsRefused : Fault → Option OpenSession → Begun → Type 0
IsRefused fault session begun = (session ≡ None) × (begun ≡ refusal_told fault)

-- a session has begun, or is refused
abbrev pub Begins : Bool → Bool → List ℕ → List ℕ → Option OpenSession → Begun → Type 0
Begins probes hex bytes run session begun =
    ((one : OpenSession) × BeginsSession probes hex bytes run one × IsBegun one session begun)
    ⊎ ((fault : Fault) × IsRefusal hex bytes run fault × IsRefused fault session begun)

-- the number of the fault with which a line is refused, or 0
abbrev pub fault_of : Result Answer DebugFault → ℕ
fault_of (Ok answer) = 0
fault_of (Err fault) = fault_number fault

-- a text for a buffer with so much room: its length, and status 0, or 2 if it is longer
abbrev pub text_told : List ℕ → ℕ → ℕ → Told
text_told text fault room = record { length = length text; status = status_for text room; fault = fault }

-- there is no memory to write a text: status 3
abbrev pub no_memory_told : ℕ → Told
no_memory_told fault = record { length = 0; status = 3; fault = fault }

-- there is no session: status 1
abbrev pub none_told : Told
none_told = record { length = 0; status = 1; fault = 0 }

-- the text of a reply is told and put into the buffer, or there is no memory to write it
abbrev pub TellsReply : Result Answer DebugFault → List ℕ → List ℕ → Told → Type 0
TellsReply reply old new told =
    ((told ≡ text_told (reply_text reply) (fault_of reply) (length old)) × (new ≡ buffer_after (reply_text reply) old))
    ⊎ ((told ≡ no_memory_told (fault_of reply)) × (new ≡ old))

-- a session answers a line: as its program does, and its reply is kept and told
pub record AnswersOne (line : List ℕ) (old : OpenSession)
    (new : Option OpenSession) (before after : List ℕ) (told : Told) : Type 0 where
  pub session : OpenSession
  pub kept : new ≡ Some session
  pub answers : AnswersAs line old.answerer session.reply session.answerer
  pub tells : TellsReply session.reply before after told

-- if there is no session, that is told, and nothing changes
abbrev pub TellsNone : Option OpenSession → List ℕ → List ℕ → Told → Type 0
TellsNone new before after told = (new ≡ None) × (after ≡ before) × (told ≡ none_told)

-- what a line is answered, if there is a session
abbrev pub Answers : List ℕ → Option OpenSession → Option OpenSession → List ℕ → List ℕ → Told → Type 0
Answers line old new before after told =
    MatchOption old (TellsNone new before after told) (λ session. AnswersOne line session new before after told)

-- a session tells its last reply again, and stays as it is
abbrev pub RepeatsOne : OpenSession → Option OpenSession → List ℕ → List ℕ → Told → Type 0
RepeatsOne session new before after told = (new ≡ Some session) × TellsReply session.reply before after told

-- the last reply again, if there is a session
abbrev pub Repeats : Option OpenSession → Option OpenSession → List ℕ → List ℕ → Told → Type 0
Repeats old new before after told =
    MatchOption old (TellsNone new before after told) (λ session. RepeatsOne session new before after told)
