-- What a session prints on an input: the replies to its lines.
-- To be believed: the headline rests on it.
use Rattle.std.specs.Prelude.{ℕ, ◌≡◌, ◌==◌, ◌&&◌, Bool, if◌then◌else◌, List, [], ◌∷◌}
use Rattle.std.specs.Prelude.{◌++◌, codes, Option, None, Some, Result, Ok, Err, MatchBool}
use Rattle.std.specs.Fmt.{decimal}
use Rattle.std.specs.Str.{is_utf8}
use Rattle.board_types.specs.TextLines.{onto_first}
use Rattle.debugger_meaning.specs.declared.answer.Answer.{Answer}
use Rattle.debugger_meaning.specs.declared.fault.DebugFault.{DebugFault}
use Rattle.debugger_meaning.specs.declared.fault.DebugFault.TheVariants.{BadCommand}
use Rattle.debugger_meaning.specs.Answers.{answer_text, fault_clock, fault_title}
use Rattle.debugger_meaning.specs.Commands.{command_of, is_quit}
use Rattle.debugger_meaning.specs.Session.{AnswersLine}
use Rattle.board_plain.specs.Board.{BoardState}
use Rattle.debugger_meaning.specs.Stands.{SessionState, session_about}

-- The lines of an input. A line feed ends a line and isn't part of it; what follows the last line feed is a line only
-- if it isn't empty.
abbrev pub input_lines : List ℕ → List (List ℕ)
input_lines [] = []
input_lines (b ∷ bs) = if b == 10 then [] ∷ input_lines bs else onto_first b (input_lines bs)

-- how the sessions of a program, in states of this type, begin about a board, and how they answer a line of text: the
-- line, the session before it, the answer or refusal, and the session after it
pub record Answering (S : Type 0) : Type 1 where
  pub begins : BoardState → S
  pub answers : List ℕ → S → Result Answer DebugFault → S → Type 0

-- how the debugger's sessions answer: by the command that the line is
abbrev pub AnswersCommand : Answering SessionState
AnswersCommand = record {
  begins = session_about;
  answers = λ line old result new. AnswersLine (command_of line) old result new;
}

-- how a session answers a line that is typed: by its text, and a line that isn't UTF-8 is no command
abbrev pub AnswersTyped : {S : Type 0} → Answering S → List ℕ → S → Result Answer DebugFault → S → Type 0
AnswersTyped By line old result new =
    MatchBool (is_utf8 line) (By.answers line old result new) ((result ≡ Err BadCommand) × (new ≡ old))

-- whether the line is the word `quit`
abbrev pub ends_session : List ℕ → Bool
ends_session line = is_utf8 line && is_quit line

-- the end of a refusal's line: ` clock 96` if it names a clock
abbrev pub clock_suffix : Option ℕ → List ℕ
clock_suffix None = codes "\n"
clock_suffix (Some clock) = codes " clock " ++ (decimal clock ++ codes "\n")

-- the line of a refusal: `fault 51 BadCommand`
abbrev pub refusal_text : DebugFault → List ℕ
refusal_text fault =
    codes "fault " ++ (decimal (fault_title fault).0 ++ (codes " "
    ++ ((fault_title fault).1 ++ clock_suffix (fault_clock fault))))

-- what is printed of an answer or a refusal
abbrev pub reply_text : Result Answer DebugFault → List ℕ
reply_text (Ok answer) = answer_text answer
reply_text (Err fault) = refusal_text fault

-- A session replies to a line; after the reply, the text has what follows from the session's state then.
pub record Replies {S : Type 0} (By : Answering S) (line : List ℕ) (old : S) (Follows : S → List ℕ → Type 0)
    (text : List ℕ) : Type 0 where
  pub reply : Result Answer DebugFault
  pub new : S
  pub rest : List ℕ
  pub answers : AnswersTyped By line old reply new
  pub follows : Follows new rest
  pub is_text : text ≡ reply_text reply ++ rest

-- what a session prints on these lines: its replies, up to the last line, or to the one before the first `quit`
abbrev pub Transcript : {S : Type 0} → Answering S → S → List (List ℕ) → List ℕ → Type 0
Transcript By session [] text = text ≡ []
Transcript By session (line ∷ lines) text =
    MatchBool (ends_session line) (text ≡ [])
    (Replies By line session (λ next rest. Transcript By next lines rest) text)
