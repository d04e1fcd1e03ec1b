-- The definitions of a session's input, of what is printed on it, and of want of memory, at lines that are written out.
use Rattle.std.proofs.Common.{◌≡◌, [], ◌∷◌, codes, true, false, None, Some, Err, refl}
use Rattle.std.specs.Prelude.{⊤}
use Rattle.std.specs.Fmt.{digits}
use Rattle.std.specs.Str.{chars, is_utf8}
use lib.Utf8.{encode}
use Rattle.debugger_meaning.specs.declared.command.Command.TheVariants.{Go}
use Rattle.debugger_meaning.specs.declared.fault.DebugFault.TheVariants.{BadCommand, Memory}
use Rattle.debugger_meaning.specs.Commands.{command_of, command_with, is_quit, plain_command}
use Rattle.debugger_meaning.specs.Stands.{SessionState}
use Rattle.debugger_meaning.specs.CommandWords.{count_of, words_of}
use Rattle.pcboard_texts.specs.RunFaults.{fault_text}
use Rattle.pcboard_texts.specs.Refusal.{want_of_board, want_of_file, want_of_run_file, want_of_session}
use Rattle.pcboard_texts.specs.Transcript.{AnswersCommand, Transcript, ends_session, input_lines, refusal_text}

-- what a row unfolds
unfoldable on_lines : ⊤
unfolding chars digits encode is_utf8 command_of command_with count_of is_quit plain_command words_of
on_lines = tt

-- a line feed ends a line, and what follows the last one is a line if it isn't empty
ended : input_lines (codes "go 1\n\nregs\n") ≡ codes "go 1" ∷ [] ∷ codes "regs" ∷ []
ended = refl

unended : input_lines (codes "regs\n quit") ≡ codes "regs" ∷ codes " quit" ∷ []
unended = refl

-- the word `quit` alone ends a session, spaces or not
quits : ends_session (codes "  quit ") ≡ true
unfolding on_lines
quits = refl

goes_on : ends_session (codes "quit x") ≡ false
unfolding on_lines
goes_on = refl

-- commands, one with a carriage return after it, and bytes that aren't UTF-8
run : command_of (codes " go  100") ≡ Some (Go 100)
unfolding on_lines
run = refl

returned : command_of (codes "regs\r") ≡ None
unfolding on_lines
returned = refl

bytes : is_utf8 (255 ∷ codes "regs") ≡ false
unfolding on_lines
bytes = refl

-- the lines of refusals
refused : refusal_text BadCommand ≡ codes "fault 51 BadCommand\n"
unfolding on_lines
refused = refl

refused_there : refusal_text (Memory (Some 96)) ≡ codes "fault 53 Memory clock 96\n"
unfolding on_lines
refused_there = refl

-- the lines for want of memory
source_wanted : fault_text (want_of_file false) ≡ codes "fault 13 Memory\n"
unfolding on_lines fault_text
source_wanted = refl

hex_wanted : fault_text (want_of_file true) ≡ codes "fault 27 Memory\n"
unfolding on_lines fault_text
hex_wanted = refl

run_file_wanted : fault_text want_of_run_file ≡ codes "fault 37 Memory\n"
unfolding on_lines fault_text
run_file_wanted = refl

board_wanted : fault_text want_of_board ≡ codes "fault 41 Memory\n"
unfolding on_lines fault_text
board_wanted = refl

session_wanted : fault_text want_of_session ≡ codes "fault 53 Memory\n"
unfolding on_lines fault_text
session_wanted = refl

-- what a session prints on a blank line, `quit` and a line after it, wherever the session stands
blank : (session : SessionState) → Transcript AnswersCommand session (input_lines (codes "\nquit\nregs\n")) (codes "fault 51 BadCommand\n")
unfolding on_lines
blank session = record { reply = Err BadCommand; new = session; rest = []; answers = (refl, refl); follows = refl; is_text = refl }
