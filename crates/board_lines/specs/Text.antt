-- The report: the clock, the registers, the processor's state, lost key codes, the speaker's changes and the
-- screen, as text.
-- To be believed: the headline rests on it.
use Rattle.std.specs.Prelude.{ℕ, if◌then◌else◌, List, ◌++◌, codes, length}
use Rattle.std.specs.List.{flat_map}
use Rattle.std.specs.Fmt.{decimal}
use Rattle.board_types.specs.Digits.{hex_word}
use Rattle.board_types.specs.LineLevel.{is_high}
use Rattle.board_types.specs.declared.regs.Regs.{Regs}
use Rattle.board_types.specs.FlagsWord.{flags_word}
use Rattle.board_types.specs.declared.state.State.{State}
use Rattle.board_types.specs.declared.state.State.TheVariants.{Running, Halted, Jammed}
use Rattle.board_plain.specs.declared.speaker.SpeakerChange.{SpeakerChange}
use Rattle.board_plain.specs.Plain.{Plain, clock_of, registers_of, state_of, lost_codes, screen_of}

unfoldable pub general_line : Regs → List ℕ
general_line r =
    codes "AX=" ++ (hex_word r.ax ++ (codes " BX=" ++ (hex_word r.bx
    ++ (codes " CX=" ++ (hex_word r.cx ++ (codes " DX=" ++ (hex_word r.dx
    ++ (codes " SP=" ++ (hex_word r.sp ++ (codes " BP=" ++ (hex_word r.bp
    ++ (codes " SI=" ++ (hex_word r.si ++ (codes " DI=" ++ (hex_word r.di
    ++ codes "\n")))))))))))))))

unfoldable pub segment_line : Regs → List ℕ
segment_line r =
    codes "CS=" ++ (hex_word r.cs ++ (codes " DS=" ++ (hex_word r.ds
    ++ (codes " ES=" ++ (hex_word r.es ++ (codes " SS=" ++ (hex_word r.ss
    ++ (codes " IP=" ++ (hex_word r.ip ++ (codes " FL=" ++ (hex_word (flags_word r.flags)
    ++ codes "\n")))))))))))

-- the two lines of registers
unfoldable pub register_lines : Regs → List ℕ
register_lines r = general_line r ++ segment_line r

abbrev pub state_name : State → List ℕ
state_name Running = codes "running"
state_name Halted = codes "halted"
state_name Jammed = codes "jammed"

unfoldable pub clock_line : ℕ → List ℕ
clock_line clock = codes "clock " ++ (decimal clock ++ codes "\n")

unfoldable pub state_lines : State → ℕ → ℕ → List ℕ
state_lines state lost changes =
    codes "state " ++ (state_name state
    ++ (codes "\nlost " ++ (decimal lost
    ++ (codes "\nsound " ++ (decimal changes ++ codes "\n")))))

-- a change of the speaker's level: the clock, and 1 for high or 0 for low
unfoldable pub change_line : SpeakerChange → List ℕ
change_line change =
    decimal change.clock ++ (codes " " ++ (decimal (if is_high change.level then 1 else 0) ++ codes "\n"))

-- the whole report
unfoldable pub report_text : Plain → List SpeakerChange → List ℕ
report_text s changes =
    clock_line (clock_of s)
    ++ (register_lines (registers_of s)
    ++ (state_lines (state_of s) (lost_codes s) (length changes)
    ++ (flat_map change_line changes
    ++ (codes "screen\n" ++ screen_of s))))
