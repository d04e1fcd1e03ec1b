-- The trail as text.
-- To be believed: the headline rests on it.
use Rattle.std.specs.Prelude.{ℕ, List, ◌++◌, codes}
use Rattle.std.specs.List.{flat_map}
use Rattle.std.specs.Fmt.{decimal}
use Rattle.board_plain.specs.declared.trail.TrailEntry.{TrailEntry}
use Rattle.board_plain.specs.declared.trail.TrailEvent.{TrailEvent}
use Rattle.board_plain.specs.declared.trail.TrailEvent.TheVariants.{Instruction, Entry}
use Rattle.board_types.specs.Digits.{hex_byte_text, hex_word}
use Rattle.disassembler.specs.Text.{instr_text}

-- an instruction's bytes and its text, or the type of an interrupt that was entered
abbrev pub event_text : TrailEvent → ℕ → List ℕ
event_text (Instruction instr bytes) ip = flat_map hex_byte_text bytes.items ++ (codes " " ++ instr_text instr ip)
event_text (Entry kind) ip = codes "entry " ++ hex_byte_text kind

-- the line of an entry: `15 F000:0000 B800B0 MOV AX,0B000h`, or `96 F000:0016 entry 08`
unfoldable pub entry_line : TrailEntry → List ℕ
entry_line e =
    decimal e.clock ++ (codes " " ++ (hex_word e.cs ++ (codes ":"
    ++ (hex_word e.ip ++ (codes " " ++ (event_text e.event e.ip ++ codes "\n"))))))
