-- What a line commands.
-- To be believed: the headline rests on it.
use Rattle.std.specs.Prelude.{ℕ, ◌+◌, ◌^◌, ◌<◌, ◌≤◌, ⊤, Bool, false, ◌==◌, ◌&&◌, take, drop, position}
use Rattle.std.specs.Prelude.{nat_le, if◌then◌else◌, List, [], ◌∷◌, codes, Option, None, Some, option_map}
use Rattle.std.specs.Str.{bytes_eq}
use Rattle.debugger_meaning.specs.declared.command.Command.{Command}
use Rattle.debugger_meaning.specs.declared.command.Command.TheVariants.{Break, Byte, Sound, Halted, Go, Step, Regs}
use Rattle.debugger_meaning.specs.declared.command.Command.TheVariants.{Screen, Dump, Trail, Back, BackStep, BackStop}
use Rattle.debugger_meaning.specs.CommandWords.{words_of, hex_number, count_of}

-- the command that one word is
unfoldable pub plain_command : List ℕ → Option Command
plain_command name =
    if bytes_eq name (codes "sound") then Some Sound else (
    if bytes_eq name (codes "halted") then Some Halted else (
    if bytes_eq name (codes "step") then Some Step else (
    if bytes_eq name (codes "regs") then Some Regs else (
    if bytes_eq name (codes "screen") then Some Screen else (
    if bytes_eq name (codes "trail") then Some Trail else None)))))

abbrev pub is_colon : ℕ → Bool
is_colon b = b == 58

abbrev pub break_of : Option ℕ → Option ℕ → Option Command
break_of (Some segment) (Some offset) = Some (Break segment offset)
break_of _ _ = None

abbrev pub break_round : List ℕ → Option ℕ → Option Command
break_round place None = None
break_round place (Some colon) = break_of (hex_number 4 (take colon place)) (hex_number 4 (drop (colon + 1) place))

-- a stop at a segment and an offset, of one to four digits each, with a colon between them
unfoldable pub break_command : List ℕ → Option Command
break_command place = break_round place (position is_colon place)

abbrev pub go_command : List ℕ → Option Command
go_command count = option_map Go (count_of count)

-- back by this many clocks, one at least
abbrev pub back_within : ℕ → Option Command
back_within count = if nat_le 1 count then Some (Back count) else None

abbrev pub back_by : Option ℕ → Option Command
back_by None = None
back_by (Some count) = back_within count

-- back to a boundary, to a stop, or by a number of clocks
unfoldable pub back_command : List ℕ → Option Command
back_command way =
    if bytes_eq way (codes "step") then Some BackStep else (
    if bytes_eq way (codes "stop") then Some BackStop else back_by (count_of way))

-- the command that a word and another after it are
unfoldable pub command_with : List ℕ → List ℕ → Option Command
command_with name rest =
    if bytes_eq name (codes "break") then break_command rest else (
    if bytes_eq name (codes "go") then go_command rest else (
    if bytes_eq name (codes "back") then back_command rest else None))

abbrev pub byte_of : Option ℕ → Option ℕ → Option Command
byte_of (Some address) (Some byte) = Some (Byte address byte)
byte_of _ _ = None

-- a stop by an address of one to five digits and a byte of one or two
unfoldable pub byte_command : List ℕ → List ℕ → Option Command
byte_command address byte = byte_of (hex_number 5 address) (hex_number 2 byte)

-- a dump of 1 to 4,096 bytes, all of them below 100000h
abbrev pub dump_within : ℕ → ℕ → Option Command
dump_within first count =
    if nat_le 1 count && (nat_le count 4096 && nat_le (first + count) (2 ^ 20)) then Some (Dump first count) else None

abbrev pub dump_of : Option ℕ → Option ℕ → Option Command
dump_of (Some first) (Some count) = dump_within first count
dump_of _ _ = None

unfoldable pub dump_command : List ℕ → List ℕ → Option Command
dump_command first count = dump_of (hex_number 5 first) (count_of count)

-- the command that a word and two after it are
unfoldable pub command_with_two : List ℕ → List ℕ → List ℕ → Option Command
command_with_two name first second =
    if bytes_eq name (codes "byte") then byte_command first second else (
    if bytes_eq name (codes "dump") then dump_command first second else None)

-- the command that words are, if they are one
abbrev pub command_in : List (List ℕ) → Option Command
command_in (name ∷ []) = plain_command name
command_in (name ∷ first ∷ []) = command_with name first
command_in (name ∷ first ∷ second ∷ []) = command_with_two name first second
command_in _ = None

unfoldable pub command_of : List ℕ → Option Command
command_of line = command_in (words_of line)

-- whether words are the one word `quit`
abbrev pub is_quit_in : List (List ℕ) → Bool
is_quit_in (name ∷ []) = bytes_eq name (codes "quit")
is_quit_in _ = false

unfoldable pub is_quit : List ℕ → Bool
is_quit line = is_quit_in (words_of line)

-- the addresses that a command names are below 100000h, and it goes back by a clock at least
abbrev pub IsWithin : Option Command → Type 0
IsWithin (Some (Byte address byte)) = address < 2 ^ 20
IsWithin (Some (Dump first count)) = (1 ≤ count) × ((count ≤ 4096) × (first + count ≤ 2 ^ 20))
IsWithin (Some (Back count)) = 1 ≤ count
IsWithin _ = ⊤
