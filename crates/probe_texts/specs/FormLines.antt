-- What the instructions in memory do, as text: where each leads, how it moves SP, which registers and flags it may
-- change, what it reaches, and its clocks by both tables.
-- To be believed by callers of this crate: the headline does not rest on it.
use Rattle.std.specs.Prelude.{ℕ, ◌-◌, ◌%◌, ◌==◌, Bool, true, false, nat_le, if◌then◌else◌, List, [], ◌∷◌, ◌++◌}
use Rattle.std.specs.Prelude.{codes, length, Option, None, Some}
use Rattle.std.specs.Fmt.{decimal}
use Rattle.std.specs.List.{flat_map}
use Rattle.board_types.specs.Address.{offset_after, physical}
use Rattle.board_types.specs.Digits.{hex_byte_text}
use Rattle.board_types.specs.Iterate.{gathered}
use Rattle.board_types.specs.declared.choice.ClockTable.TheVariants.{C1, C2}
use Rattle.board_types.specs.declared.regs.Flags.{Flags}
use Rattle.decode.specs.declared.decoding.Decoding.{Decoding as Decoded}
use Rattle.decode.specs.declared.decoding.Decoding.TheVariants.{Found, NoRow}
use Rattle.isa.specs.declared.form.Instr.{Instr}
use Rattle.isa.specs.declared.register.SegmentRegister.TheVariants.{Ds, Es, Ss}
use Rattle.isa.specs.declared.register.WordRegister.TheVariants.{Ax, Bx, Cx, Dx, Sp, Bp, Si, Di}
use Rattle.forms.specs.declared.accesses.Accesses.{Accesses}
use Rattle.forms.specs.declared.accesses.PortAccess.{PortAccess}
use Rattle.forms.specs.declared.accesses.PortName.{PortName}
use Rattle.forms.specs.declared.accesses.PortName.TheVariants as ports
use Rattle.forms.specs.declared.flow.Flow.{Flow}
use Rattle.forms.specs.declared.flow.Flow.TheVariants as flows
use Rattle.forms.specs.declared.flow.Target.{Target}
use Rattle.forms.specs.declared.flow.Target.TheVariants as targets
use Rattle.forms.specs.declared.stack.StackMove.{StackMove}
use Rattle.forms.specs.declared.stack.StackMove.TheVariants as moves
use Rattle.forms.specs.declared.step_clocks.StepClocks.{StepClocks}
use Rattle.forms.specs.declared.step_clocks.StepClocks.TheVariants as costs
use Rattle.forms.specs.Changed.{alters_of, sets_segment, sets_word}
use Rattle.forms.specs.Flow.{flow_of, target_of}
use Rattle.forms.specs.Reached.{accesses_of, port_of}
use Rattle.forms.specs.StackMove.{move_of}
use Rattle.forms.specs.StepClocks.{clocks_told}
use Rattle.probe_texts.specs.declared.inquiry.Lines.{Lines}
use Rattle.probe_texts.specs.declared.inquiry.Lines.TheVariants.{Texts, Forms}
use Rattle.probe_texts.specs.Listing.{bytes_listed, offset_listed_next, place_text, size_listed, stands_at, text_listed}

abbrev pub flow_word : Flow → List ℕ
flow_word flows.Next = codes "next"
flow_word flows.Jump = codes "jump"
flow_word flows.Branch = codes "branch"
flow_word flows.Call = codes "call"
flow_word flows.Return = codes "return"
flow_word flows.Enter = codes "enter"
flow_word flows.MayEnter = codes "may-enter"
flow_word flows.Halt = codes "halt"
flow_word flows.Repeat = codes "repeat"

-- where an instruction leads, if the next one stands at this place: another place, or what has it
abbrev pub target_text : Target → ℕ → ℕ → List ℕ
target_text targets.Next segment next = place_text segment next
target_text (targets.Relative distance) segment next = place_text segment (offset_after next distance)
target_text (targets.Far to offset) segment next = place_text to offset
target_text targets.Register segment next = codes "register"
target_text targets.Memory segment next = codes "memory"
target_text targets.Stack segment next = codes "stack"
target_text (targets.Vector kind) segment next = codes "vector " ++ hex_byte_text kind

-- bytes by which SP moves, down below 0
abbrev pub signed_text : ℕ → List ℕ
signed_text bytes = if nat_le bytes 32767 then decimal bytes else codes "-" ++ decimal (65536 - bytes)

abbrev pub move_text : StackMove → List ℕ
move_text (moves.By bytes) = signed_text bytes
move_text (moves.Or bytes) = signed_text bytes ++ codes "/0"
move_text moves.Loads = codes "loads"

-- a name after others, if it is to be there, with a comma between them
unfoldable pub with_name : List ℕ → Bool → List ℕ → List ℕ
with_name text true name = text ++ ((if length text == 0 then [] else codes ",") ++ name)
with_name text false name = text

abbrev pub names_after : List ℕ → List (Bool × List ℕ) → List ℕ
names_after text [] = text
names_after text (name ∷ names) = names_after (with_name text name.0 name.1) names

-- a word if nothing stands there
abbrev pub or_word : List ℕ → List ℕ → List ℕ
or_word text word = if length text == 0 then word else text

-- the registers that an instruction may change, in the order of `regs`; where it leads tells CS and IP
unfoldable pub sets_text : Instr → List ℕ
sets_text i =
    names_after [] (
    (sets_word i Ax, codes "AX") ∷ (sets_word i Bx, codes "BX") ∷ (sets_word i Cx, codes "CX")
    ∷ (sets_word i Dx, codes "DX") ∷ (sets_word i Sp, codes "SP") ∷ (sets_word i Bp, codes "BP")
    ∷ (sets_word i Si, codes "SI") ∷ (sets_word i Di, codes "DI") ∷ (sets_segment i Ds, codes "DS")
    ∷ (sets_segment i Es, codes "ES") ∷ (sets_segment i Ss, codes "SS") ∷ [])

abbrev pub letter : Bool → List ℕ → List ℕ
letter true name = name
letter false name = []

-- the flags that an instruction may change
unfoldable pub alters_text : Flags → List ℕ
alters_text f =
    letter f.overflow (codes "O") ++ (letter f.direction (codes "D") ++ (letter f.interrupt_enable (codes "I")
    ++ (letter f.trap (codes "T") ++ (letter f.sign (codes "S") ++ (letter f.zero (codes "Z")
    ++ (letter f.auxiliary_carry (codes "A") ++ (letter f.parity (codes "P") ++ letter f.carry (codes "C"))))))))

-- a number if an interrupt is entered, and one if it isn't, if they differ
abbrev pub either_text : ℕ → ℕ → List ℕ
either_text entered not = if entered == not then decimal not else decimal entered ++ (codes "/" ++ decimal not)

abbrev pub port_name_text : PortName → List ℕ
port_name_text ports.InDx = codes "DX"
port_name_text (ports.Number number) = hex_byte_text (number % 256)

-- the direction, the port and how many bytes: `out,40,1`, `in,DX,2`
abbrev pub port_text : Option PortAccess → List ℕ
port_text None = codes "none"
port_text (Some port) =
    (if port.is_read then codes "in," else codes "out,")
    ++ (port_name_text port.name ++ (if port.is_word then codes ",2" else codes ",1"))

-- clocks: always so many; if a branch is taken or an interrupt entered, and if not; more by CL; of a repeat the first
-- and each element
abbrev pub clocks_text : StepClocks → List ℕ
clocks_text (costs.Always clocks) = decimal clocks
clocks_text (costs.Either taken not) = decimal taken ++ (codes "/" ++ decimal not)
clocks_text (costs.Counted clocks) = decimal clocks ++ codes "+4cl"
clocks_text (costs.Repeated once each) = decimal once ++ (codes "+" ++ (decimal each ++ codes "n"))

-- where an instruction leads, and how it moves SP
unfoldable pub leads_text : Instr → ℕ → ℕ → List ℕ
leads_text i segment next =
    codes " does " ++ (flow_word (flow_of i) ++ (codes " to " ++ (target_text (target_of i) segment next
    ++ (codes " sp " ++ move_text (move_of i)))))

-- what it may change
unfoldable pub changes_text : Instr → List ℕ
changes_text i =
    codes " sets " ++ (or_word (sets_text i) (codes "none")
    ++ (codes " alters " ++ or_word (alters_text (alters_of i)) (codes "-")))

-- what it reaches: bytes that are read, and that are written, by one step, or for one element of a repeat; a port; and
-- its clocks by each table
unfoldable pub reaches_text : Instr → List ℕ
reaches_text i =
    let entered : Accesses = accesses_of i true in
    let not : Accesses = accesses_of i false in
    codes " mem " ++ (either_text entered.read not.read
    ++ (codes " " ++ (either_text entered.written not.written
    ++ (codes " ports " ++ (port_text (port_of i)
    ++ (codes " clocks " ++ (clocks_text (clocks_told i C1) ++ (codes " " ++ (clocks_text (clocks_told i C2)
    ++ codes "\n")))))))))

-- a byte that begins no instruction does nothing
abbrev pub done_text : Decoded → ℕ → ℕ → List ℕ
done_text (Found i size) segment offset =
    leads_text i segment (offset_after offset size) ++ (changes_text i ++ reaches_text i)
done_text NoRow segment offset =
    codes " does nothing to none sp 0 sets none alters - mem 0 0 ports none clocks 0 0\n"

-- what `list` says of what stands at a place, or what `forms` says; the listing shows the first byte if it begins no
-- instruction
abbrev pub said_by : Lines → Decoded → ℕ → ℕ → ℕ → List ℕ
said_by Texts stands segment offset first = text_listed stands offset first
said_by Forms stands segment offset first = done_text stands segment offset

-- a line: the place, the bytes, and what is said of them, as `F000:0013 B008 MOV AL,008h`, or `F000:0013 B008 does next
-- to F000:0015 sp 0 sets AX alters - mem 0 0 ports none clocks 4 4`
abbrev pub line_by : Lines → (ℕ → ℕ) → ℕ → ℕ → Decoded → List ℕ
line_by lines bytes segment offset stands =
    place_text segment offset
    ++ (codes " " ++ (flat_map hex_byte_text (bytes_listed bytes segment offset (size_listed stands))
    ++ said_by lines stands segment offset (bytes (physical segment offset))))

unfoldable pub line_at : Lines → (ℕ → ℕ) → ℕ → ℕ → List ℕ
line_at lines bytes segment offset = line_by lines bytes segment offset (stands_at bytes segment offset)

-- `count` lines from a place on
abbrev pub lines_text : Lines → (ℕ → ℕ) → ℕ → ℕ → ℕ → List ℕ
lines_text lines bytes segment offset count =
    gathered (offset_listed_next bytes segment) (line_at lines bytes segment) count offset
