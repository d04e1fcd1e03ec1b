-- What a session may change of a board: a register, or a byte in a cell of RAM, text memory or ROM.
-- To be believed by callers of this crate: the headline does not rest on it.
use Rattle.std.specs.Prelude.{ℕ, ◌<◌, ◌^◌, Bool, true, false, None}
use Rattle.board_types.specs.declared.regs.Regs.{Regs}
use Rattle.board_types.specs.declared.state.State.TheVariants.{Running}
use Rattle.execute_machine.specs.Flags.{flags_of, popped_flags}
use Rattle.execute_machine.specs.Registers.{register_file}
use Rattle.wiring.specs.Cells.{has_cell, with_cell}
use Rattle.board_plain.specs.declared.change.Change.{Change}
use Rattle.board_plain.specs.declared.change.Change.TheVariants as changes
use Rattle.board_plain.specs.declared.change.Register.{Register}
use Rattle.board_plain.specs.declared.change.Register.TheVariants.{Ax, Bx, Cx, Dx, Sp, Bp, Si, Di}
use Rattle.board_plain.specs.declared.change.Register.TheVariants.{Cs, Ds, Es, Ss, Ip, Fl}
use Rattle.board_plain.specs.Plain.{Plain, registers_of}

-- the registers with another word in one of them; of a flags word the nine flags are taken
abbrev pub with_register : Regs → Register → ℕ → Regs
with_register r Ax word = record r { ax = word }
with_register r Bx word = record r { bx = word }
with_register r Cx word = record r { cx = word }
with_register r Dx word = record r { dx = word }
with_register r Sp word = record r { sp = word }
with_register r Bp word = record r { bp = word }
with_register r Si word = record r { si = word }
with_register r Di word = record r { di = word }
with_register r Cs word = record r { cs = word }
with_register r Ds word = record r { ds = word }
with_register r Es word = record r { es = word }
with_register r Ss word = record r { ss = word }
with_register r Ip word = record r { ip = word }
with_register r Fl word = record r { flags = flags_of (popped_flags word) }

-- CS and IP say where the processor runs on
abbrev pub says_where : Register → Bool
says_where Ax = false
says_where Bx = false
says_where Cx = false
says_where Dx = false
says_where Sp = false
says_where Bp = false
says_where Si = false
says_where Di = false
says_where Cs = true
says_where Ds = false
says_where Es = false
says_where Ss = false
says_where Ip = true
says_where Fl = false

-- the board with these registers; the processor's state, what it keeps off and what is due, and all else stay
unfoldable pub with_regs : Plain → Regs → Plain
with_regs s regs = record s { cpu = record s.cpu { registers = register_file regs } }

-- the processor runs on from CS:IP: a halt, a jam and a repeat in progress end
unfoldable pub run_on : Plain → Plain
run_on s = record s { cpu = record s.cpu { state = Running; repeat = None } }

abbrev pub run_on_if : Bool → Plain → Plain
run_on_if true s = run_on s
run_on_if false s = s

-- the board with another byte in one cell
unfoldable pub with_cell_byte : Plain → ℕ → ℕ → Plain
with_cell_byte s address byte = record s { chips = with_cell s.chips address byte }

-- what a change makes of a board
abbrev pub changed : Change → Plain → Plain
changed (changes.Register register word) s =
    run_on_if (says_where register) (with_regs s (with_register (registers_of s) register word))
changed (changes.Byte address byte) s = with_cell_byte s address byte

-- a board takes each change of a register, and that of a byte if its address has a cell
unfoldable pub takes : Change → Plain → Bool
takes (changes.Register register word) s = true
takes (changes.Byte address byte) s = has_cell s.chips address

-- a change of a byte has an address below 100000h
abbrev pub HasPlace : Change → Type 0
HasPlace (changes.Register register word) = Unit {0}
HasPlace (changes.Byte address byte) = address < 2 ^ 20
