-- What a change of a board changes, and what it leaves.
-- Laws: claims above the definitions, each proved as the contract of a function.
use Rattle.std.specs.Prelude.{ℕ, ◌≡◌, ◌≢◌, ◌<◌, ◌^◌, true, length}
use Rattle.board_types.specs.declared.regs.Regs.{Regs}
use Rattle.wiring.specs.Cells.{has_cell}
use Rattle.wiring.specs.Ports.{is_writable}
use Rattle.board_plain.specs.BoardLaws.{WiresHold}
use Rattle.board_plain.specs.declared.change.Change.{Change}
use Rattle.board_plain.specs.Changes.{changed, run_on, with_cell_byte, with_regs}
use Rattle.board_plain.specs.Plain.{Plain, after_clock, byte_of, clock_of, lost_codes, registers_of}
use Rattle.board_plain.specs.Plain.{speaker_level, state_of}

-- a board with other registers shows these, and else what it showed; bytes, screen and chips are the same
pub record ShowsRegs (s : Plain) (regs : Regs) : Type 0 where
  pub registers : registers_of (with_regs s regs) ≡ regs
  pub state : state_of (with_regs s regs) ≡ state_of s
  pub chips : (with_regs s regs).chips ≡ s.chips
  pub busy : (with_regs s regs).busy ≡ s.busy
  pub keys : (with_regs s regs).keys ≡ s.keys

abbrev pub RegistersAreShown : Type 0
RegistersAreShown = (s : Plain) (regs : Regs) → ShowsRegs s regs

-- a processor that runs on has its registers
abbrev pub RunningOnKeeps : Type 0
RunningOnKeeps = (s : Plain) → registers_of (run_on s) ≡ registers_of s

-- memory and text memory are whole
pub record IsWhole (s : Plain) : Type 0 where
  pub cells : length s.chips.memory.cells ≡ 1048576
  pub text : length s.chips.mda.bytes ≡ 4096
  pub ram : s.chips.memory.ram_size < 0xB0000

-- a board with another byte in a cell shows this byte there, and each other byte as before; the processor, the clock,
-- the speaker and the lost codes are the same
pub record ShowsByte (s : Plain) (address byte : ℕ) : Type 0 where
  pub byte_there : byte_of (with_cell_byte s address byte) address ≡ byte
  pub others : (other : ℕ) → other ≢ address → byte_of (with_cell_byte s address byte) other ≡ byte_of s other
  pub cpu : (with_cell_byte s address byte).cpu ≡ s.cpu
  pub clock : clock_of (with_cell_byte s address byte) ≡ clock_of s
  pub speaker : speaker_level (with_cell_byte s address byte) ≡ speaker_level s
  pub lost : lost_codes (with_cell_byte s address byte) ≡ lost_codes s

abbrev pub ByteIsShown : Type 0
ByteIsShown =
    (s : Plain) (address byte : ℕ) → IsWhole s → address < 2 ^ 20 → has_cell s.chips address ≡ true
    → ShowsByte s address byte

-- a byte that stands there already changes nothing at all
abbrev pub SameByteStays : Type 0
SameByteStays =
    (s : Plain) (address : ℕ) → IsWhole s → address < 2 ^ 20 → has_cell s.chips address ≡ true
    → with_cell_byte s address (byte_of s address) ≡ s

-- the wires of a board still hold, and the same addresses take the processor's bytes
pub record StaysWired (s t : Plain) : Type 0 where
  pub wires : WiresHold s.chips → WiresHold t.chips
  pub takes : (address : ℕ) → is_writable t.chips address ≡ is_writable s.chips address

-- clocks and changes leave boards wired: so what holds of each board from power-on on holds of a changed one, too
abbrev pub ClocksLeaveWired : Type 0
ClocksLeaveWired = (s : Plain) → StaysWired s (after_clock s)

abbrev pub ChangesLeaveWired : Type 0
ChangesLeaveWired = (change : Change) (s : Plain) → StaysWired s (changed change s)
