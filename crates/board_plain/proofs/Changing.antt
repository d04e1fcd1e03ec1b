-- What a change of a register or of a byte leaves.
use Rattle.std.proofs.Common.{◌≡◌, ◌≢◌, ℕ, ◌-◌, ◌<◌, ◌^◌, Bool, true, false, if◌then◌else◌, length, refl, sym, ap, ◌∙◌, subst, arith}
use Rattle.std.specs.Prelude.{slice_index, slice_set, nat_lt, nat_le, ◌||◌, ◌&&◌}
use Rattle.std.proofs.lemmas.Bool.Decides.{nat_tests}
use Rattle.std.proofs.lemmas.Grind.{common_steps}
use Rattle.std.proofs.lemmas.List.{length-set, set-get_or}
use Rattle.board_types.specs.LineLevel.{from_bool}
use Rattle.board_types.specs.declared.regs.Regs.{Regs}
use Rattle.memory.specs.MapCells as map_cells
use Rattle.memory.specs.Map as map
use Rattle.memory.specs.Map.{MemoryMap, byte_answered}
use Rattle.memory.specs.Regions.{is_text_address, region_of}
use Rattle.memory.specs.declared.region.Region.{Region}
use Rattle.memory.specs.declared.region.Region.TheVariants.{Ram, Text, Rom, Nothing}
use Rattle.mda_text.specs.Mda as mda
use Rattle.mda_text.specs.Mda.{MdaState}
use Rattle.wiring.specs.Chips.{ChipsState}
use Rattle.wiring.specs.Cells.{has_cell, with_cell}
use Rattle.wiring.specs.Ports.{byte_at, is_writable}
use Rattle.wiring.specs.Speaker.{is_speaker_high}
use Rattle.wiring.proofs.Leap.{settled_memory, settled_text}
use Rattle.board_plain.specs.BoardLaws.{WiresHold}
use Rattle.board_plain.proofs.Wires.{one_holds}
use Rattle.board_plain.proofs.Writable.{one_takes}
use Rattle.board_plain.specs.ChangeLaws.{ByteIsShown, ChangesLeaveWired, ClocksLeaveWired, IsWhole, RegistersAreShown}
use Rattle.board_plain.specs.ChangeLaws.{RunningOnKeeps, SameByteStays, StaysWired}
use Rattle.board_plain.specs.declared.change.Change.{Change}
use Rattle.board_plain.specs.declared.change.Change.TheVariants as changes
use Rattle.board_plain.specs.Changes.{changed, run_on, run_on_if, says_where, with_cell_byte, with_regs}
use Rattle.board_plain.specs.Plain.{Plain, byte_of, clock_of, lost_codes, registers_of, speaker_level, state_of}

pub registers_shown : RegistersAreShown
unfolding with_regs registers_of state_of
registers_shown s regs = record { registers = refl; state = refl; chips = refl; busy = refl; keys = refl }

pub running_on_keeps : RunningOnKeeps
unfolding run_on registers_of
running_on_keeps s = refl

-- what depends neither on memory nor on text memory stays
either : {A : Type 0} (f : ChipsState → A) (b : Bool) (s t u : ChipsState) → f t ≡ f s → f u ≡ f s → f (if b then t else u) ≡ f s
either f true s t u first second = first
either f false s t u first second = second

pub by_cell : {A : Type 0} (f : ChipsState → A) (s : ChipsState) (address byte : ℕ)
    → ((m : MdaState) → f (record s { mda = m }) ≡ f s) → ((m : MemoryMap) → f (record s { memory = m }) ≡ f s)
    → f (with_cell s address byte) ≡ f s
unfolding with_cell
by_cell f s address byte text memory = either f (is_text_address address) s _ _ (text _) (memory _)

pub clock_stays : (s : ChipsState) (address byte : ℕ) → (with_cell s address byte).clock ≡ s.clock
clock_stays s address byte = by_cell (λ t. t.clock) s address byte (λ m. refl) (λ m. refl)

speaker_stays : (s : Plain) (address byte : ℕ) → speaker_level (with_cell_byte s address byte) ≡ speaker_level s
unfolding speaker_level with_cell_byte is_speaker_high
speaker_stays s address byte = by_cell (λ t. from_bool (is_speaker_high t)) s.chips address byte (λ m. refl) (λ m. refl)

lost_stay : (s : Plain) (address byte : ℕ) → lost_codes (with_cell_byte s address byte) ≡ lost_codes s
unfolding lost_codes with_cell_byte
lost_stay s address byte = by_cell (λ t. t.keyboard.lost) s.chips address byte (λ m. refl) (λ m. refl)

clock_is : (s : Plain) (address byte : ℕ) → clock_of (with_cell_byte s address byte) ≡ clock_of s
unfolding clock_of with_cell_byte
clock_is s address byte = clock_stays s.chips address byte

cpu_stays : (s : Plain) (address byte : ℕ) → (with_cell_byte s address byte).cpu ≡ s.cpu
unfolding with_cell_byte
cpu_stays s address byte = refl

byte_there : (s : Plain) (address byte : ℕ) → IsWhole s → address < 2 ^ 20 → has_cell s.chips address ≡ true
    → byte_of (with_cell_byte s address byte) address ≡ byte
unfolding byte_of with_cell_byte byte_at has_cell with_cell map_cells.with_cell map.byte_at mda.with_text_byte mda.text_byte
byte_there s address byte whole within has =
    let cells = whole.cells in let text = whole.text in let ram = whole.ram in grind (arith, common_steps, nat_tests)

others_stay : (s : Plain) (address byte other : ℕ) → other ≢ address → byte_of (with_cell_byte s address byte) other ≡ byte_of s other
unfolding byte_of with_cell_byte byte_at with_cell map_cells.with_cell map.byte_at mda.with_text_byte mda.text_byte
others_stay s address byte other differs = grind (arith, common_steps, nat_tests)

pub byte_is_shown : ByteIsShown
byte_is_shown s address byte whole within has = record {
  byte_there = byte_there s address byte whole within has;
  others = λ other differs. others_stay s address byte other differs;
  cpu = cpu_stays s address byte;
  clock = clock_is s address byte;
  speaker = speaker_stays s address byte;
  lost = lost_stay s address byte;
}

-- a byte that stands there
in_map : (has : Bool) (memory : MemoryMap) (address : ℕ) (region : Region) → region ≢ Nothing
    → (if has then record memory { cells = slice_set memory.cells address (byte_answered region (slice_index memory.cells address)) } else memory)
    ≡ memory
in_map false memory address region cell = refl
in_map true memory address Ram cell = ap (λ cells. record memory { cells = cells }) (set-get_or memory.cells address 0)
in_map true memory address Text cell = ap (λ cells. record memory { cells = cells }) (set-get_or memory.cells address 0)
in_map true memory address Rom cell = ap (λ cells. record memory { cells = cells }) (set-get_or memory.cells address 0)
in_map true memory address Nothing cell = absurd (cell refl)

in_text : (s : ChipsState) (offset : ℕ) → record s { mda = mda.with_text_byte s.mda offset (mda.text_byte s.mda offset) } ≡ s
unfolding mda.with_text_byte mda.text_byte
in_text s offset = ap (λ bytes. record s { mda = record s.mda { bytes = bytes } }) (set-get_or s.mda.bytes offset 0)

region_there : (ram_size address : ℕ) → (is_text_address address || (nat_lt address ram_size || nat_le 0xF0000 address)) ≡ true
    → region_of ram_size address ≢ Nothing
region_there ram_size address has is = grind (arith, nat_tests)

same_by : (b : Bool) (s : ChipsState) (address : ℕ) → region_of s.memory.ram_size address ≢ Nothing
    → (if b then record s {
      mda = mda.with_text_byte s.mda (address - 0xB0000)
          (if b then mda.text_byte s.mda (address - 0xB0000) else map.byte_at s.memory address);
    }
    else record s { memory = map_cells.with_cell s.memory address (if b then mda.text_byte s.mda (address - 0xB0000) else map.byte_at s.memory address) })
    ≡ s
unfolding map_cells.with_cell map.byte_at
same_by true s address cell = in_text s (address - 0xB0000)
same_by false s address cell = ap (λ memory. record s { memory = memory }) (in_map (nat_lt address s.memory.ram_size || nat_le 0xF0000 address)
    s.memory address (region_of s.memory.ram_size address) cell)

pub same_byte_stays : SameByteStays
unfolding byte_of with_cell_byte byte_at has_cell with_cell
same_byte_stays s address whole within has =
    ap (λ (t : ChipsState). record s { chips = t }) (same_by (is_text_address address) s.chips address (region_there s.chips.memory.ram_size address has))

-- the wires hold
still_by : (b : Bool) (s t u : ChipsState) → WiresHold t → WiresHold u → WiresHold (if b then t else u)
still_by true s t u first second = first
still_by false s t u first second = second

text_holds : (s : ChipsState) (m : MdaState) → WiresHold s → WiresHold (record s { mda = m })
text_holds s m holds =
    let fixed = holds.fixed in
    record {
      settled = settled_text s m holds.settled;
      keys = holds.keys;
      fixed = record { lines = fixed.lines; gate_0 = fixed.gate_0; gate_1 = fixed.gate_1; low = fixed.low };
    }

memory_holds : (s : ChipsState) (m : MemoryMap) → WiresHold s → WiresHold (record s { memory = m })
memory_holds s m holds =
    let fixed = holds.fixed in
    record {
      settled = settled_memory s m holds.settled;
      keys = holds.keys;
      fixed = record { lines = fixed.lines; gate_0 = fixed.gate_0; gate_1 = fixed.gate_1; low = fixed.low };
    }

pub cell_holds : (s : ChipsState) (address byte : ℕ) → WiresHold s → WiresHold (with_cell s address byte)
unfolding with_cell
cell_holds s address byte holds = still_by (is_text_address address) s _ _ (text_holds s _ holds) (memory_holds s _ holds)

-- the clock stays
run_on_clock : (b : Bool) (s : Plain) → clock_of (run_on_if b s) ≡ clock_of s
unfolding clock_of run_on
run_on_clock true s = refl
run_on_clock false s = refl

regs_clock : (s : Plain) (regs : Regs) → clock_of (with_regs s regs) ≡ clock_of s
unfolding clock_of with_regs
regs_clock s regs = refl

pub clock_of_changed : (change : Change) (s : Plain) → clock_of (changed change s) ≡ clock_of s
clock_of_changed (changes.Register register word) s = run_on_clock (says_where register) _ ∙ regs_clock s _
clock_of_changed (changes.Byte address byte) s = clock_is s address byte

-- the same addresses take bytes
text_takes : (s : ChipsState) (offset byte other : ℕ)
    → is_writable (record s { mda = mda.with_text_byte s.mda offset byte }) other ≡ is_writable s other
unfolding is_writable mda.with_text_byte
text_takes s offset byte other =
    ap (λ n. if is_text_address other then nat_lt (other - 0xB0000) n else map.is_writable s.memory other) (length-set s.mda.bytes offset byte)

takes_by : (has : Bool) (memory : MemoryMap) (address byte other : ℕ)
    → map.is_writable (if has then record memory { cells = slice_set memory.cells address byte } else memory) other ≡ map.is_writable memory other
unfolding map.is_writable
takes_by true memory address byte other =
    ap (λ n. map.is_ram (region_of memory.ram_size other) && nat_lt other n) (length-set memory.cells address byte)
takes_by false memory address byte other = refl

map_takes : (memory : MemoryMap) (address byte other : ℕ)
    → map.is_writable (map_cells.with_cell memory address byte) other ≡ map.is_writable memory other
unfolding map_cells.with_cell
map_takes memory address byte other = takes_by (nat_lt address memory.ram_size || nat_le 0xF0000 address) memory address byte other

memory_takes : (s : ChipsState) (address byte other : ℕ)
    → is_writable (record s { memory = map_cells.with_cell s.memory address byte }) other ≡ is_writable s other
unfolding is_writable
memory_takes s address byte other =
    ap (λ b. if is_text_address other then nat_lt (other - 0xB0000) (length s.mda.bytes) else b) (map_takes s.memory address byte other)

cell_takes : (s : ChipsState) (address byte other : ℕ) → is_writable (with_cell s address byte) other ≡ is_writable s other
unfolding with_cell
cell_takes s address byte other =
    either (λ t. is_writable t other) (is_text_address address) s _ _ (text_takes s (address - 0xB0000) byte other) (memory_takes s address byte other)

-- a changed board stays wired
register_chips : (b : Bool) (s : Plain) (regs : Regs) → (run_on_if b (with_regs s regs)).chips ≡ s.chips
unfolding run_on with_regs
register_chips true s regs = refl
register_chips false s regs = refl

by_chips : (s t : Plain) → t.chips ≡ s.chips → StaysWired s t
by_chips s t same = record {
  wires = λ holds. subst WiresHold (sym same) holds;
  takes = λ address. ap (λ u. is_writable u address) same;
}

pub changes_leave_wired : ChangesLeaveWired
unfolding with_cell_byte
changes_leave_wired (changes.Register register word) s = by_chips s _ (register_chips (says_where register) s _)
changes_leave_wired (changes.Byte address byte) s = record {
  wires = cell_holds s.chips address byte;
  takes = λ other. cell_takes s.chips address byte other;
}

pub clocks_leave_wired : ClocksLeaveWired
clocks_leave_wired s = record { wires = one_holds s; takes = λ address. one_takes s address }
