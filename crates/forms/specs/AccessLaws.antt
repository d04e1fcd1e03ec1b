-- What is told of an instruction's accesses is what its steps make: the bytes that they write to memory, and the ports
-- from which they read and to which they write.
-- Laws: claims above the definitions, each proved as the contract of a function.
use Rattle.std.specs.Prelude.{ℕ, ◌≡◌, ◌+◌, Bool, true, false, ◌&&◌, if◌then◌else◌, List, [], ◌∷◌, map, Option, Some}
use Rattle.std.specs.Prelude.{None}
use Rattle.board_types.specs.Address.{offset_after}
use Rattle.board_types.specs.declared.choice.ClockTable.{ClockTable}
use Rattle.bus.specs.Bus.{BusMeaning}
use Rattle.decode.specs.declared.decoding.Decoding.TheVariants.{Found}
use Rattle.execute_machine.specs.RegisterFile.{Registers}
use Rattle.execute_meaning.specs.AccessCounts.{CountsWrites, found_by}
use Rattle.execute_meaning.specs.Cpu.{CpuState}
use Rattle.execute_meaning.specs.Meaning.{after_step}
use Rattle.execute_meaning.specs.PortReads.{port_reads_of}
use Rattle.execute_meaning.specs.PortWrites.{port_writes_of}
use Rattle.isa.specs.Clocks.{is_repeated}
use Rattle.isa.specs.Encoding.{IsInstr}
use Rattle.isa.specs.declared.form.Instr.{Instr}
use Rattle.isa.specs.declared.outcome.Outcome.{Outcome}
use Rattle.forms.specs.declared.accesses.PortAccess.{PortAccess}
use Rattle.forms.specs.declared.accesses.PortName.{PortName}
use Rattle.forms.specs.declared.accesses.PortName.TheVariants.{Number, InDx}
use Rattle.forms.specs.FormLaws.{goes_off}
use Rattle.forms.specs.Reached.{accesses_of, port_of}

-- how many bytes a step writes: as many as are told, and none if it is a repeat that begins with CX 0
abbrev pub written_by : Instr → Outcome → ℕ
written_by i o = if is_repeated i && o.cx_zero then 0 else (accesses_of i (goes_off o)).written

-- the ports of an access: a word is at this port and the next one, which wraps
abbrev pub number_of : PortName → Registers → ℕ
number_of (Number number) r = number
number_of InDx r = r.dx

abbrev pub ports_at : ℕ → Bool → List ℕ
ports_at port true = port ∷ offset_after port 1 ∷ []
ports_at port false = port ∷ []

abbrev pub reads_told : Option PortAccess → Registers → List ℕ
reads_told None r = []
reads_told (Some access) r = if access.is_read then ports_at (number_of access.name r) access.is_word else []

abbrev pub writes_told : Option PortAccess → Registers → List ℕ
writes_told None r = []
writes_told (Some access) r = if access.is_read then [] else ports_at (number_of access.name r) access.is_word

-- Any count of memory writes goes up by what is told. A step reads from the ports that are told, in order, and from no
-- other, and so it writes.
pub record AccessesAreTold {S : Type 0} (bus : BusMeaning S) : Type 0 where
  pub written : (count : S → ℕ) → CountsWrites bus count
      → (table : ClockTable) (p : CpuState) (s : S) (i : Instr) (size : ℕ) → IsInstr i
      → count (after_step bus table p s (Found i size)).bus ≡ count s + written_by i (found_by bus p s i size)
  pub port_reads : (p : CpuState) (i : Instr) (size : ℕ)
      → port_reads_of p (Found i size) ≡ reads_told (port_of i) p.registers
  pub port_writes : (p : CpuState) (i : Instr) (size : ℕ)
      → map (λ (w : ℕ × ℕ). w.0) (port_writes_of p (Found i size)) ≡ writes_told (port_of i) p.registers
