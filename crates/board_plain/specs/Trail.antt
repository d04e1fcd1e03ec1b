-- The trail: each instruction that is begun and each interrupt that is entered at a free boundary.
-- To be believed: the headline rests on it.
use Rattle.decode.specs.declared.decoding.Decoding.{Decoding as Decoded}
use Rattle.pic8259.specs.Pic.{vector}
use Rattle.std.specs.Prelude.{ℕ, ◌-◌, List, [], ◌∷◌, length, map, drop, Option, Some, None}
use Rattle.std.specs.List.{range_with_len}
use Rattle.board_types.specs.Address.{physical, offset_after}
use Rattle.board_types.specs.Iterate.{gathered}
use Rattle.decode.specs.declared.decoding.Decoding.TheVariants.{Found, NoRow}
use Rattle.execute_meaning.specs.Cpu.{CpuState}
use Rattle.wiring.specs.Chips.{ChipsState}
use Rattle.wiring.specs.Ports.{byte_at}
use Rattle.board_plain.specs.declared.act.Act.{Act}
use Rattle.board_plain.specs.declared.act.Act.TheVariants as acts
use Rattle.board_plain.specs.declared.trail.TrailEntry.{TrailEntry}
use Rattle.board_plain.specs.declared.trail.TrailEvent.{TrailEvent}
use Rattle.board_plain.specs.declared.trail.TrailEvent.TheVariants.{Instruction, Entry}
use Rattle.board_plain.specs.Plain.{Plain, after_clock, clock_of, next_act}

-- `size` bytes from CS:IP on; offsets wrap at 65,536
abbrev pub code_bytes : ChipsState → ℕ → ℕ → ℕ → List ℕ
code_bytes chips cs ip size = map (λ k. byte_at chips (physical cs (offset_after ip k))) (range_with_len 0 size)

-- the event that what stands at CS:IP begins: an instruction, with its bytes; anything else jams, and begins nothing
abbrev pub start_of : CpuState → ChipsState → Decoded → Option TrailEvent
start_of cpu chips NoRow = None
start_of cpu chips (Found instr size) =
    Some (Instruction instr (record { items = code_bytes chips cpu.registers.cs cpu.registers.ip size }))

-- What an act begins: an instruction, or the entry of an interrupt; the single step's type is 1. An iteration of a
-- repeat begins nothing.
abbrev pub event_of : CpuState → ChipsState → Act → Option TrailEvent
event_of cpu chips acts.Request = Some (Entry (vector chips.pic))
event_of cpu chips acts.SingleStep = Some (Entry 1)
event_of cpu chips (acts.Instruction decoded) = start_of cpu chips decoded
event_of cpu chips _ = None

-- an event with its clock and CS:IP, which an entry pushes
abbrev pub entry_at : Plain → Option TrailEvent → List TrailEntry
entry_at s None = []
entry_at s (Some event) =
    record { clock = clock_of s; cs = s.cpu.registers.cs; ip = s.cpu.registers.ip; event = event } ∷ []

-- what the next clock adds to the trail
unfoldable pub trail_next : Plain → List TrailEntry
trail_next s = entry_at s (event_of s.cpu s.chips (next_act s))

-- what n clocks add to the trail
abbrev pub trail_in : Plain → ℕ → List TrailEntry
trail_in s n = gathered after_clock trail_next n s

-- the last n items of a list, or all if it has no more
unfoldable pub last : {A : Type 0} → ℕ → List A → List A
last n xs = drop (length xs - n) xs
