-- The wires and the processor's state over time, by their events.
-- Laws: claims above the definitions, each proved as the contract of a function.
use Rattle.std.specs.Prelude.{ℕ, ◌≡◌, ◌↔◌, IsTrue, Bool, true, false, not, ◌&&◌, if◌then◌else◌, List, [], ◌∷◌, fold}
use Rattle.std.specs.Prelude.{is_some}
use Rattle.std.specs.Bool.{beq}
use Rattle.std.specs.List.{flat_map}
use Rattle.board_types.specs.Bits.{has_bit}
use Rattle.board_types.specs.LineLevel.{is_high}
use Rattle.board_types.specs.declared.state.State.{State}
use Rattle.board_types.specs.declared.state.State.TheVariants.{Running, Halted, Jammed}
use Rattle.execute_meaning.specs.Cpu.{CpuState}
use Rattle.pic8259.specs.Levels.{contains}
use Rattle.ppi8255.specs.Ppi.{lines_b}
use Rattle.wiring.specs.EachWire.{inputs_of}
use Rattle.board_plain.specs.BoardLaws.{MayTakeRequest, TakesRequest, WiresHold}
use Rattle.board_plain.specs.Plain.{Plain, after_clocks, state_of}
use Rattle.events.specs.declared.event.Event.{Event}
use Rattle.events.specs.declared.event.Event.TheVariants.{Became, Wired}
use Rattle.events.specs.declared.event.Wire.{Wire}
use Rattle.events.specs.declared.event.Wire.TheVariants.{Out0, Out2, Ir0, Ir1, Int, Speaker}
use Rattle.events.specs.Events.{events_in, level_of}

-- whether two wires are the same
abbrev pub is_wire : Wire → Wire → Bool
is_wire Out0 Out0 = true
is_wire Out2 Out2 = true
is_wire Ir0 Ir0 = true
is_wire Ir1 Ir1 = true
is_wire Int Int = true
is_wire Speaker Speaker = true
is_wire _ _ = false

-- the level to which an event turns a wire
abbrev pub turned_by : Wire → Event → List Bool
turned_by wire (Wired _ other level) = if is_wire wire other then level ∷ [] else []
turned_by wire _ = []

-- the state to which an event brings the processor
abbrev pub became_by : Event → List State
became_by (Became _ state) = state ∷ []
became_by _ = []

-- the newest of some values, or the one before them
abbrev pub newest : {A : Type 0} → A → List A → A
newest before values = fold (λ old new. new) before values

-- each value differs from the one before it
abbrev pub alternates : {A : Type 0} → (A → A → Bool) → A → List A → Bool
alternates same before [] = true
alternates same before (next ∷ rest) = not (same before next) && alternates same next rest

-- a wire's level is the one before, turned by each of its events to what the event says; and each of them turns it
abbrev pub WiresAreTold : Type 0
WiresAreTold =
    (s : Plain) (n : ℕ) (wire : Wire)
    → level_of (after_clocks s n) wire ≡ newest (level_of s wire) (flat_map (turned_by wire) (events_in s n))

abbrev pub WiresAlternate : Type 0
WiresAlternate =
    (s : Plain) (n : ℕ) (wire : Wire)
    → IsTrue (alternates beq (level_of s wire) (flat_map (turned_by wire) (events_in s n)))

-- the processor's state is that of its last event
abbrev pub StatesAreTold : Type 0
StatesAreTold =
    (s : Plain) (n : ℕ) → state_of (after_clocks s n) ≡ newest (state_of s) (flat_map became_by (events_in s n))

-- whether two states are the same
abbrev pub is_state : State → State → Bool
is_state Running Running = true
is_state Halted Halted = true
is_state Jammed Jammed = true
is_state _ _ = false

-- each of those events brings another state
abbrev pub StatesAlternate : Type 0
StatesAlternate =
    (s : Plain) (n : ℕ) → IsTrue (alternates is_state (state_of s) (flat_map became_by (events_in s n)))

-- the board with another processor, which is free
abbrev pub with_processor : Plain → CpuState → Plain
with_processor s cpu = record s { cpu = cpu; busy = 0 }

-- What each level is once the wires have settled, by what stands at the wire's other end: OUT0 is what the controller
-- has on its line 0, and IR0 what counter 0 puts out; OUT2 is what comes to port C; IR1 is high while a code is in the
-- latch; INT is what any processor that may take a request is asked by; the speaker is high with OUT2 and line 1 of
-- port B.
pub record AreSettled (s : Plain) : Type 0 where
  pub out_0 : level_of s Out0 ≡ contains s.chips.pic.high 0
  pub out_2 : level_of s Out2 ≡ is_high (inputs_of s.chips).out2
  pub ir_0 : level_of s Ir0 ≡ is_high s.chips.pit.counter_0.out
  pub ir_1 : level_of s Ir1 ≡ is_some s.chips.keyboard.latch
  pub int : (cpu : CpuState) → MayTakeRequest (with_processor s cpu)
      → (TakesRequest (with_processor s cpu) ↔ IsTrue (level_of s Int))
  pub speaker : level_of s Speaker ≡ (has_bit (lines_b s.chips.ppi) 1 && is_high s.chips.pit.counter_2.out)

abbrev pub LevelsAreTold : Type 0
LevelsAreTold = (s : Plain) → WiresHold s.chips → AreSettled s
