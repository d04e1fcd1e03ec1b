-- What holds of every plain board.
-- Laws: claims above the definitions, each proved as the contract of a function.
use Rattle.wiring.specs.EachWire.{is_requested}
use Rattle.std.specs.Prelude.{ℕ, ◌≡◌, ◌≢◌, ◌+◌, ◌-◌, ◌*◌, ◌/◌, ◌<◌, ◌≤◌, true, false, ◌⊎◌}
use Rattle.std.specs.Prelude.{◌↔◌, List, [], ◌∷◌, ◌++◌, length, All, Option, MatchOption}
use Rattle.board_types.specs.declared.keys.StampedKey.{StampedKey}
use Rattle.board_types.specs.declared.state.State.TheVariants.{Halted, Jammed}
use Rattle.board_types.specs.LineLevel.{from_bool}
use Rattle.execute_meaning.specs.Cpu.{CpuState}
use Rattle.execute_meaning.specs.declared.shadow.Shadow.TheVariants as shadows
use Rattle.execute_meaning.specs.PortWrites.{port_writes_of}
use Rattle.mda_text.specs.Mda as mda
use Rattle.memory.specs.Regions.{IsTextAddress}
use Rattle.memory.specs.Map.{IsRamSize}
use Rattle.pit8253.specs.Pit as pit
use Rattle.wiring.specs.Chips.{ChipsState}
use Rattle.wiring.specs.WiringLaws.{KeysSettled, FixedWires}
use Rattle.wiring.specs.Ports.{is_writable}
use Rattle.wiring.specs.Speaker.{is_speaker_high_after}
use Rattle.wiring.specs.Wires as wires
use Rattle.wiring.specs.Wires.{after_settling}
use Rattle.board_plain.specs.declared.act.Act.{Act}
use Rattle.board_plain.specs.declared.act.Act.TheVariants.{Nothing, Request, Instruction}
use Rattle.board_plain.specs.declared.config.Config.{Config}
use Rattle.board_plain.specs.declared.stop.Condition.{Condition}
use Rattle.board_plain.specs.declared.stop.Stop.{Stop}
use Rattle.board_plain.specs.Board.{BoardState, Ran}
use Rattle.board_plain.specs.Stops.{holding, holds, IsStopOf, NoStop}
use Rattle.board_plain.specs.Plain.{Plain, after_clock, after_clocks, board_after, clock_of, next_act, speaker_level}
use Rattle.board_plain.specs.Work.{edges_next, jams_of, steps_next, work_next}

-- the port writes of an act: only an instruction writes to ports
abbrev pub writes_of : CpuState → Act → List (ℕ × ℕ)
writes_of cpu (Instruction decoded) = port_writes_of cpu decoded
writes_of cpu _ = []

-- the wires have settled, the keyboard has settled to the lines of port B, and the wires that nothing drives are as at
-- power-on
pub record WiresHold (s : ChipsState) : Type 0 where
  pub settled : after_settling s ≡ s
  pub keys : KeysSettled s
  pub fixed : FixedWires s

-- the wires hold at every clock of every board
abbrev pub WiresAlwaysHold : Type 0
WiresAlwaysHold =
    (image : List (ℕ × ℕ)) (config : Config) (keys : List StampedKey) (n : ℕ)
    → WiresHold (board_after image config keys n).chips

-- if the wires hold, the speaker's level at the next clock is known from the port writes that the processor is about to
-- make
abbrev pub LevelIsPredicted : Type 0
LevelIsPredicted =
    (s : Plain) → WiresHold s.chips
    → speaker_level (after_clock s) ≡ from_bool (is_speaker_high_after s.chips (writes_of s.cpu (next_act s)))

-- at every clock of a board with a valid size of RAM, each address of RAM and of text memory takes bytes
abbrev pub MemoryTakesBytes : Type 0
MemoryTakesBytes =
    (image : List (ℕ × ℕ)) (config : Config) (keys : List StampedKey) (n address : ℕ) → IsRamSize config.ram_kb
    → (address < 1024 * config.ram_kb) ⊎ IsTextAddress address
    → is_writable (board_after image config keys n).chips address ≡ true

-- an interrupt is requested
abbrev pub IsRequested : Plain → Type 0
IsRequested s = is_requested s.chips ≡ true

-- the processor enters a requested interrupt in this clock
abbrev pub TakesRequest : Plain → Type 0
TakesRequest s = next_act s ≡ Request

-- the processor may take a request in this clock: it is free and not jammed, IF is set, and nothing is kept off
pub record MayTakeRequest (s : Plain) : Type 0 where
  pub free : s.busy ≡ 0
  pub running_or_halted : s.cpu.state ≢ Jammed
  pub enabled : s.cpu.registers.flags.interrupt_enable ≡ true
  pub nothing_kept_off : s.cpu.shadow ≡ shadows.Nothing

-- the processor takes a request exactly if there is one and it may take one
abbrev pub RequestIsTaken : Type 0
RequestIsTaken = (s : Plain) → TakesRequest s ↔ (IsRequested s × MayTakeRequest s)

-- in n clocks and at their end a request stands, until it is taken
abbrev pub RequestStays : Plain → ℕ → Type 0
RequestStays s n =
    (i : ℕ) → i ≤ n → ((j : ℕ) → j < i → ¬ (TakesRequest (after_clocks s j))) → IsRequested (after_clocks s i)

-- within n clocks a request is taken, at the first clock at which one may be
pub record IsTakenWithin (s : Plain) (n : ℕ) : Type 0 where
  pub passed : ℕ
  pub within : passed ≤ n
  pub taken : TakesRequest (after_clocks s passed)
  pub may : MayTakeRequest (after_clocks s passed)
  pub first : (i : ℕ) → i < passed → ¬ (MayTakeRequest (after_clocks s i))
  pub none_before : (i : ℕ) → i < passed → ¬ (TakesRequest (after_clocks s i))

-- a request that stays is taken at the first clock at which it may be
abbrev pub StayingRequestIsTaken : Type 0
StayingRequestIsTaken = (s : Plain) (n : ℕ) → RequestStays s n → MayTakeRequest (after_clocks s n) → IsTakenWithin s n

-- a processor whose IF is 0 at each of n clocks takes no request in any of them
abbrev pub NoRequestWithoutIf : Type 0
NoRequestWithoutIf =
    (s : Plain) (n : ℕ) → ((i : ℕ) → i < n → (after_clocks s i).cpu.registers.flags.interrupt_enable ≡ false)
    → (i : ℕ) → i < n → ¬ (TakesRequest (after_clocks s i))

-- no key comes in n clocks: each has come before, or comes later
abbrev pub NoKeyComes : Plain → ℕ → Type 0
NoKeyComes s n = All (λ k. (k.stamp ≤ clock_of s) ⊎ (clock_of s + n < k.stamp)) s.keys

-- For n clocks a halted processor stays so: it is free, no single step is due and no key comes, and IF is 0 or the
-- chips alone bring no request in any of these clocks.
pub record HaltLasts (s : Plain) (n : ℕ) : Type 0 where
  pub wires_hold : WiresHold s.chips
  pub halted : s.cpu.state ≡ Halted
  pub free : s.busy ≡ 0
  pub no_step_due : s.cpu.step_due ≡ false
  pub no_key : NoKeyComes s n
  pub no_request : (i : ℕ) → i < n
      → (s.cpu.registers.flags.interrupt_enable ≡ false) ⊎ (is_requested (wires.after_clocks s.chips i) ≡ false)

-- Chips to which nothing comes: in n clocks the beam moves, the counters tick, and the controller's lines follow OUT0;
-- nothing else changes.
pub record GoOnAlone (s : ChipsState) (n : ℕ) (t : ChipsState) : Type 0 where
  pub clock : t.clock ≡ s.clock + n
  pub mda : t.mda ≡ record s.mda { raster = (mda.after_clocks s.mda n).raster }
  pub pit : t.pit ≡ pit.after_ticks s.pit ((s.clock + n) / 4 - s.clock / 4)
  pub pic : t.pic ≡ record s.pic { high = t.pic.high; risen = t.pic.risen }
  pub memory : t.memory ≡ s.memory
  pub ppi : t.ppi ≡ s.ppi
  pub keyboard : t.keyboard ≡ s.keyboard

-- in n clocks nothing changes but the chips, which go on alone
abbrev pub ChipsAloneGoOn : Plain → ℕ → Type 0
ChipsAloneGoOn s n =
    (after_clocks s n ≡ record s { chips = wires.after_clocks s.chips n })
    × GoOnAlone s.chips n (wires.after_clocks s.chips n)

-- while a halt lasts, only the chips go on
abbrev pub HaltIsQuiet : Type 0
HaltIsQuiet = (s : Plain) (n : ℕ) → HaltLasts s n → ChipsAloneGoOn s n

-- after a jam only the chips go on, whatever is requested, while no key comes
abbrev pub JamIsQuiet : Type 0
JamIsQuiet =
    (s : Plain) (n : ℕ) → WiresHold s.chips → s.cpu.state ≡ Jammed → s.busy ≡ 0 → NoKeyComes s n → ChipsAloneGoOn s n

-- a run of n clocks has one end: a stop, or none
pub record HasOneEnd (stops : List Condition) (n : ℕ) (s : Plain) : Type 0 where
  pub end : Option Stop
  pub is_end : IsStopOf stops n s end
  pub alone : (other : Option Stop) → IsStopOf stops n s other → other ≡ end

-- every run of n clocks has one end
abbrev pub RunsHaveOneEnd : Type 0
RunsHaveOneEnd = (stops : List Condition) (n : ℕ) (s : Plain) → HasOneEnd stops n s

-- a condition holds, and none before it in the list; its number counts from 1
pub record IsFirstHolding (stops : List Condition) (s : Plain) (number : ℕ) : Type 0 where
  pub before : List Condition
  pub first : Condition
  pub after : List Condition
  pub parts : stops ≡ before ++ first ∷ after
  pub place : number ≡ length before + 1
  pub none_before : All (λ condition. holds condition s ≡ false) before
  pub holds : holds first s ≡ true

-- the number that `holding` gives is that of the first condition that holds, and it gives none only if none holds
abbrev pub LeastNumberIsTold : Type 0
LeastNumberIsTold =
    (stops : List Condition) (s : Plain)
    → MatchOption (holding stops s) (All (λ condition. holds condition s ≡ false) stops) (IsFirstHolding stops s)

-- a run and the next one make one run of the clocks of both, with the lists of the whole
abbrev pub RunsJoin : Type 0
RunsJoin = (a b : ℕ) (s t u : BoardState) → Ran a s t → Ran b t u → Ran (a + b) s u

-- a search that finds nothing and the next one make one search of the clocks of both
abbrev pub SearchesJoin : Type 0
SearchesJoin =
    (stops : List Condition) (a b : ℕ) (s t : BoardState) (stopped : Option Stop) → Ran a s t → NoStop stops a s.plain
    → IsStopOf stops b t.plain stopped → IsStopOf stops (a + b) s.plain stopped

-- a clock adds at most one step, and if it adds one, nothing jams in it
abbrev pub AtMostOneStep : Type 0
AtMostOneStep = (s : Plain) → steps_next s + jams_of (next_act s) ≤ 1

-- a clock brings at most two edges
abbrev pub AtMostTwoEdges : Type 0
AtMostTwoEdges = (s : Plain) → edges_next s ≤ 2

-- in the next clock the processor does nothing, neither OUT0 nor OUT2 turns, and no key comes
pub record IsIdle (s : Plain) : Type 0 where
  pub nothing_done : next_act s ≡ Nothing
  pub out_0 : (after_clock s).chips.pit.counter_0.out ≡ s.chips.pit.counter_0.out
  pub out_2 : (after_clock s).chips.pit.counter_2.out ≡ s.chips.pit.counter_2.out
  pub no_key : All (λ k. k.stamp ≢ clock_of s + 1) s.keys

-- a clock has no work exactly if nothing acts, turns or comes
abbrev pub IdleHasNoWork : Type 0
IdleHasNoWork = (s : Plain) → (work_next s ≡ 0) ↔ IsIdle s
