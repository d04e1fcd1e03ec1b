-- What happens in a clock of a plain board, in the order of the clock's parts: what begins, the accesses, and the
-- processor's new state; then the keys and the wires. Events of the processor have the clock at which the board stands,
-- as in the trail; those of the chips have the clock that is reached, as a key's stamp and the speaker's changes do.
-- To be believed by callers of this crate: the headline does not rest on it.
use Rattle.keyboard.specs.QueueParts.{has_room, sends}
use Rattle.std.specs.Prelude.{ℕ, ◌+◌, Bool, ◌&&◌, if◌then◌else◌, List, []}
use Rattle.std.specs.Prelude.{◌∷◌, ◌++◌, map, Option, None, Some, slice_get}
use Rattle.std.specs.Bool.{beq}
use Rattle.std.specs.List.{flat_map}
use Rattle.board_types.specs.Bits.{has_bit}
use Rattle.board_types.specs.Iterate.{gathered}
use Rattle.board_types.specs.LineLevel.{is_high}
use Rattle.board_types.specs.declared.state.State.{State}
use Rattle.execute_meaning.specs.Boundaries.{is_halted, is_jammed}
use Rattle.keyboard.specs.Keyboard as keys
use Rattle.keyboard.specs.Keyboard.{KeyboardState}
use Rattle.pic8259.specs.Levels.{contains}
use Rattle.pic8259.specs.Pic.{is_requesting}
use Rattle.ppi8255.specs.Ppi.{lines_b}
use Rattle.wiring.specs.Chips.{ChipsState}
use Rattle.wiring.specs.Wires as wires
use Rattle.wiring.specs.Wires.{after_arrivals}
use Rattle.board_plain.specs.Plain.{Plain, after_act, after_clock, clock_of}
use Rattle.board_plain.specs.Plain.{codes_at, next_act, speaker_level, state_of}
use Rattle.board_plain.specs.Trail.{trail_next}
use Rattle.events.specs.declared.event.Event.{Event}
use Rattle.events.specs.declared.event.Event.TheVariants.{Began, Reached, Became, Keyed, Wired}
use Rattle.events.specs.declared.event.KeyEvent.TheVariants.{Arrives, IsLost, IsLatched}
use Rattle.events.specs.declared.event.Wire.{Wire}
use Rattle.events.specs.declared.event.Wire.TheVariants.{Out0, Out2, Ir0, Ir1, Int, Speaker}
use Rattle.events.specs.Accesses.{accesses_next}

-- the processor's state doesn't change
abbrev pub is_same_state : State → State → Bool
is_same_state a b = beq (is_halted a) (is_halted b) && beq (is_jammed a) (is_jammed b)

abbrev pub state_events : ℕ → State → State → List Event
state_events clock before after = if is_same_state before after then [] else Became clock after ∷ []

-- the codes of a clock reach the keyboard, one after another: each waits, or is lost if sixteen wait
abbrev pub arrival_events : ℕ → KeyboardState → List ℕ → List Event
arrival_events clock k [] = []
arrival_events clock k (code ∷ codes) =
    Keyed clock (if has_room k then Arrives else IsLost) code ∷ arrival_events clock (keys.after_arrival k code) codes

-- the keyboard settles to the lines of port B: the first code that waits may move into the latch
abbrev pub code_latched : KeyboardState → ℕ → Option ℕ
code_latched k port_b = if has_bit port_b 7 then None else (if sends k port_b then slice_get k.waiting 0 else None)

abbrev pub latch_events : ℕ → Option ℕ → List Event
latch_events clock None = []
latch_events clock (Some code) = Keyed clock IsLatched code ∷ []

abbrev pub settling_events : ℕ → ChipsState → List Event
settling_events clock c = latch_events clock (code_latched c.keyboard (lines_b c.ppi))

-- what becomes of the keys when a clock's codes reach the chips
abbrev pub key_events : ℕ → ChipsState → List ℕ → List Event
key_events clock c codes = arrival_events clock c.keyboard codes ++ settling_events clock (after_arrivals c codes)

-- the chips just before the codes of the next clock reach them
abbrev pub chips_reached : Plain → ChipsState
chips_reached s = wires.after_clock (after_act s.clocks s.cpu s.busy s.chips (next_act s)).bus

-- whether a wire is high
unfoldable pub level_of : Plain → Wire → Bool
level_of s Out0 = is_high s.chips.pit.counter_0.out
level_of s Out2 = is_high s.chips.pit.counter_2.out
level_of s Ir0 = contains s.chips.pic.high 0
level_of s Ir1 = contains s.chips.pic.high 1
level_of s Int = is_requesting s.chips.pic
level_of s Speaker = is_high (speaker_level s)

abbrev pub all_wires : List Wire
all_wires = Out0 ∷ Out2 ∷ Ir0 ∷ Ir1 ∷ Int ∷ Speaker ∷ []

-- a wire that comes to another level from one clock to the next
abbrev pub wire_event : ℕ → Plain → Plain → Wire → List Event
wire_event clock before after wire =
    if beq (level_of before wire) (level_of after wire) then [] else Wired clock wire (level_of after wire) ∷ []

abbrev pub wire_events : ℕ → Plain → Plain → List Event
wire_events clock before after = flat_map (wire_event clock before after) all_wires

-- the codes whose stamp the next clock reaches
abbrev pub codes_next : Plain → List ℕ
codes_next s = codes_at s.keys (clock_of s + 1)

-- what happens in the next clock but to the wires
unfoldable pub unwired_next : Plain → List Event
unwired_next s =
    map Began (trail_next s)
    ++ (map (Reached (clock_of s)) (accesses_next s)
    ++ (state_events (clock_of s) (state_of s) (state_of (after_clock s))
    ++ key_events (clock_of s + 1) (chips_reached s) (codes_next s)))

-- what happens in the next clock
unfoldable pub events_next : Plain → List Event
events_next s = unwired_next s ++ wire_events (clock_of s + 1) s (after_clock s)

-- what happens in n clocks
abbrev pub events_in : Plain → ℕ → List Event
events_in s n = gathered after_clock events_next n s
