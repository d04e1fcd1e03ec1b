-- The definitions on worked values: control words, counts and reads, worked out by hand from the data sheet.
use Rattle.std.proofs.Common.{◌≡◌, ℕ, List, [], ◌∷◌, refl}
use Rattle.std.specs.Prelude.{⊤}
use Rattle.board_types.specs.declared.choice.TimerKind.TheVariants.{I8253, I8254}
use Rattle.board_types.specs.declared.line.Line.{Line}
use Rattle.board_types.specs.declared.line.Line.TheVariants.{Low, High}
use Rattle.pit8253.specs.Pit as pit
use Rattle.pit8253.specs.Pit.{PitState}
use Rattle.pit8253.specs.Counter.{CounterState, after_control_word, after_gate, after_latch, after_status_latch}
use Rattle.pit8253.specs.Counter.{after_read_back, after_read, after_tick, after_write, next_byte, power_on}

-- what happens to a counter
data Event : Type 0 where
  control : ℕ → Event
  write : ℕ → Event
  gate : Line → Event
  tick : Event
  read : Event
  back : ℕ → Event

-- what a row unfolds
unfoldable on_events : ⊤
unfolding after_control_word after_gate after_latch after_status_latch after_read_back after_read after_tick after_write next_byte
on_events = tt

abbrev after_event : CounterState → Event → CounterState
after_event c (control word) = after_control_word c word
after_event c (write byte) = after_write c byte
after_event c (gate line) = after_gate c line
after_event c tick = after_tick c
after_event c read = after_read c
after_event c (back word) = after_read_back c word

-- the state after events, the oldest first
abbrev after : CounterState → List Event → CounterState
after c [] = c
after c (event ∷ later) = after (after_event c event) later

-- counter 0 of an 8253 with its gate high
started : List Event → CounterState
started events = after (power_on I8253 High) events

-- counter 0 of an 8254 with its gate high
started_8254 : List Event → CounterState
started_8254 events = after (power_on I8254 High) events

-- "Read/Load": one byte alone is the low one, the high one, or the first of two; the other byte is 0
low_alone : (started (control 0x10 ∷ write 0x34 ∷ tick ∷ [])).count ≡ 0x0034
unfolding started on_events
low_alone = refl

high_alone : (started (control 0x20 ∷ write 0x12 ∷ tick ∷ [])).count ≡ 0x1200
unfolding started on_events
high_alone = refl

low_then_high : (started (control 0x30 ∷ write 0x34 ∷ write 0x12 ∷ tick ∷ [])).count ≡ 0x1234
unfolding started on_events
low_then_high = refl

reads_low_alone : next_byte (started (control 0x10 ∷ write 0x34 ∷ tick ∷ read ∷ [])) ≡ 0x34
unfolding started on_events
reads_low_alone = refl

reads_high_alone : next_byte (started (control 0x20 ∷ write 0x12 ∷ tick ∷ read ∷ [])) ≡ 0x12
unfolding started on_events
reads_high_alone = refl

reads_low_first : next_byte (started (control 0x30 ∷ write 0x34 ∷ write 0x12 ∷ tick ∷ [])) ≡ 0x34
unfolding started on_events
reads_low_first = refl

reads_high_next : next_byte (started (control 0x30 ∷ write 0x34 ∷ write 0x12 ∷ tick ∷ read ∷ [])) ≡ 0x12
unfolding started on_events
reads_high_next = refl

-- "Counter Latch": what was latched stays until it is read whole, with access to one byte by one read
latches_one_byte : next_byte (started (control 0x10 ∷ write 0x34 ∷ tick ∷ control 0x00 ∷ tick ∷ [])) ≡ 0x34
unfolding started on_events
latches_one_byte = refl

one_read_ends_it : next_byte (started (control 0x10 ∷ write 0x34 ∷ tick ∷ control 0x00 ∷ tick ∷ read ∷ [])) ≡ 0x33
unfolding started on_events
one_read_ends_it = refl

latches_two_bytes : next_byte (started (control 0x30 ∷ write 0x00 ∷ write 0x12 ∷ tick ∷ control 0x00 ∷ tick ∷ read ∷ [])) ≡ 0x12
unfolding started on_events
latches_two_bytes = refl

two_reads_end_it : next_byte (started (control 0x30 ∷ write 0x00 ∷ write 0x12 ∷ tick ∷ control 0x00 ∷ tick ∷ read ∷ read ∷ [])) ≡ 0xFF
unfolding started on_events
two_reads_end_it = refl

-- decimal counts
counts_decimal : (started (control 0x31 ∷ write 0x00 ∷ write 0x10 ∷ tick ∷ [])).count ≡ 1000
unfolding started on_events
counts_decimal = refl

reads_decimal : next_byte (started (control 0x31 ∷ write 0x00 ∷ write 0x10 ∷ tick ∷ tick ∷ [])) ≡ 0x99
unfolding started on_events
reads_decimal = refl

-- "Mode 0": OUT is high once the count has come to 0, one tick after the load and one for each count
mode_0_low : (started (control 0x10 ∷ write 2 ∷ tick ∷ tick ∷ [])).out ≡ Low
unfolding started on_events
mode_0_low = refl

mode_0_high : (started (control 0x10 ∷ write 2 ∷ tick ∷ tick ∷ tick ∷ [])).out ≡ High
unfolding started on_events
mode_0_high = refl

-- "Mode 1": OUT is low from the tick after the trigger, for as many ticks as the count
mode_1_waits : (started (control 0x12 ∷ write 2 ∷ tick ∷ tick ∷ [])).out ≡ High
unfolding started on_events
mode_1_waits = refl

mode_1_low : (started (control 0x12 ∷ write 2 ∷ gate Low ∷ gate High ∷ tick ∷ tick ∷ [])).out ≡ Low
unfolding started on_events
mode_1_low = refl

mode_1_ends : (started (control 0x12 ∷ write 2 ∷ gate Low ∷ gate High ∷ tick ∷ tick ∷ tick ∷ [])).out ≡ High
unfolding started on_events
mode_1_ends = refl

-- "Mode 2": OUT is low for the last tick of each period
mode_2_high : (started (control 0x14 ∷ write 3 ∷ tick ∷ tick ∷ [])).out ≡ High
unfolding started on_events
mode_2_high = refl

mode_2_low : (started (control 0x14 ∷ write 3 ∷ tick ∷ tick ∷ tick ∷ [])).out ≡ Low
unfolding started on_events
mode_2_low = refl

mode_2_again : (started (control 0x14 ∷ write 3 ∷ tick ∷ tick ∷ tick ∷ tick ∷ [])).count ≡ 3
unfolding started on_events
mode_2_again = refl

-- "Mode 3": of five ticks OUT is high for three and low for two
mode_3_high : (started (control 0x16 ∷ write 5 ∷ tick ∷ tick ∷ tick ∷ [])).out ≡ High
unfolding started on_events
mode_3_high = refl

mode_3_low : (started (control 0x16 ∷ write 5 ∷ tick ∷ tick ∷ tick ∷ tick ∷ [])).out ≡ Low
unfolding started on_events
mode_3_low = refl

mode_3_still_low : (started (control 0x16 ∷ write 5 ∷ tick ∷ tick ∷ tick ∷ tick ∷ tick ∷ [])).out ≡ Low
unfolding started on_events
mode_3_still_low = refl

mode_3_again : (started (control 0x16 ∷ write 5 ∷ tick ∷ tick ∷ tick ∷ tick ∷ tick ∷ tick ∷ [])).out ≡ High
unfolding started on_events
mode_3_again = refl

-- "Mode 4": OUT is low for one tick, as the count comes to 0
mode_4_waits : (started (control 0x18 ∷ write 2 ∷ tick ∷ tick ∷ [])).out ≡ High
unfolding started on_events
mode_4_waits = refl

mode_4_strobes : (started (control 0x18 ∷ write 2 ∷ tick ∷ tick ∷ tick ∷ [])).out ≡ Low
unfolding started on_events
mode_4_strobes = refl

mode_4_ends : (started (control 0x18 ∷ write 2 ∷ tick ∷ tick ∷ tick ∷ tick ∷ [])).out ≡ High
unfolding started on_events
mode_4_ends = refl

-- "Mode 5": OUT is low for one tick, as the count comes to 0, from the trigger on
mode_5_waits : (started (control 0x1A ∷ write 2 ∷ tick ∷ tick ∷ tick ∷ [])).out ≡ High
unfolding started on_events
mode_5_waits = refl

mode_5_strobes : (started (control 0x1A ∷ write 2 ∷ gate Low ∷ gate High ∷ tick ∷ tick ∷ tick ∷ [])).out ≡ Low
unfolding started on_events
mode_5_strobes = refl

-- "Gate Pin Operations": a low gate stops counting in modes 0, 2, 3 and 4, and sets OUT high at once in 2 and 3
gate_stops : (started (control 0x10 ∷ write 5 ∷ tick ∷ gate Low ∷ tick ∷ tick ∷ [])).count ≡ 5
unfolding started on_events
gate_stops = refl

gate_lifts : (started (control 0x14 ∷ write 2 ∷ tick ∷ tick ∷ gate Low ∷ [])).out ≡ High
unfolding started on_events
gate_lifts = refl

gate_begins_anew : (started (control 0x14 ∷ write 5 ∷ tick ∷ tick ∷ gate Low ∷ gate High ∷ tick ∷ [])).count ≡ 5
unfolding started on_events
gate_begins_anew = refl

-- the 8254's "Read-Back Command": OUT, the null count, the access, the mode and the radix
status_at_power_on : next_byte (started_8254 (back 0xE2 ∷ [])) ≡ 0x70
unfolding started_8254 on_events
status_at_power_on = refl

status_before_load : next_byte (started_8254 (control 0x16 ∷ write 5 ∷ back 0xE8 ∷ [])) ≡ 0xD6
unfolding started_8254 on_events
status_before_load = refl

status_after_load : next_byte (started_8254 (control 0x16 ∷ write 5 ∷ tick ∷ back 0xE8 ∷ [])) ≡ 0x96
unfolding started_8254 on_events
status_after_load = refl

status_comes_first : next_byte (started_8254 (control 0x16 ∷ write 5 ∷ tick ∷ tick ∷ tick ∷ tick ∷ back 0xC8 ∷ [])) ≡ 0x16
unfolding started_8254 on_events
status_comes_first = refl

count_comes_next : next_byte (started_8254 (control 0x16 ∷ write 5 ∷ tick ∷ tick ∷ tick ∷ tick ∷ back 0xC8 ∷ tick ∷ read ∷ [])) ≡ 0x04
unfolding started_8254 on_events
count_comes_next = refl

no_status_in_an_8253 : next_byte (started (control 0x16 ∷ write 5 ∷ tick ∷ back 0xE8 ∷ [])) ≡ 0x05
unfolding started on_events
no_status_in_an_8253 = refl

-- "Mode 3" of the 8254: five ticks as 4, 2 and 0 with OUT high, and 4 and 2 with OUT low
odd_loads_less : (started_8254 (control 0x16 ∷ write 5 ∷ tick ∷ [])).count ≡ 4
unfolding started_8254 on_events
odd_loads_less = refl

odd_keeps_0 : (started_8254 (control 0x16 ∷ write 5 ∷ tick ∷ tick ∷ tick ∷ [])).count ≡ 0
unfolding started_8254 on_events
odd_keeps_0 = refl

odd_keeps_high : (started_8254 (control 0x16 ∷ write 5 ∷ tick ∷ tick ∷ tick ∷ [])).out ≡ High
unfolding started_8254 on_events
odd_keeps_high = refl

odd_turns_low : (started_8254 (control 0x16 ∷ write 5 ∷ tick ∷ tick ∷ tick ∷ tick ∷ [])).out ≡ Low
unfolding started_8254 on_events
odd_turns_low = refl

odd_low_loads_less : (started_8254 (control 0x16 ∷ write 5 ∷ tick ∷ tick ∷ tick ∷ tick ∷ [])).count ≡ 4
unfolding started_8254 on_events
odd_low_loads_less = refl

odd_low_falls : (started_8254 (control 0x16 ∷ write 5 ∷ tick ∷ tick ∷ tick ∷ tick ∷ tick ∷ [])).count ≡ 2
unfolding started_8254 on_events
odd_low_falls = refl

odd_low_keeps_none : (started_8254 (control 0x16 ∷ write 5 ∷ tick ∷ tick ∷ tick ∷ tick ∷ tick ∷ tick ∷ [])).out ≡ High
unfolding started_8254 on_events
odd_low_keeps_none = refl

-- a 1 runs with OUT high, and the next tick loads the newest count
odd_after_1 : (started_8254 (control 0x16 ∷ write 1 ∷ tick ∷ write 5 ∷ tick ∷ [])).count ≡ 4
unfolding started_8254 on_events
odd_after_1 = refl

-- 0 is 65,536, and even; 9999 in decimal is odd
even_of_0 : (started_8254 (control 0x36 ∷ write 0 ∷ write 0 ∷ tick ∷ tick ∷ [])).count ≡ 0xFFFE
unfolding started_8254 on_events
even_of_0 = refl

odd_in_decimal : next_byte (started_8254 (control 0x37 ∷ write 0x99 ∷ write 0x99 ∷ tick ∷ [])) ≡ 0x98
unfolding started_8254 on_events
odd_in_decimal = refl

-- a rise of the gate in the low half begins the high one anew, which keeps its 0
gate_lifts_odd : (started_8254 (control 0x16 ∷ write 3 ∷ tick ∷ tick ∷ tick ∷ gate Low ∷ [])).out ≡ High
unfolding started_8254 on_events
gate_lifts_odd = refl

gate_begins_odd : (started_8254 (control 0x16 ∷ write 3 ∷ tick ∷ tick ∷ tick ∷ gate Low ∷ tick ∷ gate High ∷ tick ∷ tick ∷ [])).count ≡ 0
unfolding started_8254 on_events
gate_begins_odd = refl

gate_keeps_odd_high : (started_8254 (control 0x16 ∷ write 3 ∷ tick ∷ tick ∷ tick ∷ gate Low ∷ tick ∷ gate High ∷ tick ∷ tick ∷ [])).out ≡ High
unfolding started_8254 on_events
gate_keeps_odd_high = refl

-- "Null Count Operation": the second of two bytes sets the null count, and in modes 1 and 5 a new count does while the
-- old one runs, until a trigger's load
null_after_first_byte : next_byte (started_8254 (control 0x34 ∷ write 9 ∷ write 0 ∷ tick ∷ write 5 ∷ back 0xE2 ∷ [])) ≡ 0xB4
unfolding started_8254 on_events
null_after_first_byte = refl

null_after_second_byte : next_byte (started_8254 (control 0x34 ∷ write 9 ∷ write 0 ∷ tick ∷ write 5 ∷ write 0 ∷ back 0xE2 ∷ [])) ≡ 0xF4
unfolding started_8254 on_events
null_after_second_byte = refl

null_in_mode_1 : next_byte (started_8254 (control 0x12 ∷ write 9 ∷ gate Low ∷ gate High ∷ tick ∷ write 5 ∷ tick ∷ back 0xE2 ∷ [])) ≡ 0x52
unfolding started_8254 on_events
null_in_mode_1 = refl

loaded_in_mode_1 : next_byte (started_8254 (control 0x12 ∷ write 9 ∷ gate Low ∷ gate High ∷ tick ∷ write 5 ∷ gate Low ∷ gate High ∷ tick ∷ back 0xE2 ∷ []))
    ≡ 0x12
unfolding started_8254 on_events
loaded_in_mode_1 = refl

null_in_mode_5 : next_byte (started_8254 (control 0x1A ∷ write 9 ∷ gate Low ∷ gate High ∷ tick ∷ write 5 ∷ tick ∷ back 0xE2 ∷ [])) ≡ 0xDA
unfolding started_8254 on_events
null_in_mode_5 = refl

-- modes x10 and x11 show as 2 and 3
shows_mode_6_as_2 : next_byte (started_8254 (control 0x3C ∷ back 0xE2 ∷ [])) ≡ 0xF4
unfolding started_8254 on_events
shows_mode_6_as_2 = refl

shows_mode_7_as_3 : next_byte (started_8254 (control 0x3F ∷ back 0xE2 ∷ [])) ≡ 0xF7
unfolding started_8254 on_events
shows_mode_7_as_3 = refl

-- the status comes first, whichever was latched first, and between the two bytes of a count too
status_after_count : next_byte (started_8254 (control 0x34 ∷ write 9 ∷ write 2 ∷ tick ∷ back 0xD2 ∷ tick ∷ back 0xE2 ∷ [])) ≡ 0xB4
unfolding started_8254 on_events
status_after_count = refl

status_between_bytes : next_byte (started_8254 (control 0x34 ∷ write 9 ∷ write 2 ∷ tick ∷ read ∷ back 0xE2 ∷ [])) ≡ 0xB4
unfolding started_8254 on_events
status_between_bytes = refl

high_byte_after_status : next_byte (started_8254 (control 0x34 ∷ write 9 ∷ write 2 ∷ tick ∷ read ∷ back 0xE2 ∷ read ∷ [])) ≡ 0x02
unfolding started_8254 on_events
high_byte_after_status = refl

-- of two latches the first stays until it is read
first_status_stays : next_byte (started_8254 (control 0x14 ∷ write 9 ∷ back 0xE2 ∷ tick ∷ back 0xE2 ∷ [])) ≡ 0xD4
unfolding started_8254 on_events
first_status_stays = refl

first_count_stays : next_byte (started_8254 (control 0x14 ∷ write 9 ∷ tick ∷ back 0xD2 ∷ tick ∷ back 0xC2 ∷ read ∷ [])) ≡ 0x09
unfolding started_8254 on_events
first_count_stays = refl

-- a control word ends both latches; the count of the one before stays to be read
both_latches_end : next_byte (started_8254 (control 0x14 ∷ write 9 ∷ tick ∷ back 0xC2 ∷ tick ∷ control 0x14 ∷ [])) ≡ 0x08
unfolding started_8254 on_events
both_latches_end = refl

-- The whole timer by its ports.

-- what happens to a timer
data PortEvent : Type 0 where
  output : ℕ → ℕ → PortEvent
  wire : ℕ → Line → PortEvent
  input : ℕ → PortEvent
  pulse : PortEvent

unfoldable on_port_events : ⊤
unfolding on_events pit.power_on pit.after_write pit.byte_at pit.after_read pit.after_gate pit.after_tick
on_port_events = tt

abbrev after_port_event : PitState → PortEvent → PitState
after_port_event p (output port byte) = pit.after_write p port byte
after_port_event p (wire n line) = pit.after_gate p n line
after_port_event p (input port) = pit.after_read p port
after_port_event p pulse = pit.after_tick p

abbrev after_all : PitState → List PortEvent → PitState
after_all p [] = p
after_all p (event ∷ later) = after_all (after_port_event p event) later

-- an 8254 whose gate 2 is high, its counter 2 in mode 3 with the low byte alone, and 5 written to it
square_5 : List PortEvent → PitState
square_5 events = after_all (pit.power_on I8254) (wire 2 High ∷ output 3 0x96 ∷ output 2 5 ∷ events)

timer_at_power_on : pit.byte_at (after_all (pit.power_on I8254) (output 3 0xE2 ∷ [])) 0 ≡ 0x70
unfolding on_port_events
timer_at_power_on = refl

square_before_load : pit.byte_at (square_5 (output 3 0xE8 ∷ [])) 2 ≡ 0xD6
unfolding square_5 on_port_events
square_before_load = refl

square_after_load : pit.byte_at (square_5 (pulse ∷ output 3 0xE8 ∷ [])) 2 ≡ 0x96
unfolding square_5 on_port_events
square_after_load = refl

square_counts_at_1 : pit.byte_at (square_5 (pulse ∷ [])) 2 ≡ 4
unfolding square_5 on_port_events
square_counts_at_1 = refl

square_stands_at_1 : (square_5 (pulse ∷ [])).counter_2.out ≡ High
unfolding square_5 on_port_events
square_stands_at_1 = refl

square_counts_at_2 : pit.byte_at (square_5 (pulse ∷ pulse ∷ [])) 2 ≡ 2
unfolding square_5 on_port_events
square_counts_at_2 = refl

square_stands_at_2 : (square_5 (pulse ∷ pulse ∷ [])).counter_2.out ≡ High
unfolding square_5 on_port_events
square_stands_at_2 = refl

square_counts_at_3 : pit.byte_at (square_5 (pulse ∷ pulse ∷ pulse ∷ [])) 2 ≡ 0
unfolding square_5 on_port_events
square_counts_at_3 = refl

square_stands_at_3 : (square_5 (pulse ∷ pulse ∷ pulse ∷ [])).counter_2.out ≡ High
unfolding square_5 on_port_events
square_stands_at_3 = refl

square_counts_at_4 : pit.byte_at (square_5 (pulse ∷ pulse ∷ pulse ∷ pulse ∷ [])) 2 ≡ 4
unfolding square_5 on_port_events
square_counts_at_4 = refl

square_stands_at_4 : (square_5 (pulse ∷ pulse ∷ pulse ∷ pulse ∷ [])).counter_2.out ≡ Low
unfolding square_5 on_port_events
square_stands_at_4 = refl

square_counts_at_5 : pit.byte_at (square_5 (pulse ∷ pulse ∷ pulse ∷ pulse ∷ pulse ∷ [])) 2 ≡ 2
unfolding square_5 on_port_events
square_counts_at_5 = refl

square_stands_at_5 : (square_5 (pulse ∷ pulse ∷ pulse ∷ pulse ∷ pulse ∷ [])).counter_2.out ≡ Low
unfolding square_5 on_port_events
square_stands_at_5 = refl

square_counts_at_6 : pit.byte_at (square_5 (pulse ∷ pulse ∷ pulse ∷ pulse ∷ pulse ∷ pulse ∷ [])) 2 ≡ 4
unfolding square_5 on_port_events
square_counts_at_6 = refl

square_stands_at_6 : (square_5 (pulse ∷ pulse ∷ pulse ∷ pulse ∷ pulse ∷ pulse ∷ [])).counter_2.out ≡ High
unfolding square_5 on_port_events
square_stands_at_6 = refl

square_status_first : pit.byte_at (square_5 (pulse ∷ pulse ∷ pulse ∷ pulse ∷ output 3 0xC8 ∷ [])) 2 ≡ 0x16
unfolding square_5 on_port_events
square_status_first = refl

square_count_then : pit.byte_at (square_5 (pulse ∷ pulse ∷ pulse ∷ pulse ∷ output 3 0xC8 ∷ input 2 ∷ [])) 2 ≡ 0x04
unfolding square_5 on_port_events
square_count_then = refl

-- bit 1 names counter 0, bit 2 counter 1 and bit 3 counter 2, more than one together; bit 0 names none
names_counter_1 : pit.byte_at (square_5 (output 3 0xE4 ∷ [])) 1 ≡ 0x70
unfolding square_5 on_port_events
names_counter_1 = refl

leaves_counter_2 : pit.byte_at (square_5 (pulse ∷ pulse ∷ output 3 0xE6 ∷ [])) 2 ≡ 0x02
unfolding square_5 on_port_events
leaves_counter_2 = refl

names_counters_0_and_2 : pit.byte_at (square_5 (pulse ∷ output 3 0xEA ∷ input 0 ∷ [])) 2 ≡ 0x96
unfolding square_5 on_port_events
names_counters_0_and_2 = refl

names_none : pit.byte_at (square_5 (output 3 0xE1 ∷ [])) 0 ≡ 0x00
unfolding square_5 on_port_events
names_none = refl
