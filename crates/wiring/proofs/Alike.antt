-- Two states that differ, in the timer's counter 2, only in what its reads change sound alike.
use Rattle.std.proofs.Common.{◌≡◌, ℕ, ◌+◌, ◌/◌, ◌%◌, Bool, true, false, if◌then◌else◌, List, [], ◌∷◌, refl, sym, ap, ◌∙◌}
use Rattle.std.specs.Prelude.{◌==◌, ◌&&◌}
use Rattle.board_types.specs.Bits.{has_bit}
use Rattle.board_types.specs.LineLevel.{is_high}
use Rattle.bus.specs.PortWriteBus.{after_port_writes}
use Rattle.pit8253.specs.Counter as one
use Rattle.pit8253.specs.Counter.{CounterState}
use Rattle.pit8253.specs.Pit as pit
use Rattle.pit8253.specs.Pit.{PitState, counter, with_counter}
use Rattle.ppi8255.specs.Ppi.{PpiState, lines_b}
use Rattle.ppi8255.specs.Ppi as ppi
use Rattle.wiring.specs.declared.port.Port.{Port}
use Rattle.wiring.specs.declared.port.Port.TheVariants.{Controller, Timer, Parallel, Adapter, Nothing}
use Rattle.wiring.specs.Chips.{ChipsState}
use Rattle.wiring.specs.Ports.{port_at, after_port_read, after_port_write, after_input, after_output}
use Rattle.wiring.specs.Wires.{pit_after_clock, after_settling, after_clock, after_arrival, after_arrivals, after_key_settling}
use Rattle.wiring.specs.EachWire.{port_b_line}
use Rattle.wiring.specs.Speaker.{is_speaker_high, is_speaker_high_after}
use Rattle.wiring.specs.WiringLaws.{SoundsAlike, DependsOnWrites, NoKeyTouches, NoReadTouches}
use Rattle.wiring.proofs.TimerGates.{changed_at}
use Rattle.wiring.proofs.Unread.{unread, IsUnread, tick_unread, control_unread, write_unread, gate_unread, read_leaves, back_where_leaves, same_rest}

same_all : (s : ChipsState) → SoundsAlike s s
same_all s = record { clock = refl; ppi = refl; counter_2 = refl }

same_then : (s t u : ChipsState) → SoundsAlike s t → SoundsAlike t u → SoundsAlike s u
same_then s t u first second = record {
  clock = first.clock ∙ second.clock;
  ppi = first.ppi ∙ second.ppi;
  counter_2 = first.counter_2 ∙ second.counter_2;
}

-- a counter changes by a rule, in two timers
changed_by : (zeroth first second : Bool) (rule : CounterState → CounterState) (p q : PitState) → IsUnread rule → unread p.counter_2 ≡ unread q.counter_2
    → unread (changed_at zeroth first second rule p).counter_2 ≡ unread (changed_at zeroth first second rule q).counter_2
changed_by true first second rule p q is_unread same = same
changed_by false true second rule p q is_unread same = same
changed_by false false true rule p q is_unread same = same_rest rule is_unread p.counter_2 q.counter_2 same
changed_by false false false rule p q is_unread same = same

changed : (n : ℕ) (rule : CounterState → CounterState) (p q : PitState) → IsUnread rule → unread p.counter_2 ≡ unread q.counter_2
    → unread (with_counter p n (rule (counter p n))).counter_2 ≡ unread (with_counter q n (rule (counter q n))).counter_2
changed n rule p q is_unread same = changed_by (n == 0) (n == 1) (n == 2) rule p q is_unread same

one_of : (b : Bool) (p x q y : PitState) → unread p.counter_2 ≡ unread q.counter_2 → unread x.counter_2 ≡ unread y.counter_2
    → unread (if b then p else x).counter_2 ≡ unread (if b then q else y).counter_2
one_of true p x q y first second = first
one_of false p x q y first second = second

write_rest : (n byte : ℕ) (p q : PitState) → unread p.counter_2 ≡ unread q.counter_2
    → unread (pit.after_write p n byte).counter_2 ≡ unread (pit.after_write q n byte).counter_2
unfolding pit.after_write
write_rest n byte p q same =
    one_of (n == 3) _ _ _ _
    (one_of (byte / 64 == 3) (pit.after_read_back p byte) _ (pit.after_read_back q byte) _
    (back_where_leaves p.counter_2 (byte / 8 % 2) byte ∙ same ∙ sym (back_where_leaves q.counter_2 (byte / 8 % 2) byte))
    (changed (byte / 64) (λ c. one.after_control_word c byte) p q (control_unread byte) same))
    (changed n (λ c. one.after_write c byte) p q (write_unread byte) same)

clock_rest : (clock : ℕ) (p q : PitState) → unread p.counter_2 ≡ unread q.counter_2
    → unread (pit_after_clock p clock).counter_2 ≡ unread (pit_after_clock q clock).counter_2
unfolding pit.after_tick
clock_rest clock p q same = one_of (clock % 4 == 0) _ _ _ _ (same_rest one.after_tick tick_unread p.counter_2 q.counter_2 same) same

alike_after_settling : (s t : ChipsState) → SoundsAlike s t → SoundsAlike (after_settling s) (after_settling t)
unfolding after_settling pit.after_gate
alike_after_settling s t alike = record {
  clock = alike.clock;
  ppi = alike.ppi;
  counter_2 = ap (λ ports. unread (one.after_gate s.pit.counter_2 (port_b_line ports 0))) alike.ppi
      ∙ same_rest (λ c. one.after_gate c (port_b_line t.ppi 0)) (gate_unread (port_b_line t.ppi 0)) s.pit.counter_2 t.pit.counter_2 alike.counter_2;
}

alike_after_write : (s t : ChipsState) (port : Port) (byte : ℕ) → SoundsAlike s t → SoundsAlike (after_port_write s port byte) (after_port_write t port byte)
alike_after_write s t (Controller a0) byte alike = record { clock = alike.clock; ppi = alike.ppi; counter_2 = alike.counter_2 }
alike_after_write s t (Timer n) byte alike = record {
  clock = alike.clock;
  ppi = alike.ppi;
  counter_2 = write_rest n byte s.pit t.pit alike.counter_2;
}
alike_after_write s t (Parallel n) byte alike = record {
  clock = alike.clock;
  ppi = ap (λ ports. ppi.after_write ports n byte) alike.ppi;
  counter_2 = alike.counter_2;
}
alike_after_write s t (Adapter n) byte alike = record { clock = alike.clock; ppi = alike.ppi; counter_2 = alike.counter_2 }
alike_after_write s t Nothing byte alike = alike

pub alike_after_output : (s t : ChipsState) (port byte : ℕ) → SoundsAlike s t → SoundsAlike (after_output s port byte) (after_output t port byte)
unfolding after_output
alike_after_output s t port byte alike = alike_after_settling _ _ (alike_after_write s t (port_at port) byte alike)

alike_after_writes : (s t : ChipsState) (writes : List (ℕ × ℕ)) → SoundsAlike s t
    → SoundsAlike (after_port_writes after_output s writes) (after_port_writes after_output t writes)
alike_after_writes s t [] alike = alike
alike_after_writes s t (w ∷ writes) alike = alike_after_writes (after_output s w.0 w.1) (after_output t w.0 w.1) writes (alike_after_output s t w.0 w.1 alike)

alike_after_clock : (s t : ChipsState) → SoundsAlike s t → SoundsAlike (after_clock s) (after_clock t)
unfolding after_clock
alike_after_clock s t alike = alike_after_settling _ _ (record {
  clock = ap (λ clock. clock + 1) alike.clock;
  ppi = alike.ppi;
  counter_2 = ap (λ clock. unread (pit_after_clock s.pit (clock + 1)).counter_2) alike.clock
      ∙ clock_rest (t.clock + 1) s.pit t.pit alike.counter_2;
})

alike_after_keys : (s t : ChipsState) → SoundsAlike s t → SoundsAlike (after_key_settling s) (after_key_settling t)
unfolding after_key_settling
alike_after_keys s t alike = alike_after_settling _ _ (record { clock = alike.clock; ppi = alike.ppi; counter_2 = alike.counter_2 })

alike_after_arrival : (s : ChipsState) (code : ℕ) → SoundsAlike (after_arrival s code) s
unfolding after_arrival
alike_after_arrival s code = record { clock = refl; ppi = refl; counter_2 = refl }

alike_after_arrivals : (s : ChipsState) (codes : List ℕ) → SoundsAlike (after_arrivals s codes) s
alike_after_arrivals s [] = same_all s
alike_after_arrivals s (code ∷ codes) =
    same_then (after_arrivals (after_arrival s code) codes) (after_arrival s code) s
    (alike_after_arrivals (after_arrival s code) codes) (alike_after_arrival s code)

high_alike : (s t : ChipsState) → SoundsAlike s t → is_speaker_high s ≡ is_speaker_high t
unfolding is_speaker_high
high_alike s t alike =
    ap (λ ports. has_bit (lines_b ports) 1 && is_high s.pit.counter_2.out) alike.ppi
    ∙ ap (λ (c : CounterState). has_bit (lines_b t.ppi) 1 && is_high c.out) alike.counter_2

pub depends_on_writes : DependsOnWrites
unfolding is_speaker_high_after
depends_on_writes s t writes alike = high_alike _ _ (alike_after_keys _ _ (alike_after_clock _ _ (alike_after_writes s t writes alike)))

pub no_key_touches : NoKeyTouches
unfolding is_speaker_high_after
no_key_touches s writes codes = high_alike _ _ (alike_after_keys _ _ (alike_after_arrivals (after_clock (after_port_writes after_output s writes)) codes))

-- one counter is read
counter_read : (zeroth first second : Bool) (p : PitState) → unread (changed_at zeroth first second one.after_read p).counter_2 ≡ unread p.counter_2
counter_read true first second p = refl
counter_read false true second p = refl
counter_read false false true p = read_leaves p.counter_2
counter_read false false false p = refl

timer_read : (n : ℕ) (p : PitState) → unread (pit.after_read p n).counter_2 ≡ unread p.counter_2
unfolding pit.after_read
timer_read n p = counter_read (n == 0) (n == 1) (n == 2) p

alike_after_read : (s : ChipsState) (port : Port) → SoundsAlike (after_port_read s port) s
alike_after_read s (Controller a0) = record { clock = refl; ppi = refl; counter_2 = refl }
alike_after_read s (Timer n) = record { clock = refl; ppi = refl; counter_2 = timer_read n s.pit }
alike_after_read s (Parallel n) = record { clock = refl; ppi = refl; counter_2 = refl }
alike_after_read s (Adapter n) = record { clock = refl; ppi = refl; counter_2 = refl }
alike_after_read s Nothing = record { clock = refl; ppi = refl; counter_2 = refl }

pub alike_after_input : (s : ChipsState) (port : ℕ) → SoundsAlike (after_input s port) (after_settling s)
unfolding after_input
alike_after_input s port = alike_after_settling (after_port_read s (port_at port)) s (alike_after_read s (port_at port))

pub no_read_touches : NoReadTouches
no_read_touches s writes port still =
    depends_on_writes (after_input s port) (after_settling s) writes (alike_after_input s port) ∙ ap (λ t. is_speaker_high_after t writes) still
