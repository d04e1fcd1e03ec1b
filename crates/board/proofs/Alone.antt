-- Clocks in which the chips alone go on: what a board is after them, and that nothing is seen of them.
use Rattle.wiring.specs.EachWire.{is_requested}
use Rattle.std.proofs.Common.{◌≡◌, ℕ, ◌+◌, ◌-◌, ◌<◌, ◌≤◌, inl, inr, ◌&&◌, List, refl, sym, ap, ◌∙◌, arith}
use Rattle.std.specs.Prelude.{nat_eq}
use Rattle.board_types.proofs.Iterate.{iterate_more}
use Rattle.board_types.specs.Bits.{has_bit}
use Rattle.board_types.specs.LineLevel.{from_bool, is_high}
use Rattle.board_types.specs.Timed.{IsSteady}
use Rattle.board_types.specs.declared.line.Line.{Line}
use Rattle.execute_meaning.specs.Boundaries.{boundary_of}
use Rattle.execute_meaning.specs.declared.boundary.Boundary.TheVariants as boundaries
use Rattle.pit8253.proofs.PitTicks.{each_counter}
use Rattle.pit8253.specs.Counter.{after_ticks, out_of}
use Rattle.pit8253.specs.Pit.{PitState}
use Rattle.ppi8255.specs.Ppi.{lines_b}
use Rattle.wiring.proofs.Clocks.{clock_of_clocks}
use Rattle.wiring.proofs.Alone.{keyboard_of_clocks, low_alone, low_now}
use Rattle.wiring.proofs.Inhibited.{request_stays}
use Rattle.wiring.proofs.Speaker.{ppi_of_clocks}
use Rattle.wiring.proofs.Ticks.{clocks_tick}
use Rattle.wiring.specs.Chips.{ChipsState}
use Rattle.wiring.specs.Edges.{ticks_between}
use Rattle.wiring.specs.Speaker.{is_speaker_high}
use Rattle.wiring.specs.Wires as wires
use Rattle.wiring.specs.Wires.{after_settling}
use Rattle.board_plain.specs.declared.act.Act.TheVariants.{Nothing}
use Rattle.board_plain.specs.declared.stop.Condition.{Condition}
use Rattle.board_plain.specs.BoardLaws.{WiresHold}
use Rattle.board_plain.specs.Plain.{Plain, after_clock, after_clocks, change_next, clock_of, next_act, speaker_level}
use Rattle.board_plain.specs.Stops.{holding}
use Rattle.board_plain.specs.Trail.{trail_next}
use Rattle.board_plain.specs.Work.{steps_next}
use Rattle.board_plain.proofs.Quiet.{go_on_alone, nothing_by}
use Rattle.board.specs.UnseenClocks.{BeginsNothing, IsAlone, IsUnseen, KeepsLevel, StaysIdleDespiteTimer, passed_by}
use Rattle.board.proofs.Leap.{LooksSame, busy_by, busy_still, bytes_stay, free_still, holding_same, idle_clocks, none_gathered, not_free, nothing_begins}
use Rattle.board.proofs.Ticking.{no_change}
use Rattle.board.proofs.Uneventful.{quiet_clock}
use Rattle.board.proofs.Works.{no_step, none_in_all}

-- the processor does nothing, whatever the timer does

begins_nothing : (s : Plain) (i : ℕ) → WiresHold s.chips → BeginsNothing s
    → boundary_of s.cpu (is_requested (wires.after_clocks s.chips i)) ≡ boundaries.Nothing
begins_nothing s i holds (inl despite_timer) = despite_timer (is_requested (wires.after_clocks s.chips i))
begins_nothing s i holds (inr now) = ap (boundary_of s.cpu) (request_stays s.chips i holds.settled holds.keys now.1) ∙ now.0

idle_act : (s : Plain) (n i : ℕ) → i < n → WiresHold s.chips → StaysIdleDespiteTimer s n
    → next_act (record s { busy = s.busy - i; chips = wires.after_clocks s.chips i }) ≡ Nothing
unfolding next_act
idle_act s n i before holds (inl busy) = busy_by (nat_eq (s.busy - i) 0) _ (not_free (s.busy - i) (omega (arith, before, busy)))
idle_act s n i before holds (inr idle) =
    nothing_by (nat_eq (s.busy - i) 0) s.cpu (wires.after_clocks s.chips i) _ (begins_nothing s i holds idle.1)

alone_leaps : (s : Plain) (n k : ℕ) → k ≤ n → WiresHold s.chips → IsAlone s n → after_clocks s k ≡ passed_by s k
unfolding passed_by
alone_leaps s n k within holds alone =
    idle_clocks n k s within holds alone.no_key (λ i before. idle_act s n i (omega (arith, before, within)) holds alone.idle)

does_nothing : (s : Plain) (n i : ℕ) → WiresHold s.chips → IsAlone s n → i < n → next_act (after_clocks s i) ≡ Nothing
unfolding passed_by
does_nothing s n i holds alone before =
    ap next_act (alone_leaps s n i (omega (arith, before)) holds alone) ∙ idle_act s n i before holds alone.idle

-- the speaker stays low, or OUT2 stays, and with it the speaker's level

out_2_stays : (c : ChipsState) (n k : ℕ) → k ≤ n → after_settling c ≡ c → IsSteady after_ticks out_of c.pit.counter_2 (ticks_between c.clock (c.clock + n))
    → (wires.after_clocks c k).pit.counter_2.out ≡ c.pit.counter_2.out
out_2_stays c n k within settled steady =
    let ticks : ℕ = ticks_between c.clock (c.clock + k) in
    ap (λ (p : PitState). p.counter_2.out) (clocks_tick c k settled ∙ each_counter ticks c.pit) ∙ steady ticks (omega (arith, within))

speaker_stays : (c : ChipsState) (n k : ℕ) → k ≤ n → WiresHold c → KeepsLevel c n → is_speaker_high (wires.after_clocks c k) ≡ is_speaker_high c
unfolding is_speaker_high
speaker_stays c n k within holds (inl off) = low_alone c k (record { speaker_off = off; keys = holds.keys }) ∙ sym (low_now c off)
speaker_stays c n k within holds (inr steady) =
    ap (λ p. has_bit (lines_b p) 1 && is_high (wires.after_clocks c k).pit.counter_2.out) (ppi_of_clocks c k)
    ∙ ap (λ (out : Line). has_bit (lines_b c.ppi) 1 && is_high out) (out_2_stays c n k within holds.settled steady)

level_stays : (s : Plain) (n k : ℕ) → k ≤ n → WiresHold s.chips → IsAlone s n → speaker_level (after_clocks s k) ≡ speaker_level s
unfolding speaker_level passed_by
level_stays s n k within holds alone =
    ap speaker_level (alone_leaps s n k within holds alone) ∙ ap from_bool (speaker_stays s.chips n k within holds alone.level)

-- no condition changes, short of the end

free_by : (s : Plain) (n k : ℕ) → k < n → StaysIdleDespiteTimer s n → nat_eq (s.busy - k) 0 ≡ nat_eq s.busy 0
free_by s n k before (inl busy) = busy_still s.busy n k before busy
free_by s n k before (inr idle) = free_still s.busy k idle.0

looks_same : (s : Plain) (n k : ℕ) → k < n → WiresHold s.chips → IsAlone s n → speaker_level (passed_by s k) ≡ speaker_level s → LooksSame s (passed_by s k)
unfolding passed_by
looks_same s n k before holds alone level =
    let on = go_on_alone k s.chips holds in record {
      cpu = refl;
      free = free_by s n k before alone.idle;
      bytes = bytes_stay s (passed_by s k) _ on.memory on.mda;
      level = level;
    }

holding_stays : (stops : List Condition) (s : Plain) (n k : ℕ) → k < n → WiresHold s.chips → IsAlone s n → holding stops (after_clocks s k) ≡ holding stops s
holding_stays stops s n k before holds alone =
    let leap = alone_leaps s n k (omega (arith, before)) holds alone in
    ap (holding stops) leap
    ∙ holding_same stops s (passed_by s k)
    (looks_same s n k before holds alone (ap speaker_level (sym leap) ∙ level_stays s n k (omega (arith, before)) holds alone))

-- nothing is seen

clock_of_alone : (s : Plain) (n : ℕ) → clock_of (passed_by s n) ≡ clock_of s + n
unfolding clock_of passed_by
clock_of_alone s n = clock_of_clocks n s.chips

busy_of_alone : (s : Plain) (n : ℕ) → (passed_by s n).busy ≡ s.busy - n
unfolding passed_by
busy_of_alone s n = refl

pub cpu_of_passed : (s : Plain) (n : ℕ) → (passed_by s n).cpu ≡ s.cpu
unfolding passed_by
cpu_of_passed s n = refl

pub keyboard_of_passed : (s : Plain) (n : ℕ) → WiresHold s.chips → (passed_by s n).chips.keyboard ≡ s.chips.keyboard
unfolding passed_by
keyboard_of_passed s n holds = keyboard_of_clocks s.chips n holds.keys

pub alone_unseen : (s : Plain) (n : ℕ) → WiresHold s.chips → IsAlone s n → IsUnseen s n (passed_by s n)
alone_unseen s n holds alone = record {
  plain = sym (alone_leaps s n n (omega arith) holds alone);
  clock = clock_of_alone s n;
  busy = busy_of_alone s n;
  changes = none_gathered after_clock change_next n s (λ i before.
      no_change (after_clocks s i)
      (ap speaker_level (sym (iterate_more after_clock i s)) ∙ level_stays s n (i + 1) (omega (arith, before)) holds alone
      ∙ sym (level_stays s n i (omega (arith, before)) holds alone)));
  entries = none_gathered after_clock trail_next n s (λ i before. nothing_begins (after_clocks s i) (does_nothing s n i holds alone before));
  steps = none_in_all after_clock steps_next n s (λ i before. no_step (after_clocks s i) (does_nothing s n i holds alone before));
  conditions = λ stops k before. holding_stays stops s n k before holds alone;
  quiet = λ k before.
      quiet_clock s n k before holds alone.no_key (alone_leaps s n k (omega (arith, before)) holds alone) (does_nothing s n k holds alone before);
  cpu = λ k within. ap (λ (p : Plain). p.cpu) (alone_leaps s n k within holds alone) ∙ cpu_of_passed s k;
  keyboard = λ k within. ap (λ (p : Plain). p.chips.keyboard) (alone_leaps s n k within holds alone) ∙ keyboard_of_passed s k holds;
}
