-- How often n clocks tick the counters.
use Rattle.std.proofs.Common.{◌≡◌, ℕ, zero, suc, ◌+◌, ◌-◌, ◌/◌, ◌%◌, Bool, true, false, if◌then◌else◌, refl, sym, ap, ◌∙◌, arith}
use Rattle.std.specs.Prelude.{◌==◌, ◌&&◌, not}
use Rattle.std.proofs.lemmas.Bool.Decides.{nat_tests}
use Rattle.board_types.proofs.Iterate.{iterate_zero, iterate_more}
use Rattle.board_types.specs.declared.line.Line.{Line}
use Rattle.board_types.specs.declared.line.Line.TheVariants.{Low, High}
use Rattle.pit8253.specs.declared.program.Mode.{Mode}
use Rattle.pit8253.specs.declared.program.Mode.TheVariants.{TerminalCount, OneShot, RateGenerator, SquareWave, SoftwareStrobe, HardwareStrobe}
use Rattle.pit8253.specs.Counter as one
use Rattle.pit8253.specs.Counter.{CounterState, is_loaded, is_awaited, is_triggered, after_due_load}
use Rattle.pit8253.specs.Counter.{after_count, after_rate_count, after_square_count, out_at_gate}
use Rattle.pit8253.specs.Pit as pit
use Rattle.pit8253.specs.Pit.{PitState}
use Rattle.ppi8255.specs.Ppi.{PpiState}
use Rattle.wiring.specs.Chips.{ChipsState}
use Rattle.wiring.specs.Wires.{pit_after_clock, after_settling, after_clock, after_clocks}
use Rattle.wiring.specs.EachWire.{port_b_line, after_gate_wire}
use Rattle.wiring.specs.WiringLaws.{ClocksTick}
use Rattle.wiring.proofs.Clocks.{clock_of_clocks}
use Rattle.wiring.proofs.Gates.{no_rise}
use Rattle.wiring.proofs.Settling.{settles_once}
use Rattle.wiring.proofs.TimerGates.{tick_setup, tick_gate}

-- a gate that takes the level that it has
gate_same : (c : CounterState) → out_at_gate c.mode c.gate c.out ≡ c.out → one.after_gate c c.gate ≡ c
unfolding one.after_gate
gate_same c still =
    ap (λ b. record c { load_due = b; out = out_at_gate c.mode c.gate c.out }) (no_rise c.gate c.load_due (is_triggered c.mode) (not (is_awaited c.progress)))
    ∙ ap (λ out. record c { out = out }) still

out_by : (b : Bool) (out : Line) (c d : CounterState) → out ≡ c.out → out ≡ d.out → out ≡ (if b then c else d).out
out_by true out c d first second = first
out_by false out c d first second = second

none_of : (b : Bool) → (b && false) ≡ false
none_of true = refl
none_of false = refl

-- under a low gate OUT stays high in modes 2 and 3, even if a count is loaded
tick_out : (c : CounterState) (mode : Mode) (gate : Line) → out_at_gate mode gate c.out ≡ c.out
    → (let x : CounterState = one.after_tick (record c { mode = mode; gate = gate }) in out_at_gate mode gate x.out ≡ x.out)
unfolding one.after_tick
tick_out c TerminalCount gate still = refl
tick_out c OneShot gate still = refl
tick_out c RateGenerator High still = refl
tick_out c RateGenerator Low still =
    let x : CounterState = record c { mode = RateGenerator; gate = Low } in
    out_by c.load_due High (after_due_load x RateGenerator) (after_count x RateGenerator) refl
    (still ∙ ap (λ b. (if b then after_rate_count x else x).out) (sym (none_of (is_loaded c.progress))))
tick_out c SquareWave High still = refl
tick_out c SquareWave Low still =
    let x : CounterState = record c { mode = SquareWave; gate = Low } in
    out_by c.load_due High (after_due_load x SquareWave) (after_count x SquareWave) refl
    (still ∙ ap (λ b. (if b then after_square_count x else x).out) (sym (none_of (is_loaded c.progress))))
tick_out c SoftwareStrobe gate still = refl
tick_out c HardwareStrobe gate still = refl

tick_still : (c : CounterState) → out_at_gate c.mode c.gate c.out ≡ c.out → one.after_gate (one.after_tick c) c.gate ≡ one.after_tick c
tick_still c still =
    let x : CounterState = one.after_tick c in
    ap (one.after_gate x) (sym (tick_gate c))
    ∙ gate_same x (ap (λ (s : Mode × Line). out_at_gate s.0 s.1 x.out) (tick_setup c) ∙ tick_out c c.mode c.gate still)

-- a counter whose gate has taken its level ticks to one whose gate has
gate_then_tick : (c : CounterState) (line : Line) → one.after_gate c line ≡ c → one.after_gate (one.after_tick c) line ≡ one.after_tick c
unfolding one.after_gate
gate_then_tick c line still =
    let level : line ≡ c.gate = ap (λ (d : CounterState). d.gate) still in
    let out : out_at_gate c.mode line c.out ≡ c.out = ap (λ (d : CounterState). d.out) still in
    ap (one.after_gate (one.after_tick c)) level
    ∙ tick_still c (ap (λ l. out_at_gate c.mode l c.out) (sym level) ∙ out)

-- a timer whose gate 2 has taken its level ticks to one whose gate 2 has
pub line_then_tick : (p : PitState) (line : Line) → pit.after_gate p 2 line ≡ p → pit.after_gate (pit.after_tick p) 2 line ≡ pit.after_tick p
unfolding pit.after_gate pit.after_tick
line_then_tick p line still =
    ap (λ c. record { counter_0 = one.after_tick p.counter_0; counter_1 = one.after_tick p.counter_1; counter_2 = c })
    (gate_then_tick p.counter_2 line (ap (λ (q : PitState). q.counter_2) still))

wire_then_tick : (p : PitState) (ppi : PpiState) → after_gate_wire p ppi ≡ p → after_gate_wire (pit.after_tick p) ppi ≡ pit.after_tick p
wire_then_tick p ppi still = line_then_tick p (port_b_line ppi 0) still

wire_then_clock : (b : Bool) (p : PitState) (ppi : PpiState) → after_gate_wire p ppi ≡ p
    → after_gate_wire (if b then pit.after_tick p else p) ppi ≡ (if b then pit.after_tick p else p)
wire_then_clock true p ppi still = wire_then_tick p ppi still
wire_then_clock false p ppi still = still

-- the timer at the next clock
pit_next : (s : ChipsState) → after_settling s ≡ s → (after_clock s).pit ≡ pit_after_clock s.pit (s.clock + 1)
unfolding after_clock after_settling
pit_next s still = wire_then_clock ((s.clock + 1) % 4 == 0) s.pit s.ppi (ap (λ (t : ChipsState). t.pit) still)

settled_next : (s : ChipsState) → after_settling (after_clock s) ≡ after_clock s
unfolding after_clock
settled_next s = settles_once _

pub settled_later : (n : ℕ) (s : ChipsState) → after_settling s ≡ s → after_settling (after_clocks s n) ≡ after_clocks s n
settled_later zero s still = ap after_settling (iterate_zero after_clock s) ∙ still ∙ sym (iterate_zero after_clock s)
settled_later (suc n) s still =
    let more : suc n ≡ n + 1 = omega arith in
    ap (λ k. after_settling (after_clocks s k)) more
    ∙ ap after_settling (iterate_more after_clock n s) ∙ settled_next (after_clocks s n)
    ∙ sym (iterate_more after_clock n s) ∙ ap (after_clocks s) (sym more)

-- one tick more if the number of the clock is divisible by 4
pub more_ticks : (b : Bool) (p : PitState) (k : ℕ)
    → (if b then pit.after_tick (pit.after_ticks p k) else pit.after_ticks p k) ≡ pit.after_ticks p (k + (if b then 1 else 0))
more_ticks true p k = sym (iterate_more pit.after_tick k p)
more_ticks false p k = let none : k ≡ k + 0 = omega arith in ap (pit.after_ticks p) none

pub quarter : (c n : ℕ) → (c + n) / 4 - c / 4 + (if (c + n + 1) % 4 == 0 then 1 else 0) ≡ (c + suc n) / 4 - c / 4
quarter c n = grind (arith, nat_tests)

pub clocks_tick : ClocksTick
clocks_tick s zero still =
    let none : 0 ≡ (s.clock + 0) / 4 - s.clock / 4 = omega arith in
    ap (λ (t : ChipsState). t.pit) (iterate_zero after_clock s) ∙ sym (iterate_zero pit.after_tick s.pit) ∙ ap (pit.after_ticks s.pit) none
clocks_tick s (suc n) still =
    let t : ChipsState = after_clocks s n in
    let more : suc n ≡ n + 1 = omega arith in
    let k : ℕ = (s.clock + n) / 4 - s.clock / 4 in
    ap (λ m. (after_clocks s m).pit) more
    ∙ ap (λ (u : ChipsState). u.pit) (iterate_more after_clock n s)
    ∙ pit_next t (settled_later n s still)
    ∙ ap (λ clock. pit_after_clock t.pit (clock + 1)) (clock_of_clocks n s)
    ∙ ap (λ p. pit_after_clock p (s.clock + n + 1)) (clocks_tick s n still)
    ∙ more_ticks ((s.clock + n + 1) % 4 == 0) s.pit k
    ∙ ap (pit.after_ticks s.pit) (quarter s.clock n)
