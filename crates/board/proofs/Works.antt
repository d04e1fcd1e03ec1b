-- Work: none in clocks that may be leapt over, and some in the clock at which they end.
use Rattle.std.proofs.Common.{◌≡◌, ◌≢◌, ℕ, zero, suc, ◌+◌, ◌-◌, ◌<◌, ◌≤◌, Bool, true, false, List, [], ◌∷◌, length, refl, sym, ap, ◌∙◌, arith}
use Rattle.board_types.proofs.Iterate.{iterate_more, iterate_zero, iterate_add, total_zero, total_more}
use Rattle.board_types.specs.Iterate.{iterate, total}
use Rattle.board_types.specs.declared.keys.StampedKey.{StampedKey}
use Rattle.board_types.specs.declared.line.Line.{Line}
use Rattle.board_types.specs.declared.line.Line.TheVariants.{Low, High}
use Rattle.decode.specs.declared.decoding.Decoding.TheVariants.{Found, NoRow}
use Rattle.execute_meaning.specs.Meaning.{StepResult}
use Rattle.execute_meaning.specs.declared.boundary.Boundary.{Boundary}
use Rattle.pit8253.proofs.PitTicks.{each_counter}
use Rattle.pit8253.specs.Counter as one
use Rattle.pit8253.specs.Pit as pit
use Rattle.pit8253.specs.Pit.{PitState}
use Rattle.pit8253.specs.Counter.{CounterState}
use Rattle.wiring.proofs.Clocks.{clock_of_clocks}
use Rattle.wiring.proofs.Settling.{settles_once}
use Rattle.wiring.proofs.Ticks.{clocks_tick, settled_later}
use Rattle.wiring.specs.Chips.{ChipsState}
use Rattle.wiring.specs.Edges.{ticks_between, TurnsIn}
use Rattle.wiring.specs.Wires as wires
use Rattle.wiring.specs.Wires.{after_arrival, after_arrivals, after_key_settling, after_settling}
use Rattle.wiring.specs.EachWire.{after_gate_wire}
use Rattle.board_plain.specs.declared.act.Act.{Act}
use Rattle.board_plain.specs.declared.act.Act.TheVariants.{Nothing, Request, SingleStep, Iteration, Instruction}
use Rattle.board_plain.specs.BoardLaws.{WiresHold}
use Rattle.board.specs.UneventfulClocks.{AreUneventful, is_idle, after_leap}
use Rattle.board.specs.UnseenClocks.{passed_by}
use Rattle.board_plain.specs.Plain.{Plain, act_at, after_act, after_clock, after_clocks, chips_after_clock, clock_of, codes_at, next_act}
use Rattle.board_plain.specs.Work.{edges_next, edges_of, jams_of, keys_next, steps_in, steps_next, steps_of, work_next}
use Rattle.board.proofs.Leap.{does_nothing}

-- none in a clock that may be leapt over

same_level : (a b : Line) → b ≡ a → edges_of a b ≡ 0
same_level Low Low same = refl
same_level Low High same = absurd (cc)
same_level High Low same = absurd (cc)
same_level High High same = refl

pub no_step : (p : Plain) → next_act p ≡ Nothing → steps_next p ≡ 0
unfolding steps_next
no_step p nothing = ap steps_of nothing

pub none_in_all : {S : Type 0} (step : S → S) (cost : S → ℕ) (n : ℕ) (s : S) → ((i : ℕ) → i < n → cost (iterate step i s) ≡ 0) → total step cost n s ≡ 0
none_in_all step cost zero s none = total_zero step cost s
none_in_all step cost (suc n) s none =
    let more : suc n ≡ n + 1 = omega arith in
    let before = none_in_all step cost n s (λ i less. none i (omega (arith, less))) in
    let last = none n (omega arith) in
    ap (λ k. total step cost k s) more ∙ total_more step cost n s ∙ omega (arith, before, last)

pub none_to_step : (s : Plain) (n : ℕ) → WiresHold s.chips → AreUneventful s n → steps_in s n ≡ 0
none_to_step s n holds are_uneventful =
    none_in_all after_clock steps_next n s (λ i before. no_step (after_clocks s i) (does_nothing s n i holds are_uneventful before))

-- what the processor does is work

act_works : (a : Act) → is_idle a ≡ false → 1 ≤ steps_of a + jams_of a
act_works Nothing not = absurd (cc)
act_works Request not = omega arith
act_works SingleStep not = omega arith
act_works Iteration not = omega arith
act_works (Instruction (Found instr size)) not = omega arith
act_works (Instruction NoRow) not = omega arith

pub acts_now : (p : Plain) → is_idle (next_act p) ≡ false → 1 ≤ work_next p
unfolding work_next steps_next
acts_now p not = let some = act_works (next_act p) not in omega (arith, some)

-- a processor that does something at its boundary does work
pub acts_there : (s : Plain) (boundary : Boundary) → act_at s.cpu s.chips boundary ≡ next_act s
    → is_idle (act_at s.cpu s.chips boundary) ≡ false → 1 ≤ work_next s
acts_there s boundary at acts = acts_now s (ap is_idle (sym at) ∙ acts)

nothing_done : (a : Act) → is_idle a ≡ true → a ≡ Nothing
nothing_done Nothing is = refl
nothing_done Request is = absurd (cc)
nothing_done SingleStep is = absurd (cc)
nothing_done Iteration is = absurd (cc)
nothing_done (Instruction decoded) is = absurd (cc)

unless_it_acts : (p : Plain) (idle : Bool) → is_idle (next_act p) ≡ idle → (next_act p ≡ Nothing → 1 ≤ work_next p) → 1 ≤ work_next p
unless_it_acts p false is works = acts_now p is
unless_it_acts p true is works = works (nothing_done (next_act p) is)

-- a key that comes is work

pub keys_come : (p : Plain) → 1 ≤ length (codes_at p.keys (clock_of p + 1)) → 1 ≤ work_next p
unfolding work_next keys_next
keys_come p some = omega (arith, some)

-- a turn of OUT0 or OUT2 is work

level_turns : (a b : Line) → b ≢ a → edges_of a b ≡ 1
level_turns Low Low differs = absurd (differs refl)
level_turns Low High differs = refl
level_turns High Low differs = refl
level_turns High High differs = absurd (differs refl)

turn_0_works : (p : Plain) → (after_clock p).chips.pit.counter_0.out ≢ p.chips.pit.counter_0.out → 1 ≤ work_next p
unfolding work_next edges_next
turn_0_works p turns =
    let one = level_turns p.chips.pit.counter_0.out (after_clock p).chips.pit.counter_0.out turns in omega (arith, one)

turn_2_works : (p : Plain) → (after_clock p).chips.pit.counter_2.out ≢ p.chips.pit.counter_2.out → 1 ≤ work_next p
unfolding work_next edges_next
turn_2_works p turns =
    let one = level_turns p.chips.pit.counter_2.out (after_clock p).chips.pit.counter_2.out turns in omega (arith, one)

-- the timer after a clock in which the processor does nothing

pit_of_arrivals : (codes : List ℕ) (s : ChipsState) → (after_arrivals s codes).pit ≡ s.pit
unfolding after_arrival
pit_of_arrivals [] s = refl
pit_of_arrivals (code ∷ codes) s = pit_of_arrivals codes (after_arrival s code)

ppi_of_arrivals : (codes : List ℕ) (s : ChipsState) → (after_arrivals s codes).ppi ≡ s.ppi
unfolding after_arrival
ppi_of_arrivals [] s = refl
ppi_of_arrivals (code ∷ codes) s = ppi_of_arrivals codes (after_arrival s code)

pit_of_keys : (s : ChipsState) → (after_key_settling s).pit ≡ after_gate_wire s.pit s.ppi
unfolding after_key_settling after_settling
pit_of_keys s = refl

gate_settled : (s : ChipsState) → after_settling s ≡ s → after_gate_wire s.pit s.ppi ≡ s.pit
unfolding after_settling
gate_settled s still = ap (λ (t : ChipsState). t.pit) still

settled_next : (s : ChipsState) → after_settling (wires.after_clock s) ≡ wires.after_clock s
unfolding wires.after_clock
settled_next s = settles_once _

one_ticks : (s : ChipsState) → after_settling s ≡ s → (wires.after_clock s).pit ≡ pit.after_ticks s.pit (ticks_between s.clock (s.clock + 1))
one_ticks s still =
    ap (λ (t : ChipsState). t.pit) (sym (iterate_more wires.after_clock 0 s ∙ ap wires.after_clock (iterate_zero wires.after_clock s)))
    ∙ clocks_tick s 1 still

pit_of_clock : (s : ChipsState) (keys : List StampedKey) → after_settling s ≡ s
    → (chips_after_clock s keys).pit ≡ pit.after_ticks s.pit (ticks_between s.clock (s.clock + 1))
unfolding chips_after_clock
pit_of_clock s keys still =
    let c : ChipsState = wires.after_clock s in
    let codes : List ℕ = codes_at keys (s.clock + 1) in
    pit_of_keys (after_arrivals c codes)
    ∙ ap (λ p. after_gate_wire p (after_arrivals c codes).ppi) (pit_of_arrivals codes c)
    ∙ ap (λ ppi. after_gate_wire c.pit ppi) (ppi_of_arrivals codes c)
    ∙ gate_settled c (settled_next s)
    ∙ one_ticks s still

chips_next : (p : Plain) → next_act p ≡ Nothing → (after_clock p).chips ≡ chips_after_clock p.chips p.keys
unfolding after_clock
chips_next p nothing =
    ap (λ (a : Act). let acted : StepResult ChipsState = after_act p.clocks p.cpu p.busy p.chips a in chips_after_clock acted.bus p.keys) nothing

ticks_add : (p : PitState) (a b c : ℕ) → a + b ≡ c → pit.after_ticks (pit.after_ticks p a) b ≡ pit.after_ticks p c
ticks_add p a b c is = sym (iterate_add pit.after_tick a b p) ∙ ap (λ k. pit.after_ticks p k) is

-- the timer after unseen clocks, and at the end of the clock after them

pit_of_passed : (s : Plain) (n : ℕ) → WiresHold s.chips
    → (passed_by s n).chips.pit ≡ pit.after_ticks s.chips.pit (ticks_between s.chips.clock (s.chips.clock + n))
unfolding passed_by
pit_of_passed s n holds = clocks_tick s.chips n holds.settled

pit_then : (s : Plain) (n : ℕ) → WiresHold s.chips → next_act (passed_by s n) ≡ Nothing
    → (after_clock (passed_by s n)).chips.pit ≡ pit.after_ticks s.chips.pit (ticks_between s.chips.clock (s.chips.clock + n + 1))
unfolding passed_by
pit_then s n holds nothing =
    let c : ChipsState = wires.after_clocks s.chips n in
    ap (λ (t : ChipsState). t.pit) (chips_next (passed_by s n) nothing)
    ∙ pit_of_clock c s.keys (settled_later n s.chips holds.settled)
    ∙ ap (λ k. pit.after_ticks c.pit (ticks_between k (k + 1))) (clock_of_clocks n s.chips)
    ∙ ap (λ p. pit.after_ticks p (ticks_between (s.chips.clock + n) (s.chips.clock + n + 1))) (pit_of_passed s n holds)
    ∙ ticks_add s.chips.pit (ticks_between s.chips.clock (s.chips.clock + n)) (ticks_between (s.chips.clock + n) (s.chips.clock + n + 1))
    (ticks_between s.chips.clock (s.chips.clock + n + 1)) (omega arith)

-- up to the clock of an edge OUT stays
stays_by : (c : CounterState) (clock n at : ℕ) → at ≡ clock + n + 1 → TurnsIn c clock at
    → (one.after_ticks c (ticks_between clock (clock + n))).out ≡ c.out
stays_by c clock n at is edge =
    let fourth = edge.ticks in edge.turns.before (ticks_between clock (clock + n)) (omega (arith, is, fourth))

pub edge_0_works : (s : Plain) (n at : ℕ) → WiresHold s.chips
    → at ≡ s.chips.clock + n + 1 → TurnsIn s.chips.pit.counter_0 s.chips.clock at → 1 ≤ work_next (passed_by s n)
edge_0_works s n at holds is edge =
    unless_it_acts (passed_by s n) (is_idle (next_act (passed_by s n))) refl (λ nothing.
    turn_0_works (passed_by s n) (λ same.
    edge.turns.turns
    (ap (λ k. (one.after_ticks s.chips.pit.counter_0 (ticks_between s.chips.clock k)).out) is
    ∙ sym (ap (λ (q : PitState). q.counter_0.out) (each_counter (ticks_between s.chips.clock (s.chips.clock + n + 1)) s.chips.pit))
    ∙ sym (ap (λ (q : PitState). q.counter_0.out) (pit_then s n holds nothing))
    ∙ same
    ∙ ap (λ (q : PitState). q.counter_0.out)
    (pit_of_passed s n holds ∙ each_counter (ticks_between s.chips.clock (s.chips.clock + n)) s.chips.pit)
    ∙ stays_by s.chips.pit.counter_0 s.chips.clock n at is edge)))

pub edge_2_works : (s : Plain) (n at : ℕ) → WiresHold s.chips
    → at ≡ s.chips.clock + n + 1 → TurnsIn s.chips.pit.counter_2 s.chips.clock at → 1 ≤ work_next (passed_by s n)
edge_2_works s n at holds is edge =
    unless_it_acts (passed_by s n) (is_idle (next_act (passed_by s n))) refl (λ nothing.
    turn_2_works (passed_by s n) (λ same.
    edge.turns.turns
    (ap (λ k. (one.after_ticks s.chips.pit.counter_2 (ticks_between s.chips.clock k)).out) is
    ∙ sym (ap (λ (q : PitState). q.counter_2.out) (each_counter (ticks_between s.chips.clock (s.chips.clock + n + 1)) s.chips.pit))
    ∙ sym (ap (λ (q : PitState). q.counter_2.out) (pit_then s n holds nothing))
    ∙ same
    ∙ ap (λ (q : PitState). q.counter_2.out)
    (pit_of_passed s n holds ∙ each_counter (ticks_between s.chips.clock (s.chips.clock + n)) s.chips.pit)
    ∙ stays_by s.chips.pit.counter_2 s.chips.clock n at is edge)))

-- a clock has one step at most
one_of_act : (a : Act) → steps_of a ≤ 1
one_of_act Nothing = omega arith
one_of_act Request = omega arith
one_of_act SingleStep = omega arith
one_of_act Iteration = omega arith
one_of_act (Instruction (Found instr size)) = omega arith
one_of_act (Instruction NoRow) = omega arith

pub one_step_at_most : (p : Plain) → steps_next p ≤ 1
unfolding steps_next
one_step_at_most p = one_of_act (next_act p)

pub busy_of_leap : (s : Plain) (n : ℕ) → (after_leap s n).busy ≡ s.busy - n
unfolding after_leap
busy_of_leap s n = refl
