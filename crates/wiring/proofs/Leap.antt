-- Settled wires stay settled while OUT0 stays, so that clocks can be leapt over.
use Rattle.std.proofs.Common.{◌≡◌, ℕ, zero, suc, ◌+◌, ◌-◌, ◌%◌, ◌≤◌, true, length, slice_set, sym, ap, ◌∙◌, arith}
use Rattle.std.specs.Prelude.{◌==◌, is_some}
use Rattle.board_types.proofs.Iterate.{iterate_zero, iterate_more, iterate_add}
use Rattle.board_types.specs.Timed.{IsSteady}
use Rattle.board_types.specs.declared.line.Line.{Line}
use Rattle.board_types.specs.LineLevel.{from_bool, is_high}
use Rattle.memory.specs.Map.{MemoryMap}
use Rattle.mda_text.specs.Mda as mda
use Rattle.mda_text.specs.Mda.{MdaState}
use Rattle.pic8259.specs.Levels.{contains}
use Rattle.pic8259.specs.Pic.{PicState, after_line}
use Rattle.pit8253.proofs.PitTicks.{each_counter}
use Rattle.pit8253.specs.Counter as one
use Rattle.pit8253.specs.Counter.{CounterState, out_of}
use Rattle.pit8253.specs.Pit as pit
use Rattle.pit8253.specs.Pit.{PitState}
use Rattle.wiring.specs.Chips.{ChipsState}
use Rattle.wiring.specs.Edges.{ticks_between}
use Rattle.wiring.specs.Leap.{IsStill, after_leap}
use Rattle.wiring.specs.Wires.{pit_after_clock, after_settling, after_clock, after_clocks}
use Rattle.wiring.specs.EachWire.{port_b_line, after_latch_wire, after_gate_wire, after_request_wires}
use Rattle.wiring.proofs.Agreement.{first_line, high_after_requests, second_line}
use Rattle.wiring.proofs.Lagging.{gate_stays}
use Rattle.wiring.proofs.Requests.{risen_line, same_line}
use Rattle.wiring.proofs.Ticks.{more_ticks, quarter}

-- settled wires, one by one
record Settled (s : ChipsState) : Type 0 where
  latch : after_latch_wire s.keyboard s.ppi ≡ s.keyboard
  gate : after_gate_wire s.pit s.ppi ≡ s.pit
  lines : after_request_wires s.pic s.pit s.keyboard ≡ s.pic

settled_parts : (s : ChipsState) → after_settling s ≡ s → Settled s
unfolding after_settling
settled_parts s still =
    let latch : after_latch_wire s.keyboard s.ppi ≡ s.keyboard = ap (λ (t : ChipsState). t.keyboard) still in
    let gate : after_gate_wire s.pit s.ppi ≡ s.pit = ap (λ (t : ChipsState). t.pit) still in
    record {
      latch = latch;
      gate = gate;
      lines = ap (λ p. after_request_wires s.pic p s.keyboard) (sym gate)
          ∙ ap (λ k. after_request_wires s.pic (after_gate_wire s.pit s.ppi) k) (sym latch)
          ∙ ap (λ (t : ChipsState). t.pic) still;
    }

-- settled wires stay settled with another timer, whose gate 2 keeps its level and whose OUT0 is as it was
parts_settled : (s : ChipsState) (p : PitState) (clock : ℕ) (m : MdaState) → Settled s → after_gate_wire p s.ppi ≡ p → p.counter_0.out ≡ s.pit.counter_0.out
    → after_settling (record s { clock = clock; pit = p; mda = m }) ≡ record s { clock = clock; pit = p; mda = m }
unfolding after_settling
parts_settled s p clock m parts gate same =
    let t : ChipsState = record s { clock = clock; pit = p; mda = m } in
    let wired : PitState = after_gate_wire p s.ppi in
    ap (λ k. record t { keyboard = k; pit = wired; pic = after_request_wires s.pic wired k }) parts.latch
    ∙ ap (λ q. record t { pit = q; pic = after_request_wires s.pic q s.keyboard }) gate
    ∙ ap (λ (out : Line). record t { pic = after_line (after_line s.pic 0 out) 1 (from_bool (is_some s.keyboard.latch)) }) same
    ∙ ap (λ c. record t { pic = c }) parts.lines

with_parts : (s : ChipsState) (clock : ℕ) (p : PitState) (m : MdaState) → clock ≡ s.clock → p ≡ s.pit → m ≡ s.mda
    → record s { clock = clock; pit = p; mda = m } ≡ s
with_parts s clock p m same_clock same_pit same_mda =
    ap (λ c. record s { clock = c; pit = p; mda = m }) same_clock
    ∙ ap (λ q. record s { pit = q; mda = m }) same_pit
    ∙ ap (λ n. record s { mda = n }) same_mda

no_leap : (s : ChipsState) → after_clocks s 0 ≡ after_leap s 0
no_leap s =
    let none : ticks_between s.clock (s.clock + 0) ≡ 0 = omega arith in
    iterate_zero after_clock s
    ∙ sym (with_parts s (s.clock + 0) (pit.after_ticks s.pit (ticks_between s.clock (s.clock + 0))) (mda.after_clocks s.mda 0) (omega arith)
    (ap (λ k. pit.after_ticks s.pit k) none ∙ iterate_zero pit.after_tick s.pit) (iterate_zero mda.after_clock s.mda))

-- one more clock after clocks that were leapt over: it is leapt over with them, and then the wires settle
leap_then_settle : (n : ℕ) (s : ChipsState) → after_clocks s n ≡ after_leap s n → after_clocks s (n + 1) ≡ after_settling (after_leap s (n + 1))
unfolding after_clock
leap_then_settle n s leap =
    let now : ℕ = ticks_between s.clock (s.clock + n) in
    let next : ℕ = ticks_between s.clock (s.clock + (n + 1)) in
    let same : ticks_between s.clock (s.clock + suc n) ≡ next = omega arith in
    let ticked : pit_after_clock (pit.after_ticks s.pit now) (s.clock + n + 1) ≡ pit.after_ticks s.pit next =
    more_ticks ((s.clock + n + 1) % 4 == 0) s.pit now ∙ ap (λ k. pit.after_ticks s.pit k) (quarter s.clock n ∙ same) in
    let moved : mda.after_clock (mda.after_clocks s.mda n) ≡ mda.after_clocks s.mda (n + 1) = sym (iterate_more mda.after_clock n s.mda) in
    iterate_more after_clock n s ∙ ap after_clock leap
    ∙ ap (λ p. after_settling (record s { clock = s.clock + n + 1; pit = p; mda = mda.after_clock (mda.after_clocks s.mda n) })) ticked
    ∙ ap (λ m. after_settling (record s { clock = s.clock + n + 1; pit = pit.after_ticks s.pit next; mda = m })) moved
    ∙ ap (λ c. after_settling (record s { clock = c; pit = pit.after_ticks s.pit next; mda = mda.after_clocks s.mda (n + 1) })) (omega arith)

-- one clock, after which the wires settle
pub one_clock : (s : ChipsState) → after_clocks s 1 ≡ after_settling (after_leap s 1)
one_clock s = leap_then_settle 0 s (no_leap s)

-- n clocks, all at once
pub clocks_leap : (n : ℕ) (s : ChipsState) → after_settling s ≡ s → IsStill s n → after_clocks s n ≡ after_leap s n
clocks_leap zero s still steady = no_leap s
clocks_leap (suc n) s still steady =
    let parts : Settled s = settled_parts s still in
    let more : n + 1 ≡ suc n = omega arith in
    let steady_now : IsStill s n = λ k within. steady k (omega (arith, within)) in
    let next : ℕ = ticks_between s.clock (s.clock + suc n) in
    let gate : after_gate_wire (pit.after_ticks s.pit next) s.ppi ≡ pit.after_ticks s.pit next = gate_stays next s.pit (port_b_line s.ppi 0) parts.gate in
    let same : (pit.after_ticks s.pit next).counter_0.out ≡ s.pit.counter_0.out =
    ap (λ (q : PitState). q.counter_0.out) (each_counter next s.pit) ∙ steady next (omega arith) in
    ap (λ k. after_clocks s k) (sym more) ∙ leap_then_settle n s (clocks_leap n s still steady_now)
    ∙ ap (λ k. after_settling (after_leap s k)) more
    ∙ parts_settled s (pit.after_ticks s.pit next) (s.clock + suc n) (mda.after_clocks s.mda (suc n)) parts gate same

-- clocks up to a turn of OUT0: the wires settle only after the last
pub clocks_to_turn : (n : ℕ) (s : ChipsState) → 1 ≤ n → after_settling s ≡ s → IsStill s (n - 1) → after_clocks s n ≡ after_settling (after_leap s n)
clocks_to_turn n s some still steady =
    let whole : n - 1 + 1 ≡ n = omega (arith, some) in
    ap (λ k. after_clocks s k) (sym whole) ∙ leap_then_settle (n - 1) s (clocks_leap (n - 1) s still steady) ∙ ap (λ k. after_settling (after_leap s k)) whole

-- once IR0 has risen, and until it is taken, OUT0's last level alone counts

wires_after : (s : ChipsState) (clock : ℕ) (p : PitState) (m : MdaState) (c : PicState) → Settled s → after_gate_wire p s.ppi ≡ p
    → after_settling (record s { clock = clock; pit = p; mda = m; pic = c })
    ≡ record s { clock = clock; pit = p; mda = m; pic = after_request_wires c p s.keyboard }
unfolding after_settling
wires_after s clock p m c parts gate =
    let t : ChipsState = record s { clock = clock; pit = p; mda = m } in
    let wired : PitState = after_gate_wire p s.ppi in
    ap (λ k. record t { keyboard = k; pit = wired; pic = after_request_wires c wired k }) parts.latch
    ∙ ap (λ q. record t { pit = q; pic = after_request_wires c q s.keyboard }) gate

-- a clock after clocks that were leapt over
settle_later : (n : ℕ) (s : ChipsState) → after_settling s ≡ s → contains s.pic.risen 0 ≡ true
    → after_clock (after_settling (after_leap s n)) ≡ after_settling (after_leap s (n + 1))
unfolding after_clock
settle_later n s still risen =
    let parts : Settled s = settled_parts s still in
    let now : ℕ = ticks_between s.clock (s.clock + n) in
    let next : ℕ = ticks_between s.clock (s.clock + (n + 1)) in
    let there : PitState = pit.after_ticks s.pit now in
    let lag : PitState = pit.after_ticks s.pit next in
    let beam : MdaState = mda.after_clocks s.mda (n + 1) in
    let full : Line = from_bool (is_some s.keyboard.latch) in
    let same : ticks_between s.clock (s.clock + suc n) ≡ next = omega arith in
    let ticked : pit_after_clock there (s.clock + n + 1) ≡ lag =
    more_ticks ((s.clock + n + 1) % 4 == 0) s.pit now ∙ ap (λ k. pit.after_ticks s.pit k) (quarter s.clock n ∙ same) in
    let moved : mda.after_clock (mda.after_clocks s.mda n) ≡ beam = sym (iterate_more mda.after_clock n s.mda) in
    let requests : PicState = after_request_wires s.pic there s.keyboard in
    let gate : after_gate_wire lag s.ppi ≡ lag = gate_stays next s.pit (port_b_line s.ppi 0) parts.gate in
    ap after_clock (wires_after s (s.clock + n) there (mda.after_clocks s.mda n) s.pic parts (gate_stays now s.pit (port_b_line s.ppi 0) parts.gate))
    ∙ ap (λ p. after_settling (record s { clock = s.clock + n + 1; pit = p; mda = mda.after_clock (mda.after_clocks s.mda n); pic = requests })) ticked
    ∙ ap (λ m. after_settling (record s { clock = s.clock + n + 1; pit = lag; mda = m; pic = requests })) moved
    ∙ ap (λ c. after_settling (record s { clock = c; pit = lag; mda = beam; pic = requests })) (omega arith)
    ∙ wires_after s (s.clock + (n + 1)) lag beam requests parts gate
    ∙ ap (λ c. record s { clock = s.clock + (n + 1); pit = lag; mda = beam; pic = c })
    (risen_line s.pic 0 1 there.counter_0.out lag.counter_0.out full (omega arith) (omega arith) risen)
    ∙ sym (wires_after s (s.clock + (n + 1)) lag beam s.pic parts gate)

risen_more : (n : ℕ) (s : ChipsState) → after_settling s ≡ s → contains s.pic.risen 0 ≡ true → after_clocks s (n + 1) ≡ after_settling (after_leap s (n + 1))
risen_more zero s still risen = one_clock s
risen_more (suc n) s still risen =
    let more : suc n ≡ n + 1 = omega arith in
    iterate_more after_clock (suc n) s
    ∙ ap after_clock (ap (λ k. after_clocks s k) more ∙ risen_more n s still risen ∙ ap (λ k. after_settling (after_leap s k)) (sym more))
    ∙ settle_later (suc n) s still risen

-- clocks of which the wires settle only after the last
pub risen_clocks : (n : ℕ) (s : ChipsState) → 1 ≤ n → after_settling s ≡ s → contains s.pic.risen 0 ≡ true → after_clocks s n ≡ after_settling (after_leap s n)
risen_clocks n s some still risen =
    let whole : n - 1 + 1 ≡ n = omega (arith, some) in
    ap (λ k. after_clocks s k) (sym whole) ∙ risen_more (n - 1) s still risen ∙ ap (λ k. after_settling (after_leap s k)) whole

-- settled wires stay settled with a controller whose lines are as they were
pub same_lines_settled : (s : ChipsState) (p : PicState) → length s.pic.high ≡ 8 → after_settling s ≡ s → p.high ≡ s.pic.high
    → after_settling (record s { pic = p }) ≡ record s { pic = p }
same_lines_settled s p eight still same =
    let parts : Settled s = settled_parts s still in
    let zeroth : Line = s.pit.counter_0.out in
    let first : Line = from_bool (is_some s.keyboard.latch) in
    let lines : slice_set (slice_set s.pic.high 0 (is_high zeroth)) 1 (is_high first) ≡ s.pic.high =
    sym (high_after_requests s.pic s.pit s.keyboard) ∙ ap (λ (c : PicState). c.high) parts.lines in
    let first_stays : contains p.high 1 ≡ is_high first =
    ap (λ high. contains high 1) (same ∙ sym lines) ∙ second_line s.pic.high (is_high zeroth) (is_high first) eight in
    let zeroth_stays : contains p.high 0 ≡ is_high zeroth =
    ap (λ high. contains high 0) (same ∙ sym lines) ∙ first_line s.pic.high (is_high zeroth) (is_high first) eight in
    wires_after s s.clock s.pit s.mda p parts parts.gate
    ∙ ap (λ c. record s { pic = c })
    (ap (λ c. after_line c 1 first) (same_line p 0 zeroth zeroth_stays) ∙ same_line p 1 first first_stays)

pub settled_leap : (n : ℕ) (s : ChipsState) → after_settling s ≡ s → IsStill s n → after_settling (after_leap s n) ≡ after_leap s n
settled_leap n s still steady =
    let parts : Settled s = settled_parts s still in
    let ticks : ℕ = ticks_between s.clock (s.clock + n) in
    let same : (pit.after_ticks s.pit ticks).counter_0.out ≡ s.pit.counter_0.out =
    ap (λ (q : PitState). q.counter_0.out) (each_counter ticks s.pit) ∙ steady ticks (omega arith) in
    parts_settled s (pit.after_ticks s.pit ticks) (s.clock + n) (mda.after_clocks s.mda n) parts
    (gate_stays ticks s.pit (port_b_line s.ppi 0) parts.gate) same

-- settled wires stay settled while only the timer and the adapter go on and OUT0 stays
pub settled_still : (s : ChipsState) (p : PitState) (clock ticks : ℕ) (m : MdaState)
    → after_settling s ≡ s → p ≡ pit.after_ticks s.pit ticks → IsSteady one.after_ticks out_of s.pit.counter_0 ticks
    → after_settling (record s { clock = clock; pit = p; mda = m }) ≡ record s { clock = clock; pit = p; mda = m }
settled_still s p clock ticks m still is steady =
    let parts : Settled s = settled_parts s still in
    let same : p.counter_0.out ≡ s.pit.counter_0.out =
    ap (λ (q : PitState). q.counter_0.out) (is ∙ each_counter ticks s.pit) ∙ steady ticks (omega arith) in
    parts_settled s p clock m parts
    (ap (λ (q : PitState). after_gate_wire q s.ppi) is ∙ gate_stays ticks s.pit (port_b_line s.ppi 0) parts.gate ∙ sym is) same

-- a byte of memory is no wire
pub settled_memory : (s : ChipsState) (m : MemoryMap) → after_settling s ≡ s → after_settling (record s { memory = m }) ≡ record s { memory = m }
unfolding after_settling
settled_memory s m still = ap (λ (t : ChipsState). record t { memory = m }) still

pub settled_text : (s : ChipsState) (m : MdaState) → after_settling s ≡ s → after_settling (record s { mda = m }) ≡ record s { mda = m }
unfolding after_settling
settled_text s m still = ap (λ (t : ChipsState). record t { mda = m }) still

-- clocks, and then more of them
pub no_clocks : (s : ChipsState) → s ≡ after_clocks s (s.clock - s.clock)
no_clocks s =
    let none : s.clock - s.clock ≡ 0 = omega arith in
    sym (ap (λ k. after_clocks s k) none ∙ iterate_zero after_clock s)

pub more_clocks : (s t u : ChipsState) (n : ℕ) → s.clock ≤ t.clock → t ≡ after_clocks s (t.clock - s.clock)
    → u ≡ after_clocks t n → u.clock ≡ t.clock + n → u ≡ after_clocks s (u.clock - s.clock)
more_clocks s t u n before first second clock =
    let whole : t.clock - s.clock + n ≡ u.clock - s.clock = omega arith in
    second ∙ ap (λ x. after_clocks x n) first ∙ sym (iterate_add after_clock (t.clock - s.clock) n s) ∙ ap (λ k. after_clocks s k) whole
