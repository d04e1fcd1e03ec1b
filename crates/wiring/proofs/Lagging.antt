-- What a timer that lags by some ticks has in common with one that doesn't.
use Rattle.std.proofs.Common.{◌≡◌, ℕ, zero, suc, ◌+◌, ◌-◌, ◌<◌, ◌≤◌, true, refl, sym, ap, ◌∙◌, subst, arith, nat_lt, Option, None, Some}
use Rattle.std.proofs.lemmas.Bool.Decides.{nat_tests}
use Rattle.board_types.proofs.Iterate.{iterate_zero, iterate_more, iterate_add}
use Rattle.board_types.specs.Timed.{IsSteady, IsUntilTurn}
use Rattle.board_types.specs.declared.line.Line.{Line}
use Rattle.pit8253.proofs.PitTicks.{each_counter}
use Rattle.pit8253.specs.Counter as one
use Rattle.pit8253.specs.Counter.{CounterState, out_of}
use Rattle.pit8253.specs.Pit.{PitState, after_gate, after_tick, after_ticks}
use Rattle.wiring.specs.LaggingTimer.{is_before, later_turn, IsLagging, IsSoon}
use Rattle.wiring.proofs.Ticks.{line_then_tick}

is_less : (a b : ℕ) → nat_lt a b ≡ true → a < b
is_less a b holds = grind (arith, nat_tests)

is_less_test : (a b : ℕ) → a < b → nat_lt a b ≡ true
is_less_test a b less = grind (arith, nat_tests)

-- a timer that doesn't lag
pub at_once : (p : PitState) → after_ticks p 0 ≡ p
at_once p = iterate_zero after_tick p

pub no_lag : (c : CounterState) (turn : Option ℕ) → IsUntilTurn one.after_ticks out_of c turn → IsSoon turn → IsLagging c turn 0
no_lag c None never soon = record { first = never; before = refl; soon = soon }
no_lag c (Some n) first soon = record { first = first; before = is_less_test 0 n first.some; soon = soon }

pub later : (p : PitState) (k n : ℕ) → after_ticks (after_ticks p k) n ≡ after_ticks p (k + n)
later p k n = sym (iterate_add after_tick k n p)

pub lags_still : (c : CounterState) (turn : Option ℕ) (k n : ℕ) → IsLagging c turn k → is_before n turn ≡ true → IsLagging c turn n
lags_still c turn k n lag before = record { first = lag.first; before = before; soon = lag.soon }

-- the output hasn't turned
stays : (c : CounterState) (turn : Option ℕ) (k : ℕ) → IsUntilTurn one.after_ticks out_of c turn → is_before k turn ≡ true → (one.after_ticks c k).out ≡ c.out
stays c None k never before = never k
stays c (Some n) k first before = first.before k (is_less k n before)

pub out_0_stays : (p : PitState) (turn : Option ℕ) (k : ℕ) → IsLagging p.counter_0 turn k → p.counter_0.out ≡ (after_ticks p k).counter_0.out
out_0_stays p turn k lag =
    sym (ap (λ (q : PitState). q.counter_0.out) (each_counter k p) ∙ stays p.counter_0 turn k lag.first lag.before)

pub out_2_stays : (p : PitState) (turn : Option ℕ) (k : ℕ) → IsLagging p.counter_2 turn k → p.counter_2.out ≡ (after_ticks p k).counter_2.out
out_2_stays p turn k lag =
    sym (ap (λ (q : PitState). q.counter_2.out) (each_counter k p) ∙ stays p.counter_2 turn k lag.first lag.before)

-- a turn that doesn't come within some ticks doesn't come within fewer
before_less : (turn : Option ℕ) (a b : ℕ) → a ≤ b → is_before b turn ≡ true → is_before a turn ≡ true
before_less None a b least before = refl
before_less (Some n) a b least before =
    let less : b < n = is_less b n before in
    is_less_test a n (omega (arith, least, less))

pub steady_until : (c : CounterState) (turn : Option ℕ) (ticks : ℕ)
    → IsUntilTurn one.after_ticks out_of c turn → is_before ticks turn ≡ true → IsSteady one.after_ticks out_of c ticks
steady_until c turn ticks first before j few = stays c turn j first (before_less turn j ticks few before)

steady_while : (c : CounterState) (turn : Option ℕ) (k n : ℕ) → IsLagging c turn k → is_before (k + n) turn ≡ true
    → IsSteady one.after_ticks out_of (one.after_ticks c k) n
steady_while c turn k n lag before j few =
    ap (λ (d : CounterState). d.out) (sym (iterate_add one.after_tick k j c))
    ∙ stays c turn (k + j) lag.first (before_less turn (k + j) (k + n) (omega (arith, few)) before)
    ∙ sym (stays c turn k lag.first lag.before)

pub steady_while_0 : (p : PitState) (turn : Option ℕ) (k n : ℕ) → IsLagging p.counter_0 turn k → is_before (k + n) turn ≡ true
    → IsSteady one.after_ticks out_of (after_ticks p k).counter_0 n
steady_while_0 p turn k n lag before =
    subst (λ (q : PitState). IsSteady one.after_ticks out_of q.counter_0 n) (sym (each_counter k p)) (steady_while p.counter_0 turn k n lag before)

pub steady_while_2 : (p : PitState) (turn : Option ℕ) (k n : ℕ) → IsLagging p.counter_2 turn k → is_before (k + n) turn ≡ true
    → IsSteady one.after_ticks out_of (after_ticks p k).counter_2 n
steady_while_2 p turn k n lag before =
    subst (λ (q : PitState). IsSteady one.after_ticks out_of q.counter_2 n) (sym (each_counter k p)) (steady_while p.counter_2 turn k n lag before)

pub before_later : (turn : Option ℕ) (k n : ℕ) → is_before k turn ≡ true → is_before n (later_turn turn k) ≡ true → is_before (k + n) turn ≡ true
before_later None k n now before = refl
before_later (Some t) k n now before =
    let here : k < t = is_less k t now in
    let less : n < t - k = is_less n (t - k) before in
    is_less_test (k + n) t (omega (arith, here, less))

-- fewer ticks are left of a turn that is soon
pub soon_later : (turn : Option ℕ) (k : ℕ) → IsSoon turn → IsSoon (later_turn turn k)
soon_later None k soon = soon
soon_later (Some n) k soon = omega (arith, soon)

-- the output turns as many ticks later as are left
turns_later : (c : CounterState) (turn : Option ℕ) (k : ℕ) → IsLagging c turn k → IsUntilTurn one.after_ticks out_of (one.after_ticks c k) (later_turn turn k)
turns_later c None k lag = λ n.
    ap (λ (d : CounterState). d.out) (sym (iterate_add one.after_tick k n c)) ∙ lag.first (k + n) ∙ sym (lag.first k)
turns_later c (Some n) k lag =
    let soon : k < n = is_less k n lag.before in
    let now : (one.after_ticks c k).out ≡ c.out = lag.first.before k soon in
    let whole : k + (n - k) ≡ n = omega arith in
    record {
      some = omega arith;
      before = λ j less. ap (λ (d : CounterState). d.out) (sym (iterate_add one.after_tick k j c)) ∙ lag.first.before (k + j) (omega arith) ∙ sym now;
      turns = λ same.
          lag.first.turns
          (ap (λ j. (one.after_ticks c j).out) (sym whole) ∙ ap (λ (d : CounterState). d.out) (iterate_add one.after_tick k (n - k) c) ∙ same ∙ now);
    }

pub turns_later_0 : (p : PitState) (turn : Option ℕ) (k : ℕ) → IsLagging p.counter_0 turn k
    → IsUntilTurn one.after_ticks out_of (after_ticks p k).counter_0 (later_turn turn k)
turns_later_0 p turn k lag =
    subst (λ (q : PitState). IsUntilTurn one.after_ticks out_of q.counter_0 (later_turn turn k)) (sym (each_counter k p)) (turns_later p.counter_0 turn k lag)

pub turns_later_2 : (p : PitState) (turn : Option ℕ) (k : ℕ) → IsLagging p.counter_2 turn k
    → IsUntilTurn one.after_ticks out_of (after_ticks p k).counter_2 (later_turn turn k)
turns_later_2 p turn k lag =
    subst (λ (q : PitState). IsUntilTurn one.after_ticks out_of q.counter_2 (later_turn turn k)) (sym (each_counter k p)) (turns_later p.counter_2 turn k lag)

-- a gate that keeps its level keeps it over ticks
pub gate_stays : (k : ℕ) (p : PitState) (line : Line) → after_gate p 2 line ≡ p → after_gate (after_ticks p k) 2 line ≡ after_ticks p k
gate_stays zero p line still = ap (λ q. after_gate q 2 line) (iterate_zero after_tick p) ∙ still ∙ sym (iterate_zero after_tick p)
gate_stays (suc k) p line still =
    let more : suc k ≡ k + 1 = omega arith in
    let next : after_ticks p (suc k) ≡ after_tick (after_ticks p k) = ap (λ j. after_ticks p j) more ∙ iterate_more after_tick k p in
    ap (λ q. after_gate q 2 line) next ∙ line_then_tick (after_ticks p k) line (gate_stays k p line still) ∙ sym next
