-- The work of a clock.
use Rattle.std.proofs.Common.{◌≡◌, ◌≢◌, ℕ, zero, suc, ◌+◌, ◌≤◌, Bool, true, false, List, [], ◌∷◌, length, map, filter, cond, nat_eq, refl, ap, ◌∙◌, arith}
use Rattle.std.specs.Prelude.{All}
use Rattle.std.proofs.lemmas.Bool.Decides.{nat_tests}
use Rattle.board_types.specs.declared.keys.StampedKey.{StampedKey}
use Rattle.board_types.specs.declared.line.Line.{Line}
use Rattle.board_types.specs.declared.line.Line.TheVariants.{Low, High}
use Rattle.decode.specs.declared.decoding.Decoding.TheVariants.{Found, NoRow}
use Rattle.board_plain.specs.declared.act.Act.{Act}
use Rattle.board_plain.specs.declared.act.Act.TheVariants.{Nothing, Request, SingleStep, Iteration, Instruction}
use Rattle.board_plain.specs.BoardLaws.{AtMostOneStep, AtMostTwoEdges, IdleHasNoWork, IsIdle}
use Rattle.board_plain.specs.Plain.{Plain, after_clock, clock_of, codes_at, next_act}
use Rattle.board_plain.specs.Work.{edges_next, edges_of, jams_of, keys_next, steps_next, steps_of, work_next}
use Rattle.board_plain.proofs.Codes.{none_due}

-- what the processor does

one_at_most : (act : Act) → steps_of act + jams_of act ≤ 1
one_at_most Nothing = omega arith
one_at_most Request = omega arith
one_at_most SingleStep = omega arith
one_at_most Iteration = omega arith
one_at_most (Instruction (Found instr size)) = omega arith
one_at_most (Instruction NoRow) = omega arith

pub at_most_one_step : AtMostOneStep
unfolding steps_next
at_most_one_step s = one_at_most (next_act s)

does_nothing : (act : Act) → steps_of act ≡ 0 → jams_of act ≡ 0 → act ≡ Nothing
does_nothing Nothing no_step no_jam = refl
does_nothing Request no_step no_jam = absurd (omega (arith, no_step))
does_nothing SingleStep no_step no_jam = absurd (omega (arith, no_step))
does_nothing Iteration no_step no_jam = absurd (omega (arith, no_step))
does_nothing (Instruction (Found instr size)) no_step no_jam = absurd (omega (arith, no_step))
does_nothing (Instruction NoRow) no_step no_jam = absurd (omega (arith, no_jam))

-- what the outputs do

one_edge_at_most : (before after : Line) → edges_of before after ≤ 1
one_edge_at_most Low Low = omega arith
one_edge_at_most Low High = omega arith
one_edge_at_most High Low = omega arith
one_edge_at_most High High = omega arith

pub at_most_two_edges : AtMostTwoEdges
unfolding edges_next
at_most_two_edges s =
    let t : Plain = after_clock s in
    let first : edges_of s.chips.pit.counter_0.out t.chips.pit.counter_0.out ≤ 1 = one_edge_at_most s.chips.pit.counter_0.out t.chips.pit.counter_0.out in
    let second : edges_of s.chips.pit.counter_2.out t.chips.pit.counter_2.out ≤ 1 = one_edge_at_most s.chips.pit.counter_2.out t.chips.pit.counter_2.out in
    omega (arith, first, second)

stays : (before after : Line) → edges_of before after ≡ 0 → after ≡ before
stays Low Low none = refl
stays Low High none = absurd (omega (arith, none))
stays High Low none = absurd (omega (arith, none))
stays High High none = refl

no_edge : (before : Line) → edges_of before before ≡ 0
no_edge Low = refl
no_edge High = refl

no_edge_by : (before after : Line) → after ≡ before → edges_of before after ≡ 0
no_edge_by before after same = ap (edges_of before) same ∙ no_edge before

-- the keys

more : (c : ℕ) (k : StampedKey) (ks : List StampedKey) (b : Bool) → nat_eq k.stamp c ≡ b
    → length
    (map (λ (x : StampedKey). x.code) (cond b (k ∷ filter (λ (x : StampedKey). nat_eq x.stamp c) ks) (filter (λ (x : StampedKey). nat_eq x.stamp c) ks)))
    ≡ 0
    → (k.stamp ≢ c) × (length (codes_at ks c) ≡ 0)
more c k ks true is none = absurd (omega (arith, none))
more c k ks false is none = (λ same. grind (arith, nat_tests), none)

none_stamped : (c : ℕ) (ks : List StampedKey) → length (codes_at ks c) ≡ 0 → All (λ k. k.stamp ≢ c) ks
none_stamped c [] none i d within = absurd (omega (arith, within))
none_stamped c (k ∷ ks) none zero d within = (more c k ks (nat_eq k.stamp c) refl none).0
none_stamped c (k ∷ ks) none (suc i) d within = none_stamped c ks (more c k ks (nat_eq k.stamp c) refl none).1 i d (omega (arith, within))

-- together

idle_by : (s : Plain) → work_next s ≡ 0 → IsIdle s
unfolding work_next steps_next edges_next keys_next
idle_by s none =
    let t : Plain = after_clock s in
    let no_step : steps_of (next_act s) ≡ 0 = omega (arith, none) in
    let no_jam : jams_of (next_act s) ≡ 0 = omega (arith, none) in
    let first : edges_of s.chips.pit.counter_0.out t.chips.pit.counter_0.out ≡ 0 = omega (arith, none) in
    let second : edges_of s.chips.pit.counter_2.out t.chips.pit.counter_2.out ≡ 0 = omega (arith, none) in
    let no_key : length (codes_at s.keys (clock_of s + 1)) ≡ 0 = omega (arith, none) in
    record {
      nothing_done = does_nothing (next_act s) no_step no_jam;
      out_0 = stays s.chips.pit.counter_0.out t.chips.pit.counter_0.out first;
      out_2 = stays s.chips.pit.counter_2.out t.chips.pit.counter_2.out second;
      no_key = none_stamped (clock_of s + 1) s.keys no_key;
    }

no_work_by : (s : Plain) → IsIdle s → work_next s ≡ 0
unfolding work_next steps_next edges_next keys_next
no_work_by s idle =
    let t : Plain = after_clock s in
    let no_step : steps_of (next_act s) ≡ 0 = ap steps_of idle.nothing_done in
    let no_jam : jams_of (next_act s) ≡ 0 = ap jams_of idle.nothing_done in
    let first : edges_of s.chips.pit.counter_0.out t.chips.pit.counter_0.out ≡ 0 = no_edge_by s.chips.pit.counter_0.out t.chips.pit.counter_0.out idle.out_0 in
    let second : edges_of s.chips.pit.counter_2.out t.chips.pit.counter_2.out ≡ 0 = no_edge_by s.chips.pit.counter_2.out t.chips.pit.counter_2.out idle.out_2 in
    let no_key : length (codes_at s.keys (clock_of s + 1)) ≡ 0 = ap length (none_due (clock_of s + 1) s.keys idle.no_key) in
    omega (arith, no_step, no_jam, first, second, no_key)

pub idle_has_no_work : IdleHasNoWork
idle_has_no_work s = (idle_by s, no_work_by s)
