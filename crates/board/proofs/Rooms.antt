-- Up to the least deadline nothing happens, and in the clock after it something does.
use Rattle.wiring.specs.EachWire.{is_requested}
use Rattle.std.proofs.Common.{◌≡◌, ℕ, ◌+◌, ◌-◌, ◌<◌, ◌≤◌, ◌^◌, inl, inr, Bool, true, false, if◌then◌else◌, List, [], ◌∷◌}
use Rattle.std.proofs.Common.{◌++◌, length, take, drop, get_or, Option, None, Some, refl, sym, ap, ◌∙◌, subst, arith}
use Rattle.std.specs.Prelude.{All, ◌⊎◌, nat_eq}
use Rattle.std.proofs.lemmas.Bool.Decides.{eqb_tells, leb_tells}
use Rattle.std.proofs.lemmas.List.{get_or_default, length-append, take-append-drop}
use Rattle.board_types.specs.Keys.{IsInOrder}
use Rattle.board_types.specs.Timed.{IsSteady}
use Rattle.board_types.specs.declared.keys.StampedKey.{StampedKey}
use Rattle.execute_meaning.specs.Boundaries.{boundary_of}
use Rattle.execute_meaning.specs.Cpu.{CpuState}
use Rattle.execute_meaning.specs.declared.boundary.Boundary.{Boundary}
use Rattle.execute_meaning.specs.declared.boundary.Boundary.TheVariants as boundaries
use Rattle.pit8253.specs.Counter.{CounterState, after_ticks, out_of}
use Rattle.scheduler.specs.declared.deadlines.Source.{Source}
use Rattle.scheduler.specs.declared.deadlines.Source.TheVariants.{Counter0, Counter2, Keys, Processor, End}
use Rattle.scheduler.specs.Deadlines.{DeadlinesState, deadline_of, no_deadlines, place_of, with_deadline}
use Rattle.wiring.specs.Chips.{ChipsState}
use Rattle.wiring.specs.Edges.{ticks_between, IsEdgeOf, TurnsIn}
use Rattle.board_plain.specs.declared.act.Act.TheVariants.{Nothing}
use Rattle.board.specs.Arrivals.{Awaits, IsNextStamp}
use Rattle.board_plain.specs.BoardLaws.{NoKeyComes, WiresHold}
use Rattle.board.specs.UneventfulClocks.{AreDeadlines, IsFreeClock, IsLastToLeap, IsMaximal, AreUneventful, StaysIdle, acts_before, last_of, after_leap}
use Rattle.board_plain.specs.Plain.{Plain, act_at, clock_of, codes_at, is_free, next_act}
use Rattle.board_plain.specs.Work.{work_next}
use Rattle.board_plain.proofs.Codes.{codes_append, codes_more}
use Rattle.board.proofs.KeyOrder.{past_at, to_come_at}
use Rattle.board.proofs.Leap.{leap_by}
use Rattle.board.proofs.Works.{edge_0_works, edge_2_works, keys_come}

-- a last clock is before every deadline of a source that acts before it, and not after any other

early : (other : Source) → acts_before other ≡ true → place_of other ≤ 2
early Counter0 acts = omega arith
early Counter2 acts = omega arith
early Keys acts = omega arith
early Processor acts = absurd (cc)
early End acts = absurd (cc)

not_after : (source : Source) (at : ℕ) → last_of (acts_before source) at ≤ at
not_after Counter0 at = omega arith
not_after Counter2 at = omega arith
not_after Keys at = omega arith
not_after Processor at = omega arith
not_after End at = omega arith

not_later : (source : Source) (place at when : ℕ) → 1 ≤ when → (at < when) ⊎ ((at ≡ when) × (place_of source ≤ place)) → place ≤ 2
    → last_of (acts_before source) at < when
not_later Counter0 place at when some (inl sooner) few = omega (arith, sooner)
not_later Counter0 place at when some (inr tie) few = omega (arith, some, tie.0)
not_later Counter2 place at when some (inl sooner) few = omega (arith, sooner)
not_later Counter2 place at when some (inr tie) few = omega (arith, some, tie.0)
not_later Keys place at when some (inl sooner) few = omega (arith, sooner)
not_later Keys place at when some (inr tie) few = omega (arith, some, tie.0)
not_later Processor place at when some (inl sooner) few = sooner
not_later Processor place at when some (inr tie) few = absurd (omega (arith, tie.1, few))
not_later End place at when some (inl sooner) few = sooner
not_later End place at when some (inr tie) few = absurd (omega (arith, tie.1, few))

before_it : (d : DeadlinesState) (last : ℕ) (other : Source) (when : ℕ)
    → IsLastToLeap d last → acts_before other ≡ true → deadline_of d other ≡ Some when → 1 ≤ when → last < when
before_it d last other when are_uneventful acts due some =
    subst (λ l. l < when) (sym are_uneventful.is)
    (not_later are_uneventful.source (place_of other) are_uneventful.at when some (are_uneventful.next.first other when due) (early other acts))

up_to_it : (d : DeadlinesState) (last : ℕ) (other : Source) (when : ℕ) → IsLastToLeap d last → deadline_of d other ≡ Some when → last ≤ when
up_to_it d last other when are_uneventful due =
    let small = not_after are_uneventful.source are_uneventful.at in
    let is = are_uneventful.is in
    elim (are_uneventful.next.first other when due) [
      | inl sooner ↦ omega (arith, small, is, sooner)
      | inr tie ↦ omega (arith, small, is, tie.0)
    ]

-- the processor

same_act : (free : Bool) (cpu : CpuState) (chips : ChipsState) (b : Boundary)
    → free ≡ true → (if free then act_at cpu chips b else Nothing) ≡ Nothing → b ≡ boundaries.Nothing
same_act false cpu chips b is nothing = absurd (cc)
same_act true cpu chips boundaries.Request is nothing = absurd (cc)
same_act true cpu chips boundaries.SingleStep is nothing = absurd (cc)
same_act true cpu chips boundaries.Nothing is nothing = refl
same_act true cpu chips boundaries.Iteration is nothing = absurd (cc)
same_act true cpu chips boundaries.Instruction is nothing = absurd (cc)

free_at : (busy : ℕ) → busy ≡ 0 → nat_eq busy 0 ≡ true
free_at busy is = ap (λ b. nat_eq b 0) is

pub idle_boundary : (s : Plain) → s.busy ≡ 0 → next_act s ≡ Nothing → boundary_of s.cpu (is_requested s.chips) ≡ boundaries.Nothing
unfolding next_act
idle_boundary s free nothing = same_act (is_free s) s.cpu s.chips (boundary_of s.cpu (is_requested s.chips)) (free_at s.busy free) nothing

idle_by : (s : Plain) (last : ℕ) (p : Option ℕ) → IsFreeClock s p → next_act s ≡ Nothing
    → ((when : ℕ) → p ≡ Some when → last ≤ when) → last ≤ 2 ^ 40 → StaysIdle s (last - s.chips.clock)
idle_by s last None (inl free) nothing upto within = inr (free, idle_boundary s free nothing)
idle_by s last None (inr past) nothing upto within = inl (omega (arith, past, within))
idle_by s last (Some when) free nothing upto within = let le = upto when refl in inl (omega (arith, free.1, le))

-- the keys

no_key_by : (clock last : ℕ) (keys : List StampedKey) (p : Option ℕ) → IsNextStamp clock keys p
    → ((when : ℕ) → p ≡ Some when → 1 ≤ when → last < when) → clock ≤ last → All (λ k. (k.stamp ≤ clock) ⊎ (clock + (last - clock) < k.stamp)) keys
no_key_by clock last keys None all before from = λ j d inside. inl (all j d inside)
no_key_by clock last keys (Some when) next before from = λ j d inside.
    let first = next.0 in
    let less = before when refl (omega (arith, first)) in
    elim (next.1 j d inside) [
      | inl past ↦ inl past
      | inr later ↦ inr (omega (arith, later, less, from))
    ]

no_key_of : (s : Plain) (last : ℕ) (p : Option ℕ) → IsNextStamp s.chips.clock s.keys p
    → ((when : ℕ) → p ≡ Some when → 1 ≤ when → last < when) → s.chips.clock ≤ last → NoKeyComes s (last - s.chips.clock)
unfolding clock_of
no_key_of s last p next before from = no_key_by s.chips.clock last s.keys p next before from

-- the counters

steady_by : (c : CounterState) (clock last : ℕ) (p : Option ℕ) → IsEdgeOf c clock p → ((when : ℕ) → p ≡ Some when → 1 ≤ when → last < when)
    → clock ≤ last → last ≤ 2 ^ 40 → IsSteady after_ticks out_of c (ticks_between clock (clock + (last - clock)))
steady_by c clock last None steady before from within = λ k few. steady k (omega (arith, few, from, within))
steady_by c clock last (Some when) edge before from within = λ k few.
    let first = edge.later in
    let fourth = edge.ticks in
    let less = before when refl (omega (arith, first)) in
    edge.turns.before k (omega (arith, few, less, from, first, fourth))

-- the least deadline isn't in the past
from_now : (s : Plain) (end : ℕ) (d : DeadlinesState) (source : Source) (at : ℕ)
    → AreDeadlines s end d → s.chips.clock ≤ end → deadline_of d source ≡ Some at → s.chips.clock ≤ last_of (acts_before source) at
from_now s end d Counter0 at deadlines within due =
    let edge : TurnsIn s.chips.pit.counter_0 s.chips.clock at = subst (λ p. IsEdgeOf s.chips.pit.counter_0 s.chips.clock p) due deadlines.counter_0 in
    let first = edge.later in omega (arith, first)
from_now s end d Counter2 at deadlines within due =
    let edge : TurnsIn s.chips.pit.counter_2 s.chips.clock at = subst (λ p. IsEdgeOf s.chips.pit.counter_2 s.chips.clock p) due deadlines.counter_2 in
    let first = edge.later in omega (arith, first)
from_now s end d Keys at deadlines within due =
    let next : IsNextStamp s.chips.clock s.keys (Some at) = subst (λ p. IsNextStamp s.chips.clock s.keys p) due deadlines.keys in
    let first = next.0 in omega (arith, first)
from_now s end d Processor at deadlines within due =
    let free : IsFreeClock s (Some at) = subst (λ p. IsFreeClock s p) due deadlines.processor in
    let is = free.1 in omega (arith, is)
from_now s end d End at deadlines within due =
    let same : Some end ≡ Some at = sym deadlines.end ∙ due in
    let is : end ≡ at = cc in omega (arith, is, within)

-- all that is said of the clocks up to the last one that may be leapt over
pub record IsRoom (limit : ℕ) (s : Plain) (n : ℕ) : Type 0 where
  pub within : n ≤ limit
  pub are_uneventful : AreUneventful s n
  pub maximal : IsMaximal limit s n

keys_then : (s : Plain) (n at : ℕ) → at ≡ s.chips.clock + n + 1 → 1 ≤ length (codes_at s.keys at)
    → 1 ≤ length (codes_at (after_leap s n).keys (clock_of (after_leap s n) + 1))
unfolding after_leap clock_of
keys_then s n at is some = subst (λ c. 1 ≤ length (codes_at s.keys c)) is some

maximal_by : (s : Plain) (end : ℕ) (d : DeadlinesState) (source : Source) (at n : ℕ) → WiresHold s.chips → AreDeadlines s end d
    → deadline_of d source ≡ Some at → s.chips.clock + n ≡ last_of (acts_before source) at → AreUneventful s n → IsMaximal (end - s.chips.clock) s n
maximal_by s end d Counter0 at n holds deadlines due is are_uneventful =
    let edge : TurnsIn s.chips.pit.counter_0 s.chips.clock at = subst (λ p. IsEdgeOf s.chips.pit.counter_0 s.chips.clock p) due deadlines.counter_0 in
    let first = edge.later in
    inr (inr (subst (λ (t : Plain). 1 ≤ work_next t) (sym (leap_by n s holds are_uneventful)) (edge_0_works s n at holds (omega (arith, first, is)) edge)))
maximal_by s end d Counter2 at n holds deadlines due is are_uneventful =
    let edge : TurnsIn s.chips.pit.counter_2 s.chips.clock at = subst (λ p. IsEdgeOf s.chips.pit.counter_2 s.chips.clock p) due deadlines.counter_2 in
    let first = edge.later in
    inr (inr (subst (λ (t : Plain). 1 ≤ work_next t) (sym (leap_by n s holds are_uneventful)) (edge_2_works s n at holds (omega (arith, first, is)) edge)))
maximal_by s end d Keys at n holds deadlines due is are_uneventful =
    let next : IsNextStamp s.chips.clock s.keys (Some at) = subst (λ p. IsNextStamp s.chips.clock s.keys p) due deadlines.keys in
    let first = next.0 in inr (inr (keys_come (after_leap s n) (keys_then s n at (omega (arith, first, is)) next.2)))
maximal_by s end d Processor at n holds deadlines due is are_uneventful =
    let free : IsFreeClock s (Some at) = subst (λ p. IsFreeClock s p) due deadlines.processor in
    let some = free.0 in
    let when = free.1 in inr (inl (some, omega (arith, when, is)))
maximal_by s end d End at n holds deadlines due is are_uneventful =
    let same : Some end ≡ Some at = sym deadlines.end ∙ due in
    let when : end ≡ at = cc in inl (omega (arith, when, is))

pub room : (s : Plain) (end : ℕ) (d : DeadlinesState) (last : ℕ) → WiresHold s.chips → AreDeadlines s end d → s.chips.clock ≤ end
    → end ≤ 2 ^ 40 → next_act s ≡ Nothing → IsLastToLeap d last → (s.chips.clock ≤ last) × IsRoom (end - s.chips.clock) s (last - s.chips.clock)
room s end d last holds deadlines within limit nothing next =
    let from : s.chips.clock ≤ last = subst (λ l. s.chips.clock ≤ l) (sym next.is) (from_now s end d next.source next.at deadlines within next.next.due) in
    let upto : last ≤ end = up_to_it d last End end next deadlines.end in
    let most : last ≤ 2 ^ 40 = omega (arith, upto, limit) in
    let are_uneventful : AreUneventful s (last - s.chips.clock) = record {
      idle = idle_by s last d.processor deadlines.processor nothing (λ when due. up_to_it d last Processor when next due) most;
      no_key = no_key_of s last d.keys deadlines.keys (λ when due some. before_it d last Keys when next refl due some) from;
      out_0 = steady_by s.chips.pit.counter_0 s.chips.clock last d.counter_0 deadlines.counter_0
          (λ when due some. before_it d last Counter0 when next refl due some) from most;
      out_2 = steady_by s.chips.pit.counter_2 s.chips.clock last d.counter_2 deadlines.counter_2
          (λ when due some. before_it d last Counter2 when next refl due some) from most;
    } in
    let whole : s.chips.clock + (last - s.chips.clock) ≡ last_of (acts_before next.source) next.at = let is = next.is in omega (arith, from, is) in (
      from,
      record {
        within = omega (arith, upto);
        are_uneventful = are_uneventful;
        maximal = maximal_by s end d next.source next.at (last - s.chips.clock) holds deadlines next.next.due whole are_uneventful;
      },
    )

-- after keys have arrived up to a place, the next stamp is that of the key there

not_sooner : (next j : ℕ) (keys : List StampedKey) (d e : StampedKey) → IsInOrder keys → next ≤ j → j < length keys
    → (get_or keys next d).stamp ≤ (get_or keys j e).stamp
not_sooner next j keys d e in_order from inside =
    elim (eqb_tells j next) [
      | inl here ↦
          let same : (get_or keys j e).stamp ≡ (get_or keys next d).stamp =
          ap (λ i. (get_or keys i e).stamp) here.1 ∙ ap (λ (k : StampedKey). k.stamp) (get_or_default keys next e d (omega (arith, from, inside))) in
          omega (arith, same)
      | inr past ↦
          let order = in_order.stamps next j e (omega (arith, from, past.1)) inside in
          let same : (get_or keys next e).stamp ≡ (get_or keys next d).stamp =
          ap (λ (k : StampedKey). k.stamp) (get_or_default keys next e d (omega (arith, from, inside))) in
          omega (arith, order, same)
    ]

-- a key that is due in the front of a list is due in the whole list
some_due : (keys : List StampedKey) (next at : ℕ) (d : StampedKey)
    → codes_at (take (next + 1) keys) at ≡ codes_at (take next keys) at ++ (get_or keys next d).code ∷ [] → 1 ≤ length (codes_at keys at)
some_due keys next at d more =
    let parts : codes_at keys at ≡ codes_at (take (next + 1) keys) at ++ codes_at (drop (next + 1) keys) at =
    ap (λ ks. codes_at ks at) (sym (take-append-drop (next + 1) keys)) ∙ codes_append at (take (next + 1) keys) (drop (next + 1) keys) in
    let all : length (codes_at keys at) ≡ length (codes_at (take (next + 1) keys) at) + length (codes_at (drop (next + 1) keys) at) =
    ap length parts ∙ length-append (codes_at (take (next + 1) keys) at) (codes_at (drop (next + 1) keys) at) in
    let first : length (codes_at (take (next + 1) keys) at) ≡ length (codes_at (take next keys) at) + 1 =
    ap length more ∙ length-append (codes_at (take next keys) at) ((get_or keys next d).code ∷ []) in
    omega (arith, all, first)

stamp_after : (clock next : ℕ) (keys : List StampedKey) (d : StampedKey) → IsInOrder keys → Awaits next (clock + 1) keys → next < length keys
    → IsNextStamp clock keys (Some (get_or keys next d).stamp)
stamp_after clock next keys d in_order awaits within =
    let at : ℕ = (get_or keys next d).stamp in
    let first = to_come_at next (clock + 1) keys awaits next d (omega arith) within in (
      omega (arith, first),
      λ j e inside.
          elim (leb_tells (j + 1) next) [
            | inl before ↦ let past = past_at next (clock + 1) keys awaits j e (let b = before.1 in omega (arith, b)) in inl (omega (arith, past))
            | inr after ↦ inr (let b = after.1 in not_sooner next j keys d e in_order (omega (arith, b)) inside)
          ],
      let more : codes_at (take (next + 1) keys) at ≡ codes_at (take next keys) at ++ (get_or keys next d).code ∷ [] = codes_more at keys next d within refl in
          some_due keys next at d more,
    )

pub stamp_told : (clock next : ℕ) (keys : List StampedKey) (key : StampedKey)
    → IsInOrder keys → Awaits next (clock + 1) keys → next < length keys → key ≡ get_or keys next key → IsNextStamp clock keys (Some key.stamp)
stamp_told clock next keys key in_order awaits within is =
    subst (λ (k : StampedKey). IsNextStamp clock keys (Some k.stamp)) (sym is) (stamp_after clock next keys key in_order awaits within)

pub no_stamp : (clock next : ℕ) (keys : List StampedKey) → Awaits next (clock + 1) keys → length keys ≤ next → IsNextStamp clock keys None
no_stamp clock next keys awaits all = λ j e inside.
    let past = past_at next (clock + 1) keys awaits j e (omega (arith, inside, all)) in omega (arith, past)

-- all deadlines, one set after another
pub all_set : (s : Plain) (until : ℕ) (e0 e2 k p : Option ℕ) (d0 d1 d2 d3 d4 d5 : DeadlinesState)
    → d0 ≡ no_deadlines → d1 ≡ with_deadline d0 Counter0 e0 → d2 ≡ with_deadline d1 Counter2 e2 → d3 ≡ with_deadline d2 Keys k
    → d4 ≡ with_deadline d3 Processor p → d5 ≡ with_deadline d4 End (Some until) → IsEdgeOf s.chips.pit.counter_0 s.chips.clock e0
    → IsEdgeOf s.chips.pit.counter_2 s.chips.clock e2 → IsNextStamp s.chips.clock s.keys k → IsFreeClock s p → AreDeadlines s until d5
all_set s until e0 e2 k p d0 d1 d2 d3 d4 d5 new first second third fourth fifth edge_0 edge_2 key free =
    let whole : d5 ≡ record { counter_0 = e0; counter_2 = e2; keys = k; processor = p; end = Some until } =
    fifth
    ∙ ap (λ d. with_deadline d End (Some until)) (fourth
    ∙ ap (λ d. with_deadline d Processor p) (third
    ∙ ap (λ d. with_deadline d Keys k) (second
    ∙ ap (λ d. with_deadline d Counter2 e2) (first
    ∙ ap (λ d. with_deadline d Counter0 e0) new)))) in
    subst (λ d. AreDeadlines s until d) (sym whole)
    (record { counter_0 = edge_0; counter_2 = edge_2; keys = key; processor = free; end = refl })
