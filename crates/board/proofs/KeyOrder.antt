-- Keys that arrive one by one: those before a place in the list, and those from it on.
use Rattle.std.proofs.Common.{◌≡◌, ◌≢◌, ℕ, suc, ◌+◌, ◌-◌, ◌<◌, ◌≤◌, ◌⊎◌, inl, inr, List, [], ◌∷◌, ◌++◌, Option, None, Some}
use Rattle.std.proofs.Common.{length, take, drop, get_or, map, max, min, refl, sym, ap, ◌∙◌, subst, arith, append-nil}
use Rattle.std.specs.Prelude.{All}
use Rattle.std.proofs.Math.Seq.{take-add}
use Rattle.std.proofs.lemmas.Bool.Decides.{eqb_tells}
use Rattle.std.proofs.lemmas.Grind.{common_steps}
use Rattle.std.proofs.lemmas.List.{get_or-drop, get_or-take, get_or_default, length-take, length-drop, take-append-drop}
use Rattle.board_types.specs.declared.keys.StampedKey.{StampedKey}
use Rattle.board_types.specs.Keys.{IsInOrder}
use Rattle.board.specs.Arrivals.{Awaits, HaveArrived, IsNextStamp}
use Rattle.board.specs.UneventfulClocks.{ComesAfter}
use Rattle.board.specs.declared.arrivals.Arrived.{Arrived as SoFar}
use Rattle.board_plain.specs.BoardLaws.{NoKeyComes}
use Rattle.board_plain.specs.Plain.{Plain, clock_of, codes_at}
use Rattle.board_plain.proofs.Codes.{codes_append, none_due}

-- `index` keys have arrived at a clock, `next` of them before it
pub record Arrived (next index clock : ℕ) (keys : List StampedKey) : Type 0 where
  pub from : next ≤ index
  pub within : index ≤ length keys
  pub due : (j : ℕ) (d : StampedKey) → j < index → (get_or keys j d).stamp < clock + 1

in_take : (n j : ℕ) (ks : List StampedKey) → j < n → n ≤ length ks → j < length (take n ks)
in_take n j ks within long = let size = length-take n ks in let least : min n (length ks) ≡ n = omega (arith, long) in omega arith

in_drop : (n j : ℕ) (ks : List StampedKey) → n ≤ j → j < length ks → j - n < length (drop n ks)
in_drop n j ks from within = let size = length-drop n ks in omega arith

pub past_at : (next clock : ℕ) (keys : List StampedKey) → Awaits next clock keys → (j : ℕ) (d : StampedKey) → j < next → (get_or keys j d).stamp < clock
past_at next clock keys awaits j d within =
    subst (λ (k : StampedKey). k.stamp < clock) (get_or-take next keys j d within) (awaits.past j d (in_take next j keys within awaits.within))

-- keys from a place in the list on come at a clock or later
pub later_at : (next clock : ℕ) (keys : List StampedKey) → All (λ k. clock ≤ k.stamp) (drop next keys)
    → (j : ℕ) (d : StampedKey) → next ≤ j → j < length keys → clock ≤ (get_or keys j d).stamp
later_at next clock keys later j d from within =
    let place : next + (j - next) ≡ j = omega (arith, from) in
    subst (λ (k : StampedKey). clock ≤ k.stamp) (get_or-drop next keys (j - next) d ∙ ap (λ i. get_or keys i d) place)
    (later (j - next) d (in_drop next j keys from within))

pub to_come_at : (next clock : ℕ) (keys : List StampedKey) → Awaits next clock keys
    → (j : ℕ) (d : StampedKey) → next ≤ j → j < length keys → clock ≤ (get_or keys j d).stamp
to_come_at next clock keys awaits = later_at next clock keys awaits.to_come

pub awaits_from : (next clock : ℕ) (keys : List StampedKey) → next ≤ length keys → ((j : ℕ) (d : StampedKey) → j < next → (get_or keys j d).stamp < clock)
    → ((j : ℕ) (d : StampedKey) → next ≤ j → j < length keys → clock ≤ (get_or keys j d).stamp) → Awaits next clock keys
awaits_from next clock keys within past to_come = record {
  within = within;
  past = λ j d inside.
      let size = length-take next keys in
      let small : j < next = omega (arith, inside, size) in
      subst (λ (k : StampedKey). k.stamp < clock) (sym (get_or-take next keys j d small)) (past j d small);
  to_come = λ j d inside.
      let size = length-drop next keys in
      subst (λ (k : StampedKey). clock ≤ k.stamp) (sym (get_or-drop next keys j d)) (to_come (next + j) d (omega arith) (omega (arith, inside, size)));
}

-- before any of a clock's keys has arrived
pub arrived_none : (next clock : ℕ) (keys : List StampedKey) → Awaits next clock keys → Arrived next next clock keys
arrived_none next clock keys awaits = record {
  from = omega arith;
  within = awaits.within;
  due = λ j d within. let past = past_at next clock keys awaits j d within in omega arith;
}

pub codes_none : (next clock : ℕ) (keys : List StampedKey) → Awaits next clock keys → codes_at (take next keys) clock ≡ []
codes_none next clock keys awaits =
    none_due clock (take next keys) (λ i d within e. let past = awaits.past i d within in absurd (omega (arith, past, e)))

-- the key at `index` isn't due, so none after it is
later_than : (next index clock : ℕ) (keys : List StampedKey) (d : StampedKey) → IsInOrder keys → Awaits next clock keys → next ≤ index
    → index < length keys → (get_or keys index d).stamp ≢ clock → (j : ℕ) (e : StampedKey) → index ≤ j → j < length keys → clock + 1 ≤ (get_or keys j e).stamp
later_than next index clock keys d in_order awaits from within differs j e after inside =
    let here = to_come_at next clock keys awaits index d from within in
    let same : (get_or keys index e).stamp ≡ (get_or keys index d).stamp = ap (λ (k : StampedKey). k.stamp) (get_or_default keys index e d within) in
    let first : clock + 1 ≤ (get_or keys index e).stamp = omega (arith, here, differs, same) in
    elim (eqb_tells j index) [
      | inl at ↦ subst (λ i. clock + 1 ≤ (get_or keys i e).stamp) (sym at.1) first
      | inr past ↦ let order = in_order.stamps index j e (omega (arith, after, past.1)) inside in omega arith
    ]

none_after : (index clock : ℕ) (keys : List StampedKey) → ((j : ℕ) (e : StampedKey) → index ≤ j → j < length keys → clock + 1 ≤ (get_or keys j e).stamp)
    → codes_at keys clock ≡ codes_at (take index keys) clock
none_after index clock keys later =
    ap (λ xs. codes_at xs clock) (sym (take-append-drop index keys))
    ∙ codes_append clock (take index keys) (drop index keys)
    ∙ ap (λ xs. codes_at (take index keys) clock ++ xs)
    (none_due clock (drop index keys) (λ i d within e.
    let size = length-drop index keys in
    let place = later (index + i) d (omega arith) (omega (arith, within, size)) in
    let same : (get_or (drop index keys) i d).stamp ≡ (get_or keys (index + i) d).stamp = ap (λ (k : StampedKey). k.stamp) (get_or-drop index keys i d) in
    absurd (omega (arith, place, same, e))))
    ∙ append-nil (codes_at (take index keys) clock)

-- all of a clock's keys have arrived
pub record AllArrived (next clock : ℕ) (keys : List StampedKey) : Type 0 where
  pub awaits : Awaits next (clock + 1) keys
  pub codes : codes_at keys clock ≡ codes_at (take next keys) clock

pub arrived_before : (next index clock : ℕ) (keys : List StampedKey) (d : StampedKey) → IsInOrder keys → Awaits next clock keys
    → Arrived next index clock keys → index < length keys → (get_or keys index d).stamp ≢ clock → AllArrived index clock keys
arrived_before next index clock keys d in_order awaits so_far within differs =
    let later = later_than next index clock keys d in_order awaits so_far.from within differs in record {
      awaits = awaits_from index (clock + 1) keys so_far.within so_far.due later;
      codes = none_after index clock keys later;
    }

-- the keys between those before a clock and those after it are the clock's

all_due : (clock : ℕ) (keys : List StampedKey) → ((i : ℕ) (d : StampedKey) → i < length keys → (get_or keys i d).stamp ≡ clock)
    → codes_at keys clock ≡ map (λ (k : StampedKey). k.code) keys
all_due clock [] all = refl
all_due clock (k ∷ keys) all =
    let first : k.stamp ≡ clock = all 0 k (omega arith) in
    let rest : codes_at keys clock ≡ map (λ (k : StampedKey). k.code) keys = all_due clock keys (λ i d within. all (suc i) d (omega (arith, within))) in
    grind (arith, common_steps)

pub codes_between : (from to clock : ℕ) (keys : List StampedKey) → from ≤ to → Awaits from clock keys → Awaits to (clock + 1) keys
    → map (λ (k : StampedKey). k.code) (take (to - from) (drop from keys)) ≡ codes_at keys clock
codes_between from to clock keys order first last =
    let due : List StampedKey = take (to - from) (drop from keys) in
    let whole : from + (to - from) ≡ to = omega (arith, order) in
    let within = last.within in
    let long : length (drop from keys) ≡ length keys - from = length-drop from keys in
    let size : length due ≡ to - from = length-take (to - from) (drop from keys) ∙ omega (arith, long, within, order) in
    let place : (i : ℕ) (d : StampedKey) → i < length due → (get_or due i d).stamp ≡ (get_or keys (from + i) d).stamp =
    λ i d inside. ap (λ (k : StampedKey). k.stamp) (get_or-take (to - from) (drop from keys) i d (omega (arith, inside, size)) ∙ get_or-drop from keys i d) in
    let stamps : (i : ℕ) (d : StampedKey) → i < length due → (get_or due i d).stamp ≡ clock =
    λ i d inside.
    let here = place i d inside in
    let late = to_come_at from clock keys first (from + i) d (omega arith) (omega (arith, inside, size, within)) in
    let soon = past_at to (clock + 1) keys last (from + i) d (omega (arith, inside, size)) in
    omega (arith, here, late, soon) in
    sym (
    none_after to clock keys (to_come_at to (clock + 1) keys last)
    ∙ ap (λ n. codes_at (take n keys) clock) (sym whole)
    ∙ ap (λ ks. codes_at ks clock) (take-add from (to - from) keys)
    ∙ codes_append clock (take from keys) due
    ∙ ap (λ xs. xs ++ codes_at due clock) (codes_none from clock keys first)
    ∙ all_due clock due stamps)

-- the keys up to one that comes before a clock come before it, too
pub earlier_than : (index clock : ℕ) (keys : List StampedKey) (d : StampedKey) → IsInOrder keys → index < length keys
    → (get_or keys index d).stamp < clock → (j : ℕ) (e : StampedKey) → j < index + 1 → (get_or keys j e).stamp < clock
earlier_than index clock keys d in_order within before j e up_to =
    let same : (get_or keys index e).stamp ≡ (get_or keys index d).stamp = ap (λ (k : StampedKey). k.stamp) (get_or_default keys index e d within) in
    elim (eqb_tells j index) [
      | inl here ↦
          let stamp : (get_or keys j e).stamp ≡ (get_or keys index e).stamp = ap (λ i. (get_or keys i e).stamp) here.1 in omega (arith, stamp, same, before)
      | inr apart ↦ let order = in_order.stamps j index e (omega (arith, up_to, apart.1)) within in omega (arith, order, same, before)
    ]

-- clocks at which none comes
pub awaits_later : (next clock n late : ℕ) (keys : List StampedKey) → Awaits next (clock + 1) keys
    → All (λ k. (k.stamp ≤ clock) ⊎ (clock + n < k.stamp)) keys → late ≡ clock + n → Awaits next (late + 1) keys
awaits_later next clock n late keys awaits no_key is =
    awaits_from next (late + 1) keys awaits.within
    (λ j d within. let past = past_at next (clock + 1) keys awaits j d within in omega (arith, past, is))
    (λ j d from within.
    let later = to_come_at next (clock + 1) keys awaits j d from within in
    elim (no_key j d within) [
      | inl before ↦ absurd (omega (arith, later, before))
      | inr after ↦ omega (arith, after, is)
    ])

pub have_on : (a : SoFar) (clock late : ℕ) (keys other : List StampedKey)
    → HaveArrived a late keys → keys ≡ other → late ≡ clock + 1 → HaveArrived a (clock + 1) other
have_on a clock late keys other have same at =
    subst (HaveArrived a (clock + 1)) same (subst (λ n. HaveArrived a n keys) at have)

pub have_later : (a : SoFar) (clock n late : ℕ) (keys : List StampedKey) → HaveArrived a (clock + 1) keys
    → All (λ k. (k.stamp ≤ clock) ⊎ (clock + n < k.stamp)) keys → late ≡ clock + n → HaveArrived a (late + 1) keys
have_later a clock n late keys have none at =
    record { awaits = awaits_later a.count clock n late keys have.awaits none at; next = have.next }

-- the next stamp after a clock, if the number of keys that have arrived is known
pub next_of : (a : SoFar) (clock : ℕ) (keys : List StampedKey) → HaveArrived a (clock + 1) keys → IsNextStamp clock keys a.next
next_of a clock keys have = have.next clock have.awaits

-- no key comes before the next stamp

pub no_key_by : (clock n : ℕ) (keys : List StampedKey) (p : Option ℕ) → IsNextStamp clock keys p → ComesAfter (clock + n) p
    → All (λ k. (k.stamp ≤ clock) ⊎ (clock + n < k.stamp)) keys
no_key_by clock n keys None all after = λ j d inside. inl (all j d inside)
no_key_by clock n keys (Some at) next after = λ j d inside.
    elim (next.1 j d inside) [
      | inl past ↦ inl past
      | inr later ↦ inr (omega (arith, later, after))
    ]

pub no_key : (s : Plain) (n : ℕ) (p : Option ℕ) → IsNextStamp s.chips.clock s.keys p → ComesAfter (s.chips.clock + n) p → NoKeyComes s n
unfolding clock_of
no_key s n p next after = no_key_by s.chips.clock n s.keys p next after

-- no more keys have arrived after all clocks of a step
pub still_arrived : (a : SoFar) (clock busy free late : ℕ) (keys : List StampedKey)
    → HaveArrived a (clock + 1) keys → free ≡ clock + max busy 1 → ComesAfter free a.next → late ≡ free → HaveArrived a (late + 1) keys
still_arrived a clock busy free late keys have is later at =
    have_later a clock (max busy 1) late keys have
    (no_key_by clock (max busy 1) keys a.next (next_of a clock keys have) (subst (λ to. ComesAfter to a.next) is later)) (at ∙ is)
