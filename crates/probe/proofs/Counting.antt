-- Turns whose beginnings are counted, one after another.
use Rattle.std.proofs.Common.{◌≡◌, ℕ, ◌+◌, ◌<◌, ◌≤◌, ◌^◌, Bool, true, false, List, [], ◌++◌, map}
use Rattle.std.proofs.Common.{Option, None, Some, Result, Ok, Err, refl, sym, ap, ◌∙◌, subst, arith}
use Rattle.std.proofs.lemmas.List.{map-append}
use Rattle.std.specs.Prelude.{IfSome, OnOk}
use Rattle.std.specs.Option.{option_to_list, IsSome, SomeIff}
use Rattle.std.specs.Result.{is_err}
use Rattle.board.specs.declared.one_turn.Begun.{Begun}
use Rattle.board.specs.OneTurn.{begun_in, begun_of, IsOneTurn}
use Rattle.board_plain.specs.Board.{BoardState, Ran}
use Rattle.board_plain.specs.Plain.{Plain, after_clock, after_clocks, clock_of}
use Rattle.board_plain.specs.Trail.{trail_in, trail_next}
use Rattle.board_types.proofs.Iterate.{gathered_add, gathered_zero}
use Rattle.debugger_meaning.specs.declared.fault.DebugFault.{DebugFault}
use Rattle.debugger_meaning.specs.declared.fault.DebugFault.TheVariants.{Memory}
use Rattle.debugger_meaning.specs.Stands.{SessionState}
use Rattle.probe.specs.declared.counts.Counts.{Counts}
use Rattle.probe.specs.Counted.{HasCountedAll}
use Rattle.probe.specs.Making.{FewTurns, RefusesMaking}
use Rattle.probe.specs.Tallied.{HasCounted, IsBefore}

-- no memory, after some of the clocks have passed
pub stands_short : (n k : ℕ) (s t : SessionState) (fault : DebugFault) → FewTurns k s.board t.board → clock_of s.board.plain + n ≤ 2 ^ 40 → k ≤ n
    → Ran k s.board t.board → t.stops ≡ s.stops → t.first ≡ s.first → fault ≡ Memory (Some (clock_of t.board.plain)) → RefusesMaking n s t fault
stands_short n k s t fault turns all within ran stops first is = subst (RefusesMaking n s t) (sym is) (record {
  within_all = all;
  passed = k;
  within = within;
  stands = record { plain = ran.plain; clock = ran.clock; changes = ran.changes; trail = ran.trail };
  turns = turns;
  stops = stops;
  first = first;
  clock_is = refl;
})

-- what begins in some clocks and in more after them
begun_on : (p k : ℕ) (s t : Plain) (begun : List Begun) → t ≡ after_clocks s p → begun_in t k ≡ begun → begun_in s (p + k) ≡ begun_in s p ++ begun
begun_on p k s t begun at is =
    ap (map begun_of) (gathered_add after_clock trail_next p k s)
    ∙ map-append begun_of (trail_in s p) (trail_in (after_clocks s p) k)
    ∙ ap (λ xs. begun_in s p ++ xs) (ap (λ q. begun_in q k) (sym at) ∙ is)

pub none_counted : (s : Plain) (c : Counts) → HasCounted [] c → ((clock : ℕ) → IsBefore clock c) → c.first ≡ clock_of s → HasCountedAll s 0 c
none_counted s c noted before from = record {
  noted = subst (λ xs. HasCounted xs c) (sym (ap (map begun_of) (gathered_zero after_clock trail_next s))) noted;
  before = before (clock_of s + 0);
  started = omega (arith, from);
}

-- a beginning before a clock is one before a later clock

pub if_some : {A : Type 0} {P Q : A → Type 0} (o : Option A) → IfSome o P → ((x : A) → P x → Q x) → IfSome o Q
if_some None p f = p
if_some (Some x) p f = f x p

before_later : (clock later : ℕ) (c : Counts) → clock ≤ later → IsBefore clock c → IsBefore later c
before_later clock later c less before = record {
  latest = if_some c.latest before.latest (λ b is. omega (arith, is, less));
  tallies = before.tallies;
}

-- what begins in a turn comes after what began before it
pub begins_after : {edges : Bool} (within end n : ℕ) (s : Plain) (t u : BoardState) (c : Counts) (begun : Option Begun)
    → HasCountedAll s n c → clock_of t.plain ≡ clock_of s + n → IsOneTurn edges within end t u begun → IfSome begun (λ b. IsBefore b.clock c)
begins_after within end n s t u c begun counted at turn = if_some begun turn.clock (λ b is. subst (λ k. IsBefore k c) (sym (is ∙ at)) counted.before)

pub more_counted : {edges : Bool} (within end n : ℕ) (s : Plain) (t u : BoardState) (c d : Counts) (begun : Option Begun)
    → HasCountedAll s n c → t.plain ≡ after_clocks s n → clock_of t.plain ≡ clock_of s + n → (turn : IsOneTurn edges within end t u begun)
    → ((all : List Begun) → HasCounted all c → HasCounted (all ++ option_to_list begun) d)
    → ((clock : ℕ) → IfSome begun (λ b. b.clock < clock) → IsBefore clock c → IsBefore clock d)
    → ((start : ℕ) → IfSome begun (λ b. start ≤ b.clock) → start ≤ c.first → start ≤ d.first) → HasCountedAll s (n + turn.passed) d
more_counted within end n s t u c d begun counted is at turn notes before starts =
    let k : ℕ = turn.passed in
    let some = turn.some in
    record {
      noted = subst (λ xs. HasCounted xs d) (sym (begun_on n k s t.plain (option_to_list begun) is turn.begins)) (notes _ counted.noted);
      before = before (clock_of s + (n + k)) (if_some begun turn.clock (λ b is. omega (arith, is, at, some)))
          (before_later (clock_of s + n) (clock_of s + (n + k)) c (omega arith) counted.before);
      started = starts (clock_of s) (if_some begun turn.clock (λ b is. omega (arith, is, at))) counted.started;
    }

-- what is known of some values

pub on_ok : {A E : Type 0} (result : Result Unit E) (failed : Bool) → failed ≡ is_err result → failed ≡ false → OnOk result A → A
on_ok (Ok x) failed is good a = a
on_ok (Err e) failed is good a = absurd (let never : true ≡ false = sym is ∙ good in cc)

pub number_of : (o : Option ℕ) (x n : ℕ) (P : Type 0) → SomeIff o P n → o ≡ Some x → x ≡ n
number_of (Some y) x n P is same = let one : y ≡ x = cc in sym one ∙ is.1
number_of None x n P is same = absurd (cc)

pub some_of : (o : Option ℕ) (n : ℕ) (P : Type 0) → SomeIff o P n → P → IsSome o
some_of (Some x) n P is within = refl
some_of None n P is within = absurd (is within)

-- the clock at which the run ends
pub ends_at : (o : Option ℕ) (end start clock from n : ℕ) (P : Type 0) → SomeIff o P (start + n) → o ≡ Some end → start ≡ clock → clock ≡ from → end ≡ from + n
ends_at o end start clock from n P is same at there = number_of o end (start + n) P is same ∙ ap (λ k. k + n) (at ∙ there)
