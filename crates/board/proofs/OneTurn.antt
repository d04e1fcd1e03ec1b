-- What a turn begins, and what it does to the wires, for callers that make one turn at a time.
use Rattle.std.proofs.Common.{◌≡◌, ℕ, ◌+◌, ◌-◌, ◌*◌, ◌<◌, ◌≤◌, inl, inr, Bool, true, false, List, [], ◌∷◌, ◌++◌}
use Rattle.std.proofs.Common.{length, map, Option, None, refl, sym, ap, ◌∙◌, subst, arith, append-nil}
use Rattle.std.proofs.lemmas.Bool.Decides.{nat_tests}
use Rattle.std.specs.Prelude.{◌⊎◌, nat_lt, IfOk, IfSome, IsTrue, OnOk, Result, Ok, Err}
use Rattle.std.specs.Option.{option_to_list}
use Rattle.board_types.proofs.Iterate.{iterate_add, iterate_zero, gathered_add, total_add}
use Rattle.board_plain.specs.Board.{BoardState, Ran}
use Rattle.board_plain.specs.Plain.{Plain, after_clock, after_clocks, clock_of, next_act}
use Rattle.board_plain.specs.Trail.{entry_at, event_of, trail_in, trail_next, start_of}
use Rattle.board_plain.specs.declared.act.Act.{Act}
use Rattle.decode.specs.declared.decoding.Decoding.{Decoding}
use Rattle.decode.specs.declared.decoding.Decoding.TheVariants.{Found, NoRow}
use Rattle.decode.specs.Decoding.{size_of, IsDecoded}
use Rattle.decode.specs.FoundDecoding.{is_found}
use Rattle.board.proofs.Entries.{found_size}
use Rattle.board_plain.proofs.Clocks.{clock_goes_by}
use Rattle.board_plain.proofs.Runs.{ran_none}
use Rattle.events.specs.Events.{unwired_next}
use Rattle.board.specs.declared.one_turn.Begun.{Begun}
use Rattle.board.specs.OneTurn.{begun_of, HaveSameWires, IsOneTurn}
use Rattle.board.specs.Turns.{IsLeapOn, IsTickOn, IsTurnOn}
use Rattle.board.specs.UnseenClocks.{PassesOver, WiresStay, WiresStayThen}
use Rattle.board.proofs.Ticking.{first_clock, first_seen, first_unseen, ran_more}
use Rattle.board.proofs.Turns.{before_rest, leap_runs, owed, paid, ran_leap, work_after_leap, work_of_first}
use Rattle.board_plain.specs.Work.{work_in, work_next}

-- what begins

found_by_size : (bytes : List ℕ) (d : Decoding) (n : ℕ) → n ≡ size_of d → IsDecoded bytes d → nat_lt 0 n ≡ is_found d
found_by_size bytes (Found i size) n is found =
    let some : 0 < size = found_size bytes (Found i size) found refl in
    let more : nat_lt 0 n ≡ true = grind (arith, nat_tests, is, some) in more
found_by_size bytes NoRow n is none = ap (nat_lt 0) is

abbrev begun_now : Plain → Option ℕ → Begun
begun_now s entered = record { clock = clock_of s; cs = s.cpu.registers.cs; ip = s.cpu.registers.ip; entered = entered }

starts : (s : Plain) (d : Decoding) → is_found d ≡ true → map begun_of (entry_at s (start_of s.cpu s.chips d)) ≡ begun_now s None ∷ []
starts s (Found i size) is = refl
starts s NoRow is = absurd (cc)

no_start : (s : Plain) (d : Decoding) → is_found d ≡ false → map begun_of (entry_at s (start_of s.cpu s.chips d)) ≡ []
no_start s (Found i size) is = absurd (cc)
no_start s NoRow is = refl

-- an instruction that has a size begins
pub sized_begins : (s : Plain) (bytes : List ℕ) (d : Decoding) (n : ℕ) → n ≡ size_of d → IsDecoded bytes d → 0 < n
    → begun_now s None ∷ [] ≡ map begun_of (entry_at s (start_of s.cpu s.chips d))
sized_begins s bytes d n is found some =
    let more : nat_lt 0 n ≡ true = grind (arith, nat_tests, some) in
    sym (starts s d (sym (found_by_size bytes d n is found) ∙ more))

-- what was decoded as no row begins nothing
pub sizeless_begins : (s : Plain) (bytes : List ℕ) (d : Decoding) (n : ℕ) → n ≡ size_of d → IsDecoded bytes d → n ≤ 0
    → [] ≡ map begun_of (entry_at s (start_of s.cpu s.chips d))
sizeless_begins s bytes d n is found none =
    let more : nat_lt 0 n ≡ false = grind (arith, nat_tests, none) in
    sym (no_start s d (sym (found_by_size bytes d n is found) ∙ more))

pub begins_by : (s : Plain) (act : Act) (begun : List Begun) → act ≡ next_act s
    → begun ≡ map begun_of (entry_at s (event_of s.cpu s.chips act)) → begun ≡ map begun_of (trail_next s)
unfolding trail_next
begins_by s act begun next is = is ∙ ap (λ (a : Act). map begun_of (entry_at s (event_of s.cpu s.chips a))) next

-- a turn that is a leap
once_leap : (edges : Bool) (within end : ℕ) (s u : BoardState) (begun : Option Begun)
    → length s.trail ≤ 32 → clock_of s.plain < end → IsLeapOn end 1 s u → (¬ (IsTrue edges) → WiresStayThen within s.plain u.plain)
    → option_to_list begun ≡ map begun_of (trail_next s.plain) → IfSome begun (λ b. b.clock ≡ clock_of s.plain) → IsOneTurn edges within end s u begun
once_leap edges within end s u begun few before on stay is clock =
    let leap = on.leap in
    let few_clocks = leap.within in
    let passed = leap.unseen.clock in
    let none : trail_next s.plain ≡ [] = first_unseen trail_next s.plain leap.clocks leap.some leap.unseen.entries in
    record {
      passed = leap.clocks;
      some = leap.some;
      before_end = omega (arith, few_clocks, before);
      ran = leap_runs end 1 s u on few;
      begins = ap (map begun_of) (leap.unseen.entries ∙ sym none) ∙ sym is;
      clock = clock;
      quiet = λ j some before. leap.unseen.quiet j before;
      cpu =
          ap (λ (p : Plain). p.cpu) leap.unseen.plain ∙ leap.unseen.cpu leap.clocks (omega arith)
          ∙ sym (leap.unseen.cpu 1 leap.some) ∙ ap (λ (p : Plain). p.cpu) (first_clock s.plain);
      keyboard =
          ap (λ (p : Plain). p.chips.keyboard) leap.unseen.plain ∙ leap.unseen.keyboard leap.clocks (omega arith)
          ∙ sym (leap.unseen.keyboard 1 leap.some) ∙ ap (λ (p : Plain). p.chips.keyboard) (first_clock s.plain);
      wires = λ not j some last. (stay not).later j some (omega (arith, last, passed));
      leap = λ past. record {
        quiet = ap unwired_next (sym (iterate_zero after_clock s.plain)) ∙ leap.unseen.quiet 0 leap.some;
        wires = λ not. subst (HaveSameWires s.plain) (first_clock s.plain) ((stay not).leap (omega (arith, past, passed)) 1 (omega (arith, leap.some, passed)));
        conditions = λ stops j within. leap.unseen.conditions stops j within;
      };
      turns = on.turns;
      useful = inr (leap.unseen.busy, leap.maximal);
    }

-- a turn that is one clock
once_ticked : (edges : Bool) (within end : ℕ) (s u : BoardState) (begun : Option Begun)
    → length s.trail ≤ 32 → clock_of s.plain < within → within ≤ end → IsTickOn s u → 1 ≤ work_next s.plain
    → (¬ (IsTrue edges) → WiresStayThen within s.plain u.plain)
    → option_to_list begun ≡ map begun_of (trail_next s.plain) → IfSome begun (λ b. b.clock ≡ clock_of s.plain) → IsOneTurn edges within end s u begun
once_ticked edges within end s u begun few before order tick work stay is clock =
    let passed = tick.clock in record {
      passed = 1;
      some = omega arith;
      before_end = omega (arith, before, order);
      ran = ran_more 0 s s u (ran_none s few) tick;
      begins = ap (map begun_of) (first_seen trail_next s.plain) ∙ sym is;
      clock = clock;
      quiet = λ j some before. absurd (omega (arith, some, before));
      cpu = ap (λ (p : Plain). p.cpu) tick.plain;
      keyboard = ap (λ (p : Plain). p.chips.keyboard) tick.plain;
      wires = λ not j some last. (stay not).later j some (omega (arith, last, passed));
      leap = λ past. absurd (omega (arith, before, past));
      turns = tick.turns;
      useful = inl work;
    }

-- a turn that is an act with a leap after it
once_acted : (edges : Bool) (within end : ℕ) (s b u : BoardState) (begun : Option Begun) → length s.trail ≤ 32 → clock_of s.plain < within
    → within ≤ end → IsTickOn s b → 1 ≤ work_next s.plain → (u ≡ b) ⊎ ((1 ≤ b.plain.busy) × IsLeapOn within 0 b u)
    → (¬ (IsTrue edges) → WiresStayThen within s.plain u.plain)
    → option_to_list begun ≡ map begun_of (trail_next s.plain) → IfSome begun (λ x. x.clock ≡ clock_of s.plain) → IsOneTurn edges within end s u begun
once_acted edges within end s b u begun few before order tick work (inl same) stay is clock =
    once_ticked edges within end s u begun few before order (subst (IsTickOn s) (sym same) tick) work stay is clock
once_acted edges within end s b u begun few before order tick work (inr rest) stay is clock =
    let leap = rest.1.leap in
    let few_clocks = leap.within in
    let first = tick.clock in
    let passed = leap.unseen.clock in
    let past = before_rest within b u rest.1 in
    let here : after_clocks s.plain 1 ≡ b.plain = first_clock s.plain ∙ sym tick.plain in
    let entries : trail_in s.plain (1 + leap.clocks) ≡ trail_next s.plain =
    gathered_add after_clock trail_next 1 leap.clocks s.plain
    ∙ ap (λ xs. trail_in s.plain 1 ++ xs) (ap (λ p. trail_in p leap.clocks) here ∙ leap.unseen.entries)
    ∙ append-nil (trail_in s.plain 1) ∙ first_seen trail_next s.plain in
    record {
      passed = 1 + leap.clocks;
      some = omega arith;
      before_end = omega (arith, few_clocks, first, past, order);
      ran = ran_leap 1 within 0 s b u (ran_more 0 s s b (ran_none s few) tick) rest.1;
      begins = ap (map begun_of) entries ∙ sym is;
      clock = clock;
      quiet = λ j some before.
          let whole : 1 + (j - 1) ≡ j = omega (arith, some) in
          let there : after_clocks s.plain j ≡ after_clocks b.plain (j - 1) =
          ap (after_clocks s.plain) (sym whole) ∙ iterate_add after_clock 1 (j - 1) s.plain ∙ ap (λ p. after_clocks p (j - 1)) here in
          ap unwired_next there ∙ leap.unseen.quiet (j - 1) (omega (arith, some, before));
      cpu = ap (λ (p : Plain). p.cpu) leap.unseen.plain ∙ leap.unseen.cpu leap.clocks (omega arith) ∙ ap (λ (p : Plain). p.cpu) tick.plain;
      keyboard =
          ap (λ (p : Plain). p.chips.keyboard) leap.unseen.plain ∙ leap.unseen.keyboard leap.clocks (omega arith)
          ∙ ap (λ (p : Plain). p.chips.keyboard) tick.plain;
      wires = λ not j some last. (stay not).later j some (omega (arith, last, first, passed));
      leap = λ past_within. absurd (omega (arith, few_clocks, first, past, past_within));
      turns = let one = tick.turns in let none = rest.1.turns in omega (arith, one, none);
      useful = inl work;
    }

pub once_turned : (edges : Bool) (within end : ℕ) (s u : BoardState) (begun : Option Begun)
    → length s.trail ≤ 32 → clock_of s.plain < within → within ≤ end → IsTurnOn within end s u → (¬ (IsTrue edges) → WiresStayThen within s.plain u.plain)
    → option_to_list begun ≡ map begun_of (trail_next s.plain) → IfSome begun (λ b. b.clock ≡ clock_of s.plain) → IsOneTurn edges within end s u begun
once_turned edges within end s u begun few before order (inl leap) stay is clock =
    once_leap edges within end s u begun few (omega (arith, before, order)) leap stay is clock
once_turned edges within end s u begun few before order (inr act) stay is clock =
    once_acted edges within end s act.begun u begun few before order act.first act.work act.rest stay is clock

-- the wires after the first clock

same_then : (s t u : Plain) → HaveSameWires s t → HaveSameWires s u → HaveSameWires t u
same_then s t u first second = record {
  pic = second.pic ∙ sym first.pic;
  out_0 = second.out_0 ∙ sym first.out_0;
  out_2 = second.out_2 ∙ sym first.out_2;
  speaker = second.speaker ∙ sym first.speaker;
}

-- in a leap the wires stay in the first clock too
pub stay_then : (within : ℕ) (s t : Plain) → clock_of s < clock_of t → WiresStay s t → WiresStayThen within s t
stay_then within s t later stay = record {
  later = λ j some few.
      same_then s (after_clock s) (after_clocks s j) (subst (HaveSameWires s) (first_clock s) (stay 1 (omega (arith, later)))) (stay j few);
  leap = λ past. stay;
}

-- after the first clock the wires stay as that leaves them
pub stay_after_first : (within : ℕ) (s t : Plain) → clock_of t ≤ within → WiresStay (after_clock s) t → WiresStayThen within s t
stay_after_first within s t before stay = record {
  later = λ j some few.
      let clock = clock_goes_by s in
      let whole : 1 + (j - 1) ≡ j = omega (arith, some) in
      let there : after_clocks s j ≡ after_clocks (after_clock s) (j - 1) =
      ap (after_clocks s) (sym whole) ∙ iterate_add after_clock 1 (j - 1) s ∙ ap (λ p. after_clocks p (j - 1)) (first_clock s) in
      subst (HaveSameWires (after_clock s)) (sym there) (stay (j - 1) (omega (arith, few, clock, some)));
  leap = λ past. absurd (omega (arith, before, past));
}

-- a step whose other clocks are leapt over ends by the clock `within`
pub passes_within : (within : ℕ) (s t : Plain) → clock_of s < within → PassesOver within (after_clock s) t → clock_of t ≤ within
passes_within within s t before (inl same) =
    let first = clock_goes_by s in
    let here : clock_of t ≡ clock_of (after_clock s) = ap clock_of same in omega (arith, before, first, here)
passes_within within s t before (inr leap) =
    let first = clock_goes_by s in
    let clocks = leap.1.within in
    let here = leap.1.unseen.clock in omega (arith, before, first, here, clocks)

-- a turn that isn't refused
pub turned_once : {E : Type 0} (edges : Bool) (within end by to : ℕ) (s u : BoardState) (answer : Result (Option Begun) E)
    → length s.trail ≤ 32 → clock_of s.plain < within → within ≤ end → by ≡ within → to ≡ end → OnOk answer (IsTurnOn by to s u)
    → (¬ (IsTrue edges) → OnOk answer (WiresStayThen by s.plain u.plain)) → IfOk answer (λ begun. option_to_list begun ≡ map begun_of (trail_next s.plain))
    → IfOk answer (λ begun. IfSome begun (λ b. b.clock ≡ clock_of s.plain)) → IfOk answer (IsOneTurn edges within end s u)
turned_once edges within end by to s u (Ok begun) few before order is at turn stay begins clock =
    once_turned edges within end s u begun few before order (subst (λ n. IsTurnOn n end s u) is (subst (λ n. IsTurnOn by n s u) at turn))
    (λ not. subst (λ n. WiresStayThen n s.plain u.plain) is (stay not)) begins clock
turned_once edges within end by to s u (Err fault) few before order is at turn stay begins clock = tt

-- The turns of a run that is made one turn after another, against its work: a clock with work pays for three, and the run
-- for what is left.
pub record MostTurns (spare end : ℕ) (s t : BoardState) (n : ℕ) : Type 0 where
  pub before_end : clock_of t.plain < end → t.turns + owed t.plain ≤ s.turns + 3 * work_in s.plain n + spare + paid t.plain
  pub whole : t.turns ≤ s.turns + 3 * work_in s.plain n + spare + 1

pub no_turns : (end : ℕ) (s : BoardState) → MostTurns 1 end s s 0
no_turns end s = record { before_end = λ _. omega arith; whole = omega arith }

pub more_turns : {edges : Bool} {begun : Option Begun} (within spare end n : ℕ) (s t u : BoardState) → MostTurns spare end s t n → Ran n s t
    → (turn : IsOneTurn edges within end t u begun) → MostTurns spare end s u (n + turn.passed)
more_turns within spare end n s t u so_far ran turn =
    let k : ℕ = turn.passed in
    let some = turn.some in
    let before_end = turn.before_end in
    let one = turn.turns in
    let clock = turn.ran.clock in
    let first = work_of_first k t.plain some in
    let parts : work_in s.plain (n + k) ≡ work_in s.plain n + work_in t.plain k =
    total_add after_clock work_next n k s.plain ∙ ap (λ p. work_in s.plain n + work_in p k) (sym ran.plain) in
    let spent = so_far.before_end (omega (arith, some, before_end)) in
    elim turn.useful [
      | inl work ↦ record { before_end = λ _. omega (arith, one, first, parts, spent, work); whole = omega (arith, one, first, parts, spent, work) }
      | inr leap ↦ record {
        before_end = λ early.
            let then = work_after_leap (end - clock_of t.plain) k t.plain u.plain leap.1 (omega (arith, early, clock)) some leap.0 in
            omega (arith, one, first, parts, spent, then);
        whole = omega (arith, one, first, parts, spent);
      }
    ]
