-- The turns of a run against its work: a clock with work pays for three, and the run for what is left.
use Rattle.std.proofs.Common.{zero, suc, ◌≡◌, ℕ, ◌+◌, ◌-◌, ◌*◌, ◌<◌, ◌≤◌, min, inl, inr, [], ◌++◌, length, refl, sym, ap, ◌∙◌, subst, arith, append-nil}
use Rattle.std.specs.Prelude.{◌⊎◌, true, OnOk, Result, Ok, Err}
use Rattle.board_types.proofs.Iterate.{iterate_zero, total_zero, total_more, total_add}
use Rattle.board_plain.specs.Board.{BoardState, Ran, StoppedEarly}
use Rattle.board.specs.HeldBack.{IsHeldBack}
use Rattle.board.specs.LongLeaps.{IsMaximalTo}
use Rattle.board_plain.specs.Plain.{Plain, after_clock, after_clocks, change_next, changes_in, clock_of}
use Rattle.board_plain.specs.Trail.{last, trail_next}
use Rattle.board.specs.QuietSteps.{AreQuietSteps, IsQuietStep, Traced}
use Rattle.board.specs.UnseenClocks.{IsLeap}
use Rattle.board.specs.AwaitFree.{IsTurnBetween}
use Rattle.board.specs.Turns.{AreStepsOn, IsActOn, IsLeapOn, IsTickOn, IsTurnOn}
use Rattle.board_plain.specs.Work.{steps_in, steps_next, work_in, work_next}
use Rattle.board_plain.proofs.LastEntries.{last_within, nothing_added}
use Rattle.board.proofs.Beginning.{act_made}
use Rattle.board.proofs.Steps.{have_gone}
use Rattle.board.proofs.Ticking.{first_clock, first_unseen, not_held, ran_more, stopped}
use Rattle.board_plain.proofs.Runs.{ran_none, runs_join}
use Rattle.board.proofs.Works.{one_step_at_most}

-- a leap is a run

few_of_run : (n : ℕ) (s t : BoardState) → Ran n s t → length t.trail ≤ 32
few_of_run n s t ran = subst (λ xs. length xs ≤ 32) (sym ran.trail) (last_within 32 _)

pub leap_runs : (end count : ℕ) (t u : BoardState) → (on : IsLeapOn end count t u) → length t.trail ≤ 32 → Ran on.leap.clocks t u
leap_runs end count t u on few =
    let unseen = on.leap.unseen in record {
      plain = unseen.plain;
      clock = unseen.clock;
      changes = on.changes ∙ sym (append-nil t.changes) ∙ ap (λ xs. t.changes ++ xs) (sym unseen.changes);
      trail = on.trail ∙ nothing_added 32 t.trail few ∙ ap (λ xs. last 32 (t.trail ++ xs)) (sym unseen.entries);
      room = let same = on.room in let size : length u.changes ≡ length t.changes = ap length on.changes in omega (arith, same, size);
    }

pub ran_leap : (n end count : ℕ) (s t u : BoardState) → Ran n s t → (on : IsLeapOn end count t u) → Ran (n + on.leap.clocks) s u
ran_leap n end count s t u ran on = runs_join n on.leap.clocks s t u ran (leap_runs end count t u on (few_of_run n s t ran))

-- work and steps, a clock more or a leap more

pub work_more : (n : ℕ) (s t : BoardState) → Ran n s t → work_in s.plain (n + 1) ≡ work_in s.plain n + work_next t.plain
work_more n s t ran = total_more after_clock work_next n s.plain ∙ ap (λ p. work_in s.plain n + work_next p) (sym ran.plain)

pub steps_more : (n : ℕ) (s t : BoardState) → Ran n s t → steps_in s.plain (n + 1) ≡ steps_in s.plain n + steps_next t.plain
steps_more n s t ran = total_more after_clock steps_next n s.plain ∙ ap (λ p. steps_in s.plain n + steps_next p) (sym ran.plain)

pub work_of_first : (m : ℕ) (p : Plain) → 1 ≤ m → work_next p ≤ work_in p m
work_of_first m p some =
    let whole : work_in p m ≡ work_in p (1 + (m - 1)) = ap (work_in p) (omega (arith, some)) in
    let parts : work_in p (1 + (m - 1)) ≡ work_in p 1 + work_in (after_clocks p 1) (m - 1) = total_add after_clock work_next 1 (m - 1) p in
    let first : work_in p 1 ≡ work_in p 0 + work_next p =
    total_more after_clock work_next 0 p ∙ ap (λ q. work_in p 0 + work_next q) (iterate_zero after_clock p) in
    omega (arith, whole, parts, first)

pub work_leap : (n end count : ℕ) (s t u : BoardState) → Ran n s t → (on : IsLeapOn end count t u)
    → work_in s.plain n + work_next t.plain ≤ work_in s.plain (n + on.leap.clocks)
work_leap n end count s t u ran on =
    let first = work_of_first on.leap.clocks t.plain on.leap.some in
    let parts : work_in s.plain (n + on.leap.clocks) ≡ work_in s.plain n + work_in t.plain on.leap.clocks =
    total_add after_clock work_next n on.leap.clocks s.plain ∙ ap (λ p. work_in s.plain n + work_in p on.leap.clocks) (sym ran.plain) in
    omega (arith, first, parts)

pub steps_leap : (n end count : ℕ) (s t u : BoardState) → Ran n s t → (on : IsLeapOn end count t u) → steps_in s.plain (n + on.leap.clocks) ≡ steps_in s.plain n
steps_leap n end count s t u ran on =
    let none = on.leap.unseen.steps in
    let parts : steps_in s.plain (n + on.leap.clocks) ≡ steps_in s.plain n + steps_in t.plain on.leap.clocks =
    total_add after_clock steps_next n on.leap.clocks s.plain ∙ ap (λ p. steps_in s.plain n + steps_in p on.leap.clocks) (sym ran.plain) in
    omega (arith, none, parts)

-- what a busy processor still owes: the leap to the end of its step
abbrev pub owed : Plain → ℕ
owed p = min p.busy 1

-- what the next clock pays for, if it has work
abbrev pub paid : Plain → ℕ
paid p = min (work_next p) 1

-- A run so far, with the turns that it may spare beside those that are paid for.
pub record SoFar (spare end : ℕ) (s t : BoardState) : Type 0 where
  pub passed : ℕ
  pub ran : Ran passed s t
  pub within : clock_of t.plain ≤ end
  pub before_end : clock_of t.plain < end → t.turns + owed t.plain ≤ s.turns + 3 * work_in s.plain passed + spare + paid t.plain
  pub whole : t.turns ≤ s.turns + 3 * work_in s.plain passed + spare + 1
  pub least : s.turns + steps_in s.plain passed ≤ t.turns

pub so_far_none : (end : ℕ) (s : BoardState) → length s.trail ≤ 32 → clock_of s.plain ≤ end → SoFar 1 end s s
so_far_none end s few within =
    let none = total_zero after_clock steps_next s.plain in record {
      passed = 0;
      ran = ran_none s few;
      within = within;
      before_end = λ _. omega arith;
      whole = omega arith;
      least = omega (arith, none);
    }

unfoldable pub so_far_first : (end : ℕ) (s u : BoardState) → length s.trail ≤ 32 → clock_of s.plain < end → IsTickOn s u → SoFar 2 end s u
so_far_first end s u few before on =
    let ran = ran_none s few in
    let clock = on.clock in
    let turns = on.turns in
    let steps = steps_more 0 s s ran in
    let none = total_zero after_clock steps_next s.plain in
    let one = one_step_at_most s.plain in record {
      passed = 0 + 1;
      ran = ran_more 0 s s u ran on;
      within = omega (arith, clock, before);
      before_end = λ _. omega (arith, turns);
      whole = omega (arith, turns);
      least = omega (arith, turns, steps, none, one);
    }

unfoldable pub so_far_tick : (spare end : ℕ) (s t u : BoardState)
    → SoFar spare end s t → clock_of t.plain < end → IsTickOn t u → 1 ≤ work_next t.plain → SoFar spare end s u
so_far_tick spare end s t u so_far before on some =
    let n : ℕ = so_far.passed in
    let clock = on.clock in
    let turns = on.turns in
    let work = work_more n s t so_far.ran in
    let steps = steps_more n s t so_far.ran in
    let one = one_step_at_most t.plain in
    let spent = so_far.before_end before in
    let least = so_far.least in record {
      passed = n + 1;
      ran = ran_more n s t u so_far.ran on;
      within = omega (arith, clock, before);
      before_end = λ _. omega (arith, turns, work, spent, some);
      whole = omega (arith, turns, work, spent, some);
      least = omega (arith, turns, steps, one, least);
    }

-- what is owed and paid after a leap that ends before the run
pub work_after_leap : (limit n : ℕ) (p q : Plain) → IsMaximalTo limit p n q → n < limit → 1 ≤ n → q.busy ≡ p.busy - n → owed q + 1 ≤ owed p + paid q
work_after_leap limit n p q (inl all) less some busy = absurd (omega (arith, all, less))
work_after_leap limit n p q (inr (inl ends)) less some busy =
    let first = ends.0 in
    let last = ends.1 in omega (arith, busy, first, last)
work_after_leap limit n p q (inr (inr works)) less some busy = omega (arith, busy, works)

unfoldable pub so_far_leap : (spare end count : ℕ) (s t u : BoardState)
    → count ≤ 1 → SoFar spare end s t → clock_of t.plain < end → IsLeapOn end count t u → SoFar spare end s u
so_far_leap spare end count s t u one so_far before on =
    let n : ℕ = so_far.passed in
    let m : ℕ = on.leap.clocks in
    let clock : clock_of u.plain ≡ clock_of t.plain + m = on.leap.unseen.clock in
    let turns = on.turns in
    let fits = on.leap.within in
    let work = work_leap n end count s t u so_far.ran on in
    let steps = steps_leap n end count s t u so_far.ran on in
    let spent = so_far.before_end before in
    let least = so_far.least in record {
      passed = n + m;
      ran = ran_leap n end count s t u so_far.ran on;
      within = omega (arith, clock, before, fits);
      before_end = λ early.
          let then =
          work_after_leap (end - clock_of t.plain) m t.plain u.plain on.leap.maximal (omega (arith, clock, early, before)) on.leap.some on.leap.unseen.busy in
          omega (arith, turns, work, spent, then, one);
      whole = omega (arith, turns, work, spent, one);
      least = omega (arith, turns, steps, least);
    }

pub before_rest : (end : ℕ) (t u : BoardState) → IsLeapOn end 0 t u → clock_of t.plain < end
before_rest end t u on = let some = on.leap.some in let within = on.leap.within in omega (arith, some, within)

so_far_rest : (spare end : ℕ) (s b u : BoardState) → SoFar spare end s b → (u ≡ b) ⊎ ((1 ≤ b.plain.busy) × IsLeapOn end 0 b u) → SoFar spare end s u
so_far_rest spare end s b u so_far (inl same) = subst (SoFar spare end s) (sym same) so_far
so_far_rest spare end s b u so_far (inr rest) = so_far_leap spare end 0 s b u (omega arith) so_far (before_rest end b u rest.1) rest.1

pub so_far_turn : (spare end : ℕ) (s t u : BoardState) → SoFar spare end s t → clock_of t.plain < end → IsTurnOn end end t u → SoFar spare end s u
so_far_turn spare end s t u so_far before (inl leap) = so_far_leap spare end 1 s t u (omega arith) so_far before leap
so_far_turn spare end s t u so_far before (inr act) =
    so_far_rest spare end s act.begun u (so_far_tick spare end s t act.begun so_far before act.first act.work) act.rest

-- at the end of a run, or at the clock that it has reached

pub ran_whole : (spare end count : ℕ) (s t : BoardState) → (so_far : SoFar spare end s t)
    → end ≡ clock_of s.plain + count → end ≤ clock_of t.plain → Ran count s t
ran_whole spare end count s t so_far is past =
    let clock = so_far.ran.clock in
    let within = so_far.within in
    subst (λ n. Ran n s t) (omega (arith, clock, within, is, past)) so_far.ran

pub record Counts (s t : BoardState) : Type 0 where
  pub least : s.turns + steps_in s.plain (clock_of t.plain - clock_of s.plain) ≤ t.turns
  pub most : t.turns ≤ s.turns + 3 * work_in s.plain (clock_of t.plain - clock_of s.plain) + 3

pub counted : (spare end : ℕ) (s t : BoardState) → SoFar spare end s t → spare ≤ 2 → Counts s t
counted spare end s t so_far few =
    let clock = so_far.ran.clock in
    let gone : so_far.passed ≡ clock_of t.plain - clock_of s.plain = omega (arith, clock) in
    let whole = so_far.whole in record {
      least = subst (λ n. s.turns + steps_in s.plain n ≤ t.turns) gone so_far.least;
      most = subst (λ n. t.turns ≤ s.turns + 3 * work_in s.plain n + 3) gone (omega (arith, whole, few));
    }

pub counted_held : (spare end : ℕ) (s t u : BoardState) → SoFar spare end s t → spare ≤ 2 → IsHeldBack t u → Counts s u
counted_held spare end s t u so_far few held = subst (λ b. Counts s b) (sym held.kept) (counted spare end s t so_far few)

pub not_counted : (s u : BoardState) → u ≡ s → Counts s u
not_counted s u same =
    let none : clock_of s.plain - clock_of s.plain ≡ 0 = omega arith in
    let steps : steps_in s.plain (clock_of s.plain - clock_of s.plain) ≡ 0 = ap (steps_in s.plain) none ∙ total_zero after_clock steps_next s.plain in
    subst (λ b. Counts s b) (sym same) (record { least = omega (arith, steps); most = omega arith })

-- a run that is held back after some turns
pub record HeldRun (count : ℕ) (s u : BoardState) : Type 0 where
  pub early : StoppedEarly count s u
  pub counts : Counts s u
  pub room : s.room + length s.changes ≤ u.room + length u.changes
  pub enough : length (changes_in s.plain count) ≤ s.room → ⊥

room_held : (n : ℕ) (s t u : BoardState) → Ran n s t → IsHeldBack t u → s.room + length s.changes ≤ u.room + length u.changes
room_held n s t u ran held = subst (λ b. s.room + length s.changes ≤ b.room + length b.changes) (sym held.kept) ran.room

passed_before : (n end count : ℕ) (s t : BoardState) → Ran n s t → end ≡ clock_of s.plain + count → clock_of t.plain < end → n < count
passed_before n end count s t ran is before = let clock = ran.clock in omega (arith, clock, is, before)

pub held_run : (spare end count : ℕ) (s t u : BoardState) → SoFar spare end s t → spare ≤ 2
    → end ≡ clock_of s.plain + count → clock_of t.plain < end → IsHeldBack t u → HeldRun count s u
held_run spare end count s t u so_far few is before held =
    let n : ℕ = so_far.passed in
    let less : n < count = passed_before n end count s t so_far.ran is before in record {
      early = stopped count n s t u less so_far.ran held;
      counts = counted_held spare end s t u so_far few held;
      room = room_held n s t u so_far.ran held;
      enough = λ fits. not_held count n s t u less so_far.ran held fits;
    }

-- an act that ends with the next clock
pub act_alone : (old new : BoardState) → IsActOn (clock_of old.plain + 1) old new → IsTickOn old new × (1 ≤ work_next old.plain)
act_alone old new act =
    elim act.rest [
      | inl same ↦ (subst (IsTickOn old) (sym same) act.first, act.work)
      | inr rest ↦
          let clock = act.first.clock in
          let some = rest.1.leap.some in
          let within = rest.1.leap.within in absurd (omega (arith, clock, some, within))
    ]

-- a leap that ends with the next clock
leap_alone : (old new : BoardState) → length old.trail ≤ 32 → IsLeapOn (clock_of old.plain + 1) 1 old new → IsTickOn old new
leap_alone old new few on =
    let some = on.leap.some in
    let within = on.leap.within in
    let one : on.leap.clocks ≡ 1 = omega (arith, some, within) in
    let clock = on.leap.unseen.clock in
    let none : change_next old.plain ≡ [] = first_unseen change_next old.plain on.leap.clocks some on.leap.unseen.changes in
    let no_entry : trail_next old.plain ≡ [] = first_unseen trail_next old.plain on.leap.clocks some on.leap.unseen.entries in
    record {
      plain = on.leap.unseen.plain ∙ ap (after_clocks old.plain) one ∙ first_clock old.plain;
      clock = omega (arith, clock, one);
      changes = on.changes ∙ sym (append-nil old.changes) ∙ ap (λ xs. old.changes ++ xs) (sym none);
      trail = on.trail ∙ nothing_added 32 old.trail few ∙ ap (λ xs. last 32 (old.trail ++ xs)) (sym no_entry);
      room = let same = on.room in let size : length new.changes ≡ length old.changes = ap length on.changes in omega (arith, same, size);
      turns = on.turns;
    }

pub turn_alone : (old new : BoardState) → length old.trail ≤ 32 → IsTurnOn (clock_of old.plain + 1) (clock_of old.plain + 1) old new → IsTickOn old new
turn_alone old new few (inl leap) = leap_alone old new few leap
turn_alone old new few (inr act) = (act_alone old new act).0

-- a run goes on

leap_moves : (end count : ℕ) (t u : BoardState) → clock_of t.plain < end → IsLeapOn end count t u → end - clock_of u.plain < end - clock_of t.plain
leap_moves end count t u before on =
    let clock = on.leap.unseen.clock in
    let some = on.leap.some in omega (arith, clock, some, before)

rest_moves : (end : ℕ) (t b u : BoardState) → clock_of t.plain < end → IsTickOn t b → (u ≡ b) ⊎ ((1 ≤ b.plain.busy) × IsLeapOn end 0 b u)
    → end - clock_of u.plain < end - clock_of t.plain
rest_moves end t b u before first (inl same) =
    let clock = first.clock in
    let here : clock_of u.plain ≡ clock_of b.plain = ap (λ (x : BoardState). clock_of x.plain) same in omega (arith, clock, here, before)
rest_moves end t b u before first (inr rest) =
    let clock = first.clock in
    let less = leap_moves end 0 b u (before_rest end b u rest.1) rest.1 in omega (arith, clock, before, less)

pub turn_moves : (end : ℕ) (t u : BoardState) → clock_of t.plain < end → IsTurnOn end end t u → end - clock_of u.plain < end - clock_of t.plain
turn_moves end t u before (inl leap) = leap_moves end 1 t u before leap
turn_moves end t u before (inr act) = rest_moves end t act.begun u before act.first act.rest

pub short_moves : (end : ℕ) (t u : BoardState) → clock_of t.plain < end → IsTurnOn (clock_of t.plain + 1) end t u
    → end - clock_of u.plain < end - clock_of t.plain
short_moves end t u before (inl leap) = leap_moves end 1 t u before leap
short_moves end t u before (inr act) = let clock = (act_alone t u act).0.clock in omega (arith, clock, before)

-- steps at once, while nothing comes

-- the board after n steps
abbrev pub following : BoardState → ℕ → Traced → BoardState
following t n v = record t { plain = v.plain; trail = v.trail; turns = t.turns + n }

pub one_more : (n end : ℕ) (t : BoardState) (w v : Traced) → IsQuietStep end w v → IsActOn end (following t n w) (following t (suc n) v)
one_more n end t w v step =
    act_made end (following t n w) (following t (suc n) v) step.quietly step.passed refl step.entries refl (omega arith)

so_far_each : (unwatched : ℕ → Type 0) (n spare end : ℕ) (s t : BoardState) (v : Traced)
    → AreQuietSteps unwatched n end (record { plain = t.plain; trail = t.trail }) v → SoFar spare end s t → SoFar spare end s (following t n v)
unfolding AreQuietSteps
so_far_each unwatched zero spare end s t v same so_far =
    let counted : t.turns ≡ t.turns + 0 = omega arith in
    subst (λ b. SoFar spare end s b) (λ k. record t { plain = (sym same k).plain; trail = (sym same k).trail; turns = counted k }) so_far
so_far_each unwatched (suc n) spare end s t v steps so_far =
    let w : Traced = steps.0 in
    let before = so_far_each unwatched n spare end s t w steps.1 so_far in
    so_far_turn spare end s (following t n w) (following t (suc n) v) before steps.2.before
    (inr (one_more n end t w v steps.2))

-- the board to which steps lead
pub steps_lead : (unwatched : ℕ → Type 0) (end : ℕ) (t u : BoardState) → (on : AreStepsOn unwatched end t u)
    → following t on.count (record { plain = u.plain; trail = u.trail }) ≡ u
steps_lead unwatched end t u on = λ k. record u { changes = sym on.changes k; room = sym on.room k; turns = sym on.turns k }

pub so_far_steps : (unwatched : ℕ → Type 0) (spare end : ℕ) (s t u : BoardState) → SoFar spare end s t → AreStepsOn unwatched end t u → SoFar spare end s u
so_far_steps unwatched spare end s t u so_far on =
    subst (λ b. SoFar spare end s b) (steps_lead unwatched end t u on)
    (so_far_each unwatched on.count spare end s t (record { plain = u.plain; trail = u.trail }) on.steps so_far)

pub steps_move : (unwatched : ℕ → Type 0) (end : ℕ) (t u : BoardState) → AreStepsOn unwatched end t u → clock_of t.plain ≤ clock_of u.plain
steps_move unwatched end t u on =
    let gone = have_gone unwatched on.count end _ _ on.steps in
    let some = gone.some in omega (arith, some)

-- steps that end with the next clock are one
one_alone : (unwatched : ℕ → Type 0) (n : ℕ) (t : BoardState) (v : Traced) → clock_of t.plain < clock_of v.plain
    → AreQuietSteps unwatched n (clock_of t.plain + 1) (record { plain = t.plain; trail = t.trail }) v → IsActOn (clock_of t.plain + 1) t (following t n v)
unfolding AreQuietSteps
one_alone unwatched zero t v moved same =
    let here : clock_of v.plain ≡ clock_of t.plain = ap (λ (x : Traced). clock_of x.plain) same in absurd (omega (arith, here, moved))
one_alone unwatched (suc zero) t v moved steps =
    let first : steps.0 ≡ record { plain = t.plain; trail = t.trail } = steps.1 in
    let step = subst (λ w. IsQuietStep (clock_of t.plain + 1) w v) first steps.2 in
    act_made (clock_of t.plain + 1) t (following t 1 v) step.quietly step.passed refl step.entries refl refl
one_alone unwatched (suc (suc n)) t v moved steps =
    let gone = have_gone unwatched (suc n) (clock_of t.plain + 1) _ steps.0 steps.1 in
    let some = gone.some in
    let before = steps.2.before in absurd (omega (arith, some, before))

pub steps_alone : (unwatched : ℕ → Type 0) (t u : BoardState) → clock_of t.plain < clock_of u.plain
    → AreStepsOn unwatched (clock_of t.plain + 1) t u → IsActOn (clock_of t.plain + 1) t u
steps_alone unwatched t u moved on =
    subst (IsActOn (clock_of t.plain + 1) t) (steps_lead unwatched (clock_of t.plain + 1) t u on)
    (one_alone unwatched on.count t (record { plain = u.plain; trail = u.trail }) moved on.steps)

-- a leap, as a turn, from the view of the engine within
pub board_leaps : (end : ℕ) (old seen new : BoardState) → old ≡ seen → IsLeap end old.plain new.plain
    → new.changes ≡ old.changes → new.trail ≡ old.trail → new.room ≡ old.room → new.turns ≡ old.turns + 1 → IsLeapOn end 1 seen new
board_leaps end old seen new same leap changes trail room turns =
    subst (λ b. IsLeapOn end 1 b new) same (record { leap = leap; changes = changes; trail = trail; room = room; turns = turns })

-- a turn between two looks for a stop that may be whole
pub if_whole : {E : Type 0} (unwatched : ℕ → Type 0) (end : ℕ) (old new : BoardState) (result : Result Unit E)
    → OnOk result (IsTurnOn end end old new) → OnOk result (IsTurnBetween true unwatched end old new)
if_whole unwatched end old new (Ok x) turn = inr turn
if_whole unwatched end old new (Err e) turn = turn

-- an act is a turn
pub if_act : {T E : Type 0} (within end : ℕ) (old left new : BoardState) (result : Result T E)
    → left ≡ old → OnOk result (IsActOn within left new) → OnOk result (IsTurnOn within end old new)
if_act within end old left new (Ok x) same act = inr (subst (λ b. IsActOn within b new) same act)
if_act within end old left new (Err e) same act = act
