-- When the processor takes a request.
use Rattle.wiring.specs.EachWire.{is_requested}
use Rattle.execute_meaning.specs.Takes.{takes_requests, takes_single_step}
use Rattle.std.proofs.Common.{◌≡◌, ◌≢◌, ℕ, zero, suc, ◌<◌, ◌≤◌, ◌⊎◌, inl, inr, Bool, true, false, if◌then◌else◌, refl, sym, ap, ◌∙◌, arith}
use Rattle.std.specs.Prelude.{◌==◌, ◌&&◌, is_some}
use Rattle.std.proofs.lemmas.Bool.Decides.{eqb_tells, nat_tests}
use Rattle.board_types.specs.declared.state.State.{State}
use Rattle.board_types.specs.declared.state.State.TheVariants.{Running, Halted, Jammed}
use Rattle.execute_meaning.specs.Boundaries.{boundary_of, is_halted, is_jammed, lets_requests}
use Rattle.execute_meaning.specs.Cpu.{CpuState}
use Rattle.execute_meaning.specs.declared.boundary.Boundary.{Boundary}
use Rattle.execute_meaning.specs.declared.boundary.Boundary.TheVariants as boundaries
use Rattle.execute_meaning.specs.declared.shadow.Shadow.{Shadow}
use Rattle.execute_meaning.specs.declared.shadow.Shadow.TheVariants as shadows
use Rattle.wiring.specs.Chips.{ChipsState}
use Rattle.board_plain.specs.declared.act.Act.{Act}
use Rattle.board_plain.specs.declared.act.Act.TheVariants.{Nothing, Request, SingleStep, Iteration, Instruction}
use Rattle.board_plain.specs.BoardLaws.{IsRequested, IsTakenWithin, MayTakeRequest, NoRequestWithoutIf}
use Rattle.board_plain.specs.BoardLaws.{RequestIsTaken, RequestStays, StayingRequestIsTaken, TakesRequest}
use Rattle.board_plain.specs.Plain.{Plain, act_at, after_clocks, is_free, next_act}

-- the cases of a boundary other than a request
other_by : (due halted repeats : Bool)
    → (if due then boundaries.SingleStep else (if halted then boundaries.Nothing else (if repeats then boundaries.Iteration else boundaries.Instruction)))
    ≢ boundaries.Request
other_by true halted repeats is = cc
other_by false true repeats is = cc
other_by false false true is = cc
other_by false false false is = cc

act_back : (cpu : CpuState) (chips : ChipsState) (b : Boundary) → act_at cpu chips b ≡ Request → b ≡ boundaries.Request
act_back cpu chips boundaries.Request is = refl
act_back cpu chips boundaries.SingleStep is = absurd (cc)
act_back cpu chips boundaries.Nothing is = absurd (cc)
act_back cpu chips boundaries.Iteration is = absurd (cc)
act_back cpu chips boundaries.Instruction is = absurd (cc)

taken_only : (free jammed asked : Bool) (cpu : CpuState) (chips : ChipsState) (other : Boundary) → other ≢ boundaries.Request
    → (if free then act_at cpu chips (if jammed then boundaries.Nothing else (if asked then boundaries.Request else other)) else Nothing) ≡ Request
    → (free ≡ true) × (jammed ≡ false) × (asked ≡ true)
taken_only false jammed asked cpu chips other differs is = absurd (cc)
taken_only true true asked cpu chips other differs is = absurd (cc)
taken_only true false true cpu chips other differs is = (refl, refl, refl)
taken_only true false false cpu chips other differs is = absurd (differs (act_back cpu chips other is))

both : (a b : Bool) → (a && b) ≡ true → (a ≡ true) × (b ≡ true)
both true true is = (refl, refl)
both true false is = absurd (cc)
both false b is = absurd (cc)

all_three : (a b c : Bool) → a ≡ true → b ≡ true → c ≡ true → (a && (b && c)) ≡ true
all_three a b c first second third = ap (λ x. x && (b && c)) first ∙ ap (λ x. x && c) second ∙ third

nothing_kept : (shadow : Shadow) → lets_requests shadow ≡ true → shadow ≡ shadows.Nothing
nothing_kept shadows.Nothing lets = refl
nothing_kept shadows.Requests lets = absurd (cc)
nothing_kept shadows.Interrupts lets = absurd (cc)

not_jammed : (state : State) → state ≢ Jammed → is_jammed state ≡ false
not_jammed Running differs = refl
not_jammed Halted differs = refl
not_jammed Jammed differs = absurd (differs refl)

differs_by : (state : State) → is_jammed state ≡ false → state ≢ Jammed
differs_by state is jammed = let never : true ≡ false = sym (ap is_jammed jammed) ∙ is in cc

free_by : (busy : ℕ) → (busy == 0) ≡ true → busy ≡ 0
free_by busy is = grind (arith, nat_tests)

may_by : (s : Plain) → (is_free s ≡ true) × (is_jammed s.cpu.state ≡ false) × ((is_requested s.chips && takes_requests s.cpu) ≡ true)
    → IsRequested s × MayTakeRequest s
may_by s told =
    let asked = both (is_requested s.chips) (takes_requests s.cpu) told.2 in
    let lets = both s.cpu.registers.flags.interrupt_enable (lets_requests s.cpu.shadow) asked.1 in (
      asked.0,
      record {
        free = free_by s.busy told.0;
        running_or_halted = differs_by s.cpu.state told.1;
        enabled = lets.0;
        nothing_kept_off = nothing_kept s.cpu.shadow lets.1;
      },
    )

stands_and_may : (s : Plain) → TakesRequest s → IsRequested s × MayTakeRequest s
unfolding next_act boundary_of
stands_and_may s takes =
    may_by s (taken_only (is_free s) (is_jammed s.cpu.state) (is_requested s.chips && takes_requests s.cpu) s.cpu s.chips _
    (other_by (takes_single_step s.cpu) (is_halted s.cpu.state) (is_some s.cpu.repeat)) takes)

taken_by : (free jammed asked : Bool) (cpu : CpuState) (chips : ChipsState) (other : Boundary) → free ≡ true → jammed ≡ false → asked ≡ true
    → (if free then act_at cpu chips (if jammed then boundaries.Nothing else (if asked then boundaries.Request else other)) else Nothing) ≡ Request
taken_by free jammed asked cpu chips other first second third =
    ap (λ b. if b then act_at cpu chips (if jammed then boundaries.Nothing else (if asked then boundaries.Request else other)) else Nothing) first
    ∙ ap (λ b. act_at cpu chips (if b then boundaries.Nothing else (if asked then boundaries.Request else other))) second
    ∙ ap (λ b. act_at cpu chips (if b then boundaries.Request else other)) third

takes : (s : Plain) → IsRequested s → MayTakeRequest s → TakesRequest s
unfolding next_act boundary_of
takes s stands may =
    taken_by (is_free s) (is_jammed s.cpu.state) (is_requested s.chips && takes_requests s.cpu) s.cpu s.chips _
    (ap (λ n. n == 0) may.free) (not_jammed s.cpu.state may.running_or_halted)
    (all_three (is_requested s.chips) s.cpu.registers.flags.interrupt_enable
    (lets_requests s.cpu.shadow) stands may.enabled (ap lets_requests may.nothing_kept_off))

pub request_is_taken : RequestIsTaken
request_is_taken s = (stands_and_may s, λ both. takes s both.0 both.1)

pub no_request_without_if : NoRequestWithoutIf
no_request_without_if s n disabled i within takes =
    let enabled : (after_clocks s i).cpu.registers.flags.interrupt_enable ≡ true = (stands_and_may (after_clocks s i) takes).1.enabled in
    let never : true ≡ false = sym enabled ∙ disabled i within in cc

-- the first of n numbers that a test passes, or none

record First (f : ℕ → Bool) (n : ℕ) : Type 0 where
  place : ℕ
  within : place < n
  passes : f place ≡ true
  before : (i : ℕ) → i < place → f i ≡ false

one_more : (f : ℕ → Bool) (n : ℕ) (b : Bool) → f n ≡ b → First f n ⊎ ((i : ℕ) → i < n → f i ≡ false) → First f (suc n) ⊎ ((i : ℕ) → i < suc n → f i ≡ false)
one_more f n b is (inl found) = inl (record {
  place = found.place;
  within = let w = found.within in omega arith;
  passes = found.passes;
  before = found.before;
})
one_more f n true is (inr none) = inl (record { place = n; within = omega arith; passes = is; before = none })
one_more f n false is (inr none) = inr (λ i within.
    elim (eqb_tells i n) [
      | inl here ↦ ap f here.1 ∙ is
      | inr other ↦ none i (omega (arith, within, other.1))
    ])

first_of : (f : ℕ → Bool) (n : ℕ) → First f n ⊎ ((i : ℕ) → i < n → f i ≡ false)
first_of f zero = inr (λ i within. absurd (omega (arith, within)))
first_of f (suc n) = one_more f n (f n) refl (first_of f n)

abbrev is_request : Act → Bool
is_request Request = true
is_request _ = false

request_by : (a : Act) → is_request a ≡ true → a ≡ Request
request_by Request is = refl
request_by Nothing is = absurd (cc)
request_by SingleStep is = absurd (cc)
request_by Iteration is = absurd (cc)
request_by (Instruction decoded) is = absurd (cc)

no_request_by : (a : Act) → is_request a ≡ false → a ≢ Request
no_request_by a none is = let never : true ≡ false = sym (ap is_request is) ∙ none in cc

-- if no request was taken before, none could be
taken_first : (s : Plain) (n passed : ℕ) → RequestStays s n → passed ≤ n → TakesRequest (after_clocks s passed)
    → ((i : ℕ) → i < passed → ¬ (TakesRequest (after_clocks s i))) → IsTakenWithin s n
taken_first s n passed stays within taken none = record {
  passed = passed;
  within = within;
  taken = taken;
  may = (stands_and_may (after_clocks s passed) taken).1;
  first = λ i before may.
      let stands : IsRequested (after_clocks s i) = stays i (omega (arith, before, within)) (λ j earlier. none j (omega (arith, before, earlier))) in
      none i before (takes (after_clocks s i) stands may);
  none_before = none;
}

pub staying_request_is_taken : StayingRequestIsTaken
staying_request_is_taken s n stays may =
    elim (first_of (λ i. is_request (next_act (after_clocks s i))) n) [
      | inl found ↦
          taken_first s n found.place stays (let w = found.within in omega arith)
          (request_by _ found.passes) (λ i before. no_request_by _ (found.before i before))
      | inr none ↦
          let before : (i : ℕ) → i < n → ¬ (TakesRequest (after_clocks s i)) = λ i within. no_request_by _ (none i within) in
          taken_first s n n stays (omega arith) (takes (after_clocks s n) (stays n (omega arith) before) may) before
    ]
