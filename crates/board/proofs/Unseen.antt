-- Unseen clocks: what a board is after them, which wires stay, and what a leap over them makes.
use Rattle.wiring.specs.EachWire.{is_requested}
use Rattle.std.proofs.Common.{◌≡◌, ℕ, ◌+◌, ◌-◌, ◌≤◌, inl, inr, Option, sym, ap, ◌∙◌, subst, arith}
use Rattle.board_types.proofs.Iterate.{iterate_zero}
use Rattle.cached_chips.proofs.Quiet.{quiet_for}
use Rattle.cached_chips.specs.QuietChips.{IsQuiet}
use Rattle.execute_meaning.specs.Boundaries.{boundary_of}
use Rattle.execute_meaning.specs.declared.boundary.Boundary.TheVariants as boundaries
use Rattle.wiring.specs.Chips.{ChipsState}
use Rattle.wiring.specs.Wires as wires
use Rattle.board_plain.specs.BoardLaws.{NoKeyComes, WiresHold}
use Rattle.board_plain.specs.Plain.{Plain, after_clock, after_clocks, clock_of, speaker_level}
use Rattle.board.specs.UnseenClocks.{BeginsNothing, GoUnseen, IsUnseen, MayLeap, StaysIdleDespiteTimer, WiresStay, passed_by}
use Rattle.board.specs.Arrivals.{HaveArrived, IsNextStamp}
use Rattle.board.specs.declared.arrivals.Arrived.{Arrived}
use Rattle.board.specs.UneventfulClocks.{ComesAfter, AreUneventful, StaysIdle, after_leap}
use Rattle.board.specs.OneTurn.{HaveSameWires}
use Rattle.board.proofs.Alone.{alone_unseen, cpu_of_passed, keyboard_of_passed}
use Rattle.board.proofs.KeyOrder.{have_later, no_key}
use Rattle.board.proofs.Leap.{board_leaps, clock_of_leap, does_nothing, holding_stays, leap_by, level_stays}
use Rattle.board.proofs.Leap.{are_uneventful_for, no_changes, no_entries, out_0_stays, out_2_stays}
use Rattle.board.proofs.Uneventful.{quiet_clock}
use Rattle.board.proofs.Works.{busy_of_leap, none_to_step}

leap_passes : (s : Plain) (n k : ℕ) → k ≤ n → WiresHold s.chips → AreUneventful s n → after_clocks s k ≡ passed_by s k
leap_passes s n k within holds are_uneventful =
    let less : AreUneventful s k = are_uneventful_for s n k within are_uneventful in board_leaps k s holds less ∙ leap_by k s holds less

leap_unseen : (s : Plain) (n : ℕ) → WiresHold s.chips → AreUneventful s n → IsUnseen s n (after_leap s n)
leap_unseen s n holds are_uneventful = record {
  plain = sym (board_leaps n s holds are_uneventful);
  clock = clock_of_leap s n;
  busy = busy_of_leap s n;
  changes = no_changes s n holds are_uneventful;
  entries = no_entries s n holds are_uneventful;
  steps = none_to_step s n holds are_uneventful;
  conditions = λ stops k before. holding_stays stops s n k before holds are_uneventful;
  quiet = λ k before.
      quiet_clock s n k before holds are_uneventful.no_key
      (leap_passes s n k (omega (arith, before)) holds are_uneventful) (does_nothing s n k holds are_uneventful before);
  cpu = λ k within. ap (λ (p : Plain). p.cpu) (leap_passes s n k within holds are_uneventful) ∙ cpu_of_passed s k;
  keyboard = λ k within. ap (λ (p : Plain). p.chips.keyboard) (leap_passes s n k within holds are_uneventful) ∙ keyboard_of_passed s k holds;
}

pub pass_unseen : (s : Plain) (n : ℕ) → WiresHold s.chips → MayLeap s n → IsUnseen s n (passed_by s n)
pass_unseen s n holds (inl are_uneventful) = subst (IsUnseen s n) (leap_by n s holds are_uneventful) (leap_unseen s n holds are_uneventful)
pass_unseen s n holds (inr alone) = alone_unseen s n holds alone

-- when clocks are unseen

begins_now : (s : Plain) → BeginsNothing s → boundary_of s.cpu (is_requested s.chips) ≡ boundaries.Nothing
begins_now s (inl despite_timer) = despite_timer (is_requested s.chips)
begins_now s (inr now) = now.0

idle_of : (s : Plain) (n : ℕ) → StaysIdleDespiteTimer s n → StaysIdle s n
idle_of s n (inl busy) = inl busy
idle_of s n (inr idle) = inr (idle.0, begins_now s idle.1)

pub quiet_leaps : (s : Plain) (n to : ℕ) (p : Option ℕ) → to ≡ s.chips.clock + n → StaysIdleDespiteTimer s n
    → IsNextStamp s.chips.clock s.keys p → ComesAfter to p → IsQuiet s.chips to → AreUneventful s n
quiet_leaps s n to p is idle next after quiet =
    let here : IsQuiet s.chips (s.chips.clock + n) = subst (IsQuiet s.chips) is quiet in
    record {
      idle = idle_of s n idle;
      no_key = no_key s n p next (subst (λ k. ComesAfter k p) is after);
      out_0 = here.out_0;
      out_2 = here.out_2;
    }

pub may_leap : (s : Plain) (n to : ℕ) (p : Option ℕ) → to ≡ s.chips.clock + n → StaysIdleDespiteTimer s n
    → IsNextStamp s.chips.clock s.keys p → ComesAfter to p → GoUnseen s.chips to → MayLeap s n
may_leap s n to p is idle next after (inl quiet) = inl (quiet_leaps s n to p is idle next after quiet)
may_leap s n to p is idle next after (inr alone) =
    inr (record { idle = idle; no_key = no_key s n p next (subst (λ k. ComesAfter k p) is after); level = inl alone.speaker_off })

pub unseen_for : (c : ChipsState) (to sooner : ℕ) → sooner ≤ to → GoUnseen c to → GoUnseen c sooner
unseen_for c to sooner within (inl quiet) = inl (quiet_for c to sooner within quiet)
unseen_for c to sooner within (inr alone) = inr alone

pub no_key_comes : (s : Plain) (n : ℕ) → MayLeap s n → NoKeyComes s n
no_key_comes s n (inl are_uneventful) = are_uneventful.no_key
no_key_comes s n (inr alone) = alone.no_key

-- wires that stay

same_wires : (s : Plain) (n k : ℕ) → k ≤ n → WiresHold s.chips → AreUneventful s n → HaveSameWires s (after_clocks s k)
unfolding after_leap
same_wires s n k within holds are_uneventful =
    let less : AreUneventful s k = are_uneventful_for s n k within are_uneventful in
    let at : after_clocks s k ≡ after_leap s k = board_leaps k s holds less in
    record {
      pic = ap (λ (p : Plain). p.chips.pic) at;
      out_0 = ap (λ (p : Plain). p.chips.pit.counter_0.out) at ∙ out_0_stays s k less;
      out_2 = ap (λ (p : Plain). p.chips.pit.counter_2.out) at ∙ out_2_stays s k less;
      speaker = level_stays s n k within holds are_uneventful;
    }

clock_of_passed : (s : Plain) (n : ℕ) → WiresHold s.chips → AreUneventful s n → clock_of (passed_by s n) ≡ clock_of s + n
clock_of_passed s n holds are_uneventful = (pass_unseen s n holds (inl are_uneventful)).clock

pub wires_stay : (s : Plain) (n : ℕ) → WiresHold s.chips → AreUneventful s n → WiresStay s (passed_by s n)
wires_stay s n holds are_uneventful = λ j few.
    let clock = clock_of_passed s n holds are_uneventful in same_wires s n j (omega (arith, few, clock)) holds are_uneventful

pub same_as : (s t : Plain) → t ≡ s → HaveSameWires s t
same_as s t same = record {
  pic = ap (λ (p : Plain). p.chips.pic) same;
  out_0 = ap (λ (p : Plain). p.chips.pit.counter_0.out) same;
  out_2 = ap (λ (p : Plain). p.chips.pit.counter_2.out) same;
  speaker = ap speaker_level same;
}

pub stay_here : (s t : Plain) → t ≡ s → WiresStay s t
stay_here s t same = λ j few.
    let clock : clock_of t ≡ clock_of s = ap clock_of same in
    let none : j ≡ 0 = omega (arith, few, clock) in
    same_as s (after_clocks s j) (ap (after_clocks s) none ∙ iterate_zero after_clock s)

-- the parts after a leap over unseen clocks

pub left_by : (s : Plain) (n to busy : ℕ) (c : ChipsState) → to ≡ s.chips.clock + n → c ≡ wires.after_clocks s.chips (to - s.chips.clock)
    → busy ≡ s.busy - (to - s.chips.clock) → record s { busy = busy; chips = c } ≡ passed_by s n
unfolding passed_by
left_by s n to busy c is chips left =
    let whole : to - s.chips.clock ≡ n = omega (arith, is) in
    λ k. record s { busy = (left ∙ ap (λ m. s.busy - m) whole) k; chips = (chips ∙ ap (wires.after_clocks s.chips) whole) k }

pub arrived_by : (a : Arrived) (s : Plain) (n late : ℕ) → HaveArrived a (s.chips.clock + 1) s.keys
    → NoKeyComes s n → late ≡ s.chips.clock + n → HaveArrived a (late + 1) s.keys
unfolding clock_of
arrived_by a s n late have none at = have_later a s.chips.clock n late s.keys have none at
