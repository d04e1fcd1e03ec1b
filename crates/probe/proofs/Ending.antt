-- A run with stops ends in one way alone, and goes on.
use Rattle.std.proofs.Common.{◌≡◌, ℕ, ◌+◌, ◌-◌, ◌<◌, ◌≤◌, List, Option, Some, None, refl, sym, ap, subst, ◌∙◌, arith}
use Rattle.board_types.specs.declared.keys.StampedKey.{StampedKey}
use Rattle.board_plain.specs.declared.stop.Stop.{Stop as End}
use Rattle.board_plain.specs.Plain.{Plain, after_clocks, clock_of}
use Rattle.events.proofs.KeyToCome.{key_waits}
use Rattle.events.specs.WithKey.{with_key}
use Rattle.probe_texts.specs.declared.moments_text.Second.{Second}
use Rattle.probe_texts.specs.declared.moments_text.Trial.{Trial}
use Rattle.probe.specs.Moments.{key_tried, second_tried, with_second, with_tried}
use Rattle.probe_texts.specs.declared.stops.Stop.{Stop}
use Rattle.probe.specs.ProbeStops.{EndsAt, IsEndOf, meeting_at, NoneMet}
use Rattle.probe.proofs.Waiting.{clock_same, meeting_waits, none_waited, none_waits}
use Rattle.probe.proofs.Meeting.{met_on, none_on}

-- a stop lies after the clocks at which none is met
stop_is_later : (stops : List Stop) (n passed : ℕ) (s : Plain) (end : End) → NoneMet stops passed s → (is : EndsAt stops n s end) → passed < is.passed
stop_is_later stops n passed s end none is =
    let not_before : is.passed ≤ passed → ⊥ = λ before. let never : Some end.number ≡ None = sym is.met_there ∙ none is.passed is.after_start before in cc in
    omega (arith, not_before)

none_ends : (stops : List Stop) (n : ℕ) (s : Plain) (end : End) → NoneMet stops n s → EndsAt stops n s end → ⊥
none_ends stops n s end none is = let later = stop_is_later stops n n s end none is in let within = is.within in absurd (omega (arith, later, within))

same_parts : (a b : End) → a.number ≡ b.number → a.clock ≡ b.clock → a ≡ b
same_parts a b number clock = ap (λ n. record { number = n; clock = a.clock }) number ∙ ap (λ c. record { number = b.number; clock = c }) clock

same_end : (stops : List Stop) (n : ℕ) (s : Plain) (a b : End) → EndsAt stops n s a → EndsAt stops n s b → a ≡ b
same_end stops n s a b first second =
    let not_later = stop_is_later stops n (first.passed - 1) s b first.none_before second in
    let not_sooner = stop_is_later stops n (second.passed - 1) s a second.none_before first in
    let passed : first.passed ≡ second.passed = omega (arith, first.after_start, second.after_start, not_later, not_sooner) in
    let number : Some a.number ≡ Some b.number = sym first.met_there ∙ ap (λ k. meeting_at stops s k) passed ∙ second.met_there in
    let there : a.number ≡ b.number = cc in
    let then : a.clock ≡ b.clock = first.clock ∙ ap (λ k. clock_of s + k) passed ∙ sym second.clock in
    same_parts a b there then

pub one_end : (stops : List Stop) (n : ℕ) (s : Plain) (a b : Option End) → IsEndOf stops n s a → IsEndOf stops n s b → a ≡ b
one_end stops n s None None none is = refl
one_end stops n s None (Some b) none is = absurd (none_ends stops n s b none is)
one_end stops n s (Some a) None is none = absurd (none_ends stops n s a none is)
one_end stops n s (Some a) (Some b) first second = ap Some (same_end stops n s a b first second)

-- a run from a clock up to which no stop was met
pub ends_on : (stops : List Stop) (m n : ℕ) (s p : Plain) (end : Option End)
    → p ≡ after_clocks s m → clock_of p ≡ clock_of s + m → NoneMet stops m s → IsEndOf stops n p end → IsEndOf stops (m + n) s end
ends_on stops m n s p None is clock none ends = none_on stops m n s p is none ends
ends_on stops m n s p (Some end) is clock none ends =
    let some = ends.after_start in
    let within = ends.within in
    record {
      passed = m + ends.passed;
      after_start = omega (arith, some);
      within = omega (arith, within);
      none_before = subst (λ k. NoneMet stops k s) (omega (arith, some)) (none_on stops m (ends.passed - 1) s p is none ends.none_before);
      met_there = met_on stops m ends.passed s p (Some end.number) is some ends.met_there;
      clock = let there = ends.clock in omega (arith, there, clock);
    }

-- a key that comes after a stop changes nothing of it
pub end_waits : (stops : List Stop) (m n : ℕ) (s : Plain) (key : StampedKey) (end : End)
    → EndsAt stops m s end → m ≤ n → clock_of s + m < key.stamp → EndsAt stops n (with_key s key) end
end_waits stops m n s key end is longer before =
    let some = is.after_start in
    let within = is.within in
    record {
      passed = is.passed;
      after_start = some;
      within = omega (arith, within, longer);
      none_before = none_waits stops (is.passed - 1) s key (omega (arith, within, before)) is.none_before;
      met_there = meeting_waits stops is.passed s key some (omega (arith, within, before)) ∙ is.met_there;
      clock = is.clock ∙ ap (λ c. c + is.passed) (sym (clock_same s key));
    }

end_waited : (stops : List Stop) (n : ℕ) (s : Plain) (key : StampedKey) (end : End)
    → EndsAt stops n (with_key s key) end → clock_of s + n < key.stamp → EndsAt stops n s end
end_waited stops n s key end is before =
    let some = is.after_start in
    let within = is.within in
    record {
      passed = is.passed;
      after_start = some;
      within = within;
      none_before = none_waited stops (is.passed - 1) s key (omega (arith, within, before)) is.none_before;
      met_there = sym (meeting_waits stops is.passed s key some (omega (arith, within, before))) ∙ is.met_there;
      clock = is.clock ∙ ap (λ c. c + is.passed) (clock_same s key);
    }

pub past_end : (stops : List Stop) (n : ℕ) (s : Plain) (key : StampedKey) (end : Option End)
    → clock_of s + n < key.stamp → IsEndOf stops n s end → IsEndOf stops n (with_key s key) end
past_end stops n s key None before none = none_waits stops n s key before none
past_end stops n s key (Some end) before is = end_waits stops n n s key end is (omega arith) before

pub past_end_back : (stops : List Stop) (n : ℕ) (s : Plain) (key : StampedKey) (end : Option End)
    → clock_of s + n < key.stamp → IsEndOf stops n (with_key s key) end → IsEndOf stops n s end
past_end_back stops n s key None before none = none_waited stops n s key before none
past_end_back stops n s key (Some end) before is = end_waited stops n s key end is before

-- the keys of a trial, of which a second one comes no sooner than the first

second_clock : (second : Option Second) (s : Plain) (stamp : ℕ) → clock_of (with_second second s stamp) ≡ clock_of s
second_clock None s stamp = refl
second_clock (Some second) s stamp = clock_same s (second_tried second stamp)

pub tried_clock : (s : Plain) (trial : Trial) (stamp : ℕ) → clock_of (with_tried s trial stamp) ≡ clock_of s
tried_clock s trial stamp =
    second_clock trial.second (with_key s (key_tried trial stamp)) stamp ∙ clock_same s (key_tried trial stamp)

-- a bound holds of the board with the first key as of the one without
still_before : (s : Plain) (key : StampedKey) (n stamp : ℕ) → clock_of s + n < stamp → clock_of (with_key s key) + n < stamp
still_before s key n stamp before = subst (λ c. c + n < stamp) (sym (clock_same s key)) before

second_waits : (second : Option Second) (m : ℕ) (s : Plain) (stamp : ℕ) → clock_of s + m < stamp
    → after_clocks (with_second second s stamp) m ≡ with_second second (after_clocks s m) stamp
second_waits None m s stamp before = refl
second_waits (Some second) m s stamp before = key_waits m s (second_tried second stamp) (omega (arith, before))

tried_waits : (m : ℕ) (s : Plain) (trial : Trial) (stamp : ℕ) → clock_of s + m < stamp
    → after_clocks (with_tried s trial stamp) m ≡ with_tried (after_clocks s m) trial stamp
tried_waits m s trial stamp before =
    second_waits trial.second m (with_key s (key_tried trial stamp)) stamp (still_before s (key_tried trial stamp) m stamp before)
    ∙ ap (λ (p : Plain). with_second trial.second p stamp) (key_waits m s (key_tried trial stamp) before)

none_second : (second : Option Second) (stops : List Stop) (n : ℕ) (s : Plain) (stamp : ℕ) → clock_of s + n < stamp
    → NoneMet stops n s → NoneMet stops n (with_second second s stamp)
none_second None stops n s stamp before none = none
none_second (Some second) stops n s stamp before none = none_waits stops n s (second_tried second stamp) (omega (arith, before)) none

none_tried : (stops : List Stop) (n : ℕ) (s : Plain) (trial : Trial) (stamp : ℕ) → clock_of s + n < stamp
    → NoneMet stops n s → NoneMet stops n (with_tried s trial stamp)
none_tried stops n s trial stamp before none =
    none_second trial.second stops n (with_key s (key_tried trial stamp)) stamp (still_before s (key_tried trial stamp) n stamp before)
    (none_waits stops n s (key_tried trial stamp) before none)

second_end : (second : Option Second) (stops : List Stop) (m : ℕ) (s : Plain) (stamp : ℕ) (end : End)
    → EndsAt stops m s end → clock_of s + m < stamp → EndsAt stops m (with_second second s stamp) end
second_end None stops m s stamp end is before = is
second_end (Some second) stops m s stamp end is before =
    end_waits stops m m s (second_tried second stamp) end is (omega arith) (omega (arith, before))

longer_end : (stops : List Stop) (m n : ℕ) (s : Plain) (end : End) → m ≤ n → EndsAt stops m s end → EndsAt stops n s end
longer_end stops m n s end longer is = record {
  passed = is.passed;
  after_start = is.after_start;
  within = let within = is.within in omega (arith, within, longer);
  none_before = is.none_before;
  met_there = is.met_there;
  clock = is.clock;
}

pub end_tried : (stops : List Stop) (m n : ℕ) (s : Plain) (trial : Trial) (stamp : ℕ) (end : End)
    → EndsAt stops m s end → m ≤ n → clock_of s + m < stamp → EndsAt stops n (with_tried s trial stamp) end
end_tried stops m n s trial stamp end is longer before =
    longer_end stops m n (with_tried s trial stamp) end longer
    (second_end trial.second stops m (with_key s (key_tried trial stamp)) stamp end
    (end_waits stops m m s (key_tried trial stamp) end is (omega arith) before) (still_before s (key_tried trial stamp) m stamp before))

past_second : (second : Option Second) (stops : List Stop) (n : ℕ) (s : Plain) (stamp : ℕ) (end : Option End) → clock_of s + n < stamp
    → IsEndOf stops n s end → IsEndOf stops n (with_second second s stamp) end
past_second None stops n s stamp end before is = is
past_second (Some second) stops n s stamp end before is = past_end stops n s (second_tried second stamp) end (omega (arith, before)) is

pub past_tried : (stops : List Stop) (n : ℕ) (s : Plain) (trial : Trial) (stamp : ℕ) (end : Option End) → clock_of s + n < stamp
    → IsEndOf stops n s end → IsEndOf stops n (with_tried s trial stamp) end
past_tried stops n s trial stamp end before is =
    past_second trial.second stops n (with_key s (key_tried trial stamp)) stamp end (still_before s (key_tried trial stamp) n stamp before)
    (past_end stops n s (key_tried trial stamp) end before is)

past_second_back : (second : Option Second) (stops : List Stop) (n : ℕ) (s : Plain) (stamp : ℕ) (end : Option End) → clock_of s + n < stamp
    → IsEndOf stops n (with_second second s stamp) end → IsEndOf stops n s end
past_second_back None stops n s stamp end before is = is
past_second_back (Some second) stops n s stamp end before is = past_end_back stops n s (second_tried second stamp) end (omega (arith, before)) is

pub past_tried_back : (stops : List Stop) (n : ℕ) (s : Plain) (trial : Trial) (stamp : ℕ) (end : Option End) → clock_of s + n < stamp
    → IsEndOf stops n (with_tried s trial stamp) end → IsEndOf stops n s end
past_tried_back stops n s trial stamp end before is =
    past_end_back stops n s (key_tried trial stamp) end before
    (past_second_back trial.second stops n (with_key s (key_tried trial stamp)) stamp end (still_before s (key_tried trial stamp) n stamp before) is)

-- a board that runs without the keys up to before their stamps, gets them there and goes on, ends as one that had them
-- from the start
pub ends_tried : (stops : List Stop) (m n : ℕ) (s p : Plain) (trial : Trial) (stamp : ℕ) (end : Option End)
    → p ≡ after_clocks s m → clock_of p ≡ clock_of s + m → clock_of s + m < stamp
    → NoneMet stops m s → IsEndOf stops n (with_tried p trial stamp) end → IsEndOf stops (m + n) (with_tried s trial stamp) end
ends_tried stops m n s p trial stamp end is clock before none ends =
    ends_on stops m n (with_tried s trial stamp) (with_tried p trial stamp) end
    (ap (λ (q : Plain). with_tried q trial stamp) is ∙ sym (tried_waits m s trial stamp before))
    (tried_clock p trial stamp ∙ clock ∙ ap (λ c. c + m) (sym (tried_clock s trial stamp)))
    (none_tried stops m s trial stamp before none)
    ends
