-- A search for the last clock at which a stop was met.
use Rattle.std.proofs.Common.{◌≡◌, ◌≢◌, ℕ, zero, suc, ◌+◌, ◌-◌, ◌<◌, ◌≤◌, ◌^◌, Bool, true, false, if◌then◌else◌}
use Rattle.std.proofs.Common.{inl, inr, List, length, Option, None, Some, refl, sym, ap, ◌∙◌, subst, arith}
use Rattle.std.specs.Prelude.{◌⊎◌, ◌==◌, All, max}
use Rattle.std.proofs.lemmas.Bool.Decides.{nat_tests}
use Rattle.std.proofs.lemmas.Bool.{cases_lt}
use Rattle.board_types.proofs.Iterate.{iterate_zero}
use Rattle.board_plain.proofs.Runs.{ran_none, runs_join}
use Rattle.board_plain.specs.Board.{BoardState, Ran}
use Rattle.board_plain.specs.Plain.{Plain, after_clock, after_clocks, clock_of}
use Rattle.debugger_meaning.specs.Stands.{gone, SessionState, StandsAfter}
use Rattle.probe_texts.specs.declared.stops.Stop.{Stop}
use Rattle.probe.specs.declared.watched.Watched.{Watched}
use Rattle.board.specs.Found.{found_at}
use Rattle.probe.specs.Looked.{from_of, FoundLast, IsFoundIn, met_after, NoneAfter}
use Rattle.probe.specs.ProbeStops.{meeting_at, met_from, MetLast, NoneMetFrom, standing}
use Rattle.probe.specs.Watched.{AreCopies, IsWatched, KeepsStops, stops_of}
use Rattle.probe.proofs.Meeting.{met_on, none_stands, Turned}

-- further clocks

found_none : (stops : List Stop) (is_first : Bool) (n m : ℕ) (s : Plain) (last : Option (ℕ × ℕ))
    → n ≤ m → IsFoundIn stops is_first n s last → NoneAfter is_first stops s (n + 1) m → IsFoundIn stops is_first m s last
found_none stops is_first n m s None more none later = λ j from to.
    elim (cases_lt n j) [
      | inl past ↦ later j (omega (arith, past)) to
      | inr before ↦ none j from before
    ]
found_none stops is_first n m s (Some found) more is later = record {
  passed = is.passed;
  within = let within = is.within in omega (arith, within, more);
  there = is.there;
  none_later = λ j from to.
      elim (cases_lt n j) [
        | inl past ↦ later j (omega (arith, past)) to
        | inr before ↦ is.none_later j from before
      ];
  clock_is = is.clock_is;
}

found_here : (stops : List Stop) (is_first : Bool) (n clock number : ℕ) (s : Plain)
    → met_after is_first stops s n ≡ Some number → clock ≡ clock_of s + n → IsFoundIn stops is_first n s (Some (clock, number))
found_here stops is_first n clock number s there is = record {
  passed = n;
  within = omega arith;
  there = there;
  none_later = λ j from to. absurd (omega (arith, from, to));
  clock_is = is;
}

-- one more clock, at which this is met
found_more : (stops : List Stop) (is_first : Bool) (n clock : ℕ) (s : Plain) (last : Option (ℕ × ℕ)) (number : Option ℕ) → IsFoundIn stops is_first n s last
    → met_after is_first stops s (n + 1) ≡ number → clock ≡ clock_of s + (n + 1) → IsFoundIn stops is_first (n + 1) s (found_at last number clock)
found_more stops is_first n clock s last None so_far met is =
    found_none stops is_first n (n + 1) s last (omega arith) so_far (λ j from to. ap (met_after is_first stops s) (omega (arith, from, to)) ∙ met)
found_more stops is_first n clock s last (Some number) so_far met is = found_here stops is_first (n + 1) clock number s met is

-- more clocks, at each of which this is met
found_many : (stops : List Stop) (is_first : Bool) (n m clock : ℕ) (s : Plain) (last : Option (ℕ × ℕ)) (number : Option ℕ)
    → n < m → IsFoundIn stops is_first n s last → ((j : ℕ) → n < j → j ≤ m → met_after is_first stops s j ≡ number) → clock ≡ clock_of s + m
    → IsFoundIn stops is_first m s (found_at last number clock)
found_many stops is_first n m clock s last None more so_far met is =
    found_none stops is_first n m s last (omega (arith, more)) so_far (λ j from to. met j (omega (arith, from)) to)
found_many stops is_first n m clock s last (Some number) more so_far met is = found_here stops is_first m clock number s (met m more (omega arith)) is

-- a search so far

pub record LastSoFar (stops : List Stop) (is_first : Bool) (to : ℕ) (s t : BoardState)
    (watches : List Watched) (here : Option ℕ) (last : Option (ℕ × ℕ)) : Type 0 where
  pub passed : ℕ
  pub ran : Ran passed s t
  pub within : clock_of t.plain ≤ to
  pub found : IsFoundIn stops is_first passed s.plain last
  pub stands : here ≡ standing stops t.plain
  pub stops_are : stops_of watches ≡ stops
  pub copies : AreCopies watches t.plain
  pub watched : All IsWatched watches

first_found : (stops : List Stop) (is_first : Bool) (clock : ℕ) (s : Plain) (here : Option ℕ) → here ≡ standing stops s → clock ≡ clock_of s
    → IsFoundIn stops is_first 0 s (if is_first then found_at None here clock else None)
first_found stops false clock s here is at = λ j from to. let none : j ≡ 0 = omega (arith, to) in ap (met_after false stops s) none
first_found stops true clock s None is at = λ j from to. let none : j ≡ 0 = omega (arith, to) in ap (met_after true stops s) none ∙ sym is
first_found stops true clock s (Some number) is at = found_here stops true 0 clock number s (sym is) (omega (arith, at))

pub last_none : (stops : List Stop) (is_first : Bool) (to clock : ℕ) (s : BoardState) (watches : List Watched) (here : Option ℕ) (last : Option (ℕ × ℕ))
    → length s.trail ≤ 32 → clock_of s.plain ≤ to → here ≡ standing stops s.plain → clock ≡ clock_of s.plain
    → last ≡ (if is_first then found_at None here clock else None) → stops_of watches ≡ stops → AreCopies watches s.plain → All IsWatched watches
    → LastSoFar stops is_first to s s watches here last
last_none stops is_first to clock s watches here last few within is at found are copies watched = record {
  passed = 0;
  ran = ran_none s few;
  within = within;
  found = subst (IsFoundIn stops is_first 0 s.plain) (sym found) (first_found stops is_first clock s.plain here is at);
  stands = is;
  stops_are = are;
  copies = copies;
  watched = watched;
}

positive : (is_first : Bool) (stops : List Stop) (s : Plain) (j : ℕ) → 1 ≤ j → met_after is_first stops s j ≡ meeting_at stops s j
positive is_first stops s zero some = absurd (omega (arith, some))
positive is_first stops s (suc j) some = refl

-- up to the clock before a turn's end
before_end : (stops : List Stop) (is_first : Bool) (to clock : ℕ) (s t u : BoardState)
    (old new : List Watched) (here number : Option ℕ) (last mid : Option (ℕ × ℕ))
    → (so_far : LastSoFar stops is_first to s t old here last) → (turn : Turned stops t u new number)
    → (1 < turn.passed → mid ≡ found_at last here (clock_of u.plain - 1)) → (turn.passed ≡ 1 → mid ≡ last)
    → IsFoundIn stops is_first (so_far.passed + turn.passed - 1) s.plain mid
before_end stops is_first to clock s t u old new here number last mid so_far turn far once =
    let n : ℕ = so_far.passed in
    let k : ℕ = turn.passed in
    let some = turn.some in
    let gone = so_far.ran.clock in
    let on = turn.ran.clock in
    elim (cases_lt 1 k) [
      | inl more ↦ subst (IsFoundIn stops is_first (n + k - 1) s.plain) (sym (far more))
          (found_many stops is_first n (n + k - 1) (clock_of u.plain - 1) s.plain last here (omega (arith, more)) so_far.found (λ j past within.
          let place : n + (j - n) ≡ j = omega (arith, past) in
          positive is_first stops s.plain j (omega (arith, past))
          ∙ ap (meeting_at stops s.plain) (sym place)
          ∙ met_on stops n (j - n) s.plain t.plain here so_far.ran.plain (omega (arith, past))
          (turn.between (j - n) (omega (arith, past)) (omega (arith, past, within, some)) ∙ sym so_far.stands))
          (omega (arith, gone, on, some)))
      | inr less ↦
          let one : k ≡ 1 = omega (arith, some, less) in
          let same : n + k - 1 ≡ n = omega (arith, one) in
          subst (λ m. IsFoundIn stops is_first m s.plain mid) (sym same) (subst (IsFoundIn stops is_first n s.plain) (sym (once one)) so_far.found)
    ]

pub last_more : (stops : List Stop) (is_first : Bool) (to : ℕ) (s t u : BoardState)
    (old new : List Watched) (here number now : Option ℕ) (last mid : Option (ℕ × ℕ)) (clock : ℕ)
    → (so_far : LastSoFar stops is_first to s t old here last) → (turn : Turned stops t u new number)
    → (1 < turn.passed → mid ≡ found_at last here (clock_of u.plain - 1)) → (turn.passed ≡ 1 → mid ≡ last) → clock ≡ clock_of u.plain
    → clock_of u.plain ≤ to → now ≡ standing stops u.plain → KeepsStops old new → LastSoFar stops is_first to s u new now (found_at mid number clock)
last_more stops is_first to s t u old new here number now last mid clock so_far turn far once at within stands keeps =
    let n : ℕ = so_far.passed in
    let k : ℕ = turn.passed in
    let some = turn.some in
    let gone = so_far.ran.clock in
    let on = turn.ran.clock in
    let whole : n + k - 1 + 1 ≡ n + k = omega (arith, some) in
    record {
      passed = n + k;
      ran = runs_join n k s t u so_far.ran turn.ran;
      within = within;
      found = subst (λ m. IsFoundIn stops is_first m s.plain (found_at mid number clock)) whole
          (found_more stops is_first (n + k - 1) clock s.plain mid number
          (before_end stops is_first to clock s t u old new here number last mid so_far turn far once)
          (positive is_first stops s.plain (n + k - 1 + 1) (omega arith) ∙ ap (meeting_at stops s.plain) whole
          ∙ met_on stops n k s.plain t.plain number so_far.ran.plain some turn.there)
          (omega (arith, at, gone, on, some)));
      stands = stands;
      stops_are = keeps.stops ∙ so_far.stops_are;
      copies = turn.copies;
      watched = keeps.watched;
    }

-- if no stop is met, none holds as a condition
pub none_here : (stops : List Stop) (t u : BoardState) (new : List Watched) → (turn : Turned stops t u new None) → standing stops u.plain ≡ None
none_here stops t u new turn =
    ap (standing stops) turn.ran.plain ∙ none_stands stops (after_clocks t.plain (turn.passed - 1)) (after_clocks t.plain turn.passed) turn.there

pub last_all : (stops : List Stop) (is_first : Bool) (to : ℕ) (s t : BoardState) (watches : List Watched) (here : Option ℕ) (last : Option (ℕ × ℕ))
    → LastSoFar stops is_first to s t watches here last → to ≤ clock_of t.plain → IsFoundIn stops is_first (to - clock_of s.plain) s.plain last
last_all stops is_first to s t watches here last so_far past =
    let clock = so_far.ran.clock in
    let within = so_far.within in subst (λ n. IsFoundIn stops is_first n s.plain last) (omega (arith, clock, within, past)) so_far.found

-- stretch by stretch

pub record SearchedBack (stops : List Stop) (bound n : ℕ) (first : Plain) : Type 0 where
  pub least : clock_of first ≤ bound
  pub most : bound ≤ clock_of first + n
  pub none : (j : ℕ) → bound - clock_of first ≤ j → j < n → met_from stops first j ≡ None

pub searched_none : (stops : List Stop) (bound n : ℕ) (first : Plain) → bound ≡ clock_of first + n → SearchedBack stops bound n first
searched_none stops bound n first is = record {
  least = omega (arith, is);
  most = omega (arith, is);
  none = λ j past within. absurd (omega (arith, is, past, within));
}

met_there : (stops : List Stop) (is_first : Bool) (m j : ℕ) (first p : Plain) (here : Option ℕ) → p ≡ after_clocks first m
    → (is_first ≡ true → m ≡ 0) → (1 ≤ j ⊎ (is_first ≡ true)) → met_after is_first stops p j ≡ here → met_from stops first (m + j) ≡ here
met_there stops is_first m zero first p here is at (inl some) met = absurd (omega (arith, some))
met_there stops true m zero first p here is at (inr own) met =
    let none : m ≡ 0 = at refl in
    let place : m + zero ≡ 0 = omega (arith, none) in
    ap (met_from stops first) place ∙ ap (standing stops) (sym (is ∙ ap (after_clocks first) none ∙ iterate_zero after_clock first)) ∙ met
met_there stops false m zero first p here is at (inr own) met = let never : false ≡ true = own in absurd (cc)
met_there stops is_first m (suc j) first p here is at some met =
    let place : m + suc j ≡ suc (m + j) = omega arith in
    ap (met_from stops first) place ∙ ap (meeting_at stops first) (sym place) ∙ met_on stops m (suc j) first p here is (omega arith) met

looked_or : (is_first : Bool) (clock j m : ℕ) → from_of is_first (clock + m) ≤ clock + j → (m ≤ j) × (1 ≤ j - m ⊎ (is_first ≡ true))
looked_or true clock j m from = (omega (arith, from), inr refl)
looked_or false clock j m from = (omega (arith, from), inl (omega (arith, from)))

from_least : (is_first : Bool) (clock least : ℕ) → least ≤ clock → least ≤ from_of is_first clock
from_least true clock least is = is
from_least false clock least is = omega (arith, is)

found_where : (stops : List Stop) (is_first : Bool) (p : Plain) (j number : ℕ) → met_after is_first stops p j ≡ Some number → 1 ≤ j ⊎ (is_first ≡ true)
found_where stops true p zero number met = inr refl
found_where stops false p zero number met = absurd (cc)
found_where stops is_first p (suc j) number met = inl (omega arith)

pub searched_back : (stops : List Stop) (is_first : Bool) (m bound n : ℕ) (first p : Plain) → p ≡ after_clocks first m → clock_of p ≡ clock_of first + m
    → (is_first ≡ true → m ≡ 0) → clock_of p < bound → SearchedBack stops bound n first → IsFoundIn stops is_first (bound - 1 - clock_of p) p None
    → from_of is_first (clock_of p) ≤ bound → SearchedBack stops (from_of is_first (clock_of p)) n first
searched_back stops is_first m bound n first p is clock at before so_far none low = record {
  least = from_least is_first (clock_of p) (clock_of first) (omega (arith, clock));
  most = let most = so_far.most in omega (arith, most, low);
  none = λ j past within.
      elim (cases_lt j (bound - clock_of first)) [
        | inl early ↦
            let parts = looked_or is_first (clock_of first) j m (subst (λ c. from_of is_first c ≤ clock_of first + j) clock (omega (arith, past))) in
            ap (met_from stops first) (omega (arith, parts.0))
            ∙ met_there stops is_first m (j - m) first p None is at parts.1 (none (j - m) (omega arith) (omega (arith, early, clock, parts.0)))
        | inr late ↦ so_far.none j late within
      ];
}

pub found_back : (stops : List Stop) (is_first : Bool) (m bound n clock number : ℕ) (first p : Plain)
    → p ≡ after_clocks first m → clock_of p ≡ clock_of first + m → (is_first ≡ true → m ≡ 0) → clock_of p < bound
    → SearchedBack stops bound n first → FoundLast stops is_first (bound - 1 - clock_of p) p clock number → MetLast stops n first clock number
found_back stops is_first m bound n clock number first p is at starts before so_far found =
    let within = found.within in
    let most = so_far.most in
    let clock_is = found.clock_is in record {
      passed = m + found.passed;
      within = omega (arith, within, most, at, before);
      met_there =
          met_there stops is_first m found.passed first p (Some number) is starts (found_where stops is_first p found.passed number found.there) found.there;
      none_later = λ j past below.
          elim (cases_lt j (bound - clock_of first)) [
            | inl early ↦ ap (met_from stops first) (omega (arith, past)) ∙ met_there stops is_first m (j - m) first p None is starts
                (inl (omega (arith, past))) (found.none_later (j - m) (omega (arith, past)) (omega (arith, early, at, past)))
            | inr late ↦ so_far.none j late below
          ];
      clock_is = omega (arith, clock_is, at);
    }

pub searched_all : (stops : List Stop) (bound n : ℕ) (first : Plain) → bound ≤ clock_of first → SearchedBack stops bound n first → NoneMetFrom stops n first
searched_all stops bound n first low so_far = λ j within. so_far.none j (omega (arith, low)) within

-- the next stretch begins earlier
pub next_bound : (is_first : Bool) (first from bound near least : ℕ) → is_first ≡ (from == first) → first ≤ from
    → from ≤ near → near ≡ max first least → least ≡ bound - 2 → first < bound → from_of is_first from < bound
next_bound true first from bound near least is after before at low more =
    let same : from ≡ first = grind (arith, nat_tests, is) in omega (arith, same, more)
next_bound false first from bound near least is after before at low more =
    let other : from ≢ first = grind (arith, nat_tests, is) in omega (arith, other, after, before, at, low, more)

-- a stretch after a board that stands some clocks after a session's first one

starts_first : (first m from : ℕ) → from ≡ first + m → (from == first) ≡ true → m ≡ 0
starts_first first m from at is = let same : from ≡ first = grind (arith, nat_tests, is) in omega (arith, at, same)

pub stretch_found : (stops : List Stop) (bound from first to clock number : ℕ) (s : SessionState) (p : BoardState) → (at : StandsAfter s.first p)
    → from ≡ clock_of p.plain → first ≡ clock_of s.first.plain → to ≡ bound - 1 → clock_of p.plain < bound → SearchedBack stops bound (gone s) s.first.plain
    → FoundLast stops (from == first) (to - clock_of p.plain) p.plain clock number → MetLast stops (gone s) s.first.plain clock number
stretch_found stops bound from first to clock number s p at is start top before so_far found =
    let here = at.1.clock in
    found_back stops (from == first) at.0 bound (gone s) clock number s.first.plain p.plain at.1.plain here
    (starts_first first at.0 from (omega (arith, is, here, start))) before so_far
    (subst (λ n. FoundLast stops (from == first) (n - clock_of p.plain) p.plain clock number) top found)

pub stretch_none : (stops : List Stop) (bound from first to : ℕ) (s : SessionState) (p : BoardState) → (at : StandsAfter s.first p)
    → from ≡ clock_of p.plain → first ≡ clock_of s.first.plain → to ≡ bound - 1 → clock_of p.plain < bound → from_of (from == first) from < bound
    → SearchedBack stops bound (gone s) s.first.plain → IsFoundIn stops (from == first) (to - clock_of p.plain) p.plain None
    → SearchedBack stops (from_of (from == first) from) (gone s) s.first.plain
stretch_none stops bound from first to s p at is start top before low so_far none =
    let here = at.1.clock in
    let lower : from_of (from == first) (clock_of p.plain) < bound = subst (λ c. from_of (from == first) c < bound) is low in
    subst (λ c. SearchedBack stops (from_of (from == first) c) (gone s) s.first.plain) (sym is)
    (searched_back stops (from == first) at.0 bound (gone s) s.first.plain p.plain at.1.plain here
    (starts_first first at.0 from (omega (arith, is, here, start))) before so_far
    (subst (λ n. IsFoundIn stops (from == first) (n - clock_of p.plain) p.plain None) top none) (omega (arith, lower)))

-- a bound is a clock
pub bound_within : (stops : List Stop) (bound now : ℕ) (s : SessionState) → SearchedBack stops bound (gone s) s.first.plain
    → clock_of s.first.plain ≤ clock_of s.board.plain → now ≡ clock_of s.board.plain → now ≤ 2 ^ 40 → bound ≤ 2 ^ 40
bound_within stops bound now s so_far earlier is within = let most = so_far.most in omega (arith, most, earlier, is, within)
