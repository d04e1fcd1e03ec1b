-- A key that is tried at one clock after another.
use Rattle.std.proofs.Common.{◌≡◌, Bool, true, false, ℕ, ◌+◌, ◌-◌, ◌<◌, ◌≤◌, List, [], ◌∷◌, ◌++◌, length, Option, None, Some, sym, ap, ◌∙◌, subst, arith}
use Rattle.std.specs.Prelude.{All, ◌||◌, is_some, nat_eq}
use Rattle.std.proofs.lemmas.Bool.Decides.{nat_tests}
use Rattle.std.proofs.lemmas.List.Elements.{All-cons, All-contains, All-head, All-nil, All-tail}
use Rattle.board_plain.proofs.LastEntries.{last_within}
use Rattle.board_plain.specs.Board.{BoardState, Ran}
use Rattle.board_plain.specs.declared.stop.Condition.{Condition}
use Rattle.board_plain.specs.Stops.{HasAddress, IsStopOf, run_length}
use Rattle.board_plain.specs.Trail.{trail_in}
use Rattle.board_plain.specs.declared.trail.TrailEntry.{TrailEntry}
use Rattle.board_plain.specs.declared.stop.Stop.{Stop as End}
use Rattle.debugger_meaning.specs.declared.answer.Answer.{Answer}
use Rattle.debugger_meaning.specs.Session.{told_of}
use Rattle.debugger_meaning.specs.Stands.{SessionState}
use Rattle.events.specs.WithKey.{with_key}
use Rattle.probe_texts.specs.declared.moments_text.Ends.{Ends}
use Rattle.probe_texts.specs.declared.moments_text.Moments.{Moments}
use Rattle.probe_texts.specs.declared.moments_text.Second.{Second}
use Rattle.probe_texts.specs.declared.moments_text.Trial.{Trial}
use Rattle.probe.specs.MomentLaws.{IsAnswerOf, MomentsAreRuns, TakesSecond}
use Rattle.probe.specs.Moments.{AreAlike, AreRanges, IsAmong, key_tried, second_tried, with_second, with_tried}
use Rattle.probe.specs.Probe.{conditions_of, session_of}
use Rattle.probe.specs.ProbeStops.{IsEndOf}
use Rattle.probe_texts.specs.Requests.{HasBytes}
use Rattle.board_plain.specs.Plain.{Plain, after_clock, after_clocks, clock_of}
use Rattle.probe_texts.specs.declared.stops.Stop.{Stop}
use Rattle.probe_texts.specs.declared.stops.Stop.TheVariants.{Standing, When, Changes}
use Rattle.board_types.proofs.Iterate.{iterate_add, iterate_zero}
use Rattle.probe.specs.declared.watched.Watched.{Watched}
use Rattle.probe.specs.Tried.{added, RunsTo, Tried, TriedNext}
use Rattle.probe.specs.Watched.{all_standing, IsWatched, KeepsStops, stops_of}
use Rattle.probe.proofs.Copies.{standing_is}
use Rattle.probe.proofs.Probes.{ends_of}
use Rattle.probe.proofs.Probes.{all_standing as standing_conditions}
use Rattle.probe.proofs.Ending.{end_tried, ends_on, ends_tried, one_end, past_tried, tried_clock}
use Rattle.probe.proofs.Meeting.{none_on}
use Rattle.probe.proofs.Ranges.{AllEnd, ranges_added}

-- a run by the board's own search

have_address : (stop : Stop) (stops : List Stop) → HasBytes stop → All HasAddress (conditions_of stops) → All HasAddress (conditions_of (stop ∷ stops))
have_address (Standing condition) stops has rest = All-cons HasAddress condition (conditions_of stops) has rest
have_address (When kinds) stops has rest = rest
have_address (Changes address count) stops has rest = rest

pub have_addresses : (watches : List Watched) → All IsWatched watches → All HasAddress (conditions_of (stops_of watches))
have_addresses [] all = All-nil HasAddress
have_addresses (w ∷ ws) all = have_address w.stop (stops_of ws) (All-head IsWatched w ws all).within (have_addresses ws (All-tail IsWatched w ws all))

pub runs_standing : (watches : List Watched) (conditions : List Condition) (end count : ℕ) (old new : BoardState) (stopped : Option End)
    → all_standing watches ≡ true → conditions ≡ conditions_of (stops_of watches) → count ≡ end - clock_of old.plain
    → IsStopOf conditions count old.plain stopped → Ran (run_length count old.plain stopped) old new → RunsTo (stops_of watches) end old.plain new.plain stopped
runs_standing watches conditions end count old new stopped stand are is stop ran = record {
  ends = subst (λ n. IsEndOf (stops_of watches) n old.plain stopped) is
      (ends_of (stops_of watches) count old.plain stopped (standing_conditions (stops_of watches) (standing_is watches ∙ stand))
      (subst (λ xs. IsStopOf xs count old.plain stopped) are stop));
  plain = ran.plain ∙ ap (λ n. after_clocks old.plain (run_length n old.plain stopped)) is;
  clock = ran.clock ∙ ap (λ n. clock_of old.plain + run_length n old.plain stopped) is;
}

-- the clock that a run has reached
pub stands_within : (stops : List Stop) (end : ℕ) (s t : Plain) (stopped : Option End) → clock_of s ≤ end → RunsTo stops end s t stopped → clock_of t ≤ end
stands_within stops end s t None from run = let there = run.clock in omega (arith, there, from)
stands_within stops end s t (Some stop) from run =
    let there = run.clock in
    let at = run.ends.clock in
    let most = run.ends.within in omega (arith, there, at, most, from)

pub trail_stays : (n : ℕ) (old new : BoardState) → Ran n old new → length new.trail ≤ 32
trail_stays n old new ran = subst (λ (xs : List TrailEntry). length xs ≤ 32) (sym ran.trail) (last_within 32 (old.trail ++ trail_in old.plain n))

-- the key is tried at one clock after another

pub tried_none : (stops : List Stop) (s bare : Plain) (trial : Trial) (end : ℕ) (watches : List Watched) → bare ≡ s → clock_of s < trial.first
    → clock_of s ≤ end → stops_of watches ≡ stops → All IsWatched watches → Tried stops s bare trial end trial.first [] watches
tried_none stops s bare trial end watches is later within are watched = record {
  passed = 0;
  plain = is ∙ sym (iterate_zero after_clock s);
  clock = let same : clock_of bare ≡ clock_of s = ap clock_of is in omega (arith, same);
  before = let same : clock_of bare ≡ clock_of s = ap clock_of is in omega (arith, same, later);
  within = let same : clock_of bare ≡ clock_of s = ap clock_of is in omega (arith, same, within);
  none = λ j some most. absurd (omega (arith, some, most));
  are = omega (arith, later);
  stops_are = are;
  watched = watched;
}

-- the board goes on to the clock before a stamp, or to the run's end: without a stop, or up to one

pub on_none : (stops : List Stop) (s bare next : Plain) (trial : Trial) (end before stamp : ℕ) (ranges : List Moments) (old new : List Watched)
    → (so_far : Tried stops s bare trial end stamp ranges old) → clock_of bare ≤ before → before < stamp → before ≤ end
    → RunsTo stops before bare next None → KeepsStops old new → Tried stops s next trial end stamp ranges new
on_none stops s bare next trial end before stamp ranges old new so_far from early within run keeps =
    let clock = so_far.clock in
    let there = run.clock in
    record {
      passed = so_far.passed + (before - clock_of bare);
      plain = run.plain ∙ ap (λ (p : Plain). after_clocks p (before - clock_of bare)) so_far.plain
          ∙ sym (iterate_add after_clock so_far.passed (before - clock_of bare) s);
      clock = omega (arith, clock, there);
      before = omega (arith, there, from, early);
      within = omega (arith, there, from, within);
      none = none_on stops so_far.passed (before - clock_of bare) s bare so_far.plain so_far.none run.ends;
      are = so_far.are;
      stops_are = keeps.stops ∙ so_far.stops_are;
      watched = keeps.watched;
    }

-- a stop that is met without the key is met with it, too, at whatever later clock the key comes
all_stopped : (stops : List Stop) (s bare next : Plain) (trial : Trial) (end before stamp : ℕ) (ranges : List Moments) (old : List Watched) (stop : End)
    → (so_far : Tried stops s bare trial end stamp ranges old) → clock_of bare ≤ before → before < stamp → before ≤ end
    → end ≡ clock_of s + trial.count → RunsTo stops before bare next (Some stop) → AllEnd stops s trial stamp trial.last (Some stop)
all_stopped stops s bare next trial end before stamp ranges old stop so_far from early within is run at low high =
    let clock = so_far.clock in
    let there = ends_on stops so_far.passed (before - clock_of bare) s bare (Some stop) so_far.plain so_far.clock so_far.none run.ends in
    end_tried stops (so_far.passed + (before - clock_of bare)) trial.count s trial at stop there
    (omega (arith, clock, from, within, is)) (omega (arith, clock, from, early, low))

-- no stop is met either with a key at any later clock, if the run ends before
all_unstopped : (stops : List Stop) (s bare next : Plain) (trial : Trial) (end before stamp : ℕ) (ranges : List Moments) (old : List Watched)
    → (so_far : Tried stops s bare trial end stamp ranges old) → clock_of bare ≤ before → before < stamp → before ≡ end
    → end ≡ clock_of s + trial.count → RunsTo stops before bare next None → AllEnd stops s trial stamp trial.last None
all_unstopped stops s bare next trial end before stamp ranges old so_far from early whole is run at low high =
    let clock = so_far.clock in
    let all : so_far.passed + (before - clock_of bare) ≡ trial.count = omega (arith, clock, from, whole, is) in
    let there = ends_on stops so_far.passed (before - clock_of bare) s bare None so_far.plain so_far.clock so_far.none run.ends in
    past_tried stops trial.count s trial at None (omega (arith, clock, from, early, low, whole, is)) (subst (λ n. IsEndOf stops n s None) all there)

-- the key is tried at one clock
one_tried : (stops : List Stop) (s bare : Plain) (trial : Trial) (end stamp : ℕ) (ranges : List Moments) (watches : List Watched) (stopped : Option End)
    → (so_far : Tried stops s bare trial end stamp ranges watches) → end ≡ clock_of s + trial.count
    → IsEndOf stops (end - clock_of bare) (with_tried bare trial stamp) stopped → AllEnd stops s trial stamp stamp stopped
one_tried stops s bare trial end stamp ranges watches stopped so_far is ends at low high =
    let clock = so_far.clock in
    let before = so_far.before in
    let within = so_far.within in
    let this : at ≡ stamp = omega (arith, low, high) in
    let all : so_far.passed + (end - clock_of bare) ≡ trial.count = omega (arith, clock, within, is) in
    let there = ends_tried stops so_far.passed (end - clock_of bare) s bare trial
    stamp stopped so_far.plain so_far.clock (omega (arith, clock, before)) so_far.none ends in
    subst (λ k. IsEndOf stops trial.count (with_tried s trial k) stopped) (sym this)
    (subst (λ n. IsEndOf stops n (with_tried s trial stamp) stopped) all there)

pub tried_more : (stops : List Stop) (s bare : Plain) (trial : Trial) (end stamp : ℕ)
    (ranges : List Moments) (old new : List Watched) (stopped : Option End)
    → (so_far : Tried stops s bare trial end stamp ranges old) → trial.first ≤ stamp → end ≡ clock_of s + trial.count
    → IsEndOf stops (end - clock_of bare) (with_tried bare trial stamp) stopped → KeepsStops old new
    → Tried stops s bare trial end (stamp + 1) (added ranges stamp stamp stopped) new
tried_more stops s bare trial end stamp ranges old new stopped so_far from is ends keeps =
    let before = so_far.before in
    record {
      passed = so_far.passed;
      plain = so_far.plain;
      clock = so_far.clock;
      before = omega (arith, before);
      within = so_far.within;
      none = so_far.none;
      are = subst (λ n. AreRanges stops s trial trial.first n (added ranges stamp stamp stopped)) (omega arith)
          (ranges_added stops s trial trial.first stamp stamp ranges stopped from (omega (arith, before))
          (omega arith) so_far.are (one_tried stops s bare trial end stamp ranges old stopped so_far is ends));
      stops_are = keeps.stops ∙ so_far.stops_are;
      watched = keeps.watched;
    }

pub rest_stopped : (stops : List Stop) (s bare next : Plain) (trial : Trial)
    (end before stamp : ℕ) (ranges : List Moments) (old : List Watched) (stop : End)
    → (so_far : Tried stops s bare trial end stamp ranges old) → trial.first ≤ stamp → stamp ≤ trial.last → clock_of bare ≤ before
    → before < stamp → before ≤ end → end ≡ clock_of s + trial.count → RunsTo stops before bare next (Some stop)
    → AreRanges stops s trial trial.first trial.last (added ranges stamp trial.last (Some stop))
rest_stopped stops s bare next trial end before stamp ranges old stop so_far from rising start early within is run =
    let some = so_far.before in
    ranges_added stops s trial trial.first stamp trial.last ranges (Some stop) from (omega (arith, some)) rising so_far.are
    (all_stopped stops s bare next trial end before stamp ranges old stop so_far start early within is run)

pub rest_unstopped : (stops : List Stop) (s bare next : Plain) (trial : Trial) (end before stamp : ℕ) (ranges : List Moments) (old : List Watched)
    → (so_far : Tried stops s bare trial end stamp ranges old) → trial.first ≤ stamp → stamp ≤ trial.last → clock_of bare ≤ before
    → before < stamp → before ≡ end → end ≡ clock_of s + trial.count → RunsTo stops before bare next None
    → AreRanges stops s trial trial.first trial.last (added ranges stamp trial.last None)
rest_unstopped stops s bare next trial end before stamp ranges old so_far from rising start early whole is run =
    let some = so_far.before in
    ranges_added stops s trial trial.first stamp trial.last ranges None from (omega (arith, some)) rising so_far.are
    (all_unstopped stops s bare next trial end before stamp ranges old so_far start early whole is run)

-- the rest of the clocks is one range, if a stop is met without the key, or the run ends before the key comes

equal_then : (a b : ℕ) → nat_eq a b ≡ true → a ≡ b
equal_then a b is = grind (arith, nat_tests, is)

pub rest : (stops : List Stop) (s bare next : Plain) (trial : Trial)
    (end before stamp : ℕ) (ranges : List Moments) (old : List Watched) (stopped : Option End)
    → (so_far : Tried stops s bare trial end stamp ranges old) → trial.first ≤ stamp → stamp ≤ trial.last → clock_of bare ≤ before → before < stamp
    → before ≤ end → end ≡ clock_of s + trial.count → (is_some stopped || nat_eq before end) ≡ true → RunsTo stops before bare next stopped
    → AreRanges stops s trial trial.first trial.last (added ranges stamp trial.last stopped)
rest stops s bare next trial end before stamp ranges old (Some stop) so_far from rising start early within is decided run =
    rest_stopped stops s bare next trial end before stamp ranges old stop so_far from rising start early within is run
rest stops s bare next trial end before stamp ranges old None so_far from rising start early within is decided run =
    rest_unstopped stops s bare next trial end before stamp ranges old so_far from rising start early (equal_then before end decided) is run

pub undecided : (stops : List Stop) (end before : ℕ) (bare next : Plain) (stopped : Option End)
    → (is_some stopped || nat_eq before end) ≡ false → RunsTo stops before bare next stopped → RunsTo stops before bare next None
undecided stops end before bare next (Some stop) goes run = absurd (cc)
undecided stops end before bare next None goes run = run

-- a copy with the keys runs as the board with the keys would
pub copy_ends : (stops : List Stop) (bare copy after : Plain) (trial : Trial) (stamp end : ℕ) (stopped : Option End) → copy ≡ with_tried bare trial stamp
    → RunsTo stops end copy after stopped → IsEndOf stops (end - clock_of bare) (with_tried bare trial stamp) stopped
copy_ends stops bare copy after trial stamp end stopped is run =
    subst (λ c. IsEndOf stops (end - c) (with_tried bare trial stamp) stopped) (tried_clock bare trial stamp)
    (subst (λ (p : Plain). IsEndOf stops (end - clock_of p) p stopped) is run.ends)

-- one more clock is tried, or all ranges are known
pub one_more : (stops same : List Stop) (s bare next : Plain) (trial : Trial)
    (end stamp : ℕ) (ranges more : List Moments) (old new : List Watched) (known : Bool)
    → same ≡ stops → (Tried same s bare trial end stamp ranges old → TriedNext known same s next trial end stamp more new)
    → Tried stops s bare trial end stamp ranges old → TriedNext known stops s next trial end stamp more new
one_more stops same s bare next trial end stamp ranges more old new known is tries so_far =
    subst (λ (xs : List Stop). TriedNext known xs s next trial end stamp more new) is
    (tries (subst (λ (xs : List Stop). Tried xs s bare trial end stamp ranges old) (sym is) so_far))

-- what `go` answers

all_alike : (stops : List Stop) (s : Plain) (trial : Trial) (first last : ℕ) (ranges : List Moments)
    → AreRanges stops s trial first last ranges → All (AreAlike stops s trial) ranges
all_alike stops s trial first last [] are = All-nil (AreAlike stops s trial)
all_alike stops s trial first last (m ∷ ms) are = All-cons (AreAlike stops s trial) m ms are.1.1.0 (all_alike stops s trial (m.last + 1) last ms are.1.1.1.1)

among_answer : (ends : Option Ends) (end : Option End) (clock : ℕ) → IsAmong ends end → IsAnswerOf ends (told_of end clock)
among_answer None None clock is = tt
among_answer None (Some end) clock is = absurd is
among_answer (Some ends) None clock is = absurd is
among_answer (Some ends) (Some end) clock is = is

-- the boards of the sessions in which the keys were typed
second_typed : (second : Option Second) (stamp : ℕ) (s t : SessionState) (told : Answer) (p : Plain)
    → s.board.plain ≡ p → TakesSecond second stamp s t told → t.board.plain ≡ with_second second p stamp
second_typed None stamp s t told p is takes = ap (λ (x : SessionState). x.board.plain) takes ∙ is
second_typed (Some second) stamp s t told p is takes =
    ap (λ (b : BoardState). b.plain) takes.board ∙ ap (λ (q : Plain). with_key q (second_tried second stamp)) is

pub are_runs : MomentsAreRuns
are_runs old keyed new typed trial ranges m stamp told second_told answer are there from to takes second stops goes =
    let alike =
    All-contains (AreAlike old.stops old.board.plain trial) ranges m (all_alike old.stops old.board.plain trial trial.first trial.last ranges are) there in
    let one = alike.each stamp from to in
    let keyed_plain : keyed.board.plain ≡ with_tried old.board.plain trial stamp =
    second_typed trial.second stamp typed (session_of keyed) second_told (with_key old.board.plain (key_tried trial stamp))
    (ap (λ (b : BoardState). b.plain) takes.board) second in
    let same : IsEndOf old.stops trial.count (with_tried old.board.plain trial stamp) goes.stopped =
    subst (λ (s : Plain). IsEndOf old.stops trial.count s goes.stopped) keyed_plain
    (subst (λ (xs : List Stop). IsEndOf xs trial.count keyed.board.plain goes.stopped) stops goes.ends) in
    let end = one_end old.stops trial.count (with_tried old.board.plain trial stamp) one.0 goes.stopped one.1.0 same in
    subst (IsAnswerOf m.ends) (sym goes.answer_is) (among_answer m.ends goes.stopped (clock_of new.board.plain) (subst (IsAmong m.ends) end one.1.1))
