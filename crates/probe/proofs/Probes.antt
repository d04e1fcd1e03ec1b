-- A probe whose stops are all conditions does as its session does; and what a search says of a probe with others.
use Rattle.std.proofs.Common.{◌≡◌, ℕ, ◌+◌, ◌-◌, ◌<◌, ◌≤◌, ◌^◌, true, false, List, [], ◌∷◌, ◌++◌, length, map}
use Rattle.std.proofs.Common.{Option, None, Some, Result, Ok, Err, refl, sym, ap, ◌∙◌, subst, arith}
use Rattle.std.specs.Prelude.{MatchResult}
use Rattle.std.specs.List.{list_all}
use Rattle.board_plain.specs.declared.stop.Condition.{Condition}
use Rattle.board_plain.specs.declared.stop.Stop.{Stop as End}
use Rattle.board_plain.specs.Board.{Ran}
use Rattle.board_plain.specs.Plain.{Plain, after_clocks, clock_of}
use Rattle.board_plain.specs.Stops.{holding, IsStopOf, NoStop, run_length}
use Rattle.debugger_meaning.specs.declared.answer.Answer.{Answer}
use Rattle.debugger_meaning.specs.declared.answer.Answer.TheVariants as answers
use Rattle.debugger_meaning.specs.declared.fault.DebugFault.{DebugFault}
use Rattle.debugger_meaning.specs.declared.fault.DebugFault.TheVariants.{BadScan, StampsFall, ClockLimit, BadCommand, TooManyStops, Memory, BeforeStart, NoCell}
use Rattle.debugger_meaning.specs.Back.{GoesBack, GoesBackTo, RefusesBack, RefusesBackTo}
use Rattle.debugger_meaning.specs.Session.{AnswersStop, FindsNoMemory, Goes, RefusesGo}
use Rattle.debugger_meaning.specs.Stands.{SessionState, StandsAt}
use Rattle.probe_texts.specs.declared.stops.Stop.{Stop}
use Rattle.probe_texts.specs.declared.stops.Stop.TheVariants.{Standing, When, Changes}
use Rattle.probe.specs.Looked.{answer_at, FindsNoStop, RanShort, RanToStop}
use Rattle.probe.specs.Making.{FewTurns}
use Rattle.probe.specs.Probe.{AddsStop, conditions_of, gone_by, GoesBackToStop, GoesOn, HasFewTurns, ProbeState, RefusesBackToStop, RefusesGoing, StopsShort}
use Rattle.probe_texts.specs.Requests.{is_standing}
use Rattle.probe.specs.ProbeStops.{IsEndOf, met_from, MetLast, NoneMet}
use Rattle.std.proofs.lemmas.List.{length-map, map-append}
use Rattle.std.proofs.lemmas.List.Elements.{All-push}
use Rattle.probe.specs.declared.watched.Watched.{Watched}
use Rattle.probe.specs.Watched.{IsProbe, IsWatched, KeepsStops, stops_of}
use Rattle.arrayvec.specs.ArrayVec.{ArrayVec, with_items}
use Rattle.arrayvec.proofs.ArrayVecLemmas.{items-with_items}
use Rattle.probe.proofs.Standing.{here, met_alike, none_here}

-- stops that are all conditions are their conditions

pub all_standing : (stops : List Stop) → list_all is_standing stops ≡ true → stops ≡ map Standing (conditions_of stops)
all_standing [] all = refl
all_standing (Standing condition ∷ stops) all = ap (λ (xs : List Stop). Standing condition ∷ xs) (all_standing stops all)
all_standing (When kinds ∷ stops) all = let never : false ≡ true = all in absurd (cc)
all_standing (Changes address count ∷ stops) all = let never : false ≡ true = all in absurd (cc)

-- a probe over a session
abbrev pub probe_of : SessionState → List Stop → ProbeState
probe_of session stops = record { first = session.first; board = session.board; stops = stops }

pub ends_of : (stops : List Stop) (n : ℕ) (s : Plain) (end : Option End)
    → stops ≡ map Standing (conditions_of stops) → IsStopOf (conditions_of stops) n s end → IsEndOf stops n s end
ends_of stops n s end are is = subst (λ xs. IsEndOf xs n s end) (sym are) (here (conditions_of stops) n s end is)

none_of : (stops : List Stop) (n : ℕ) (s : Plain) → stops ≡ map Standing (conditions_of stops) → NoStop (conditions_of stops) n s → NoneMet stops n s
none_of stops n s are is = subst (λ xs. NoneMet xs n s) (sym are) (none_here (conditions_of stops) n s is)

-- a run of whose turns nothing is said
no_other : (stops : List Stop) (n : ℕ) (old new : SessionState) → list_all is_standing stops ≡ true → HasFewTurns n (probe_of old stops) (probe_of new stops)
no_other stops n old new all = λ other. let never : true ≡ false = sym all ∙ other in absurd (cc)

goes_on : (n : ℕ) (old new : SessionState) (stops : List Stop) (answer : Answer) → list_all is_standing stops ≡ true
    → stops ≡ map Standing (conditions_of stops) → old.stops ≡ conditions_of stops → Goes n old new answer
    → GoesOn n (probe_of old stops) (probe_of new stops) answer
goes_on n old new stops answer all are is goes = record {
  stopped = goes.stopped;
  within = goes.runs.within;
  ends = ends_of stops n old.board.plain goes.stopped are (subst (λ xs. IsStopOf xs n old.board.plain goes.stopped) is goes.runs.stop);
  ran = goes.runs.ran;
  turns = no_other stops (run_length n old.board.plain goes.stopped) old new all;
  stops = refl;
  first = goes.first;
  answer_is = goes.answer_is;
}

stops_short : (n clock : ℕ) (old new : SessionState) (stops : List Stop) → list_all is_standing stops ≡ true → stops ≡ map Standing (conditions_of stops)
    → old.stops ≡ conditions_of stops → FindsNoMemory old.stops n old.board new.board clock → new.first ≡ old.first
    → StopsShort n (probe_of old stops) (probe_of new stops) clock
stops_short n clock old new stops all are is finds first = record {
  within = finds.within;
  early = finds.early;
  none_passed = none_of stops (clock_of new.board.plain - clock_of old.board.plain) old.board.plain are
      (subst (λ xs. NoStop xs (clock_of new.board.plain - clock_of old.board.plain) old.board.plain) is finds.none_passed);
  turns = no_other stops (clock_of new.board.plain - clock_of old.board.plain) old new all;
  stops = refl;
  first = first;
  clock_is = finds.clock_is;
}

same_probe : (old new : SessionState) (stops : List Stop) → new ≡ old → probe_of new stops ≡ probe_of old stops
same_probe old new stops same = ap (λ (s : SessionState). probe_of s stops) same

refuses_going : (n : ℕ) (old new : SessionState) (stops : List Stop) (fault : DebugFault) → list_all is_standing stops ≡ true
    → stops ≡ map Standing (conditions_of stops) → old.stops ≡ conditions_of stops → RefusesGo n old new fault
    → RefusesGoing n (probe_of old stops) (probe_of new stops) fault
refuses_going n old new stops ClockLimit all are is refuses = (refuses.0.0, λ i. record { first = refuses.2 i; board = refuses.0.1 i; stops = stops })
refuses_going n old new stops BadScan all are is refuses = absurd refuses.0
refuses_going n old new stops StampsFall all are is refuses = absurd refuses.0
refuses_going n old new stops BadCommand all are is refuses = absurd refuses.0
refuses_going n old new stops TooManyStops all are is refuses = absurd refuses.0
refuses_going n old new stops (Memory None) all are is refuses = absurd refuses.0
refuses_going n old new stops (Memory (Some clock)) all are is refuses = stops_short n clock old new stops all are is refuses.0 refuses.2
refuses_going n old new stops BeforeStart all are is refuses = absurd refuses.0
refuses_going n old new stops NoCell all are is refuses = absurd refuses.0

pub goes_standing : (n : ℕ) (old new : SessionState) (stops : List Stop) (result : Result Answer DebugFault)
    → list_all is_standing stops ≡ true → old.stops ≡ conditions_of stops → MatchResult result (Goes n old new) (RefusesGo n old new)
    → MatchResult result (GoesOn n (probe_of old stops) (probe_of new stops)) (RefusesGoing n (probe_of old stops) (probe_of new stops))
goes_standing n old new stops (Ok answer) all is goes = goes_on n old new stops answer all (all_standing stops all) is goes
goes_standing n old new stops (Err fault) all is refuses = refuses_going n old new stops fault all (all_standing stops all) is refuses

-- a way back

met_of : (stops : List Stop) (j : ℕ) (s : Plain) → stops ≡ map Standing (conditions_of stops)
    → met_from stops s j ≡ holding (conditions_of stops) (after_clocks s j)
met_of stops j s are = ap (λ xs. met_from xs s j) are ∙ met_alike (conditions_of stops) j s

held_of : (stops : List Stop) (conditions : List Condition) (j : ℕ) (s : Plain)
    → stops ≡ map Standing (conditions_of stops) → conditions ≡ conditions_of stops → met_from stops s j ≡ holding conditions (after_clocks s j)
held_of stops conditions j s are is = met_of stops j s are ∙ ap (λ xs. holding xs (after_clocks s j)) (sym is)

goes_back : (old new : SessionState) (stops : List Stop) (answer : Answer) → stops ≡ map Standing (conditions_of stops)
    → old.stops ≡ conditions_of stops → GoesBackTo old.stops answers.StopAt old new answer → GoesBackToStop (probe_of old stops) (probe_of new stops) answer
goes_back old new stops answer are is goes = record {
  number = goes.number;
  last = record {
    passed = goes.last.passed;
    within = goes.last.within;
    met_there = held_of stops old.stops goes.last.passed old.first.plain are is ∙ goes.last.holds_there;
    none_later = λ j past within. held_of stops old.stops j old.first.plain are is ∙ goes.last.none_later j past within;
    clock_is = goes.last.clock_is;
  };
  stands = goes.stands;
  first = goes.first;
  stops = refl;
  answer_is = goes.answer_is;
}

refuses_back : (old new : SessionState) (stops : List Stop) (fault : DebugFault) → stops ≡ map Standing (conditions_of stops)
    → old.stops ≡ conditions_of stops → length (conditions_of stops) ≤ length stops → RefusesBackTo old.stops old new fault
    → RefusesBackToStop (probe_of old stops) (probe_of new stops) fault
refuses_back old new stops ClockLimit are is few refuses = absurd refuses
refuses_back old new stops BadScan are is few refuses = absurd refuses
refuses_back old new stops StampsFall are is few refuses = absurd refuses
refuses_back old new stops BadCommand are is few refuses = absurd refuses
refuses_back old new stops TooManyStops are is few refuses = absurd refuses
refuses_back old new stops (Memory None) are is few refuses =
    (let some = refuses.0 in omega (arith, some, few, ap length is), same_probe old new stops refuses.1)
refuses_back old new stops (Memory (Some clock)) are is few refuses = absurd refuses
refuses_back old new stops BeforeStart are is few refuses =
    (λ j within. held_of stops old.stops j old.first.plain are is ∙ refuses.0 j within, same_probe old new stops refuses.1)
refuses_back old new stops NoCell are is few refuses = absurd refuses

pub fewer : (stops : List Stop) → length (conditions_of stops) ≤ length stops
fewer [] = omega arith
fewer (Standing condition ∷ stops) = let few = fewer stops in omega (arith, few)
fewer (When kinds ∷ stops) = let few = fewer stops in omega (arith, few)
fewer (Changes address count ∷ stops) = let few = fewer stops in omega (arith, few)

pub goes_back_standing : (old new : SessionState) (stops : List Stop) (result : Result Answer DebugFault) → list_all is_standing stops ≡ true
    → old.stops ≡ conditions_of stops → MatchResult result (GoesBackTo old.stops answers.StopAt old new) (RefusesBackTo old.stops old new)
    → MatchResult result (GoesBackToStop (probe_of old stops) (probe_of new stops)) (RefusesBackToStop (probe_of old stops) (probe_of new stops))
goes_back_standing old new stops (Ok answer) all is goes = goes_back old new stops answer (all_standing stops all) is goes
goes_back_standing old new stops (Err fault) all is refuses = refuses_back old new stops fault (all_standing stops all) is (fewer stops) refuses

-- a run by the probe's own search

pub goes_to_stop : (n end number : ℕ) (old new : SessionState) (stops : List Stop) (answer : Answer)
    → clock_of old.board.plain + n ≤ 2 ^ 40 → end ≡ clock_of old.board.plain + n → RanToStop stops end old.board new.board (Some number) → new.first ≡ old.first
    → answer ≡ answers.StopAt number (clock_of new.board.plain) → GoesOn n (probe_of old stops) (probe_of new stops) answer
goes_to_stop n end number old new stops answer within at ran same is =
    let clock = ran.ran.clock in
    let most = ran.within in
    let ended = ran.ended in
    let length_is : clock_of new.board.plain - clock_of old.board.plain ≡ ran.passed = omega (arith, clock) in
    record {
      stopped = Some (record { number = number; clock = clock_of new.board.plain });
      within = within;
      ends = record {
        passed = ran.passed;
        after_start = ended.0;
        within = omega (arith, clock, most, at);
        none_before = ended.1;
        met_there = ended.2;
        clock = clock;
      };
      ran = subst (λ k. Ran k old.board new.board) (sym length_is) ran.ran;
      turns = λ other. subst (λ k. FewTurns k old.board new.board) (sym length_is) ran.turns;
      stops = refl;
      first = same;
      answer_is = is;
    }

pub goes_to_end : (n end : ℕ) (old new : SessionState) (stops : List Stop) (answer : Answer)
    → clock_of old.board.plain + n ≤ 2 ^ 40 → end ≡ clock_of old.board.plain + n → RanToStop stops end old.board new.board None → new.first ≡ old.first
    → answer ≡ answers.Clock (clock_of new.board.plain) → GoesOn n (probe_of old stops) (probe_of new stops) answer
goes_to_end n end old new stops answer within at ran same is =
    let whole : ran.passed ≡ n = let ended = ran.ended.0 in omega (arith, ended, at) in
    record {
      stopped = None;
      within = within;
      ends = subst (λ k. NoneMet stops k old.board.plain) whole ran.ended.1;
      ran = subst (λ k. Ran k old.board new.board) whole ran.ran;
      turns = λ other. subst (λ k. FewTurns k old.board new.board) whole ran.turns;
      stops = refl;
      first = same;
      answer_is = is;
    }

pub goes_short : (n end : ℕ) (old new : SessionState) (stops : List Stop) → clock_of old.board.plain + n ≤ 2 ^ 40 → end ≡ clock_of old.board.plain + n
    → RanShort stops end old.board new.board → new.first ≡ old.first
    → RefusesGoing n (probe_of old stops) (probe_of new stops) (Memory (Some (clock_of new.board.plain)))
goes_short n end old new stops within at short same =
    let gone = short.ran.clock in
    let before = short.before_end in
    record {
      within = within;
      early = record {
        passed = short.passed;
        before_end = omega (arith, gone, before, at);
        ran = short.ran;
        changes_next = short.changes_next;
        full = short.full;
      };
      none_passed = subst (λ k. NoneMet stops k old.board.plain) (omega (arith, gone)) short.none;
      turns = λ other. subst (λ k. FewTurns k old.board new.board) (omega (arith, gone)) short.turns;
      stops = refl;
      first = same;
      clock_is = refl;
    }

-- a way back to what was found

goes_found_back : (count clock number : ℕ) (old new : SessionState) (stops : List Stop) (told : Answer)
    → MetLast stops (gone_by (probe_of old stops)) old.first.plain clock number → count ≡ clock_of old.board.plain - clock
    → GoesBack count old new told → GoesBackToStop (probe_of old stops) (probe_of new stops) (answers.StopAt number clock)
goes_found_back count clock number old new stops told last is goes =
    let within = last.within in
    let place = last.clock_is in
    let least = goes.within in
    let at = goes.stands.clock in
    let passed : gone_by (probe_of old stops) - count ≡ last.passed = omega (arith, is, within, place, least) in
    let here : clock ≡ clock_of new.board.plain = omega (arith, at, passed, place) in
    record {
      number = number;
      last = record {
        passed = last.passed;
        within = last.within;
        met_there = last.met_there;
        none_later = last.none_later;
        clock_is = omega (arith, here, place);
      };
      stands = subst (λ k. StandsAt k old.first new.board) passed goes.stands;
      first = goes.first;
      stops = refl;
      answer_is = ap (answers.StopAt number) here;
    }

refuses_found_back : (count clock number : ℕ) (old new : SessionState) (stops : List Stop) (fault : DebugFault)
    → 1 ≤ length stops → MetLast stops (gone_by (probe_of old stops)) old.first.plain clock number → count ≡ clock_of old.board.plain - clock
    → RefusesBack count old new fault → RefusesBackToStop (probe_of old stops) (probe_of new stops) fault
refuses_found_back count clock number old new stops ClockLimit some last is refuses = absurd refuses
refuses_found_back count clock number old new stops BadScan some last is refuses = absurd refuses
refuses_found_back count clock number old new stops StampsFall some last is refuses = absurd refuses
refuses_found_back count clock number old new stops BadCommand some last is refuses = absurd refuses
refuses_found_back count clock number old new stops TooManyStops some last is refuses = absurd refuses
refuses_found_back count clock number old new stops (Memory None) some last is refuses = (some, same_probe old new stops refuses.1)
refuses_found_back count clock number old new stops (Memory (Some at)) some last is refuses = absurd refuses
refuses_found_back count clock number old new stops BeforeStart some last is refuses =
    let before = refuses.0 in
    let within = last.within in
    let place = last.clock_is in absurd (omega (arith, before, is, within, place))
refuses_found_back count clock number old new stops NoCell some last is refuses = absurd refuses

pub goes_back_found : (p : ProbeState) (count clock number : ℕ) (old new : SessionState) (stops : List Stop) (told : Answer)
    → probe_of old stops ≡ p → MetLast p.stops (gone_by p) p.first.plain clock number → count ≡ clock_of old.board.plain - clock
    → GoesBack count old new told → GoesBackToStop p (probe_of new stops) (answers.StopAt number clock)
goes_back_found p count clock number old new stops told view last is goes =
    subst (λ (q : ProbeState). GoesBackToStop q (probe_of new stops) (answers.StopAt number clock)) view
    (goes_found_back count clock number old new stops told
    (subst (λ (q : ProbeState). MetLast q.stops (gone_by q) q.first.plain clock number) (sym view) last) is goes)

pub refuses_back_found : (p : ProbeState) (count clock number : ℕ) (old new : SessionState) (stops : List Stop) (fault : DebugFault)
    → probe_of old stops ≡ p → MetLast p.stops (gone_by p) p.first.plain clock number → 1 ≤ length p.stops
    → count ≡ clock_of old.board.plain - clock → RefusesBack count old new fault → RefusesBackToStop p (probe_of new stops) fault
refuses_back_found p count clock number old new stops fault view last some is refuses =
    subst (λ (q : ProbeState). RefusesBackToStop q (probe_of new stops) fault) view
    (refuses_found_back count clock number old new stops fault (subst (λ (q : ProbeState). 1 ≤ length q.stops) (sym view) some)
    (subst (λ (q : ProbeState). MetLast q.stops (gone_by q) q.first.plain clock number) (sym view) last) is refuses)

pub finds_no_stop : (old : SessionState) (stops : List Stop) (fault : DebugFault) → 1 ≤ length stops
    → FindsNoStop stops (gone_by (probe_of old stops)) old.first.plain fault → RefusesBackToStop (probe_of old stops) (probe_of old stops) fault
finds_no_stop old stops ClockLimit some finds = absurd finds
finds_no_stop old stops BadScan some finds = absurd finds
finds_no_stop old stops StampsFall some finds = absurd finds
finds_no_stop old stops BadCommand some finds = absurd finds
finds_no_stop old stops TooManyStops some finds = absurd finds
finds_no_stop old stops (Memory None) some finds = (some, refl)
finds_no_stop old stops (Memory (Some clock)) some finds = absurd finds
finds_no_stop old stops BeforeStart some finds = (finds, refl)
finds_no_stop old stops NoCell some finds = absurd finds

-- stops that aren't all conditions are at least one

pub some_stops : (stops : List Stop) → list_all is_standing stops ≡ false → 1 ≤ length stops
some_stops [] none = absurd (cc)
some_stops (x ∷ xs) none = omega arith

-- one more stop

pub conditions_more : (stops : List Stop) (stop : Stop) → conditions_of (stops ++ stop ∷ []) ≡ conditions_of stops ++ conditions_of (stop ∷ [])
conditions_more [] stop = refl
conditions_more (Standing condition ∷ stops) stop = ap (λ (xs : List Condition). condition ∷ xs) (conditions_more stops stop)
conditions_more (When kinds ∷ stops) stop = conditions_more stops stop
conditions_more (Changes address count ∷ stops) stop = conditions_more stops stop

-- a stop that isn't a condition has none
pub unstanding : (stop : Stop) → ((condition : Condition) → stop ≡ Standing condition → ⊥) → conditions_of (stop ∷ []) ≡ []
unstanding (Standing condition) none = absurd (none condition refl)
unstanding (When kinds) none = refl
unstanding (Changes address count) none = refl

-- a probe with one more stop

all_stops : (watches : List Watched) (w : Watched) → stops_of (watches ++ w ∷ []) ≡ stops_of watches ++ w.stop ∷ []
all_stops watches w = map-append (λ (x : Watched). x.stop) watches (w ∷ [])

pub probe_more : (session next : SessionState) (watches : List Watched) (w : Watched)
    → IsProbe session watches → IsWatched w → next ≡ record session { stops = session.stops ++ conditions_of (w.stop ∷ []) } → IsProbe next (watches ++ w ∷ [])
probe_more session next watches w is watched more = record {
  conditions =
      ap (λ (s : SessionState). s.stops) more
      ∙ ap (λ (xs : List Condition). xs ++ conditions_of (w.stop ∷ [])) is.conditions
      ∙ sym (conditions_more (stops_of watches) w.stop)
      ∙ ap conditions_of (sym (all_stops watches w));
  watched = All-push IsWatched watches w is.watched watched;
}

pub adds_stop : (session next : SessionState) (watches : List Watched) (w : Watched) (stop : Stop) (answer : Answer)
    → next ≡ record session { stops = session.stops ++ conditions_of (w.stop ∷ []) } → w.stop ≡ stop → length watches < 16
    → answer ≡ answers.Stop (length watches + 1) → AddsStop stop (probe_of session (stops_of watches)) (probe_of next (stops_of (watches ++ w ∷ []))) answer
adds_stop session next watches w stop answer more is few tells =
    let size : length (stops_of watches) ≡ length watches = length-map watches (λ (x : Watched). x.stop) in record {
      room = omega (arith, few, size);
      stops = all_stops watches w ∙ ap (λ (x : Stop). stops_of watches ++ x ∷ []) is;
      board = ap (λ (s : SessionState). s.board) more;
      first = ap (λ (s : SessionState). s.first) more;
      answer_is = tells ∙ ap (λ n. answers.Stop (n + 1)) (sym size);
    }

-- a session that takes a stop's condition

pub condition_added : (condition : Condition) (old new : SessionState) (result : Result Answer DebugFault)
    → length old.stops < 16 → AnswersStop condition old result new → new ≡ record old { stops = old.stops ++ condition ∷ [] }
condition_added condition old new (Ok answer) few is = λ i. record { first = is.first i; board = is.board i; stops = is.stops i }
condition_added condition old new (Err fault) few is =
    let full = is.full in absurd (omega (arith, few, full))

-- a run's end

pub goes_found : (n end : ℕ) (old new : SessionState) (stops : List Stop) (found : Option ℕ)
    → clock_of old.board.plain + n ≤ 2 ^ 40 → end ≡ clock_of old.board.plain + n → RanToStop stops end old.board new.board found
    → new.first ≡ old.first → GoesOn n (probe_of old stops) (probe_of new stops) (answer_at found (clock_of new.board.plain))
goes_found n end old new stops None within at ran same =
    goes_to_end n end old new stops (answers.Clock (clock_of new.board.plain)) within at ran same refl
goes_found n end old new stops (Some number) within at ran same =
    goes_to_stop n end number old new stops (answers.StopAt number (clock_of new.board.plain)) within at ran same refl

-- a probe whose session keeps its stops, and of whose stops only the copies differ
pub probe_on : (old new : SessionState) (watches more : List Watched) → IsProbe old watches → new.stops ≡ old.stops → KeepsStops watches more → IsProbe new more
probe_on old new watches more is same keeps = record {
  conditions = same ∙ is.conditions ∙ ap conditions_of (sym keeps.stops);
  watched = keeps.watched;
}

-- stops whose copies were made anew in their places

with_more : (v : ArrayVec Watched) (now more : List Watched) → now ≡ v.items → KeepsStops now more → (with_items v more).items ≡ more
with_more v now more at keeps =
    items-with_items v more (sym (length-map more (λ (w : Watched). w.stop)) ∙ ap length keeps.stops ∙ length-map now (λ (w : Watched). w.stop) ∙ ap length at)

pub probe_with : (old new : SessionState) (v : ArrayVec Watched) (now more : List Watched)
    → now ≡ v.items → IsProbe old v.items → new.stops ≡ old.stops → KeepsStops now more → IsProbe new (with_items v more).items
probe_with old new v now more at is same keeps =
    subst (IsProbe new) (sym (with_more v now more at keeps)) (probe_on old new v.items more is same (subst (λ xs. KeepsStops xs more) at keeps))

pub stops_with : (v : ArrayVec Watched) (now more : List Watched) → now ≡ v.items → KeepsStops now more → stops_of (with_items v more).items ≡ stops_of v.items
stops_with v now more at keeps = ap stops_of (with_more v now more at keeps) ∙ keeps.stops ∙ ap stops_of at

-- what a run answers of a probe like this

pub goes_with : (p : ProbeState) (n end : ℕ) (old new : SessionState) (v : ArrayVec Watched) (now more : List Watched) (found : Option ℕ) (answer : Answer)
    → probe_of old (stops_of v.items) ≡ p → now ≡ v.items → KeepsStops now more → clock_of old.board.plain + n ≤ 2 ^ 40
    → end ≡ clock_of old.board.plain + n → RanToStop (stops_of now) end old.board new.board found → new.first ≡ old.first
    → answer ≡ answer_at found (clock_of new.board.plain) → GoesOn n p (probe_of new (stops_of (with_items v more).items)) answer
goes_with p n end old new v now more found answer view at keeps within is ran same tells =
    subst (λ (q : ProbeState). GoesOn n q (probe_of new (stops_of (with_items v more).items)) answer) view
    (subst (λ stops. GoesOn n (probe_of old (stops_of v.items)) (probe_of new stops) answer) (sym (stops_with v now more at keeps))
    (subst (GoesOn n (probe_of old (stops_of v.items)) (probe_of new (stops_of v.items))) (sym tells)
    (goes_found n end old new (stops_of v.items) found within is (subst (λ xs. RanToStop (stops_of xs) end old.board new.board found) at ran) same)))

pub short_with : (p : ProbeState) (n end : ℕ) (old new : SessionState) (v : ArrayVec Watched) (now more : List Watched) (fault : DebugFault)
    → probe_of old (stops_of v.items) ≡ p → now ≡ v.items → KeepsStops now more → clock_of old.board.plain + n ≤ 2 ^ 40 → end ≡ clock_of old.board.plain + n
    → RanShort (stops_of now) end old.board new.board → new.first ≡ old.first → fault ≡ Memory (Some (clock_of new.board.plain))
    → RefusesGoing n p (probe_of new (stops_of (with_items v more).items)) fault
short_with p n end old new v now more fault view at keeps within is short same tells =
    subst (λ (q : ProbeState). RefusesGoing n q (probe_of new (stops_of (with_items v more).items)) fault) view
    (subst (λ stops. RefusesGoing n (probe_of old (stops_of v.items)) (probe_of new stops) fault) (sym (stops_with v now more at keeps))
    (subst (RefusesGoing n (probe_of old (stops_of v.items)) (probe_of new (stops_of v.items))) (sym tells)
    (goes_short n end old new (stops_of v.items) within is (subst (λ xs. RanShort (stops_of xs) end old.board new.board) at short) same)))
