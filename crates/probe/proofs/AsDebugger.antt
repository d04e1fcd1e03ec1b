-- A probe whose stops are all conditions answers as the debugger does.
use Rattle.std.proofs.Common.{◌≡◌, ℕ, ◌+◌, ◌-◌, false, true, List, [], ◌∷◌, ◌++◌, length, map}
use Rattle.std.proofs.Common.{Option, None, Some, Result, Ok, Err, refl, sym, ap, ◌∙◌, subst, arith}
use Rattle.std.specs.Prelude.{MatchResult, option_map}
use Rattle.std.proofs.lemmas.List.{length-map, map-append}
use Rattle.board_plain.specs.declared.stop.Condition.{Condition}
use Rattle.board_plain.specs.declared.stop.Condition.TheVariants as conditions
use Rattle.board_plain.specs.Plain.{Plain, after_clocks, clock_of}
use Rattle.board_plain.specs.Stops.{holding, NoStop}
use Rattle.debugger_meaning.specs.declared.answer.Answer.{Answer}
use Rattle.debugger_meaning.specs.declared.answer.Answer.TheVariants as answers
use Rattle.debugger_meaning.specs.declared.command.Command.{Command}
use Rattle.debugger_meaning.specs.declared.command.Command.TheVariants as commands
use Rattle.debugger_meaning.specs.declared.fault.DebugFault.{DebugFault}
use Rattle.debugger_meaning.specs.declared.fault.DebugFault.TheVariants.{BadScan, StampsFall, ClockLimit, BadCommand, TooManyStops, Memory, BeforeStart, NoCell}
use Rattle.debugger_meaning.specs.Back.{GoesBackTo, RefusesBackTo}
use Rattle.debugger_meaning.specs.Commands.{command_of}
use Rattle.debugger_meaning.specs.Session.{Answers, AnswersLine, AnswersStop, Goes, RefusesGo}
use Rattle.probe_texts.specs.declared.stops.Stop.{Stop}
use Rattle.probe_texts.specs.declared.stops.Stop.TheVariants.{Standing}
use Rattle.probe.specs.ProbeLaws.{AnswersAsDebugger, OnlyStand}
use Rattle.probe.specs.Probe.{AddsStop, AnswersRequested, conditions_of, GoesBackToStop, GoesOn}
use Rattle.probe.specs.Probe.{ProbeState, RefusesBackToStop, RefusesGoing, RefusesStop, session_of}
use Rattle.probe_texts.specs.Requests.{request_by, request_in}
use Rattle.probe.specs.ProbeStops.{IsEndOf, met_from, NoneMet}
use Rattle.probe.proofs.Probes.{conditions_more}
use Rattle.probe.proofs.Standing.{met_alike, none_there, there}

same_session : (old new : ProbeState) → new ≡ old → session_of new ≡ session_of old
same_session old new same = ap session_of same

still_stand : (old new : ProbeState) → OnlyStand old → new.stops ≡ old.stops → OnlyStand new
still_stand old new stand same = subst (λ (xs : List Stop). xs ≡ map Standing (conditions_of xs)) (sym same) stand

conditions_stay : (old new : ProbeState) → new.stops ≡ old.stops → (session_of new).stops ≡ (session_of old).stops
conditions_stay old new same = ap conditions_of same

as_many : (s : ProbeState) → OnlyStand s → length s.stops ≡ length (conditions_of s.stops)
as_many s stand = ap length stand ∙ length-map (conditions_of s.stops) Standing

-- one more stop

adds : (condition : Condition) (old new : ProbeState) (result : Result Answer DebugFault)
    → OnlyStand old → MatchResult result (AddsStop (Standing condition) old new) (RefusesStop (Standing condition) old new)
    → AnswersStop condition (session_of old) result (session_of new) × OnlyStand new
adds condition old new (Ok answer) stand is =
    let few = is.room in
    let many = as_many old stand in
    let more : conditions_of new.stops ≡ conditions_of old.stops ++ condition ∷ [] =
    ap conditions_of is.stops ∙ conditions_more old.stops (Standing condition) in (
      record {
        room = omega (arith, few, many);
        stops = more;
        board = is.board;
        first = is.first;
        answer_is = is.answer_is ∙ ap (λ n. answers.Stop (n + 1)) many;
      },
      is.stops ∙ ap (λ (xs : List Stop). xs ++ Standing condition ∷ []) stand
          ∙ sym (map-append Standing (conditions_of old.stops) (condition ∷ [])) ∙ ap (map Standing) (sym more),
    )
adds condition old new (Err ClockLimit) stand refuses = absurd refuses
adds condition old new (Err BadScan) stand refuses = absurd refuses
adds condition old new (Err StampsFall) stand refuses = absurd refuses
adds condition old new (Err BadCommand) stand refuses = absurd refuses
adds condition old new (Err TooManyStops) stand refuses = (
  record { full = sym (as_many old stand) ∙ refuses.0; kept = same_session old new refuses.1; fault_is = refl },
  still_stand old new stand (ap (λ (s : ProbeState). s.stops) refuses.1),
)
adds condition old new (Err (Memory None)) stand refuses = let never : false ≡ true = refuses.1 in absurd (cc)
adds condition old new (Err (Memory (Some clock))) stand refuses = absurd refuses
adds condition old new (Err BeforeStart) stand refuses = absurd refuses
adds condition old new (Err NoCell) stand refuses = absurd refuses

-- a run

none_of : (s : ProbeState) (n : ℕ) (p : Plain) → OnlyStand s → NoneMet s.stops n p → NoStop (conditions_of s.stops) n p
none_of s n p stand none = none_there (conditions_of s.stops) n p (subst (λ xs. NoneMet xs n p) stand none)

goes : (n : ℕ) (old new : ProbeState) (result : Result Answer DebugFault) → OnlyStand old → MatchResult result (GoesOn n old new) (RefusesGoing n old new)
    → MatchResult result (Goes n (session_of old) (session_of new)) (RefusesGo n (session_of old) (session_of new)) × OnlyStand new
goes n old new (Ok answer) stand is = (
  record {
    stopped = is.stopped;
    runs = record {
      within = is.within;
      stop = there (conditions_of old.stops) n old.board.plain is.stopped (subst (λ xs. IsEndOf xs n old.board.plain is.stopped) stand is.ends);
      ran = is.ran;
    };
    stops = conditions_stay old new is.stops;
    first = is.first;
    answer_is = is.answer_is;
  },
  still_stand old new stand is.stops,
)
goes n old new (Err ClockLimit) stand refuses = (
  (
    (refuses.0, ap (λ (s : ProbeState). s.board) refuses.1),
    conditions_stay old new (ap (λ (s : ProbeState). s.stops) refuses.1),
    ap (λ (s : ProbeState). s.first) refuses.1,
  ),
  still_stand old new stand (ap (λ (s : ProbeState). s.stops) refuses.1),
)
goes n old new (Err BadScan) stand refuses = absurd refuses
goes n old new (Err StampsFall) stand refuses = absurd refuses
goes n old new (Err BadCommand) stand refuses = absurd refuses
goes n old new (Err TooManyStops) stand refuses = absurd refuses
goes n old new (Err (Memory None)) stand refuses = absurd refuses
goes n old new (Err (Memory (Some clock))) stand refuses = (
  (
    record {
      within = refuses.within;
      early = refuses.early;
      none_passed = none_of old (clock_of new.board.plain - clock_of old.board.plain) old.board.plain stand refuses.none_passed;
      clock_is = refuses.clock_is;
    },
    conditions_stay old new refuses.stops,
    refuses.first,
  ),
  still_stand old new stand refuses.stops,
)
goes n old new (Err BeforeStart) stand refuses = absurd refuses
goes n old new (Err NoCell) stand refuses = absurd refuses

-- a way back

held : (s : ProbeState) (j : ℕ) (p : Plain) → OnlyStand s → holding (conditions_of s.stops) (after_clocks p j) ≡ met_from s.stops p j
held s j p stand = sym (met_alike (conditions_of s.stops) j p) ∙ ap (λ xs. met_from xs p j) (sym stand)

back : (old new : ProbeState) (result : Result Answer DebugFault) → OnlyStand old → MatchResult result (GoesBackToStop old new) (RefusesBackToStop old new)
    → MatchResult result (GoesBackTo (conditions_of old.stops) answers.StopAt (session_of old) (session_of new))
    (RefusesBackTo (conditions_of old.stops) (session_of old) (session_of new))
    × OnlyStand new
back old new (Ok answer) stand is = (
  record {
    number = is.number;
    last = record {
      passed = is.last.passed;
      within = is.last.within;
      holds_there = held old is.last.passed old.first.plain stand ∙ is.last.met_there;
      none_later = λ j past within. held old j old.first.plain stand ∙ is.last.none_later j past within;
      clock_is = is.last.clock_is;
    };
    stands = is.stands;
    first = is.first;
    stops = conditions_stay old new is.stops;
    answer_is = is.answer_is;
  },
  still_stand old new stand is.stops,
)
back old new (Err ClockLimit) stand refuses = absurd refuses
back old new (Err BadScan) stand refuses = absurd refuses
back old new (Err StampsFall) stand refuses = absurd refuses
back old new (Err BadCommand) stand refuses = absurd refuses
back old new (Err TooManyStops) stand refuses = absurd refuses
back old new (Err (Memory None)) stand refuses =
    let some = refuses.0 in
    let many = as_many old stand in
    ((omega (arith, some, many), same_session old new refuses.1), still_stand old new stand (ap (λ (s : ProbeState). s.stops) refuses.1))
back old new (Err (Memory (Some clock))) stand refuses = absurd refuses
back old new (Err BeforeStart) stand refuses = (
  (λ j within. held old j old.first.plain stand ∙ refuses.0 j within, same_session old new refuses.1),
  still_stand old new stand (ap (λ (s : ProbeState). s.stops) refuses.1),
)
back old new (Err NoCell) stand refuses = absurd refuses

-- any other command

passes : (command : Command) (old new : ProbeState) (result : Result Answer DebugFault)
    → OnlyStand old → Answers command (session_of old) result (session_of new) × (new.stops ≡ old.stops)
    → Answers command (session_of old) result (session_of new) × OnlyStand new
passes command old new result stand answers = (answers.0, still_stand old new stand answers.1)

commanded : (command : Option Command) (old new : ProbeState) (result : Result Answer DebugFault)
    → OnlyStand old → AnswersRequested (option_map request_by command) old result new
    → AnswersLine command (session_of old) result (session_of new) × OnlyStand new
commanded None old new result stand answers =
    ((answers.0, same_session old new answers.1), still_stand old new stand (ap (λ (s : ProbeState). s.stops) answers.1))
commanded (Some (commands.Break cs ip)) old new result stand answers = adds (conditions.At cs ip) old new result stand answers
commanded (Some (commands.Byte address byte)) old new result stand answers = adds (conditions.Byte address byte) old new result stand answers
commanded (Some commands.Sound) old new result stand answers = adds conditions.Sound old new result stand answers
commanded (Some commands.Halted) old new result stand answers = adds conditions.Halted old new result stand answers
commanded (Some (commands.Go n)) old new result stand answers = goes n old new result stand answers
commanded (Some commands.Step) old new result stand answers = passes commands.Step old new result stand answers
commanded (Some commands.Regs) old new result stand answers = passes commands.Regs old new result stand answers
commanded (Some commands.Screen) old new result stand answers = passes commands.Screen old new result stand answers
commanded (Some (commands.Dump first count)) old new result stand answers = passes (commands.Dump first count) old new result stand answers
commanded (Some commands.Trail) old new result stand answers = passes commands.Trail old new result stand answers
commanded (Some (commands.Back n)) old new result stand answers = passes (commands.Back n) old new result stand answers
commanded (Some commands.BackStep) old new result stand answers = passes commands.BackStep old new result stand answers
commanded (Some commands.BackStop) old new result stand answers = back old new result stand answers

pub answers_as_debugger : AnswersAsDebugger
answers_as_debugger line old new result stand no_trial no_stop no_inquiry answers =
    commanded (command_of line) old new result stand
    (subst (λ r. AnswersRequested r old result new) (λ i. request_in (no_trial i) (no_stop i) (no_inquiry i) (command_of line)) answers)
