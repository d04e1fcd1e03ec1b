-- A run in pieces is one run.
use Rattle.std.proofs.Common.{◌≡◌, ℕ, ◌+◌, ◌-◌, ◌<◌, ◌≤◌, ◌^◌, List, length, Option, None, Some, refl, ◌∙◌, subst, arith}
use Rattle.board_plain.specs.declared.stop.Condition.{Condition}
use Rattle.board_plain.specs.declared.stop.Stop.{Stop}
use Rattle.board_plain.specs.Board.{BoardState, Ran, StoppedEarly}
use Rattle.board_plain.specs.Plain.{Plain, clock_of}
use Rattle.board_plain.specs.Stops.{run_length, IsStopOf, NoStop, StopsAt}
use Rattle.board_plain.proofs.Joining.{early_join, lengths_join, no_stop_add, searches_join}
use Rattle.board_plain.proofs.Runs.{ran_none}
use Rattle.debugger_meaning.specs.declared.answer.Answer.{Answer}
use Rattle.debugger_meaning.specs.declared.fault.DebugFault.{DebugFault}
use Rattle.debugger_meaning.specs.declared.fault.DebugFault.TheVariants.{BadScan, StampsFall, ClockLimit, BadCommand, TooManyStops, Memory, BeforeStart, NoCell}
use Rattle.debugger_meaning.specs.Session.{FindsNoMemory, Goes, RefusesGo, RefusesRun, Runs, told_of}
use Rattle.debugger_meaning.specs.Stands.{SessionState}

-- a part of a run has passed without a stop
pub record Went (count left : ℕ) (s t : SessionState) : Type 0 where
  pub within : clock_of s.board.plain + count ≤ 2 ^ 40
  pub left_is : left ≤ count
  pub ran : Ran (count - left) s.board t.board
  pub none : NoStop s.stops (count - left) s.board.plain
  pub stops : t.stops ≡ s.stops
  pub first : t.first ≡ s.first

-- one more piece of a run, from the board t to the board u
pub record OnePiece (piece : ℕ) (t u : SessionState) (stopped : Option Stop) : Type 0 where
  pub runs : Runs t.stops piece t.board u.board stopped
  pub stops : u.stops ≡ t.stops
  pub first : u.first ≡ t.first

pub went_none : (count : ℕ) (s : SessionState) → length s.board.trail ≤ 32 → clock_of s.board.plain + count ≤ 2 ^ 40 → Went count count s s
went_none count s few within =
    let nothing : 0 ≡ count - count = omega arith in record {
      within = within;
      left_is = omega arith;
      ran = subst (λ n. Ran n s.board s.board) nothing (ran_none s.board few);
      none = λ j some least. absurd (omega (arith, some, least));
      stops = refl;
      first = refl;
    }

further : (stops : List Condition) (a n : ℕ) (s : Plain) (stop : Stop) → a ≤ n → StopsAt stops a s stop → StopsAt stops n s stop
further stops a n s stop more at = record {
  passed = at.passed;
  after_start = at.after_start;
  within = let within = at.within in omega (arith, within, more);
  none_before = at.none_before;
  holds_there = at.holds_there;
  clock = at.clock;
}

-- the search of one more piece, joined to what has passed
search_on : (count left piece : ℕ) (s t u : SessionState) (stopped : Option Stop) → Went count left s t → OnePiece piece t u stopped
    → IsStopOf s.stops (count - left + piece) s.board.plain stopped
search_on count left piece s t u stopped went on =
    searches_join s.stops (count - left) piece s.board t.board stopped went.ran went.none
    (subst (λ stops. IsStopOf stops piece t.board.plain stopped) went.stops on.runs.stop)

run_on : (count left piece : ℕ) (s t u : SessionState) (stopped : Option Stop) → Went count left s t → OnePiece piece t u stopped
    → Ran (run_length (count - left + piece) s.board.plain stopped) s.board u.board
run_on count left piece s t u stopped went on =
    lengths_join t.stops (count - left) piece s.board t.board u.board stopped went.ran on.runs.stop on.runs.ran

pub went_on : (count left piece : ℕ) (s t u : SessionState) → piece ≤ left → Went count left s t → OnePiece piece t u None → Went count (left - piece) s u
went_on count left piece s t u few went on =
    let less = went.left_is in
    let place : count - left + piece ≡ count - (left - piece) = omega (arith, few, less) in record {
      within = went.within;
      left_is = omega (arith, less);
      ran = subst (λ n. Ran n s.board u.board) place (run_on count left piece s t u None went on);
      none = subst (λ n. NoStop s.stops n s.board.plain) place (search_on count left piece s t u None went on);
      stops = on.stops ∙ went.stops;
      first = on.first ∙ went.first;
    }

pub goes_to_stop : (count left piece : ℕ) (s t u : SessionState) (stop : Stop) (answer : Answer)
    → piece ≤ left → Went count left s t → OnePiece piece t u (Some stop) → answer ≡ told_of (Some stop) (clock_of u.board.plain) → Goes count s u answer
goes_to_stop count left piece s t u stop answer few went on is =
    let less = went.left_is in record {
      stopped = Some stop;
      runs = record {
        within = went.within;
        stop =
            further s.stops (count - left + piece) count s.board.plain stop (omega (arith, few, less)) (search_on count left piece s t u (Some stop) went on);
        ran = run_on count left piece s t u (Some stop) went on;
      };
      stops = on.stops ∙ went.stops;
      first = on.first ∙ went.first;
      answer_is = is;
    }

pub goes_to_end : (count : ℕ) (s u : SessionState) (answer : Answer) → Went count 0 s u → answer ≡ told_of None (clock_of u.board.plain) → Goes count s u answer
goes_to_end count s u answer went is =
    let whole : count - 0 ≡ count = omega arith in record {
      stopped = None;
      runs = record {
        within = went.within;
        stop = subst (λ n. NoStop s.stops n s.board.plain) whole went.none;
        ran = subst (λ n. Ran n s.board u.board) whole went.ran;
      };
      stops = went.stops;
      first = went.first;
      answer_is = is;
    }

-- a piece that finds no memory
early_by : (b n : ℕ) (s t : BoardState) → b ≤ n → StoppedEarly b s t → StoppedEarly n s t
early_by b n s t more early = record {
  passed = early.passed;
  before_end = let before = early.before_end in omega (arith, before, more);
  ran = early.ran;
  changes_next = early.changes_next;
  full = early.full;
}

lacks_on : (count left piece clock : ℕ) (s t : SessionState) (u : BoardState)
    → piece ≤ left → Went count left s t → FindsNoMemory t.stops piece t.board u clock → FindsNoMemory s.stops count s.board u clock
lacks_on count left piece clock s t u few went lacks =
    let less = went.left_is in
    let first = went.ran.clock in
    let second = lacks.early.ran.clock in record {
      within = went.within;
      early =
          early_by (count - left + piece) count s.board u (omega (arith, few, less)) (early_join (count - left) piece s.board t.board u went.ran lacks.early);
      none_passed = subst (λ n. NoStop s.stops n s.board.plain) (omega (arith, first, second))
          (no_stop_add s.stops (count - left) (clock_of u.plain - clock_of t.board.plain) s.board.plain t.board.plain went.ran.plain went.none
          (subst (λ stops. NoStop stops (clock_of u.plain - clock_of t.board.plain) t.board.plain) went.stops lacks.none_passed));
      clock_is = lacks.clock_is;
    }

not_past : (count left piece : ℕ) (s t : SessionState) → piece ≤ left → Went count left s t → 2 ^ 40 < clock_of t.board.plain + piece → ⊥
not_past count left piece s t few went past =
    let less = went.left_is in
    let gone = went.ran.clock in
    let within = went.within in
    omega (arith, less, gone, within, few, past)

pub refuses_go : (count left piece : ℕ) (s t u : SessionState) (fault : DebugFault) → piece ≤ left → Went count left s t
    → RefusesRun t.stops piece t.board u.board fault → u.stops ≡ t.stops → u.first ≡ t.first → RefusesGo count s u fault
refuses_go count left piece s t u ClockLimit few went is stops first = absurd (not_past count left piece s t few went is.0)
refuses_go count left piece s t u BadScan few went is stops first = absurd is
refuses_go count left piece s t u StampsFall few went is stops first = absurd is
refuses_go count left piece s t u BadCommand few went is stops first = absurd is
refuses_go count left piece s t u TooManyStops few went is stops first = absurd is
refuses_go count left piece s t u (Memory None) few went is stops first = absurd is
refuses_go count left piece s t u (Memory (Some clock)) few went is stops first =
    (lacks_on count left piece clock s t u.board few went is, stops ∙ went.stops, first ∙ went.first)
refuses_go count left piece s t u BeforeStart few went is stops first = absurd is
refuses_go count left piece s t u NoCell few went is stops first = absurd is
