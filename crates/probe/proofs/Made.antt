-- Runs of some clocks, whatever the stops are, of which a visitor sees each turn.
use Rattle.std.proofs.Common.{◌≡◌, Bool, ℕ, ◌+◌, ◌≤◌, ◌^◌, not, List, Option, Some, Result, Ok, Err, refl, sym, ◌∙◌, subst, arith}
use Rattle.std.specs.Prelude.{MatchResult, length}
use Rattle.board_plain.proofs.Runs.{ran_none, runs_join}
use Rattle.board_plain.specs.Board.{BoardState, Ran}
use Rattle.board_plain.specs.Plain.{clock_of}
use Rattle.board.specs.declared.one_turn.Begun.{Begun}
use Rattle.board.specs.OneTurn.{IsOneTurn}
use Rattle.board.proofs.OneTurn.{MostTurns, more_turns, no_turns}
use Rattle.debugger_meaning.specs.declared.answer.Answer.{Answer}
use Rattle.debugger_meaning.specs.declared.fault.DebugFault.{DebugFault}
use Rattle.debugger_meaning.specs.declared.fault.DebugFault.TheVariants.{Memory}
use Rattle.debugger_meaning.specs.Session.{IsText}
use Rattle.debugger_meaning.specs.Stands.{SessionState}
use Rattle.probe.specs.declared.seen.Turn.{Turn}
use Rattle.probe.specs.Making.{AnswersMaking, FewTurns, HasMade, RefusesMaking}
use Rattle.probe.specs.Seen.{IsMade, next_turn, seen_of}
use Rattle.probe.proofs.Counting.{stands_short}
use Rattle.probe.proofs.Turns.{next_of, one_of}

-- some clocks have passed, at most up to the clock `end`, and were seen
pub record Making (saw : ℕ → Type 0) (end : ℕ) (s t : SessionState) : Type 0 where
  pub passed : ℕ
  pub ran : Ran passed s.board t.board
  pub stops : t.stops ≡ s.stops
  pub first : t.first ≡ s.first
  pub within : clock_of t.board.plain ≤ end
  pub turns : MostTurns 1 end s.board t.board passed
  pub seen : saw passed

few : {end : ℕ} {s t : BoardState} (n : ℕ) → MostTurns 1 end s t n → FewTurns n s t
few n turns = let whole = turns.whole in omega (arith, whole)

pub none_made : (saw : ℕ → Type 0) (end : ℕ) (s : SessionState) → length s.board.trail ≤ 32 → clock_of s.board.plain ≤ end → saw 0 → Making saw end s s
none_made saw end s few within seen =
    record { passed = 0; ran = ran_none s.board few; stops = refl; first = refl; within = within; turns = no_turns end s.board; seen = seen }

pub more_made : {edges : Bool} {begun : Option Begun} (saw : ℕ → Type 0) (end : ℕ) (s t u : SessionState) (n k : ℕ)
    → clock_of t.board.plain ≤ end → MostTurns 1 end s.board t.board n → Ran n s.board t.board → t.stops ≡ s.stops → t.first ≡ s.first
    → (turn : IsOneTurn edges end end t.board u.board begun) → k ≡ turn.passed → u.stops ≡ t.stops → u.first ≡ t.first → saw (n + k) → Making saw end s u
more_made saw end s t u n k within turns ran stops_were first_was turn is stops first seen =
    let before_end = turn.before_end in
    let clock = turn.ran.clock in record {
      passed = n + turn.passed;
      ran = runs_join n turn.passed s.board t.board u.board ran turn.ran;
      stops = stops ∙ stops_were;
      first = first ∙ first_was;
      within = omega (arith, before_end, clock);
      turns = more_turns end 1 end n s.board t.board u.board turns ran turn;
      seen = subst (λ j. saw (n + j)) is seen;
    }

pub all_made : (saw : ℕ → Type 0) (n end : ℕ) (s t : SessionState) → (so_far : Making saw end s t) → end ≡ clock_of s.board.plain + n
    → end ≤ clock_of t.board.plain → clock_of s.board.plain + n ≤ 2 ^ 40 → HasMade n s t end × saw n
all_made saw n end s t so_far is past limit =
    let clock = so_far.ran.clock in
    let within = so_far.within in
    let all : so_far.passed ≡ n = omega (arith, clock, within, is, past) in (
      record {
        within = limit;
        ran = subst (λ k. Ran k s.board t.board) all so_far.ran;
        turns = subst (λ k. FewTurns k s.board t.board) all (few so_far.passed (so_far.turns));
        stops = so_far.stops;
        first = so_far.first;
        end_is = is;
      },
      subst saw all so_far.seen,
    )

-- a turn more was made, of which nothing is seen
pub short_after : {edges : Bool} {begun : Option Begun} (saw : ℕ → Type 0) (n end : ℕ) (s t u : SessionState) (fault : DebugFault)
    → (so_far : Making saw end s t) → (turn : IsOneTurn edges end end t.board u.board begun) → u.stops ≡ t.stops → u.first ≡ t.first
    → end ≡ clock_of s.board.plain + n → clock_of s.board.plain + n ≤ 2 ^ 40 → fault ≡ Memory (Some (clock_of u.board.plain)) → RefusesMaking n s u fault
short_after saw n end s t u fault so_far turn stops first is limit lacks =
    let clock = so_far.ran.clock in
    let before_end = turn.before_end in
    let turns = more_turns end 1 end so_far.passed s.board t.board u.board so_far.turns so_far.ran turn in
    stands_short n (so_far.passed + turn.passed) s u fault (few (so_far.passed + turn.passed) turns) limit (omega (arith, clock, before_end, is))
    (runs_join so_far.passed turn.passed s.board t.board u.board so_far.ran turn.ran) (stops ∙ so_far.stops) (first ∙ so_far.first) lacks

-- a turn with what was seen of both its ends
pub made_next : (turn new : Turn) (begun : Option Begun) (t u b : BoardState) (end : ℕ) → new ≡ next_turn turn begun b.plain
    → turn.after ≡ seen_of turn.asked t.plain → b ≡ u → IsOneTurn (not turn.asked.wires) end end t u begun → IsMade new t b
made_next turn new begun t u b end is seen here one =
    let after = next_of turn new begun t.plain b.plain is seen in record {
      within = end;
      end = end;
      one = subst (λ (v : BoardState). IsOneTurn (not new.asked.wires) end end t v new.begun) (sym here)
          (one_of turn new begun b.plain end end t u is one);
      before = after.before;
      after = after.after;
    }

-- the text of what was made is shown, or there was no memory for it
pub shows_made : (n end : ℕ) (s t : SessionState) (text : List ℕ) (result : Result Answer DebugFault) → HasMade n s t end
    → MatchResult result (IsText text) (λ fault. fault ≡ Memory (Some (clock_of t.board.plain))) → AnswersMaking n text s result t
shows_made n end s t text (Ok answer) made shown =
    record { within = made.within; ran = made.ran; turns = made.turns; stops = made.stops; first = made.first; shows = shown }
shows_made n end s t text (Err fault) made shown =
    stands_short n n s t fault made.turns made.within (omega arith) made.ran made.stops made.first shown
