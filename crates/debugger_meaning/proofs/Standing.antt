-- Boards that stand some clocks after a first one.
use Rattle.std.proofs.Common.{◌≡◌, ℕ, ◌+◌, ◌≤◌, inl, inr, List, [], ◌++◌, length, Option, None, Some, Ok, Err, sym, ap, ◌∙◌, subst, arith}
use Rattle.std.specs.Prelude.{◌⊎◌, All, Contains, IfOk, Result}
use Rattle.std.proofs.lemmas.List.{length-append}
use Rattle.std.proofs.lemmas.List.Elements.{All-contains, All-nil, All-same, All-weaker}
use Rattle.board_plain.specs.declared.stop.Condition.{Condition}
use Rattle.board_plain.specs.declared.stop.Stop.{Stop}
use Rattle.board_plain.specs.Board.{BoardState, Ran, StoppedEarly}
use Rattle.board_plain.specs.Plain.{changes_in, clock_of}
use Rattle.board_plain.specs.Stops.{HasAddress, run_length}
use Rattle.board_plain.specs.Trail.{trail_in}
use Rattle.board_plain.proofs.LastEntries.{last_within}
use Rattle.board_plain.proofs.Runs.{ran_none, runs_join}
use Rattle.debugger_meaning.specs.declared.fault.DebugFault.{DebugFault}
use Rattle.debugger_meaning.specs.declared.fault.DebugFault.TheVariants.{BadScan, StampsFall, ClockLimit, BadCommand, TooManyStops, Memory, BeforeStart, NoCell}
use Rattle.debugger_meaning.specs.SessionInvariant.{AreKept, IsSession}
use Rattle.debugger_meaning.specs.Session.{RefusesRun, Runs}
use Rattle.debugger_meaning.specs.Stands.{SessionState, Shown, shown_of, StandsAfter, StandsAt}

-- a board that shows this, without room
abbrev board_of : Shown → BoardState
board_of first = record { plain = first.plain; changes = first.changes; room = 0; trail = first.trail; turns = 0 }

longer : (first : Shown) (n : ℕ) (board : BoardState) → StandsAt n first board → length first.changes ≤ 0 + length board.changes
longer first n board at =
    let size : length board.changes ≡ length first.changes + length (changes_in first.plain n) =
    ap length at.changes ∙ length-append first.changes (changes_in first.plain n) in
    omega (arith, size)

run_of : (first : Shown) (n : ℕ) (board : BoardState) → StandsAt n first board → Ran n (board_of first) board
run_of first n board at = record {
  plain = at.plain;
  clock = at.clock;
  changes = at.changes;
  trail = at.trail;
  room = let more = longer first n board at in omega (arith, more);
}

stands_of : (first : Shown) (n : ℕ) (board : BoardState) → Ran n (board_of first) board → StandsAt n first board
stands_of first n board ran = record { plain = ran.plain; clock = ran.clock; changes = ran.changes; trail = ran.trail }

pub few_of : (first : Shown) (board : BoardState) → StandsAfter first board → length board.trail ≤ 32
few_of first board at = subst (λ xs. length xs ≤ 32) (sym at.1.trail) (last_within 32 (first.trail ++ trail_in first.plain at.0))

pub stands_none : (first : Shown) (board : BoardState) → shown_of board ≡ first → length board.trail ≤ 32 → StandsAfter first board
stands_none first board is few =
    subst (λ (f : Shown). StandsAfter f board) is
    (let ran = ran_none board few in (0, record { plain = ran.plain; clock = ran.clock; changes = ran.changes; trail = ran.trail }))

pub stands_on : (first : Shown) (n k : ℕ) (b c : BoardState) → StandsAt n first b → Ran k b c → StandsAt (n + k) first c
stands_on first n k b c at ran = stands_of first (n + k) c (runs_join n k (board_of first) b c (run_of first n b at) ran)

pub stands_later : (first : Shown) (k : ℕ) (b c : BoardState) → StandsAfter first b → Ran k b c → StandsAfter first c
stands_later first k b c at ran = (at.0 + k, stands_on first at.0 k b c at.1 ran)

-- a run that found no memory has made some clocks, too
pub stands_early : (first : Shown) (k : ℕ) (b c : BoardState) → StandsAfter first b → StoppedEarly k b c → StandsAfter first c
stands_early first k b c at early = stands_later first early.passed b c at early.ran

pub stands_refused : (first : Shown) (stops : List Condition) (k : ℕ) (b c : BoardState) (fault : DebugFault)
    → StandsAfter first b → RefusesRun stops k b c fault → StandsAfter first c
stands_refused first stops k b c ClockLimit at is = subst (StandsAfter first) (sym is.1) at
stands_refused first stops k b c BadScan at is = absurd is
stands_refused first stops k b c StampsFall at is = absurd is
stands_refused first stops k b c BadCommand at is = absurd is
stands_refused first stops k b c TooManyStops at is = absurd is
stands_refused first stops k b c (Memory None) at is = absurd is
stands_refused first stops k b c (Memory (Some clock)) at is = stands_early first k b c at is.early
stands_refused first stops k b c BeforeStart at is = absurd is
stands_refused first stops k b c NoCell at is = absurd is

-- a board that shows the same stands at the same clock
pub stands_same : (first : Shown) (b c : BoardState) → shown_of c ≡ shown_of b → StandsAfter first b → StandsAfter first c
stands_same first b c is at = (
  at.0,
  record {
    plain = ap (λ (s : Shown). s.plain) is ∙ at.1.plain;
    clock = ap (λ (s : Shown). clock_of s.plain) is ∙ at.1.clock;
    changes = ap (λ (s : Shown). s.changes) is ∙ at.1.changes;
    trail = ap (λ (s : Shown). s.trail) is ∙ at.1.trail;
  },
)

kept_stands : (first : Shown) (old : List BoardState) (board kept : BoardState)
    → All (StandsAfter first) old → StandsAfter first board → Contains old kept ⊎ (shown_of kept ≡ shown_of board) → StandsAfter first kept
kept_stands first old board kept all at (inl there) = All-contains (StandsAfter first) old kept all there
kept_stands first old board kept all at (inr same) = stands_same first board kept same at

pub all_stand : (first : Shown) (old new : List BoardState) (board : BoardState)
    → All (StandsAfter first) old → StandsAfter first board → AreKept old board new → All (StandsAfter first) new
all_stand first old new board all at are =
    All-weaker (λ (kept : BoardState). Contains old kept ⊎ (shown_of kept ≡ shown_of board))
    (StandsAfter first) (λ kept is. kept_stands first old board kept all at is) new are

pub copied : (first : Shown) (board : BoardState) (result : Result BoardState DebugFault)
    → IfOk result (λ copy. shown_of copy ≡ shown_of board) → StandsAfter first board → IfOk result (StandsAfter first)
copied first board (Ok copy) same at = stands_same first board copy same at
copied first board (Err fault) same at = tt

pub kept_stand : (first board : BoardState) (kept : List BoardState) (stops : List Condition) (s : SessionState) (one : BoardState)
    → record { first = shown_of first; board = board; stops = stops } ≡ s → IsSession first board kept stops → Contains kept one → StandsAfter s.first one
kept_stand first board kept stops s one is all there =
    subst (λ (s : SessionState). StandsAfter s.first one) is (All-contains (StandsAfter (shown_of first)) kept one all.copies there)

pub first_stands : (first board : BoardState) (kept : List BoardState) (stops : List Condition) (s : SessionState)
    → record { first = shown_of first; board = board; stops = stops } ≡ s → length first.trail ≤ 32 → StandsAfter s.first first
first_stands first board kept stops s is few = stands_none s.first first (ap (λ (s : SessionState). s.first) is) few

pub new_session : (first board : BoardState) (kept : List BoardState) (stops : List Condition)
    → shown_of first ≡ shown_of board → length board.trail ≤ 32 → kept ≡ [] → stops ≡ [] → IsSession first board kept stops
new_session first board kept stops same few none no_stops = record {
  addresses = All-same HasAddress stops [] no_stops (All-nil HasAddress);
  stands = stands_none (shown_of first) board (sym same) few;
  copies = All-same (StandsAfter (shown_of first)) kept [] none (All-nil (StandsAfter (shown_of first)));
}

-- a session whose board is another one
pub at_board : (first board next : BoardState) (kept : List BoardState) (stops : List Condition)
    → IsSession first board kept stops → StandsAfter (shown_of first) next → IsSession first next kept stops
at_board first board next kept stops all at = record { addresses = all.addresses; stands = at; copies = all.copies }

pub after_refusal : (first board next : BoardState) (kept : List BoardState) (stops sought : List Condition) (count : ℕ) (fault : DebugFault)
    → IsSession first board kept stops → RefusesRun sought count board next fault → IsSession first next kept stops
after_refusal first board next kept stops sought count fault all is =
    at_board first board next kept stops all (stands_refused (shown_of first) sought count board next fault all.stands is)

pub after_run : (first board next : BoardState) (kept more : List BoardState) (stops sought : List Condition) (count : ℕ) (stopped : Option Stop)
    → IsSession first board kept stops → Runs sought count board next stopped → AreKept kept next more → IsSession first next more stops
after_run first board next kept more stops sought count stopped all runs are =
    let at : StandsAfter (shown_of first) next = stands_later (shown_of first) (run_length count board.plain stopped) board next all.stands runs.ran in
    record { addresses = all.addresses; stands = at; copies = all_stand (shown_of first) kept more next all.copies at are }

-- a session after a turn of the board, after which the board may be kept
pub after_turn : (first board next : BoardState) (kept : List BoardState) (stops : List Condition) (n : ℕ)
    → IsSession first board kept stops → Ran n board next → IsSession first next kept stops
after_turn first board next kept stops n all ran = at_board first board next kept stops all (stands_later (shown_of first) n board next all.stands ran)

pub after_keeping : (first board : BoardState) (kept more : List BoardState) (stops : List Condition)
    → IsSession first board kept stops → AreKept kept board more → IsSession first board more stops
after_keeping first board kept more stops all are =
    record { addresses = all.addresses; stands = all.stands; copies = all_stand (shown_of first) kept more board all.copies all.stands are }

pub earlier : (first board : BoardState) → StandsAfter (shown_of first) board → clock_of first.plain ≤ clock_of board.plain
earlier first board at = let clock = at.1.clock in omega (arith, clock)
