-- A probe's board is the one with which it began some clocks later, whatever lines it answers.
use Rattle.std.proofs.Common.{◌≡◌, ℕ, ◌+◌, List, [], ◌∷◌, ◌++◌, length, Option, None, Some, Result, Ok, Err, refl, sym, ap, ◌∙◌, subst, arith}
use Rattle.board_types.specs.declared.keys.StampedKey.{StampedKey}
use Rattle.board_plain.specs.Board.{BoardState}
use Rattle.board_plain.specs.Plain.{clock_of}
use Rattle.debugger_meaning.specs.declared.answer.Answer.{Answer}
use Rattle.debugger_meaning.specs.declared.fault.DebugFault.{DebugFault}
use Rattle.debugger_meaning.specs.declared.fault.DebugFault.TheVariants.{BadScan, StampsFall, ClockLimit, BadCommand, TooManyStops, Memory, BeforeStart, NoCell}
use Rattle.debugger_meaning.specs.Stands.{SessionState, Shown, shown_of, StandsAfter, StandsAt}
use Rattle.debugger_meaning.proofs.Standing.{stands_early, stands_later, stands_none}
use Rattle.std.proofs.lemmas.List.Sums.{fold-append}
use Rattle.events.specs.WithKey.{with_key}
use Rattle.debugger_meaning.proofs.Walking.{same_first, same_state, StandsFrom, still_stands}
use Rattle.debugger.proofs.Adding.{stands_after_with}
use Rattle.probe_texts.specs.declared.inquiry.Inquiry.{Inquiry}
use Rattle.probe_texts.specs.declared.inquiry.Inquiry.TheVariants as inquiries
use Rattle.probe_texts.specs.declared.stops.Request.{Request}
use Rattle.probe_texts.specs.declared.stops.Request.TheVariants.{Add, Go, BackStop, Try, Inquire, Do}
use Rattle.probe_texts.specs.declared.stops.Stop.{Stop}
use Rattle.probe.specs.ProbeLaws.{key_typed, ProbesStand, shown_with, Walk}
use Rattle.probe.specs.Making.{AnswersMaking, RefusesMaking}
use Rattle.probe.specs.Probe.{AnswersRequest, AnswersRequested, probe_about, ProbeState, RefusesBackToStop, RefusesGoing, RefusesStop, session_of}
use Rattle.probe_texts.specs.Requests.{request_of}
use Rattle.probe.specs.InquirySession.{AnswersInquiry}
use Rattle.probe.specs.Typed.{Takes}

-- clocks that are made

stands_further : (first : Shown) (k : ℕ) (b c : BoardState) → StandsAfter first b → StandsAt k (shown_of b) c → StandsAfter first c
stands_further first k b c at further =
    let on = stands_later first k b (record c { room = b.room + length b.changes }) at
    (record { plain = further.plain; clock = further.clock; changes = further.changes; trail = further.trail; room = omega arith }) in
    (on.0, record { plain = on.1.plain; clock = on.1.clock; changes = on.1.changes; trail = on.1.trail })

own : (first : Shown) (s : SessionState) → StandsFrom first s → StandsAfter s.first s.board
own first s at = subst (λ (f : Shown). StandsAfter f s.board) (sym at.0) at.1

short : (first : Shown) (n : ℕ) (s t : SessionState) (fault : DebugFault) → StandsFrom first s → RefusesMaking n s t fault → StandsFrom first t
short first n s t ClockLimit at is = same_state first s t at is.1
short first n s t BadScan at is = absurd is
short first n s t StampsFall at is = absurd is
short first n s t BadCommand at is = absurd is
short first n s t TooManyStops at is = absurd is
short first n s t (Memory None) at is = absurd is
short first n s t (Memory (Some clock)) at is = same_first first s t at is.first (stands_further s.first is.passed s.board t.board (own first s at) is.stands)
short first n s t BeforeStart at is = absurd is
short first n s t NoCell at is = absurd is

makes : (first : Shown) (n : ℕ) (text : List ℕ) (s t : SessionState) (result : Result Answer DebugFault)
    → StandsFrom first s → AnswersMaking n text s result t → StandsFrom first t
makes first n text s t (Ok answer) at is = same_first first s t at is.first (stands_later s.first n s.board t.board (own first s at) is.ran)
makes first n text s t (Err fault) at is = short first n s t fault at is

-- what a line leads to: the first board has the key that it types

abbrev Leads : Shown → List StampedKey → SessionState → Type 0
Leads first keys t = (t.first ≡ shown_with first keys) × StandsAfter t.first t.board

no_keys : (first : Shown) (t : SessionState) → StandsFrom first t → Leads first [] t
no_keys first t at = (at.0, subst (λ (f : Shown). StandsAfter f t.board) (sym at.0) at.1)

takes : (first : Shown) (key : StampedKey) (s t : SessionState) (answer : Answer) → StandsFrom first s → Takes key s t answer → Leads first (key ∷ []) t
takes first key s t answer at is = (
  is.first ∙ ap (λ (f : Shown). record f { plain = with_key f.plain key }) at.0,
  subst (λ (f : Shown). StandsAfter f t.board) (sym is.first)
      (subst (StandsAfter (record s.first { plain = with_key s.first.plain key }))
      (sym is.board) (stands_after_with s.first s.board key is.to_come.later (own first s at))),
)

inquires : (first : Shown) (inquiry : Inquiry) (s t : SessionState) (result : Result Answer DebugFault)
    → StandsFrom first s → AnswersInquiry inquiry s result t → Leads first (key_typed (Some (Inquire inquiry)) (clock_of s.board.plain) result) t
inquires first inquiries.Chips s t result at is = no_keys first t (same_state first s t at is.1)
inquires first (inquiries.List lines place count) s t result at is = no_keys first t (same_state first s t at is.1)
inquires first (inquiries.Counts n) s t result at is = no_keys first t (makes first n _ s t result at is)
inquires first (inquiries.Signals n) s t result at is = no_keys first t (makes first n _ s t result at is)
inquires first (inquiries.Events n kinds) s t result at is = no_keys first t (makes first n _ s t result at is)
inquires first (inquiries.Key code stamp) s t (Ok answer) at is = takes first _ s t answer at is
inquires first (inquiries.Key code stamp) s t (Err fault) at is = no_keys first t (same_state first s t at is.1)

-- stops

abbrev same_session : (s t : ProbeState) → t ≡ s → session_of t ≡ session_of s
same_session s t is = ap session_of is

refuses_stop : (first : Shown) (stop : Stop) (s t : ProbeState) (fault : DebugFault)
    → StandsFrom first (session_of s) → RefusesStop stop s t fault → StandsFrom first (session_of t)
refuses_stop first stop s t ClockLimit at is = absurd is
refuses_stop first stop s t BadScan at is = absurd is
refuses_stop first stop s t StampsFall at is = absurd is
refuses_stop first stop s t BadCommand at is = absurd is
refuses_stop first stop s t TooManyStops at is = same_state first (session_of s) (session_of t) at (same_session s t is.1)
refuses_stop first stop s t (Memory None) at is = same_state first (session_of s) (session_of t) at (same_session s t is.2)
refuses_stop first stop s t (Memory (Some clock)) at is = absurd is
refuses_stop first stop s t BeforeStart at is = absurd is
refuses_stop first stop s t NoCell at is = absurd is

refuses_going : (first : Shown) (n : ℕ) (s t : ProbeState) (fault : DebugFault)
    → StandsFrom first (session_of s) → RefusesGoing n s t fault → StandsFrom first (session_of t)
refuses_going first n s t ClockLimit at is = same_state first (session_of s) (session_of t) at (same_session s t is.1)
refuses_going first n s t BadScan at is = absurd is
refuses_going first n s t StampsFall at is = absurd is
refuses_going first n s t BadCommand at is = absurd is
refuses_going first n s t TooManyStops at is = absurd is
refuses_going first n s t (Memory None) at is = absurd is
refuses_going first n s t (Memory (Some clock)) at is =
    same_first first (session_of s) (session_of t) at is.first (stands_early s.first n s.board t.board (own first (session_of s) at) is.early)
refuses_going first n s t BeforeStart at is = absurd is
refuses_going first n s t NoCell at is = absurd is

refuses_back : (first : Shown) (s t : ProbeState) (fault : DebugFault)
    → StandsFrom first (session_of s) → RefusesBackToStop s t fault → StandsFrom first (session_of t)
refuses_back first s t ClockLimit at is = absurd is
refuses_back first s t BadScan at is = absurd is
refuses_back first s t StampsFall at is = absurd is
refuses_back first s t BadCommand at is = absurd is
refuses_back first s t TooManyStops at is = absurd is
refuses_back first s t (Memory None) at is = same_state first (session_of s) (session_of t) at (same_session s t is.1)
refuses_back first s t (Memory (Some clock)) at is = absurd is
refuses_back first s t BeforeStart at is = same_state first (session_of s) (session_of t) at (same_session s t is.1)
refuses_back first s t NoCell at is = absurd is

adds_stop : (first : Shown) (stop : Stop) (s t : ProbeState) (result : Result Answer DebugFault)
    → StandsFrom first (session_of s) → AnswersRequest (Add stop) s result t → StandsFrom first (session_of t)
adds_stop first stop s t (Ok answer) at is =
    same_first first (session_of s) (session_of t) at is.first (subst (StandsAfter s.first) (sym is.board) (own first (session_of s) at))
adds_stop first stop s t (Err fault) at is = refuses_stop first stop s t fault at is

goes : (first : Shown) (n : ℕ) (s t : ProbeState) (result : Result Answer DebugFault)
    → StandsFrom first (session_of s) → AnswersRequest (Go n) s result t → StandsFrom first (session_of t)
goes first n s t (Ok answer) at is =
    same_first first (session_of s) (session_of t) at is.first (stands_later s.first _ s.board t.board (own first (session_of s) at) is.ran)
goes first n s t (Err fault) at is = refuses_going first n s t fault at is

goes_back : (first : Shown) (s t : ProbeState) (result : Result Answer DebugFault)
    → StandsFrom first (session_of s) → AnswersRequest BackStop s result t → StandsFrom first (session_of t)
goes_back first s t (Ok answer) at is = same_first first (session_of s) (session_of t) at is.first (is.last.passed, is.stands)
goes_back first s t (Err fault) at is = refuses_back first s t fault at is

pub answered : (first : Shown) (request : Option Request) (s t : ProbeState) (result : Result Answer DebugFault)
    → StandsFrom first (session_of s) → AnswersRequested request s result t
    → Leads first (key_typed request (clock_of s.board.plain) result) (session_of t)
answered first None s t result at is = no_keys first (session_of t) (same_state first (session_of s) (session_of t) at (same_session s t is.1))
answered first (Some (Inquire inquiry)) s t result at is = inquires first inquiry (session_of s) (session_of t) result at is.0
answered first (Some (Do command)) s t result at is =
    no_keys first (session_of t) (still_stands first command (session_of s) (session_of t) result at is.0)
answered first (Some (Add stop)) s t result at is = no_keys first (session_of t) (adds_stop first stop s t result at is)
answered first (Some (Go n)) s t result at is = no_keys first (session_of t) (goes first n s t result at is)
answered first (Some BackStop) s t result at is = no_keys first (session_of t) (goes_back first s t result at is)
answered first (Some (Try trial)) s t result at is =
    no_keys first (session_of t) (same_state first (session_of s) (session_of t) at (same_session s t is.1))

-- lines

with_more : (first : Shown) (some more : List StampedKey) → shown_with (shown_with first some) more ≡ shown_with first (some ++ more)
with_more first some more = ap (λ p. record first { plain = p }) (sym (fold-append with_key first.plain some more))

through : (lines : List (List ℕ)) (keys : List StampedKey) (first : Shown) (s t : ProbeState)
    → StandsFrom first (session_of s) → Walk lines keys s t → Leads first keys (session_of t)
through [] keys first s t at walk =
    subst (λ ks. Leads first ks (session_of t)) (sym walk.1)
    (no_keys first (session_of t) (same_state first (session_of s) (session_of t) at (same_session s t walk.0)))
through (line ∷ lines) keys first s t at walk =
    let typed : List StampedKey = key_typed (request_of line) (clock_of s.board.plain) walk.result in
    let led = answered first (request_of line) s walk.next walk.result at walk.answers in
    let rest =
    through lines walk.later (shown_with first typed) walk.next t (led.0, subst (λ (f : Shown). StandsAfter f walk.next.board) led.0 led.1) walk.after in
    (rest.0 ∙ with_more first typed walk.later ∙ ap (shown_with first) (sym walk.are), rest.1)

pub probes_stand : ProbesStand
probes_stand lines keys board new few walk =
    through lines keys (shown_of board) (probe_about board) new (refl, stands_none (shown_of board) board refl few) walk
