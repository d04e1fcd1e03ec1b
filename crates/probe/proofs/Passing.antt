-- What has nothing to do with stops leaves a session's stops as they are.
use Rattle.std.proofs.Common.{◌≡◌, ℕ, List, None, Some, Result, Ok, Err, ap, ◌∙◌, subst}
use Rattle.debugger_meaning.specs.declared.answer.Answer.{Answer}
use Rattle.debugger_meaning.specs.declared.fault.DebugFault.{DebugFault}
use Rattle.debugger_meaning.specs.declared.fault.DebugFault.TheVariants.{BadScan, StampsFall, ClockLimit, BadCommand, TooManyStops, Memory, BeforeStart, NoCell}
use Rattle.board_plain.specs.declared.stop.Condition.{Condition}
use Rattle.std.specs.Prelude.{MatchResult}
use Rattle.debugger_meaning.specs.Back.{GoesBack, GoesBackTo, RefusesBack, RefusesBackTo}
use Rattle.debugger_meaning.specs.Session.{Goes, RefusesGo}
use Rattle.debugger_meaning.specs.Stands.{SessionState}
use Rattle.probe_texts.specs.declared.inquiry.Inquiry.{Inquiry}
use Rattle.probe_texts.specs.declared.inquiry.Inquiry.TheVariants as inquiries
use Rattle.probe_texts.specs.declared.stops.Stop.{Stop}
use Rattle.probe.specs.Making.{AnswersMaking, RefusesMaking}
use Rattle.probe.specs.Probe.{conditions_of, ProbeState, session_of}
use Rattle.probe.specs.InquirySession.{AnswersInquiry}

abbrev same : SessionState → SessionState → Type 0
same s t = t.stops ≡ s.stops

unchanged : (s t : SessionState) → t ≡ s → same s t
unchanged s t is = ap (λ (x : SessionState). x.stops) is

refuses_making : (n : ℕ) (s t : SessionState) (fault : DebugFault) → RefusesMaking n s t fault → same s t
refuses_making n s t ClockLimit is = unchanged s t is.1
refuses_making n s t BadScan is = absurd is
refuses_making n s t StampsFall is = absurd is
refuses_making n s t BadCommand is = absurd is
refuses_making n s t TooManyStops is = absurd is
refuses_making n s t (Memory None) is = absurd is
refuses_making n s t (Memory (Some clock)) is = is.stops
refuses_making n s t BeforeStart is = absurd is
refuses_making n s t NoCell is = absurd is

makes : (n : ℕ) (text : List ℕ) (s t : SessionState) (result : Result Answer DebugFault) → AnswersMaking n text s result t → same s t
makes n text s t (Ok answer) is = is.stops
makes n text s t (Err fault) is = refuses_making n s t fault is

pub inquires : (inquiry : Inquiry) (s t : SessionState) (result : Result Answer DebugFault) → AnswersInquiry inquiry s result t → same s t
inquires inquiries.Chips s t result is = unchanged s t is.1
inquires (inquiries.List lines place count) s t result is = unchanged s t is.1
inquires (inquiries.Counts n) s t result is = makes n _ s t result is
inquires (inquiries.Signals n) s t result is = makes n _ s t result is
inquires (inquiries.Events n kinds) s t result is = makes n _ s t result is
inquires (inquiries.Key code at) s t (Ok answer) is = is.stops
inquires (inquiries.Key code at) s t (Err fault) is = unchanged s t is.1

refuses_back : (n : ℕ) (s t : SessionState) (fault : DebugFault) → RefusesBack n s t fault → same s t
refuses_back n s t ClockLimit is = absurd is
refuses_back n s t BadScan is = absurd is
refuses_back n s t StampsFall is = absurd is
refuses_back n s t BadCommand is = absurd is
refuses_back n s t TooManyStops is = absurd is
refuses_back n s t (Memory None) is = unchanged s t is.1
refuses_back n s t (Memory (Some clock)) is = absurd is
refuses_back n s t BeforeStart is = unchanged s t is.1
refuses_back n s t NoCell is = absurd is

refuses_back_to : (sought : List Condition) (s t : SessionState) (fault : DebugFault) → RefusesBackTo sought s t fault → same s t
refuses_back_to sought s t ClockLimit is = absurd is
refuses_back_to sought s t BadScan is = absurd is
refuses_back_to sought s t StampsFall is = absurd is
refuses_back_to sought s t BadCommand is = absurd is
refuses_back_to sought s t TooManyStops is = absurd is
refuses_back_to sought s t (Memory None) is = unchanged s t is.1
refuses_back_to sought s t (Memory (Some clock)) is = absurd is
refuses_back_to sought s t BeforeStart is = unchanged s t is.1
refuses_back_to sought s t NoCell is = absurd is

-- what the session does by itself for a probe leaves its stops

pub goes_keep : (n : ℕ) (s t : SessionState) (result : Result Answer DebugFault) → MatchResult result (Goes n s t) (RefusesGo n s t) → t.stops ≡ s.stops
goes_keep n s t (Ok answer) is = is.stops
goes_keep n s t (Err fault) is = is.1

pub back_to_keep : (sought : List Condition) (tell : ℕ → ℕ → Answer) (s t : SessionState) (result : Result Answer DebugFault)
    → MatchResult result (GoesBackTo sought tell s t) (RefusesBackTo sought s t) → t.stops ≡ s.stops
back_to_keep sought tell s t (Ok answer) is = is.stops
back_to_keep sought tell s t (Err fault) is = refuses_back_to sought s t fault is

pub back_keep : (n : ℕ) (s t : SessionState) (result : Result Answer DebugFault) → MatchResult result (GoesBack n s t) (RefusesBack n s t) → t.stops ≡ s.stops
back_keep n s t (Ok answer) is = is.stops
back_keep n s t (Err fault) is = refuses_back n s t fault is

-- what is answered by a session is answered so for the probe, whose stops stay
pub passes_on : (Answered : SessionState → SessionState → Type 0) (p : ProbeState) (old new : SessionState) (stops : List Stop)
    → record { first = old.first; board = old.board; stops = stops } ≡ p → old.stops ≡ conditions_of stops → same old new → Answered old new
    → Answered (session_of p) (session_of (record { first = new.first; board = new.board; stops = stops })) × (stops ≡ p.stops)
passes_on Answered p old new stops view is stay answers =
    let old_is : old ≡ session_of p = ap (λ (xs : List Condition). record old { stops = xs }) is ∙ ap session_of view in
    let new_is : new ≡ record new { stops = conditions_of stops } = ap (λ (xs : List Condition). record new { stops = xs }) (stay ∙ is) in (
      subst (λ (s : SessionState). Answered s (record new { stops = conditions_of stops })) old_is (subst (Answered old) new_is answers),
      ap (λ (q : ProbeState). q.stops) view,
    )
