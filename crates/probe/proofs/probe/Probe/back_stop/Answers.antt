use Rattle.std.proofs.Common.{◌≡◌, ◌≤◌, length, true, false, sym, ap, ◌∙◌, subst}
use Rattle.std.specs.Prelude.{MatchResult}
use Rattle.std.specs.List.{list_all}
use Rattle.debugger_meaning.specs.declared.answer.Answer.TheVariants as answers
use Rattle.probe.specs.Probe.{gone_by, GoesBackToStop, ProbeState, RefusesBackToStop, session_of}
use Rattle.probe.specs.ProbeStops.{MetLast}
use Rattle.probe_texts.specs.Requests.{is_standing}
use Rattle.probe.specs.Watched.{all_standing, stops_of}
use Rattle.probe.proofs.Copies.{standing_is}
use Rattle.probe.proofs.Passing.{back_to_keep}
use Rattle.probe.proofs.Probes.{finds_no_stop, goes_back_standing, probe_of, some_stops}
use Rattle.probe.proofs.probe.Probe.back_stop.Goals as goal

pub invariant_of-self : goal.invariant_of-self
invariant_of-self c = record {
  conditions = back_to_keep c.self.inside.session.stops answers.StopAt c.self.inside.session c.back_stop.new.self c.back_stop.result c.back_stop.ensures
      ∙ c.self.invariant.conditions;
  watched = c.self.invariant.watched;
}

pub returns-then-all_stand : goal.returns-then-all_stand
returns-then-all_stand c =
    let stops = stops_of c.self.inside.watches.items in
    let all : list_all is_standing stops ≡ true =
    standing_is c.self.inside.watches.items ∙ ap all_standing (sym c.as_slice.ensures.value) ∙ sym c.all_stand.ensures ∙ c.if-all_stand.true in
    subst (λ (p : ProbeState).
    MatchResult c.back_stop.result (GoesBackToStop p (probe_of c.back_stop.new.self stops)) (RefusesBackToStop p (probe_of c.back_stop.new.self stops)))
    c.self.view_is (goes_back_standing c.self.inside.session c.back_stop.new.self stops c.back_stop.result all c.self.invariant.conditions c.back_stop.ensures)

pub go_back_to-requires-clause-last : goal.go_back_to-requires-clause-last
go_back_to-requires-clause-last c =
    subst (λ (p : ProbeState). MetLast p.stops (gone_by p) p.first.plain c.in-Ok.found.0 c.in-Ok.found.1) (sym c.last_met.ensures.kept) c.in-Ok.ensures.found

pub go_back_to-requires-clause-some : goal.go_back_to-requires-clause-some
go_back_to-requires-clause-some c =
    let stops = stops_of c.self.inside.watches.items in
    let not_all : list_all is_standing stops ≡ false =
    standing_is c.self.inside.watches.items ∙ ap all_standing (sym c.as_slice.ensures.value) ∙ sym c.all_stand.ensures ∙ c.if-all_stand.false in
    let some : 1 ≤ length c.args.self.now.stops = subst (λ (p : ProbeState). 1 ≤ length p.stops) c.self.view_is (some_stops stops not_all) in
    subst (λ (p : ProbeState). 1 ≤ length p.stops) (sym c.last_met.ensures.kept) some

pub returns-in-Ok : goal.returns-in-Ok
returns-in-Ok c =
    subst (λ (p : ProbeState). MatchResult c.go_back_to.result (GoesBackToStop p c.go_back_to.new.self) (RefusesBackToStop p c.go_back_to.new.self))
    c.last_met.ensures.kept c.go_back_to.ensures

pub returns-in-Err : goal.returns-in-Err
returns-in-Err c =
    let stops = stops_of c.self.inside.watches.items in
    let not_all : list_all is_standing stops ≡ false =
    standing_is c.self.inside.watches.items ∙ ap all_standing (sym c.as_slice.ensures.value) ∙ sym c.all_stand.ensures ∙ c.if-all_stand.false in
    let some : 1 ≤ length c.args.self.now.stops = subst (λ (p : ProbeState). 1 ≤ length p.stops) c.self.view_is (some_stops stops not_all) in
    subst (λ (p : ProbeState). RefusesBackToStop c.args.self.now p c.in-Err.fault) (sym c.last_met.ensures.kept)
    (finds_no_stop (session_of c.args.self.now) c.args.self.now.stops c.in-Err.fault some c.in-Err.ensures.found)
