use Rattle.std.proofs.Common.{◌≡◌, ◌-◌, sym, ap, ◌∙◌, subst, arith}
use Rattle.std.specs.Prelude.{MatchResult}
use Rattle.board_plain.specs.Board.{BoardState}
use Rattle.board_plain.specs.Plain.{clock_of}
use Rattle.debugger_meaning.specs.Stands.{SessionState}
use Rattle.probe.specs.Probe.{GoesBackToStop, ProbeState, RefusesBackToStop}
use Rattle.probe.specs.Watched.{stops_of}
use Rattle.probe.proofs.Passing.{back_keep}
use Rattle.probe.proofs.Probes.{goes_back_found, probe_of, refuses_back_found}
use Rattle.probe.proofs.probe.Probe.go_back_to.Goals as goal
use Rattle.probe.proofs.probe.Probe.go_back_to.Goals.{in-Ok, in-Err}

pub overflow_sub-count : goal.overflow_sub-count
overflow_sub-count c =
    let last = c.requires.last in
    let within = last.within in
    let place = last.clock_is in
    let now : c.get.result ≡ clock_of c.args.self.now.board.plain =
    c.get.ensures.value ∙ c.clock.ensures ∙ ap (λ (b : BoardState). clock_of b.plain) c.board.ensures.board
    ∙ ap (λ (p : ProbeState). clock_of p.board.plain) c.self.view_is in
    omega (arith, within, place, now, c.get-2.ensures.value)

pub back-requires : goal.back-requires
back-requires c =
    let last = c.requires.last in
    let within = last.within in
    let place = last.clock_is in
    let now : c.get.result ≡ clock_of c.args.self.now.board.plain =
    c.get.ensures.value ∙ c.clock.ensures ∙ ap (λ (b : BoardState). clock_of b.plain) c.board.ensures.board
    ∙ ap (λ (p : ProbeState). clock_of p.board.plain) c.self.view_is in
    omega (arith, within, place, now, c.get-2.ensures.value)

pub invariant_of-self : goal.invariant_of-self
invariant_of-self c = record {
  conditions = back_keep (c.get.result - c.get-2.result) c.self.inside.session c.back.new.self c.back.result c.back.ensures ∙ c.self.invariant.conditions;
  watched = c.self.invariant.watched;
}

pub returns : goal.returns
returns c =
    let p : ProbeState = c.args.self.now in
    let session : SessionState = c.back.new.self in
    let stops = stops_of c.self.inside.watches.items in
    let now : c.get.result ≡ clock_of c.self.inside.session.board.plain =
    c.get.ensures.value ∙ c.clock.ensures ∙ ap (λ (b : BoardState). clock_of b.plain) c.board.ensures.board in
    let count : c.get.result - c.get-2.result ≡ clock_of c.self.inside.session.board.plain - c.args.clock = omega (arith, now, c.get-2.ensures.value) in
    elim c.match-back.branch [
      | in-Ok w ↦ subst (λ r. MatchResult r (GoesBackToStop p (probe_of session stops)) (RefusesBackToStop p (probe_of session stops))) (sym w.result-is)
          (goes_back_found p (c.get.result - c.get-2.result) c.args.clock c.args.number
          c.self.inside.session session stops w.in-Ok.answer c.self.view_is c.requires.last count w.in-Ok.ensures)
      | in-Err w ↦ subst (λ r. MatchResult r (GoesBackToStop p (probe_of session stops)) (RefusesBackToStop p (probe_of session stops))) (sym w.result-is)
          (refuses_back_found p (c.get.result - c.get-2.result) c.args.clock c.args.number
          c.self.inside.session session stops w.in-Err.fault c.self.view_is c.requires.last c.requires.some count w.in-Err.ensures)
    ]
