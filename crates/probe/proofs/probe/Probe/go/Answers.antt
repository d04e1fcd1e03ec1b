use Rattle.std.proofs.Common.{◌≡◌, ◌+◌, ◌≤◌, ◌^◌, All, true, refl, sym, ap, ◌∙◌, subst, arith}
use Rattle.std.specs.Prelude.{MatchResult}
use Rattle.std.specs.List.{list_all}
use Rattle.arrayvec.specs.ArrayVec.{with_items}
use Rattle.board_plain.specs.Board.{BoardState}
use Rattle.board_plain.specs.Plain.{clock_of}
use Rattle.probe.specs.Probe.{GoesOn, ProbeState, RefusesGoing}
use Rattle.probe_texts.specs.Requests.{is_standing}
use Rattle.probe.specs.Watched.{all_standing, IsWatched, stops_of}
use Rattle.probe.specs.Looked.{answer_at}
use Rattle.probe.proofs.Copies.{standing_is}
use Rattle.probe.proofs.Counting.{ends_at}
use Rattle.probe.proofs.Passing.{goes_keep}
use Rattle.probe.proofs.Probes.{goes_standing, goes_with, probe_of, probe_with, short_with}
use Rattle.probe.proofs.probe.Probe.go.Goals as goal
use Rattle.probe.proofs.probe.Probe.go.Goals.{in-Ok, in-Err}

pub invariant_of-self : goal.invariant_of-self
invariant_of-self c = record {
  conditions = goes_keep c.args.count c.self.inside.session c.go.new.self c.go.result c.go.ensures ∙ c.self.invariant.conditions;
  watched = c.self.invariant.watched;
}

pub returns-then-all_stand : goal.returns-then-all_stand
returns-then-all_stand c =
    let stops = stops_of c.self.inside.watches.items in
    let all : list_all is_standing stops ≡ true =
    standing_is c.self.inside.watches.items ∙ ap all_standing (sym c.as_slice.ensures.value) ∙ sym c.all_stand.ensures ∙ c.if-all_stand.true in
    subst (λ (p : ProbeState).
    MatchResult c.go.result (GoesOn c.args.count p (probe_of c.go.new.self stops)) (RefusesGoing c.args.count p (probe_of c.go.new.self stops)))
    c.self.view_is (goes_standing c.args.count c.self.inside.session c.go.new.self stops c.go.result all c.self.invariant.conditions c.go.ensures)

pub returns-then-start-count : goal.returns-then-start-count
returns-then-start-count c =
    let start : c.get-start.result ≡ clock_of c.args.self.now.board.plain =
    c.get-start.ensures.value ∙ c.clock.ensures ∙ ap (λ (b : BoardState). clock_of b.plain) c.board.ensures.board
    ∙ ap (λ (p : ProbeState). clock_of p.board.plain) c.self.view_is in
    (omega (arith, c.if-start-count.true, start), refl)

pub run_to_stop-requires-clause-within : goal.run_to_stop-requires-clause-within
run_to_stop-requires-clause-within c = subst (All IsWatched) (sym c.as_mut_slice.ensures.value) c.self.invariant.watched

pub run_to_stop-requires-clause-from : goal.run_to_stop-requires-clause-from
run_to_stop-requires-clause-from c =
    let end : c.unwrap-end.result ≡ clock_of c.self.inside.session.board.plain + c.args.count =
    ends_at c.new.result c.unwrap-end.result c.get-start.result c.clock.result (clock_of c.self.inside.session.board.plain) c.args.count _
    c.new.ensures c.unwrap-end.ensures c.get-start.ensures.value (c.clock.ensures ∙ ap (λ (b : BoardState). clock_of b.plain) c.board.ensures.board) in
    omega (arith, end)

pub invariant_of-self-2 : goal.invariant_of-self-2
invariant_of-self-2 c =
    probe_with c.self.inside.session c.run_to_stop.new.run
    c.self.inside.watches c.as_mut_slice.result.now c.run_to_stop.new.watches c.as_mut_slice.ensures.value c.self.invariant
    (ap (λ r. r.1) c.run_to_stop.ensures.rest) c.run_to_stop.ensures.keeps

pub returns : goal.returns
returns c =
    let end : c.unwrap-end.result ≡ clock_of c.self.inside.session.board.plain + c.args.count =
    ends_at c.new.result c.unwrap-end.result c.get-start.result c.clock.result (clock_of c.self.inside.session.board.plain) c.args.count _
    c.new.ensures c.unwrap-end.ensures c.get-start.ensures.value (c.clock.ensures ∙ ap (λ (b : BoardState). clock_of b.plain) c.board.ensures.board) in
    let start : c.get-start.result ≡ clock_of c.self.inside.session.board.plain =
    c.get-start.ensures.value ∙ c.clock.ensures ∙ ap (λ (b : BoardState). clock_of b.plain) c.board.ensures.board in
    let within : clock_of c.self.inside.session.board.plain + c.args.count ≤ 2 ^ 40 = omega (arith, c.if-start-count.false, start, c.get-start.ensures.bound) in
    let new : ProbeState = probe_of c.run_to_stop.new.run (stops_of (with_items c.self.inside.watches c.run_to_stop.new.watches).items) in
    elim c.match-run_to_stop.branch [
      | in-Ok w ↦ subst (λ r. MatchResult r (GoesOn c.args.count c.args.self.now new) (RefusesGoing c.args.count c.args.self.now new)) (sym w.result-is)
          (goes_with c.args.self.now c.args.count c.unwrap-end.result c.self.inside.session
          c.run_to_stop.new.run c.self.inside.watches c.as_mut_slice.result.now c.run_to_stop.new.watches
          w.in-Ok.found w.told.result c.self.view_is c.as_mut_slice.ensures.value c.run_to_stop.ensures.keeps
          within end w.in-Ok.ensures.ran (ap (λ r. r.0) c.run_to_stop.ensures.rest)
          (w.told.ensures ∙ ap (answer_at w.in-Ok.found) (w.clock-in-Ok.ensures ∙ ap (λ (b : BoardState). clock_of b.plain) w.board-in-Ok.ensures.board)))
      | in-Err w ↦ subst (λ r. MatchResult r (GoesOn c.args.count c.args.self.now new) (RefusesGoing c.args.count c.args.self.now new)) (sym w.result-is)
          (short_with c.args.self.now c.args.count c.unwrap-end.result c.self.inside.session c.run_to_stop.new.run c.self.inside.watches
          c.as_mut_slice.result.now c.run_to_stop.new.watches w.lacking.result c.self.view_is c.as_mut_slice.ensures.value c.run_to_stop.ensures.keeps
          within end w.in-Err.ensures.ran (ap (λ r. r.0) c.run_to_stop.ensures.rest) w.lacking.ensures)
    ]
