-- The stops stay, and the answer is about the board as it stands.
use Rattle.std.proofs.Common.{All, refl, sym, ap, ◌∙◌, subst, arith}
use Rattle.std.proofs.lemmas.List.{length-map}
use Rattle.board_plain.specs.Board.{BoardState}
use Rattle.probe.specs.declared.watched.Watched.{Watched}
use Rattle.probe.specs.Moments.{AnswersTrial}
use Rattle.probe.specs.Probe.{ProbeState}
use Rattle.probe.specs.Watched.{IsWatched, stops_of}
use Rattle.probe.proofs.Probes.{probe_of, probe_with, stops_with}
use Rattle.probe.proofs.probe.Probe.moments.Goals as goal

pub tell_moments-requires-clause-within : goal.tell_moments-requires-clause-within
tell_moments-requires-clause-within c = subst (All IsWatched) (sym c.as_mut_slice.ensures.value) c.self.invariant.watched

pub tell_moments-requires-clause-few : goal.tell_moments-requires-clause-few
tell_moments-requires-clause-few c =
    let many = length-map c.as_mut_slice.result.now (λ (w : Watched). w.stop) in omega (arith, many, c.as_mut_slice.ensures.fits)

pub invariant_of-self : goal.invariant_of-self
invariant_of-self c =
    let session = c.self.inside.session in
    probe_with session session c.self.inside.watches c.as_mut_slice.result.now c.tell_moments.new.watches
    c.as_mut_slice.ensures.value c.self.invariant refl c.tell_moments.ensures.keeps

pub returns-clause-kept : goal.returns-clause-kept
returns-clause-kept c =
    ap (probe_of c.self.inside.session)
    (stops_with c.self.inside.watches c.as_mut_slice.result.now c.tell_moments.new.watches c.as_mut_slice.ensures.value c.tell_moments.ensures.keeps)
    ∙ c.self.view_is

pub returns-clause-answers : goal.returns-clause-answers
returns-clause-answers c =
    let told = c.tell_moments.result in
    subst (λ (p : ProbeState). AnswersTrial p.stops p.board.plain c.args.trial told) c.self.view_is
    (subst (λ xs. AnswersTrial (stops_of xs) c.self.inside.session.board.plain c.args.trial told) c.as_mut_slice.ensures.value
    (subst (λ (b : BoardState). AnswersTrial (stops_of c.as_mut_slice.result.now) b.plain c.args.trial told)
    c.board.ensures.board c.tell_moments.ensures.answers))
