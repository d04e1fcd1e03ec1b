use Rattle.std.proofs.Common.{All, sym, ap, ◌∙◌, subst}
use Rattle.std.proofs.lemmas.List.Elements.{All-nil}
use Rattle.debugger_meaning.specs.Stands.{SessionState}
use Rattle.probe.specs.Probe.{conditions_of}
use Rattle.probe.specs.Watched.{IsWatched, stops_of}
use Rattle.probe.proofs.probe.Probe.new.Goals as goal

pub invariant_of-result : goal.invariant_of-result
invariant_of-result c = record {
  conditions = ap (λ (s : SessionState). s.stops) c.in_ok-session.ensures.session ∙ ap (λ ws. conditions_of (stops_of ws)) (sym c.new_in.ensures);
  watched = subst (All IsWatched) (sym c.new_in.ensures) (All-nil IsWatched);
}
