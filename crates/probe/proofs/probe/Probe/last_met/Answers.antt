use Rattle.std.proofs.Common.{All, refl, sym, ap, ◌∙◌, subst}
use Rattle.std.specs.Prelude.{MatchResult}
use Rattle.debugger_meaning.specs.Stands.{gone, SessionState}
use Rattle.probe.specs.Looked.{FindsNoStop}
use Rattle.probe.specs.Probe.{gone_by, ProbeState}
use Rattle.probe.specs.ProbeStops.{MetLast}
use Rattle.probe.specs.Watched.{IsWatched, stops_of}
use Rattle.probe.proofs.Probes.{probe_of, probe_with, stops_with}
use Rattle.probe.proofs.probe.Probe.last_met.Goals as goal

pub search_back-requires : goal.search_back-requires
search_back-requires c = subst (All IsWatched) (sym c.as_mut_slice.ensures.value) c.self.invariant.watched

pub invariant_of-self : goal.invariant_of-self
invariant_of-self c =
    let session = c.self.inside.session in
    probe_with session session c.self.inside.watches c.as_mut_slice.result.now c.search_back.new.watches
    c.as_mut_slice.ensures.value c.self.invariant refl c.search_back.ensures.keeps

pub returns-clause-kept : goal.returns-clause-kept
returns-clause-kept c =
    ap (probe_of c.self.inside.session)
    (stops_with c.self.inside.watches c.as_mut_slice.result.now c.search_back.new.watches c.as_mut_slice.ensures.value c.search_back.ensures.keeps)
    ∙ c.self.view_is

pub returns-clause-found : goal.returns-clause-found
returns-clause-found c =
    let session : SessionState = c.self.inside.session in
    subst (λ (p : ProbeState).
    MatchResult c.search_back.result (λ found. MetLast p.stops (gone_by p) p.first.plain found.0 found.1) (FindsNoStop p.stops (gone_by p) p.first.plain))
    c.self.view_is (subst (λ xs. MatchResult c.search_back.result (λ found. MetLast (stops_of xs) (gone session) session.first.plain found.0 found.1)
    (FindsNoStop (stops_of xs) (gone session) session.first.plain))
    c.as_mut_slice.ensures.value c.search_back.ensures.found)
