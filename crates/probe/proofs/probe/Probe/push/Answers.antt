use Rattle.std.proofs.Common.{◌≡◌, ◌+◌, ◌<◌, length, refl, sym, ap, ◌∙◌, subst, arith}
use Rattle.std.proofs.lemmas.List.{length-map}
use Rattle.debugger_meaning.specs.declared.answer.Answer.TheVariants as answers
use Rattle.probe.specs.declared.watched.Watched.{Watched}
use Rattle.probe.specs.Probe.{AddsStop, conditions_of, ProbeState}
use Rattle.probe.specs.Watched.{IsProbe, stops_of}
use Rattle.probe.proofs.Probes.{adds_stop, fewer, probe_more, probe_of}
use Rattle.probe.proofs.probe.Probe.push.Goals as goal

pub add_condition-requires-clause-room : goal.add_condition-requires-clause-room
add_condition-requires-clause-room c =
    let stops = stops_of c.self.inside.watches.items in
    let few = fewer stops in
    let room : length stops < 16 = subst (λ (p : ProbeState). length p.stops < 16) (sym c.self.view_is) c.requires.room in
    let many : length c.self.inside.session.stops ≡ length (conditions_of stops) = ap length c.self.invariant.conditions in omega (arith, few, room, many)

pub invariant_of-self : goal.invariant_of-self
invariant_of-self c =
    subst (IsProbe c.add_condition.new.session) (sym c.push.ensures.items)
    (probe_more c.self.inside.session c.add_condition.new.session c.self.inside.watches.items
    c.args.watched c.self.invariant c.requires.watched c.add_condition.ensures)

pub returns : goal.returns
returns c =
    let session = c.self.inside.session in
    let next = c.add_condition.new.session in
    let items = c.self.inside.watches.items in
    let stop = c.args.watched.stop in
    let answer = answers.Stop c.len.result in
    let room : length (stops_of items) < 16 = subst (λ (p : ProbeState). length p.stops < 16) (sym c.self.view_is) c.requires.room in
    let size : length (stops_of items) ≡ length items = length-map items (λ (w : Watched). w.stop) in
    let number : c.len.result ≡ length items + 1 = c.len.ensures.value ∙ c.push.ensures.len in
    subst (λ (p : ProbeState). AddsStop stop p (probe_of next (stops_of c.push.new.self.items)) answer) c.self.view_is
    (subst (λ ws. AddsStop stop (probe_of session (stops_of items)) (probe_of next (stops_of ws)) answer) (sym c.push.ensures.items)
    (adds_stop session next items c.args.watched stop answer c.add_condition.ensures refl (omega (arith, room, size)) (ap answers.Stop number)))
