use Rattle.std.proofs.Common.{◌≡◌, ◌<◌, ◌≤◌, false, length, refl, sym, ap, ◌∙◌, subst, arith}
use Rattle.std.specs.Prelude.{◌==◌}
use Rattle.std.proofs.lemmas.Bool.Decides.{nat_tests}
use Rattle.std.proofs.lemmas.List.{length-map}
use Rattle.probe_texts.specs.declared.stops.Stop.{Stop}
use Rattle.probe.specs.declared.watched.Watched.{Watched}
use Rattle.probe.specs.Probe.{AddsStop, ProbeState}
use Rattle.probe.proofs.probe.Probe.add.Goals as goal

pub returns-then-is_full : goal.returns-then-is_full
returns-then-is_full c =
    let full : length c.self.inside.watches.items ≡ 16 = grind (arith, nat_tests, sym c.is_full.ensures.value ∙ c.if-is_full.true) in
    (sym (ap (λ (p : ProbeState). length p.stops) c.self.view_is) ∙ length-map c.self.inside.watches.items (λ (w : Watched). w.stop) ∙ full, refl)

pub push-requires-clause-room : goal.push-requires-clause-room
push-requires-clause-room c =
    let items = c.self.inside.watches.items in
    let full : (length items == 16) ≡ false = sym c.is_full.ensures.value ∙ c.if-is_full.false in
    let most : length items ≤ 16 = c.is_full.ensures.fits in
    let few : length items < 16 = grind (arith, nat_tests, full, most) in
    let size : length c.args.self.now.stops ≡ length items =
    sym (ap (λ (p : ProbeState). length p.stops) c.self.view_is) ∙ length-map items (λ (w : Watched). w.stop) in
    omega (arith, few, size)

pub returns-in-Err : goal.returns-in-Err
returns-in-Err c =
    let items = c.self.inside.watches.items in
    let full : (length items == 16) ≡ false = sym c.is_full.ensures.value ∙ c.if-is_full.false in
    let most : length items ≤ 16 = c.is_full.ensures.fits in
    let few : length items < 16 = grind (arith, nat_tests, full, most) in
    let size : length c.args.self.now.stops ≡ length items =
    sym (ap (λ (p : ProbeState). length p.stops) c.self.view_is) ∙ length-map items (λ (w : Watched). w.stop) in
    (omega (arith, few, size), c.in-Err.ensures.changes, refl)

pub returns-in-Ok : goal.returns-in-Ok
returns-in-Ok c = subst (λ (s : Stop). AddsStop s c.args.self.now c.push.new.self c.push.result) c.in-Ok.ensures.stop c.push.ensures
