use Rattle.std.proofs.Common.{[], ◌∙◌, refl}
use Rattle.events.specs.declared.event.Event.TheVariants.{Reached}
use Rattle.events.specs.declared.access.Access.TheVariants.{Write}
use Rattle.probe_texts.proofs.Hearing.{more_heard, none_heard}
use Rattle.probe_texts.proofs.telling.tell_accesses.Goals as goal

pub loop-access-init : goal.loop-access-init
loop-access-init g c = record { told = λ events heard. none_heard (g.L.Listener.has) _ events [] refl heard; manner = refl }

pub loop-access-preserved : goal.loop-access-preserved
loop-access-preserved g c = record {
  told = λ events heard.
      more_heard (g.L.Listener.has) _ events (Reached c.args.clock) c.args.accesses.now c.loop-access.access-index (Write 0 0) c.loop-access-test.true
      (c.in_ok-hear.ensures.heard _ (c.loop-access.invariant.told events heard));
  manner = c.in_ok-hear.ensures.manner ∙ c.loop-access.invariant.manner;
}
