use Rattle.std.proofs.Common.{[], ◌∷◌, sym, ap, ◌∙◌, subst, arith}
use Rattle.board_types.specs.declared.keys.StampedKey.{StampedKey}
use Rattle.events.specs.declared.event.Event.TheVariants.{Keyed}
use Rattle.events.specs.declared.event.KeyEvent.TheVariants.{Arrives, IsLost}
use Rattle.probe_texts.proofs.Hearing.{arrival_heard, arrives_if, held_told, lost_if, none_waits, one_waits, same_heard}
use Rattle.probe_texts.proofs.telling.tell_arrivals.Goals.{then-held-lt16+in_ok-hear, else-held-lt16+in_ok-hear-2}
use Rattle.probe_texts.proofs.telling.tell_arrivals.Goals as goal

pub loop-key-preserved : goal.loop-key-preserved
loop-key-preserved g c =
    elim c.if-held-lt16.branch [
      | then-held-lt16+in_ok-hear w ↦ record {
        told = λ events heard.
            subst (λ l. g.L.Listener.has l _) (sym w.listener-is)
            (arrival_heard (g.L.Listener.has) _ events c.args.clock c.args.waiting c.args.keys.now c.loop-key.key-index c.key-item.result Arrives
            c.loop-key-test.true (arrives_if c.loop-key.held _ c.loop-key.invariant.held w.if-held-lt16.true)
            (same_heard (g.L.Listener.has) _ _ _ _ (ap (λ (k : StampedKey). Keyed c.args.clock Arrives k.code ∷ []) c.key-item.is)
            (w.in_ok-hear.ensures.heard _ (c.loop-key.invariant.told events heard))));
        held = w.held-is ∙ one_waits c.loop-key.held w.if-held-lt16.true
            ∙ held_told c.args.waiting c.args.keys.now c.loop-key.key-index c.key-item.result c.loop-key.held c.loop-key-test.true c.loop-key.invariant.held;
        few = omega (arith, w.held-is, w.if-held-lt16.true);
        manner = ap (g.L.Listener.manner) w.listener-is ∙ w.in_ok-hear.ensures.manner ∙ c.loop-key.invariant.manner;
      }
      | else-held-lt16+in_ok-hear-2 w ↦ record {
        told = λ events heard.
            subst (λ l. g.L.Listener.has l _) (sym w.listener-is)
            (arrival_heard (g.L.Listener.has) _ events c.args.clock c.args.waiting c.args.keys.now c.loop-key.key-index c.key-item.result IsLost
            c.loop-key-test.true (lost_if c.loop-key.held _ c.loop-key.invariant.held w.if-held-lt16.false)
            (same_heard (g.L.Listener.has) _ _ _ _ (ap (λ (k : StampedKey). Keyed c.args.clock IsLost k.code ∷ []) c.key-item.is)
            (w.in_ok-hear-2.ensures.heard _ (c.loop-key.invariant.told events heard))));
        held = w.held-is ∙ none_waits c.loop-key.held w.if-held-lt16.false
            ∙ held_told c.args.waiting c.args.keys.now c.loop-key.key-index c.key-item.result c.loop-key.held c.loop-key-test.true c.loop-key.invariant.held;
        few = omega (arith, w.held-is, c.loop-key.invariant.few);
        manner = ap (g.L.Listener.manner) w.listener-is ∙ w.in_ok-hear-2.ensures.manner ∙ c.loop-key.invariant.manner;
      }
    ]
