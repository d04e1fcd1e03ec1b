use Rattle.probe_texts.proofs.Hearing.{on_ok_then, six_heard}
use Rattle.probe_texts.proofs.telling.tell_changes.Goals as goal

pub returns-clause-told : goal.returns-clause-told
returns-clause-told g c = on_ok_then c.tell_change-6.result (λ told events heard.
    six_heard (g.L.Listener.has) _ events _ _ _ _ _ _ (told _
    (c.in_ok-tell_change-5.ensures.told _ (c.in_ok-tell_change-4.ensures.told _
    (c.in_ok-tell_change-3.ensures.told _ (c.in_ok-tell_change-2.ensures.told _ (c.in_ok-tell_change.ensures.told events heard)))))))
    c.tell_change-6.ensures.told
