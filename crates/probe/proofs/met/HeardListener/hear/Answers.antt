use Rattle.std.proofs.Common.{sym, ◌∙◌}
use Rattle.probe.specs.Met.{earlier}
use Rattle.probe.proofs.Hearing.{one_heard}
use Rattle.probe.proofs.met.HeardListener.hear.Goals as goal

pub returns-clause-heard : goal.returns-clause-heard
returns-clause-heard c = λ events so_far.
    c.earlier-self.ensures ∙ (λ i. earlier (so_far i) (c.waiting_for.ensures i))
    ∙ sym (one_heard c.args.self.now.watches.now events c.args.event.now)
