use Rattle.std.proofs.Common.{◌≡◌, ◌++◌, [], ◌∷◌, sym, subst}
use Rattle.probe_texts.specs.declared.stops.Stop.{Stop}
use Rattle.probe.specs.Probe.{conditions_of}
use Rattle.probe.proofs.Probes.{condition_added}
use Rattle.probe.proofs.probe.add_condition.Goals as goal

pub returns-in-Standing : goal.returns-in-Standing
returns-in-Standing c =
    subst (λ (x : Stop). c.add.new.self ≡ record c.args.session.now { stops = c.args.session.now.stops ++ conditions_of (x ∷ []) }) (sym c.in-Standing.is)
    (condition_added c.in-Standing.condition c.args.session.now c.add.new.self c.add.result c.requires.room c.add.ensures)
