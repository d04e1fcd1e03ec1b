use Rattle.std.proofs.Common.{List, sym, ap, ◌∙◌}
use Rattle.events.specs.declared.access.Access.{Access}
use Rattle.execute_meaning.specs.Meaning.{after_step, step_result}
use Rattle.execute_noted.specs.Held.{holding}
use Rattle.execute_noted.proofs.Holding.{step_is_kept}
use Rattle.execute_noted.proofs.noting.step_noted.Goals as goal

pub returns-clause-done : goal.returns-clause-done
returns-clause-done g c = λ d is.
    let kept = step_is_kept g.B.Bus.meaning c.args.table c.args.cpu.now
    (g.B.Bus.state c.args.bus.now) d c.noting-1.given _ (c.step-clocks.ensures d is ∙ ap (λ (xs : List Access). after_step (holding g.B.Bus.meaning)
    c.args.table c.args.cpu.now (record { name = c.noting-1.given; reached = g.B.Bus.state c.args.bus.now; accesses = xs }) d)
    c.new.ensures) in
    ap (λ b. step_result c.step-clocks.new.cpu (g.B.Bus.state b) c.step-clocks.result.0)
    (c.bus-1.given.1 (sym (c.take.ensures.same ∙ kept.same)) ∙ c.take.ensures.bus)
    ∙ kept.done

pub returns-clause-noted : goal.returns-clause-noted
returns-clause-noted g c = λ d is.
    let kept = step_is_kept g.B.Bus.meaning c.args.table c.args.cpu.now
    (g.B.Bus.state c.args.bus.now) d c.noting-1.given _ (c.step-clocks.ensures d is ∙ ap (λ (xs : List Access). after_step (holding g.B.Bus.meaning)
    c.args.table c.args.cpu.now (record { name = c.noting-1.given; reached = g.B.Bus.state c.args.bus.now; accesses = xs }) d)
    c.new.ensures) in
    c.take.ensures.accesses ∙ kept.all
