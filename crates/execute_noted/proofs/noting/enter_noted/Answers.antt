use Rattle.std.proofs.Common.{List, sym, ap, ◌∙◌}
use Rattle.events.specs.declared.access.Access.{Access}
use Rattle.execute_meaning.specs.Boundaries.{after_enter}
use Rattle.execute_meaning.specs.Meaning.{step_result}
use Rattle.execute_noted.specs.Held.{holding}
use Rattle.execute_noted.proofs.Holding.{enter_is_kept}
use Rattle.execute_noted.proofs.noting.enter_noted.Goals as goal

pub returns-clause-done : goal.returns-clause-done
returns-clause-done g c =
    let kept = enter_is_kept g.B.Bus.meaning c.args.table c.args.cpu.now (g.B.Bus.state c.args.bus.now)
    c.args.kind c.args.cause c.noting-1.given _ (c.enter-clocks.ensures ∙ ap (λ (xs : List Access). after_enter (holding g.B.Bus.meaning)
    c.args.table c.args.cpu.now (record { name = c.noting-1.given; reached = g.B.Bus.state c.args.bus.now; accesses = xs }) c.args.kind c.args.cause)
    c.new.ensures) in
    ap (λ b. step_result c.enter-clocks.new.cpu (g.B.Bus.state b) c.enter-clocks.result.0)
    (c.bus-1.given.1 (sym (c.take.ensures.same ∙ kept.same)) ∙ c.take.ensures.bus)
    ∙ kept.done

pub returns-clause-noted : goal.returns-clause-noted
returns-clause-noted g c =
    let kept = enter_is_kept g.B.Bus.meaning c.args.table c.args.cpu.now (g.B.Bus.state c.args.bus.now)
    c.args.kind c.args.cause c.noting-1.given _ (c.enter-clocks.ensures ∙ ap (λ (xs : List Access). after_enter (holding g.B.Bus.meaning)
    c.args.table c.args.cpu.now (record { name = c.noting-1.given; reached = g.B.Bus.state c.args.bus.now; accesses = xs }) c.args.kind c.args.cause)
    c.new.ensures) in
    c.take.ensures.accesses ∙ kept.all
