use Rattle.std.proofs.Common.{Option, refl, ap, ◌∙◌}
use Rattle.std.specs.Prelude.{is_none}
use Rattle.execute_machine.specs.Locations.{machine}
use Rattle.execute_machine.specs.RegisterFile.{Registers}
use Rattle.execute_machine.specs.Stack.{after_entry}
use Rattle.execute_arith.proofs.Calculated.{calculated_is, calculated_none, made_or_entered}
use Rattle.execute_arith.proofs.product.perform_operation.Goals as goal

pub returns-then-calculate_product-clause-machine : goal.returns-then-calculate_product-clause-machine
returns-then-calculate_product-clause-machine g c =
    let m = machine c.args.registers.now (g.B.Bus.state c.args.bus.now) in
    ap (made_or_entered g.B.Bus.meaning m) c.if-calculate_product.ensures.made
    ∙ calculated_is g.B.Bus.meaning m c.args.operation c.args.width c.args.operand

pub returns-then-calculate_product-clause-fault : goal.returns-then-calculate_product-clause-fault
returns-then-calculate_product-clause-fault g c =
    ap (λ (o : Option Registers). is_none o) c.if-calculate_product.ensures.made
    ∙ calculated_none c.args.registers.now c.args.operation c.args.width c.args.operand

pub returns-clause-machine : goal.returns-clause-machine
returns-clause-machine g c =
    let m = machine c.args.registers.now (g.B.Bus.state c.args.bus.now) in
    c.enter.ensures
    ∙ ap (λ (r : Registers). after_entry g.B.Bus.meaning (machine r (g.B.Bus.state c.args.bus.now)) 0) (c.if-calculate_product.ensures.left refl)
    ∙ ap (made_or_entered g.B.Bus.meaning m) c.if-calculate_product.ensures.made
    ∙ calculated_is g.B.Bus.meaning m c.args.operation c.args.width c.args.operand

pub returns-clause-fault : goal.returns-clause-fault
returns-clause-fault g c =
    ap (λ (o : Option Registers). is_none o) c.if-calculate_product.ensures.made
    ∙ calculated_none c.args.registers.now c.args.operation c.args.width c.args.operand
