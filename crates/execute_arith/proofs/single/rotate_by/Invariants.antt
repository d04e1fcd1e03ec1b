use Rattle.std.proofs.Common.{◌≡◌, ◌<◌}
use Rattle.execute_machine.specs.Widths.{size_of}
use Rattle.execute_arith.specs.Shifts.{after_shifts}
use Rattle.execute_arith.proofs.single.rotate_by.Given as goal

abbrev pub invariant-loop : goal.invariant-loop
invariant-loop l = (l.now ≡ after_shifts l.fn.operation l.fn.width l.fn.operand l.counter) × (l.now.value < size_of l.fn.width)
