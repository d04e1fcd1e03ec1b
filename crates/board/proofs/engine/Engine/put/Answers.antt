use Rattle.std.proofs.Common.{◌+◌, ℕ, sym, subst, arith}
use Rattle.board_plain.specs.BoardLaws.{WiresHold}
use Rattle.board_plain.proofs.Changing.{cell_holds}
use Rattle.board.specs.Arrivals.{HaveArrived}
use Rattle.board.proofs.engine.Engine.put.Goals as goal

pub invariant_of-self : goal.invariant_of-self
invariant_of-self c = (
  subst (λ (n : ℕ). HaveArrived c.self.inside.arrived (n + 1) c.self.inside.keys) (sym c.put.ensures.clock) c.self.invariant.0,
  subst WiresHold (sym c.put.ensures.chips) (cell_holds c.self.inside.chips c.args.addr c.args.byte c.self.invariant.1),
  λ before. absurd (omega (arith, before)),
)
