use Rattle.std.proofs.Common.{◌+◌, ◌∙◌, sym, ap, subst, arith}
use Rattle.board.specs.Arrivals.{Awaits}
use Rattle.board.proofs.KeyOrder.{have_on}
use Rattle.board.proofs.engine.Engine.take_keys.Goals as goal

pub invariant_of-self : goal.invariant_of-self
invariant_of-self c = (
  have_on _ _ _ _ _
      (c.so_far-self-inside.ensures c.get-next.result (subst (Awaits c.count_before-count.result (c.get-next.result + 1))
      (c.as_slice.ensures.keys ∙ sym c.as_slice-2.ensures.keys) c.count_before-count.ensures.awaits))
      (c.as_slice-2.ensures.keys ∙ sym c.replace.ensures.after) (ap (λ n. n + 1) (c.get-next.ensures.value ∙ c.clock.ensures)),
  c.self.invariant.1,
  λ before. absurd (omega (arith, before)),
)
