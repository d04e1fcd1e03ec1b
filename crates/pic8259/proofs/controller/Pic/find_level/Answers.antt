use Rattle.std.proofs.Common.{if◌then◌else◌, None, find, sym, ap, ◌∙◌}
use Rattle.pic8259.specs.Pic.{may_be_taken, level_to_take}
use Rattle.pic8259.proofs.controller.Pic.find_level.Goals as goal
use Rattle.pic8259.proofs.controller.Pic.find_level.Goals.{then-not-is_ready-via-then-not-is_ready, then-not-is_ready-via-else-not-is_ready+then-is_empty}

pub returns-then-not-is_ready-clause-level : goal.returns-then-not-is_ready-clause-level
unfolding level_to_take
returns-then-not-is_ready-clause-level c =
    let s = c.args.self.now in
    elim c.then-not-is_ready.branch [
      | then-not-is_ready-via-then-not-is_ready w ↦
          sym (ap (λ b. if b then find (may_be_taken s) s.order else None) (sym c.is_ready.ensures ∙ w.if-not-is_ready.true))
      | then-not-is_ready-via-else-not-is_ready+then-is_empty w ↦
          sym
          (ap (λ b. if b then find (may_be_taken s) s.order else None) (sym c.is_ready.ensures ∙ w.if-not-is_ready.false)
          ∙ w.pending.ensures.none (w.is_empty.ensures.0 w.if-is_empty.true))
    ]
