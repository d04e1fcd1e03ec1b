use Rattle.std.proofs.Common.{◌≡◌, sym, subst, ap, ◌∙◌}
use Rattle.pic8259.specs.Pic.{PicState}
use Rattle.wiring.specs.Chips.{ChipsState}
use Rattle.wiring.specs.Wires.{after_settling}
use Rattle.wiring.proofs.HighLines.{high_after_write}
use Rattle.wiring.proofs.Leap.{same_lines_settled}
use Rattle.wiring.proofs.chips.Chips.write_controller.Goals as goal

pub invariant_of-self : goal.invariant_of-self
invariant_of-self c =
    let was = c.self.inside in
    let s : ChipsState = record {
      clock = was.clock;
      memory = was.memory;
      pic = was.pic;
      pit = was.timer;
      ppi = was.ppi;
      keyboard = was.keyboard;
      mda = was.mda;
    } in (
      c.self.invariant.0,
      λ settled. same_lines_settled s c.write.new.self c.write.ensures.lines (c.self.invariant.1 settled)
          (ap (λ (p : PicState). p.high) c.write.ensures.state ∙ high_after_write was.pic c.args.a0 c.args.value),
    )

pub returns-clause-settled : goal.returns-clause-settled
returns-clause-settled c =
    let was = c.self.inside in
    let s : ChipsState = record {
      clock = was.clock;
      memory = was.memory;
      pic = was.pic;
      pit = was.timer;
      ppi = was.ppi;
      keyboard = was.keyboard;
      mda = was.mda;
    } in
    same_lines_settled s c.write.new.self c.write.ensures.lines (subst (λ (t : ChipsState). after_settling t ≡ t) (sym c.self.view_is) c.requires)
    (ap (λ (p : PicState). p.high) c.write.ensures.state ∙ high_after_write was.pic c.args.a0 c.args.value)
