use Rattle.std.proofs.Common.{◌-◌, ◌/◌}
use Rattle.wiring.specs.Chips.{ChipsState}
use Rattle.wiring.proofs.Leap.{settled_still}
use Rattle.wiring.proofs.chips.Chips.pass_still.Goals as goal

pub invariant_of-self-2 : goal.invariant_of-self-2
invariant_of-self-2 c =
    let was = c.self.inside in
    let s : ChipsState = record {
      clock = was.clock;
      memory = was.memory;
      pic = was.pic;
      pit = was.timer;
      ppi = was.ppi;
      keyboard = was.keyboard;
      mda = was.mda;
    } in (
      c.get-to.ensures.bound,
      λ settled. settled_still s c.count.new.self c.get-to.result (c.get-to.result / 4 - was.clock / 4) c.advance.new.self (c.self.invariant.1 settled)
          (c.count.ensures.counted c.if-not-count.false) (c.count.ensures.out_0 c.if-not-count.false),
    )
