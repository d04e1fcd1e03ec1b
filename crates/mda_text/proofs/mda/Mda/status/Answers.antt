use Rattle.std.proofs.Common.{◌∙◌, ap}
use Rattle.board_types.proofs.Iterate.{iterate_zero}
use Rattle.mda_text.specs.Mda.{after_clock, after_clocks, status}
use Rattle.mda_text.proofs.mda.Mda.status.Goals as goal

pub returns : goal.returns
returns c =
    c.status.ensures (after_clocks c.args.self.now 0) c.registers_after.ensures ∙ ap status (iterate_zero after_clock c.args.self.now)
