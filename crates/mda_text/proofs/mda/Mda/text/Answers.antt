use Rattle.std.proofs.Common.{[], arith}
use Rattle.std.specs.String.{string_bytes}
use Rattle.mda_text.specs.Screen.{screen_row}
use Rattle.mda_text.proofs.Text.{one_more_row, screen_ended}
use Rattle.mda_text.proofs.mda.Mda.text.Goals as goal

pub loop-row-preserved : goal.loop-row-preserved
loop-row-preserved c =
    one_more_row (screen_row c.args.self.now) [] (string_bytes c.loop-row.text) _ c.loop-row.row c.loop-row.invariant c.in_ok-push_row.ensures

pub returns : goal.returns
returns c = screen_ended c.args.self.now c.loop-row.row _ c.loop-row.invariant (omega arith)
