use Rattle.std.proofs.Common.{arith}
use Rattle.mda_text.proofs.Keeping.{keeps_none, keeps_one_more, keeps_all}
use Rattle.mda_text.proofs.mda.Mda.keep_characters.Goals as goal

pub loop-n-init : goal.loop-n-init
loop-n-init c = keeps_none c.args.self.now _ c.self.view_is c.self.invariant.1

pub loop-n-preserved : goal.loop-n-preserved
loop-n-preserved c =
    keeps_one_more c.args.self.now c.loop-n.self _ c.loop-n.n c.nth_character.result
    c.self-in-loop-n.view_is c.loop-n.invariant (omega arith) c.nth_character.ensures

pub returns : goal.returns
returns c = keeps_all c.args.self.now c.loop-n.self c.loop-n.n c.loop-n.invariant (omega arith)
