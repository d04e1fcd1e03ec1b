use Rattle.std.proofs.Common.{sym, subst}
use Rattle.scheduler.proofs.Least.{IsFirst, next_is}
use Rattle.scheduler.proofs.deadlines.Deadlines.next.Goals as goal

pub returns : goal.returns
returns c = subst (IsFirst c.args.self.now) (sym c.least.ensures) (next_is c.args.self.now)
