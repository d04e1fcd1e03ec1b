use Rattle.probe.proofs.Copies.{keeps_none}
use Rattle.probe.proofs.looking.found.Goals as goal

pub returns-then-get-turn-clause-keeps : goal.returns-then-get-turn-clause-keeps
returns-then-get-turn-clause-keeps c = keeps_none c.args.watches.now c.requires.within

pub returns-clause-clock : goal.returns-clause-clock
returns-clause-clock c = λ once. record { number_is = c.met-number.ensures; copied = c.renew_bytes.ensures.copies }
