use Rattle.std.proofs.Common.{arith}
use Rattle.loader.proofs.Entries.{no_pair}
use Rattle.loader.proofs.run_reader.pair_of.Goals as goal

pub returns-in-len1 : goal.returns-in-len1
returns-in-len1 c = no_pair c.args.values.now (λ two. omega (arith, c.in-len1.len_below))

pub returns-in-len3-up : goal.returns-in-len3-up
returns-in-len3-up c = no_pair c.args.values.now (λ two. omega (arith, c.in-len3-up.len_at_least))
