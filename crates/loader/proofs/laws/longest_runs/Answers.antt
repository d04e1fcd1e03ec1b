use Rattle.loader.proofs.LongestRuns.{has_longest_runs}
use Rattle.loader.proofs.laws.longest_runs.Goals as goal

pub returns : goal.returns
returns c = has_longest_runs c.args.image.now c.get.ensures.is_image
