-- Each moment stands in one range, and there is one list of ranges.
use Rattle.probe.proofs.Once.{once, one_list}
use Rattle.probe.proofs.laws.each_moment_stands_once.Goals as goal

pub returns-clause-once : goal.returns-clause-once
returns-clause-once c = once

pub returns-clause-one_list : goal.returns-clause-one_list
returns-clause-one_list c = one_list
