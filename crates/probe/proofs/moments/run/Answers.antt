-- The trail stays short.
use Rattle.probe.proofs.Trying.{trail_stays}
use Rattle.probe.proofs.moments.run.Goals as goal

pub returns-in-Some-clause-trail : goal.returns-in-Some-clause-trail
returns-in-Some-clause-trail c =
    let ran = c.in_ok-number.ensures.ran in
    trail_stays ran.passed c.args.board.now c.run_to_stop.new.run ran.ran

pub returns-in-None-clause-trail : goal.returns-in-None-clause-trail
returns-in-None-clause-trail c =
    let ran = c.in_ok-number.ensures.ran in
    trail_stays ran.passed c.args.board.now c.run_to_stop.new.run ran.ran
