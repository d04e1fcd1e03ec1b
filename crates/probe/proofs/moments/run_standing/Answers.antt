-- The board's own search runs it.
use Rattle.std.proofs.Common.{◌-◌, sym, subst, ap₂, ◌∙◌}
use Rattle.std.specs.Prelude.{All, List}
use Rattle.board_plain.specs.declared.stop.Condition.{Condition}
use Rattle.board_plain.specs.Stops.{HasAddress, run_length}
use Rattle.probe.proofs.Trying.{have_addresses, runs_standing, trail_stays}
use Rattle.probe.proofs.moments.run_standing.Goals as goal

pub run_until-requires : goal.run_until-requires
run_until-requires c = subst (λ (xs : List Condition). All HasAddress xs) (sym c.conditions_of.ensures) (have_addresses c.args.watches.now c.requires.within)

pub returns-in-Ok-clause-runs : goal.returns-in-Ok-clause-runs
returns-in-Ok-clause-runs c =
    let count = c.get.result - c.get-2.result in
    runs_standing c.args.watches.now c.conditions_of.result.items c.args.end count c.args.board.now c.run_until.new.self c.in-Ok.stopped c.requires.stand
    c.conditions_of.ensures (ap₂ (λ m n. m - n) c.get.ensures.value (c.get-2.ensures.value ∙ c.clock.ensures)) c.in-Ok.ensures.stop c.in-Ok.ensures.ran

pub returns-in-Ok-clause-trail : goal.returns-in-Ok-clause-trail
returns-in-Ok-clause-trail c =
    let count = c.get.result - c.get-2.result in
    trail_stays (run_length count c.args.board.now.plain c.in-Ok.stopped) c.args.board.now c.run_until.new.self c.in-Ok.ensures.ran
