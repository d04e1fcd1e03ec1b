use Rattle.std.proofs.Common.{◌≤◌, ◌+◌, arith}
use Rattle.board_plain.specs.Plain.{clock_of}
use Rattle.debugger_meaning.proofs.Standing.{stands_later}
use Rattle.debugger.proofs.session.Session.board_near.Goals as goal

pub returns-in-Ok-clause-stands : goal.returns-in-Ok-clause-stands
returns-in-Ok-clause-stands g c = stands_later c.args.self.now.first _ c.in_ok-board.board c.run_to.new.board c.in_ok-board.ensures.stands c.in-Ok.ensures.ok

pub returns-in-Ok-clause-before : goal.returns-in-Ok-clause-before
returns-in-Ok-clause-before g c =
    let before = c.in_ok-board.ensures.before in
    let ran = c.in-Ok.ensures.ok.clock in
    omega (arith, ran, before, c.max-from.ensures, c.saturating_sub.ensures, c.clock.ensures, c.get.ensures.value)

pub returns-in-Ok-clause-near : goal.returns-in-Ok-clause-near
returns-in-Ok-clause-near g c =
    let before = c.in_ok-board.ensures.before in
    let ran = c.in-Ok.ensures.ok.clock in
    omega (arith, ran, before, c.max-from.ensures, c.saturating_sub.ensures, c.clock.ensures, c.get.ensures.value)
