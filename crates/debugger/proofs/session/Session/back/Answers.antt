use Rattle.std.proofs.Common.{ℕ, ◌-◌, subst, arith}
use Rattle.debugger_meaning.specs.SessionInvariant.{StandsNow}
use Rattle.debugger_meaning.proofs.Returning.{goes_back}
use Rattle.debugger.proofs.session.Session.back.Goals as goal

pub returns : goal.returns
returns g c =
    goes_back c.args.count (c.get-now.result - c.args.count) c.clock-2.result c.args.self.now c.stand.new.self c.requires
    (omega (
      arith,
      c.if-now-get.false,
      c.clock.ensures.clock,
      c.get-now.ensures.value,
      c.first_clock.ensures.clock,
      c.get.ensures.value,
      c.first_clock.ensures.earlier,
    ))
    (omega (arith, c.clock.ensures.clock, c.get-now.ensures.value)) (subst (λ (clock : ℕ). StandsNow clock c.args.self.now c.stand.new.self)
    (omega (arith, c.in_ok-board.ensures.before, c.in_ok-board.ensures.near)) c.stand.ensures)
    c.clock-2.ensures.clock
