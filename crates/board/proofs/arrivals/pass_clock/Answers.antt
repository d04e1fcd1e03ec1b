use Rattle.std.proofs.Common.{◌≡◌, ◌+◌, ◌-◌, ◌∙◌, ap, subst, arith}
use Rattle.std.proofs.lemmas.Grind.{common_steps}
use Rattle.wiring.specs.Wires.{after_clocks}
use Rattle.board.specs.Arrivals.{HaveArrived}
use Rattle.board_plain.proofs.Clocks.{clock_passed}
use Rattle.board.proofs.arrivals.pass_clock.Goals as goal

pub returns-clause-chips : goal.returns-clause-chips
returns-clause-chips c =
    let told : c.unwrap.result ≡ c.get-clock.result + 1 = grind (arith, common_steps) in
    clock_passed c.args.chips.now c.args.keys.now _ _ _ _ (ap (λ n. n + 1) (c.get-clock.ensures.value ∙ c.clock.ensures))
    (c.sync.ensures.chips ∙ ap (λ n. after_clocks c.args.chips.now (n - c.args.chips.now.clock)) told)
    c.let_arrive.ensures.chips c.settle.ensures.chips

pub returns-clause-arrived : goal.returns-clause-arrived
returns-clause-arrived c =
    let at : c.get-clock.result + 1 + 1 ≡ c.args.chips.now.clock + 2 = omega (arith, c.get-clock.ensures.value, c.clock.ensures) in
    subst (λ n. HaveArrived c.let_arrive.new.arrived n c.args.keys.now) at c.let_arrive.ensures.arrived
