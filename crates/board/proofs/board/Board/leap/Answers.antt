use Rattle.std.proofs.Common.{◌≤◌, refl, subst, arith}
use Rattle.board_plain.specs.Board.{BoardState}
use Rattle.board_plain.specs.Work.{work_next}
use Rattle.board.specs.UnseenClocks.{WiresStay}
use Rattle.board.proofs.Turns.{board_leaps}
use Rattle.board.proofs.board.Board.leap.Goals as goal

pub returns-then-not-leap-clause-works : goal.returns-then-not-leap-clause-works
returns-then-not-leap-clause-works g c = λ _.
    subst (λ (b : BoardState). 1 ≤ work_next b.plain) c.self.view_is (c.leap.ensures.works (λ yes. let no = c.if-not-leap.true in cc))

pub invariant_of-self-2 : goal.invariant_of-self-2
invariant_of-self-2 g c =
    let leap = c.leap.ensures.made c.if-not-leap.false in
    let clock = leap.unseen.clock in
    let some = leap.some in
    let few = leap.within in
    let turns = c.self.invariant.2 in
    (omega (arith, clock, few, some, c.self.invariant.0, c.requires.limit), c.self.invariant.1, omega (arith, some, clock, turns))

pub returns-clause-made : goal.returns-clause-made
returns-clause-made g c = λ _.
    board_leaps c.args.end _ c.args.self.now _ c.self.view_is (c.leap.ensures.made c.if-not-leap.false) refl refl refl refl

pub returns-clause-steady : goal.returns-clause-steady
returns-clause-steady g c = λ not _.
    subst (λ (b : BoardState). WiresStay b.plain c.leap.new.self) c.self.view_is (c.leap.ensures.steady not c.if-not-leap.false)
