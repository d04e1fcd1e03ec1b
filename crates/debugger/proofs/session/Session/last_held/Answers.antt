use Rattle.std.proofs.Common.{◌≡◌, ℕ, ◌+◌, ◌-◌, ◌≤◌, subst, arith}
use Rattle.board_plain.specs.Board.{BoardState}
use Rattle.board_plain.specs.Lasts.{HeldLast, IsLastOf, NoneHeld}
use Rattle.board_plain.specs.Plain.{clock_of}
use Rattle.debugger_meaning.specs.Stands.{gone}
use Rattle.debugger_meaning.proofs.Following.{Searched, found_after, searched_more}
use Rattle.debugger_meaning.proofs.Standing.{stands_later}
use Rattle.debugger.proofs.session.Session.last_held.Goals as goal

pub returns-in-Some : goal.returns-in-Some
returns-in-Some g c =
    let p : BoardState = c.in_ok-board.board in
    let q : BoardState = c.run_to.new.board in
    let stands = c.in_ok-board.ensures.stands in
    let within = c.in_ok-board.ensures.before in
    let n : ℕ = c.stretches.bound - 1 - clock_of p.plain + 1 in
    let top : c.stretches.bound ≡ clock_of p.plain + n = omega (arith, within, c.stretches-test.true) in
    let last : HeldLast c.args.stops.now.items n p.plain c.in-Some.found.0 c.in-Some.found.1 =
    subst (IsLastOf c.args.stops.now.items n p.plain) c.in-Some.is c.in_ok-found.ensures.last in
    let on = c.in_ok-run_to-in-Some.ensures.ok in
    let then = on.clock in
    let past = last.clock_is in (
      stands_later c.args.self.now.first _ p q stands on,
      omega (arith, then, past, c.get.ensures.value),
      found_after c.args.stops.now.items stands.0 n c.stretches.bound (gone c.args.self.now) c.in-Some.found.0 c.in-Some.found.1
          c.args.self.now.first.plain p.plain stands.1.plain stands.1.clock top c.stretches.invariant last,
    )

pub stretches-preserved : goal.stretches-preserved
stretches-preserved g c =
    let p : BoardState = c.in_ok-board.board in
    let stands = c.in_ok-board.ensures.stands in
    let within = c.in_ok-board.ensures.before in
    let n : ℕ = c.stretches.bound - 1 - clock_of p.plain + 1 in
    let top : c.stretches.bound ≡ clock_of p.plain + n = omega (arith, within, c.stretches-test.true) in
    let nothing : NoneHeld c.args.stops.now.items n p.plain =
    subst (IsLastOf c.args.stops.now.items n p.plain) c.in-None.is c.in_ok-found.ensures.last in
    let at : clock_of p.plain ≡ c.get-bound-in-None.result = omega (arith, c.get-bound-in-None.ensures.value, c.clock-in-None.ensures) in
    subst (λ (bound : ℕ). Searched c.args.stops.now.items bound (gone c.args.self.now) c.args.self.now.first.plain) at
    (searched_more c.args.stops.now.items stands.0 n c.stretches.bound (gone c.args.self.now) c.args.self.now.first.plain p.plain
    stands.1.plain stands.1.clock top c.stretches.invariant nothing)
