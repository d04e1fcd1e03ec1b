use Rattle.std.proofs.Common.{◌≡◌, ◌<◌, ◌+◌, ◌-◌, ◌∙◌, refl, sym, ap, subst, arith, None}
use Rattle.std.specs.Bool.{IsTrue}
use Rattle.std.proofs.lemmas.Grind.{common_steps}
use Rattle.board.specs.AwaitFree.{AllAwaitFree}
use Rattle.board.specs.IpRange.{AllWithin, is_unwatched}
use Rattle.board.proofs.IpRange.{stops_nowhere}
use Rattle.board.specs.Found.{found_at}
use Rattle.board.proofs.Latest.{Looked}
use Rattle.board_plain.specs.Plain.{clock_of}
use Rattle.board.proofs.Latest.{looked_between, looked_none}
use Rattle.board.proofs.Search.{between_moves}
use Rattle.board.proofs.Turns.{held_run, not_counted}
use Rattle.board.proofs.board.Board.run_last.Goals as goal

pub returns-then-is_past_limit-clause-turns_least : goal.returns-then-is_past_limit-clause-turns_least
returns-then-is_past_limit-clause-turns_least g c = (not_counted c.args.self.now c.args.self.now refl).least

pub turns-init : goal.turns-init
turns-init g c = looked_none c.args.stops.now.items _ c.args.self.now c.is_past_limit.ensures.trail (omega (arith, c.clock.ensures, c.get.ensures.value))

pub turns-smaller : goal.turns-smaller
turns-smaller g c =
    between_moves _ _ _ _ _ (omega (arith, c.turns-test.true, c.clock-in-turns.ensures, c.get-in-turns.ensures.value)) c.in_ok-turn_between.ensures.ok

pub returns-in_err-turn_between-clause-succeeds : goal.returns-in_err-turn_between-clause-succeeds
returns-in_err-turn_between-clause-succeeds g c = λ within enough.
    absurd ((held_run 1 _ c.args.count _ _ _ c.turns.invariant.so_far (omega arith) (omega (arith, c.clock.ensures, c.get.ensures.value))
    (omega (arith, c.turns-test.true, c.clock-in-turns.ensures, c.get-in-turns.ensures.value)) c.in_err-turn_between.ensures.err).enough enough)

pub turns-preserved : goal.turns-preserved
turns-preserved g c =
    let before : clock_of c.turns.self.plain < c.get.result + c.args.count =
    omega (arith, c.turns-test.true, c.clock-in-turns.ensures, c.get-in-turns.ensures.value) in
    let waits : IsTrue c.stops_nowhere.result → AllAwaitFree c.args.stops.now.items × (c.holding-here.result ≡ None) =
    λ yes. (subst AllAwaitFree c.as_slice.ensures.value (c.all_await_free-whole.ensures (c.stops_nowhere.ensures yes).0), (c.stops_nowhere.ensures yes).1) in
    let told : c.unwrap.result ≡ c.get-in-turns-2.result - 1 = grind (arith, common_steps) in
    subst (Looked c.args.stops.now.items (c.get.result + c.args.count) c.args.self.now c.turn_between.new.self)
    (sym (c.latest-last.ensures ∙ ap (found_at c.turns.last c.holding-here.result)
    (told ∙ ap (λ n. n - 1) (c.get-in-turns-2.ensures.value ∙ c.clock-in-turns-2.ensures))))
    (looked_between (is_unwatched c.of-ip_range.result) c.args.stops.now.items (c.get.result + c.args.count)
    c.stops_nowhere.result c.args.self.now c.turns.self c.turn_between.new.self c.turns.last c.holding-here.result waits
    (stops_nowhere c.of-ip_range.result c.args.stops.now.items (subst (AllWithin c.of-ip_range.result) c.as_slice-2.ensures.value c.of-ip_range.ensures))
    c.turns.invariant (sym c.holding-here.ensures) before c.in_ok-turn_between.ensures.ok)
