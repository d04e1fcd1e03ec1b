use Rattle.std.proofs.Common.{◌≡◌, ◌<◌, ◌+◌, None, Some, refl, sym, ap, ◌∙◌, subst, arith}
use Rattle.board_plain.specs.Plain.{clock_of}
use Rattle.board_plain.specs.Stops.{holding}
use Rattle.board.proofs.Search.{between_moves, found, held_at_once, held_search, nothing_found, searched_between, searched_first}
use Rattle.board.proofs.Turns.{not_counted, turn_alone}
use Rattle.board.specs.Turns.{IsTurnOn}
use Rattle.board.specs.AwaitFree.{AllAwaitFree}
use Rattle.board.specs.IpRange.{AllWithin, is_unwatched}
use Rattle.board.proofs.IpRange.{stops_nowhere}
use Rattle.std.specs.Bool.{IsTrue}
use Rattle.board.proofs.board.Board.run_until.Goals as goal

pub returns-then-is_past_limit-clause-turns_least : goal.returns-then-is_past_limit-clause-turns_least
returns-then-is_past_limit-clause-turns_least g c = (not_counted c.args.self.now c.args.self.now refl).least

pub returns-then-count-eq0-clause-ran : goal.returns-then-count-eq0-clause-ran
returns-then-count-eq0-clause-ran g c =
    (nothing_found c.args.stops.now.items c.args.count c.args.self.now c.args.self.now c.is_past_limit.ensures.trail c.if-count-eq0.true refl).ran

pub returns-then-count-eq0-clause-turns_least : goal.returns-then-count-eq0-clause-turns_least
returns-then-count-eq0-clause-turns_least g c = (not_counted c.args.self.now c.args.self.now refl).least

pub returns-in_err-turn-clause-memory : goal.returns-in_err-turn-clause-memory
returns-in_err-turn-clause-memory g c = λ _.
    (held_at_once c.args.stops.now.items (c.get.result + c.args.count) c.args.count c.args.self.now c.turn.new.self c.is_past_limit.ensures.trail
    (omega (arith, c.clock.ensures, c.get.ensures.value))
    (omega (arith, c.clock.ensures, c.get.ensures.value, c.if-count-eq0.false)) c.in_err-turn.ensures.err).run.early

pub returns-in_err-turn-clause-succeeds : goal.returns-in_err-turn-clause-succeeds
returns-in_err-turn-clause-succeeds g c = λ within enough.
    absurd ((held_at_once c.args.stops.now.items (c.get.result + c.args.count) c.args.count c.args.self.now c.turn.new.self c.is_past_limit.ensures.trail
    (omega (arith, c.clock.ensures, c.get.ensures.value))
    (omega (arith, c.clock.ensures, c.get.ensures.value, c.if-count-eq0.false)) c.in_err-turn.ensures.err).run.enough
    enough)

pub returns-in_err-turn-clause-succeeds_to_stop : goal.returns-in_err-turn-clause-succeeds_to_stop
returns-in_err-turn-clause-succeeds_to_stop g c = λ within enough.
    absurd ((held_at_once c.args.stops.now.items (c.get.result + c.args.count) c.args.count c.args.self.now c.turn.new.self c.is_past_limit.ensures.trail
    (omega (arith, c.clock.ensures, c.get.ensures.value))
    (omega (arith, c.clock.ensures, c.get.ensures.value, c.if-count-eq0.false)) c.in_err-turn.ensures.err).fits
    enough)

pub returns-in_err-turn-clause-turns_least : goal.returns-in_err-turn-clause-turns_least
returns-in_err-turn-clause-turns_least g c =
    (held_at_once c.args.stops.now.items (c.get.result + c.args.count) c.args.count c.args.self.now c.turn.new.self c.is_past_limit.ensures.trail
    (omega (arith, c.clock.ensures, c.get.ensures.value))
    (omega (arith, c.clock.ensures, c.get.ensures.value, c.if-count-eq0.false)) c.in_err-turn.ensures.err).run.counts.least

pub turns-init : goal.turns-init
turns-init g c =
    let next : c.get-next.result + 1 ≡ clock_of c.args.self.now.plain + 1 = ap (λ n. n + 1) (c.get-next.ensures.value ∙ c.clock-2.ensures) in
    searched_first c.args.stops.now.items (c.get.result + c.args.count) c.args.self.now c.turn.new.self c.is_past_limit.ensures.trail
    (omega (arith, c.clock.ensures, c.get.ensures.value, c.if-count-eq0.false))
    (turn_alone c.args.self.now c.turn.new.self c.is_past_limit.ensures.trail
    (subst (λ n. IsTurnOn n n c.args.self.now c.turn.new.self) next c.in_ok-turn.ensures.ok))

pub turns-smaller : goal.turns-smaller
turns-smaller g c =
    let x = c.turns in
    let within = c.turns.invariant.so_far.within in
    between_moves _ _ _ _ _ (omega (arith, within, c.clock-in-turns.ensures, c.get-in-turns.ensures.value, c.if-get-end.false)) c.in_ok-turn_between.ensures.ok

pub turns-preserved : goal.turns-preserved
turns-preserved g c =
    let here : holding c.args.stops.now.items c.turns.self.plain ≡ None = sym c.holding.ensures ∙ c.in_default.is in
    let within = c.turns.invariant.so_far.within in
    let before : clock_of c.turns.self.plain < c.get.result + c.args.count =
    omega (arith, within, c.clock-in-turns.ensures, c.get-in-turns.ensures.value, c.if-get-end.false) in
    let waits : IsTrue c.all_await_free-whole.result → AllAwaitFree c.args.stops.now.items = λ yes.
    subst AllAwaitFree c.as_slice.ensures.value (c.all_await_free-whole.ensures yes) in
    searched_between (is_unwatched c.of-ip_range.result) c.args.stops.now.items
    (c.get.result + c.args.count) c.all_await_free-whole.result c.args.self.now c.turns.self c.turn_between.new.self waits
    (stops_nowhere c.of-ip_range.result c.args.stops.now.items (subst (AllWithin c.of-ip_range.result) c.as_slice-2.ensures.value c.of-ip_range.ensures))
    c.turns.invariant here before c.in_ok-turn_between.ensures.ok

pub returns-in_err-turn_between-clause-succeeds : goal.returns-in_err-turn_between-clause-succeeds
returns-in_err-turn_between-clause-succeeds g c = λ within_limit enough.
    let here : holding c.args.stops.now.items c.turns.self.plain ≡ None = sym c.holding.ensures ∙ c.in_default.is in
    let within = c.turns.invariant.so_far.within in
    let before : clock_of c.turns.self.plain < c.get.result + c.args.count =
    omega (arith, within, c.clock-in-turns.ensures, c.get-in-turns.ensures.value, c.if-get-end.false) in
    let held = held_search c.args.stops.now.items (c.get.result + c.args.count) c.args.count c.args.self.now c.turns.self c.turn_between.new.self
    c.turns.invariant here (omega (arith, c.clock.ensures, c.get.ensures.value)) before c.in_err-turn_between.ensures.err in
    absurd (held.run.enough enough)

pub returns-in_err-turn_between-clause-succeeds_to_stop : goal.returns-in_err-turn_between-clause-succeeds_to_stop
returns-in_err-turn_between-clause-succeeds_to_stop g c = λ within_limit enough.
    let here : holding c.args.stops.now.items c.turns.self.plain ≡ None = sym c.holding.ensures ∙ c.in_default.is in
    let within = c.turns.invariant.so_far.within in
    let before : clock_of c.turns.self.plain < c.get.result + c.args.count =
    omega (arith, within, c.clock-in-turns.ensures, c.get-in-turns.ensures.value, c.if-get-end.false) in
    let held = held_search c.args.stops.now.items (c.get.result + c.args.count) c.args.count c.args.self.now c.turns.self c.turn_between.new.self
    c.turns.invariant here (omega (arith, c.clock.ensures, c.get.ensures.value)) before c.in_err-turn_between.ensures.err in
    absurd (held.fits enough)

pub returns-in-Some-clause-stop : goal.returns-in-Some-clause-stop
returns-in-Some-clause-stop g c =
    let here : holding c.args.stops.now.items c.turns.self.plain ≡ Some c.in-Some.number = sym c.holding.ensures ∙ c.in-Some.is in
    (found c.args.stops.now.items (c.get.result + c.args.count) c.args.count
    c.args.self.now c.turns.self c.in-Some.number c.clock-clock.result c.turns.invariant
    (omega (arith, c.clock.ensures, c.get.ensures.value)) here c.clock-clock.ensures).stop
