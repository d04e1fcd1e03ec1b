use Rattle.std.proofs.Common.{◌≡◌, ◌<◌, ◌-◌, ℕ, Some, None, refl, sym, ap, ◌∙◌, subst, arith}
use Rattle.std.specs.Prelude.{◌==◌}
use Rattle.board_plain.specs.Board.{BoardState}
use Rattle.board_plain.specs.Plain.{clock_of}
use Rattle.debugger_meaning.specs.Stands.{gone, SessionState}
use Rattle.debugger_meaning.proofs.Standing.{few_of}
use Rattle.probe.specs.Looked.{FindsNoStop, from_of, IsFoundIn}
use Rattle.probe.specs.Watched.{stops_of}
use Rattle.probe.proofs.Copies.{keeps_both, keeps_none}
use Rattle.probe.proofs.Counting.{number_of, some_of}
use Rattle.probe.proofs.Searching.{bound_within, next_bound, searched_all, SearchedBack, searched_none, stretch_found, stretch_none}
use Rattle.probe.proofs.probe.search_back.Goals as goal

pub stretches-init : goal.stretches-init
stretches-init c =
    let now : c.get-bound.result ≡ clock_of c.args.session.now.board.plain =
    c.get-bound.ensures.value ∙ c.clock.ensures ∙ ap (λ (b : BoardState). clock_of b.plain) c.board.ensures.board in
    let earlier = c.first_clock.ensures.earlier in (
      keeps_none c.args.watches.now c.requires,
      searched_none (stops_of c.args.watches.now) c.get-bound.result (gone c.args.session.now) c.args.session.now.first.plain (omega (arith, now, earlier)),
    )

pub board_near-requires : goal.board_near-requires
board_near-requires c =
    let first : c.get-first.result ≡ clock_of c.args.session.now.first.plain = c.get-first.ensures.value ∙ c.first_clock.ensures.clock in
    omega (arith, first, c.max-before.ensures)

pub unwrap-to-requires : goal.unwrap-to-requires
unwrap-to-requires c =
    let now : c.get-bound.result ≡ clock_of c.args.session.now.board.plain =
    c.get-bound.ensures.value ∙ c.clock.ensures ∙ ap (λ (b : BoardState). clock_of b.plain) c.board.ensures.board in
    let limit = bound_within (stops_of c.args.watches.now) c.stretches.bound c.get-bound.result
    c.args.session.now c.stretches.invariant.1 c.first_clock.ensures.earlier now c.get-bound.ensures.bound in
    some_of c.new.result (c.stretches.bound - 1) _ c.new.ensures (omega (arith, limit))

pub last_met-found-requires-clause-within : goal.last_met-found-requires-clause-within
last_met-found-requires-clause-within c = c.stretches.invariant.0.watched

pub last_met-found-requires-clause-few : goal.last_met-found-requires-clause-few
last_met-found-requires-clause-few c = few_of c.args.session.now.first c.in-Ok.board c.in-Ok.ensures.stands

pub last_met-found-requires-clause-from : goal.last_met-found-requires-clause-from
last_met-found-requires-clause-from c =
    let p : BoardState = c.in-Ok.board in
    let first : c.get-first.result ≡ clock_of c.args.session.now.first.plain = c.get-first.ensures.value ∙ c.first_clock.ensures.clock in
    let to : c.unwrap-to.result ≡ c.stretches.bound - 1 =
    number_of c.new.result c.unwrap-to.result (c.stretches.bound - 1) _ c.new.ensures c.unwrap-to.ensures in
    let least = c.in-Ok.ensures.before in omega (arith, least, c.max-before.ensures, c.saturating_sub.ensures, c.stretches-test.true, first, to)

pub returns-in_default-clause-keeps : goal.returns-in_default-clause-keeps
returns-in_default-clause-keeps c = c.stretches.invariant.0

pub returns-in-Ok-Some-clause-keeps : goal.returns-in-Ok-Some-clause-keeps
returns-in-Ok-Some-clause-keeps c =
    keeps_both c.args.watches.now c.stretches.watches c.last_met-found.new.watches c.stretches.invariant.0 c.last_met-found.ensures.keeps

pub returns-in-Ok-Some-clause-found : goal.returns-in-Ok-Some-clause-found
returns-in-Ok-Some-clause-found c =
    let s : SessionState = c.args.session.now in
    let p : BoardState = c.in-Ok.board in
    let stops = stops_of c.args.watches.now in
    let is_first = c.get-from.result == c.get-first.result in
    let n : ℕ = c.unwrap-to.result - clock_of p.plain in
    let from : c.get-from.result ≡ clock_of p.plain = c.get-from.ensures.value ∙ c.clock-in-stretches.ensures in
    let first : c.get-first.result ≡ clock_of s.first.plain = c.get-first.ensures.value ∙ c.first_clock.ensures.clock in
    let to : c.unwrap-to.result ≡ c.stretches.bound - 1 =
    number_of c.new.result c.unwrap-to.result (c.stretches.bound - 1) _ c.new.ensures c.unwrap-to.ensures in
    let least = c.in-Ok.ensures.before in
    let before : clock_of p.plain < c.stretches.bound = omega (arith, least, c.max-before.ensures, c.saturating_sub.ensures, c.stretches-test.true, first) in
    let found : IsFoundIn stops is_first n p.plain (Some c.in-Ok-Some.found) =
    subst (λ xs. IsFoundIn xs is_first n p.plain (Some c.in-Ok-Some.found)) c.stretches.invariant.0.stops
    (subst (IsFoundIn (stops_of c.stretches.watches) is_first n p.plain) c.in-Ok-Some.field-0-is c.in-Ok-Some.ensures.found) in
    stretch_found stops c.stretches.bound c.get-from.result c.get-first.result c.unwrap-to.result c.in-Ok-Some.found.0
    c.in-Ok-Some.found.1 s p c.in-Ok.ensures.stands from first to before c.stretches.invariant.1 found

pub stretch_start-bound-requires : goal.stretch_start-bound-requires
stretch_start-bound-requires c =
    let now : c.get-bound.result ≡ clock_of c.args.session.now.board.plain =
    c.get-bound.ensures.value ∙ c.clock.ensures ∙ ap (λ (b : BoardState). clock_of b.plain) c.board.ensures.board in
    let limit = bound_within (stops_of c.args.watches.now) c.stretches.bound c.get-bound.result
    c.args.session.now c.stretches.invariant.1 c.first_clock.ensures.earlier now c.get-bound.ensures.bound in
    let first : c.get-first.result ≡ clock_of c.args.session.now.first.plain = c.get-first.ensures.value ∙ c.first_clock.ensures.clock in
    let from : c.get-from.result ≡ clock_of c.in-Ok.board.plain = c.get-from.ensures.value ∙ c.clock-in-stretches.ensures in
    let least = c.in-Ok.ensures.before in omega (arith, limit, from, least, c.max-before.ensures, c.saturating_sub.ensures, c.stretches-test.true, first)

pub stretches-smaller : goal.stretches-smaller
stretches-smaller c =
    let is_first = c.get-from.result == c.get-first.result in
    let first : c.get-first.result ≡ clock_of c.args.session.now.first.plain = c.get-first.ensures.value ∙ c.first_clock.ensures.clock in
    let from : c.get-from.result ≡ clock_of c.in-Ok.board.plain = c.get-from.ensures.value ∙ c.clock-in-stretches.ensures in
    let least = c.in-Ok.ensures.before in
    let place = c.in-Ok.ensures.stands.1.clock in
    subst (λ n. n < c.stretches.bound) (sym c.stretch_start-bound.ensures)
    (next_bound is_first c.get-first.result c.get-from.result c.stretches.bound c.max-before.result c.saturating_sub.result refl
    (omega (arith, from, first, place)) (omega (arith, from, least)) c.max-before.ensures c.saturating_sub.ensures c.stretches-test.true)

pub returns-in-Err-clause-keeps : goal.returns-in-Err-clause-keeps
returns-in-Err-clause-keeps c =
    keeps_both c.args.watches.now c.stretches.watches c.last_met-found.new.watches c.stretches.invariant.0 c.last_met-found.ensures.keeps

pub returns-in-Err-clause-found : goal.returns-in-Err-clause-found
returns-in-Err-clause-found c =
    subst (FindsNoStop (stops_of c.args.watches.now) (gone c.args.session.now) c.args.session.now.first.plain) (sym c.in-Err.ensures.fault) tt

pub stretches-preserved : goal.stretches-preserved
stretches-preserved c =
    let s : SessionState = c.args.session.now in
    let p : BoardState = c.in-Ok.board in
    let stops = stops_of c.args.watches.now in
    let is_first = c.get-from.result == c.get-first.result in
    let n : ℕ = c.unwrap-to.result - clock_of p.plain in
    let from : c.get-from.result ≡ clock_of p.plain = c.get-from.ensures.value ∙ c.clock-in-stretches.ensures in
    let first : c.get-first.result ≡ clock_of s.first.plain = c.get-first.ensures.value ∙ c.first_clock.ensures.clock in
    let to : c.unwrap-to.result ≡ c.stretches.bound - 1 =
    number_of c.new.result c.unwrap-to.result (c.stretches.bound - 1) _ c.new.ensures c.unwrap-to.ensures in
    let least = c.in-Ok.ensures.before in
    let place = c.in-Ok.ensures.stands.1.clock in
    let before : clock_of p.plain < c.stretches.bound = omega (arith, least, c.max-before.ensures, c.saturating_sub.ensures, c.stretches-test.true, first) in
    let none : IsFoundIn stops is_first n p.plain None =
    subst (λ xs. IsFoundIn xs is_first n p.plain None) c.stretches.invariant.0.stops
    (subst (IsFoundIn (stops_of c.stretches.watches) is_first n p.plain) c.in-Ok-None.field-0-is c.in-Ok-None.ensures.found) in
    let low : from_of is_first c.get-from.result < c.stretches.bound =
    next_bound is_first c.get-first.result c.get-from.result c.stretches.bound c.max-before.result c.saturating_sub.result refl
    (omega (arith, from, first, place)) (omega (arith, from, least)) c.max-before.ensures c.saturating_sub.ensures c.stretches-test.true in (
      keeps_both c.args.watches.now c.stretches.watches c.last_met-found.new.watches c.stretches.invariant.0 c.last_met-found.ensures.keeps,
      subst (λ b. SearchedBack stops b (gone s) s.first.plain) (sym c.stretch_start-bound.ensures)
          (stretch_none stops c.stretches.bound c.get-from.result c.get-first.result c.unwrap-to.result
          s p c.in-Ok.ensures.stands from first to before low c.stretches.invariant.1 none),
    )

pub returns-clause-keeps : goal.returns-clause-keeps
returns-clause-keeps c = c.stretches.invariant.0

pub returns-clause-found : goal.returns-clause-found
returns-clause-found c =
    let first : c.get-first.result ≡ clock_of c.args.session.now.first.plain = c.get-first.ensures.value ∙ c.first_clock.ensures.clock in
    searched_all (stops_of c.args.watches.now) c.stretches.bound (gone c.args.session.now) c.args.session.now.first.plain
    (omega (arith, first, c.stretches-test.false)) c.stretches.invariant.1
