use Rattle.std.proofs.Common.{◌≡◌, ◌+◌, ◌≤◌, length, sym, ap, ◌∙◌, refl, subst, arith}
use Rattle.std.proofs.lemmas.Map.Keys.{ge_from_not_lt}
use Rattle.board_plain.specs.Board.{BoardState}
use Rattle.board_plain.specs.Plain.{clock_of}
use Rattle.probe.specs.declared.seen.Seen.{Seen}
use Rattle.probe.specs.declared.seen.Turn.{Turn}
use Rattle.probe.specs.Met.{asked_by}
use Rattle.probe.specs.Seen.{next_turn, seen_of}
use Rattle.probe.specs.Watched.{AreCopies, stops_of}
use Rattle.probe.proofs.Meeting.{looks_on, met_none, met_none_more, ran_short, ran_some, ran_to_end}
use Rattle.probe.proofs.Trying.{trail_stays}
use Rattle.probe.proofs.Turns.{first_by, later_by, looked_next, next_of, one_of}
use Rattle.probe.proofs.looking.run_to_stop.Goals as goal

pub turns-init : goal.turns-init
turns-init g c = record {
  met = met_none (stops_of c.args.watches.now) c.args.end (g.R.Running.state c.args.run.now) c.copy_bytes.new.watches c.requires.few c.requires.from
      c.copy_bytes.ensures.keeps.stops
      (subst (λ (b : BoardState). AreCopies c.copy_bytes.new.watches b.plain) c.now.ensures c.copy_bytes.ensures.copies)
      c.copy_bytes.ensures.keeps.watched;
  asked = c.none-turn.ensures.asked ∙ c.asked_by.ensures ∙ ap asked_by c.copy_bytes.ensures.keeps.stops;
  before = (
    c.now-3.result.now.plain,
    c.none-turn.ensures.before ∙ c.none-turn.ensures.seen ∙ ap (λ a. seen_of a c.now-3.result.now.plain) (sym c.none-turn.ensures.asked),
  );
  after = c.none-turn.ensures.seen ∙ ap (λ a. seen_of a c.now-3.result.now.plain) (sym c.none-turn.ensures.asked)
      ∙ ap (λ (b : BoardState). seen_of c.none-turn.result.asked b.plain) c.now-3.ensures;
  clock = c.none-turn.ensures.clock ∙ ap (λ (b : BoardState). clock_of b.plain) c.now-3.ensures;
  room = c.none-turn.ensures.room;
  rest = refl;
}

pub next-requires : goal.next-requires
next-requires g c = (c.turns.invariant.before.0, (g.R.Running.state c.turns.run).plain, c.turns.invariant.before.1, c.turns.invariant.after)

pub found-number-requires-clause-within : goal.found-number-requires-clause-within
found-number-requires-clause-within g c = c.turns.invariant.met.watched

pub found-number-requires-clause-few : goal.found-number-requires-clause-few
found-number-requires-clause-few g c =
    let t : BoardState = g.R.Running.state c.turns.run in
    subst (λ (b : BoardState). length b.trail ≤ 32) (sym c.now-in-turns-3.ensures)
    (trail_stays c.in-Ok.ensures.ok.passed t (g.R.Running.state c.make_turn.new.self) c.in-Ok.ensures.ok.ran)

pub found-number-requires-clause-looked : goal.found-number-requires-clause-looked
found-number-requires-clause-looked g c =
    looked_next c.turns.turn c.next.new.self c.in-Ok.begun (g.R.Running.state c.turns.run) (g.R.Running.state c.make_turn.new.self)
    c.now-in-turns-3.result.now c.next_clock-next.result c.turn_end-to.result
    (c.next.ensures.turn ∙ ap (λ (b : BoardState). next_turn c.turns.turn c.in-Ok.begun b.plain)
    (c.now-in-turns-2.ensures ∙ sym c.now-in-turns-3.ensures)) c.turns.invariant.after c.turns.invariant.room c.next.ensures.room
    (omega (arith, c.next_clock-next.ensures, c.next_clock-next.type_inv)) c.now-in-turns-3.ensures c.in-Ok.ensures.ok

pub returns-in_default-clause-ran : goal.returns-in_default-clause-ran
returns-in_default-clause-ran g c =
    let t : BoardState = g.R.Running.state c.turns.run in
    let start : c.turns.turn.after.clock ≡ clock_of t.plain = c.turns.invariant.clock in
    ran_short (stops_of c.args.watches.now) c.args.end (g.R.Running.state c.args.run.now) t (g.R.Running.state c.make_turn.new.self) c.turns.watches
    c.turns.invariant.met (omega (arith, start, c.turn_end-to.ensures.later, c.turn_end-to.ensures.within)) c.in_default.ensures.err

pub returns-in_default-clause-rest : goal.returns-in_default-clause-rest
returns-in_default-clause-rest g c = c.make_turn.ensures.rest ∙ c.turns.invariant.rest

pub returns-in_default-clause-keeps : goal.returns-in_default-clause-keeps
returns-in_default-clause-keeps g c = record { stops = c.turns.invariant.met.stops_are; watched = c.turns.invariant.met.watched }

pub returns-then-is_some-clause-ran : goal.returns-then-is_some-clause-ran
returns-then-is_some-clause-ran g c =
    let s : BoardState = g.R.Running.state c.args.run.now in
    let t : BoardState = g.R.Running.state c.turns.run in
    let u : BoardState = g.R.Running.state c.make_turn.new.self in
    let stops = stops_of c.args.watches.now in
    let turn : Turn = c.next.new.self in
    let is : turn ≡ next_turn c.turns.turn c.in-Ok.begun c.now-in-turns-3.result.now.plain =
    c.next.ensures.turn ∙ ap (λ (b : BoardState). next_turn c.turns.turn c.in-Ok.begun b.plain)
    (c.now-in-turns-2.ensures ∙ sym c.now-in-turns-3.ensures) in
    let after = next_of c.turns.turn turn c.in-Ok.begun t.plain c.now-in-turns-3.result.now.plain is c.turns.invariant.after in
    let first_start : c.get-start.result ≡ clock_of s.plain =
    c.get-start.ensures.value ∙ c.clock.ensures ∙ ap (λ (b : BoardState). clock_of b.plain) c.now-2.ensures in
    let on =
    looks_on stops turn c.as_slice.result.now c.next_clock-next.result c.turn_end-to.result c.args.end c.get-start.result s t u c.now-in-turns-3.result.now
    c.turns.watches c.found-number.new.watches c.found-number.result c.turns.invariant.met
    (after.asked ∙ c.turns.invariant.asked) after.before after.after
    c.now-in-turns-3.ensures (c.as_slice.ensures.value ∙ c.in-Ok.ensures.noted)
    (c.next_clock-next.ensures ∙ ap (λ (x : Seen). x.clock + 1) (sym after.stood))
    (one_of c.turns.turn turn c.in-Ok.begun c.now-in-turns-3.result.now.plain c.next_clock-next.result c.turn_end-to.result
    t u is c.in-Ok.ensures.ok) c.found-number.ensures.clock c.found-number.ensures.leap c.found-number.ensures.copied
    first_start (first_by c.turns.turn.after turn.before c.get-start.result c.turn_end-to.result after.stood c.turn_end-to.ensures.first)
    (later_by c.turns.turn.after turn.before c.get-start.result c.turn_end-to.result c.args.end after.stood c.turn_end-to.ensures.after)
    c.turn_end-to.ensures.within in
    ran_some stops c.args.end s t u c.turns.watches c.found-number.new.watches c.found-number.result
    (sym c.is_some.ensures ∙ c.if-is_some.true) c.turns.invariant.met on.0 on.1.0 on.1.1.0 on.1.1.1

pub returns-then-is_some-clause-rest : goal.returns-then-is_some-clause-rest
returns-then-is_some-clause-rest g c = c.make_turn.ensures.rest ∙ c.turns.invariant.rest

pub turns-preserved : goal.turns-preserved
turns-preserved g c =
    let s : BoardState = g.R.Running.state c.args.run.now in
    let t : BoardState = g.R.Running.state c.turns.run in
    let u : BoardState = g.R.Running.state c.make_turn.new.self in
    let stops = stops_of c.args.watches.now in
    let turn : Turn = c.next.new.self in
    let is : turn ≡ next_turn c.turns.turn c.in-Ok.begun c.now-in-turns-3.result.now.plain =
    c.next.ensures.turn ∙ ap (λ (b : BoardState). next_turn c.turns.turn c.in-Ok.begun b.plain)
    (c.now-in-turns-2.ensures ∙ sym c.now-in-turns-3.ensures) in
    let after = next_of c.turns.turn turn c.in-Ok.begun t.plain c.now-in-turns-3.result.now.plain is c.turns.invariant.after in
    let first_start : c.get-start.result ≡ clock_of s.plain =
    c.get-start.ensures.value ∙ c.clock.ensures ∙ ap (λ (b : BoardState). clock_of b.plain) c.now-2.ensures in
    let on =
    looks_on stops turn c.as_slice.result.now c.next_clock-next.result c.turn_end-to.result c.args.end c.get-start.result s t u c.now-in-turns-3.result.now
    c.turns.watches c.found-number.new.watches c.found-number.result c.turns.invariant.met
    (after.asked ∙ c.turns.invariant.asked) after.before after.after
    c.now-in-turns-3.ensures (c.as_slice.ensures.value ∙ c.in-Ok.ensures.noted)
    (c.next_clock-next.ensures ∙ ap (λ (x : Seen). x.clock + 1) (sym after.stood))
    (one_of c.turns.turn turn c.in-Ok.begun c.now-in-turns-3.result.now.plain c.next_clock-next.result c.turn_end-to.result
    t u is c.in-Ok.ensures.ok) c.found-number.ensures.clock c.found-number.ensures.leap c.found-number.ensures.copied
    first_start (first_by c.turns.turn.after turn.before c.get-start.result c.turn_end-to.result after.stood c.turn_end-to.ensures.first)
    (later_by c.turns.turn.after turn.before c.get-start.result c.turn_end-to.result c.args.end after.stood c.turn_end-to.ensures.after)
    c.turn_end-to.ensures.within in
    record {
      met = met_none_more stops c.args.end s t u c.turns.watches c.found-number.new.watches c.found-number.result (sym c.is_some.ensures ∙ c.if-is_some.false)
          c.turns.invariant.met on.0 on.1.0 on.1.1.0 on.1.1.1 c.found-number.ensures.keeps;
      asked = after.asked ∙ c.turns.invariant.asked;
      before = (t.plain, after.before);
      after = after.after ∙ ap (λ (b : BoardState). seen_of turn.asked b.plain) c.now-in-turns-3.ensures;
      clock = c.next.ensures.clock ∙ ap (λ (b : BoardState). clock_of b.plain) c.now-in-turns-2.ensures;
      room = c.next.ensures.room;
      rest = c.make_turn.ensures.rest ∙ c.turns.invariant.rest;
    }

pub returns-clause-ran : goal.returns-clause-ran
returns-clause-ran g c =
    let late : c.args.end ≤ c.clock-in-turns.result = ge_from_not_lt c.clock-in-turns.result c.args.end (sym c.lt.ensures ∙ c.turns-test.false) in
    let here : c.clock-in-turns.result ≡ clock_of (g.R.Running.state c.turns.run).plain =
    c.clock-in-turns.ensures ∙ ap (λ (b : BoardState). clock_of b.plain) c.now-in-turns.ensures in
    ran_to_end (stops_of c.args.watches.now) c.args.end (g.R.Running.state c.args.run.now) (g.R.Running.state c.turns.run) c.turns.watches
    c.turns.invariant.met (omega (arith, late, here))

pub returns-clause-rest : goal.returns-clause-rest
returns-clause-rest g c = c.turns.invariant.rest

pub returns-clause-keeps : goal.returns-clause-keeps
returns-clause-keeps g c = record { stops = c.turns.invariant.met.stops_are; watched = c.turns.invariant.met.watched }
