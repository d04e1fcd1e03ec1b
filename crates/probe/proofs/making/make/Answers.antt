use Rattle.std.proofs.Common.{◌≡◌, ◌+◌, ◌^◌, ◌≤◌, ap, refl, sym, ◌∙◌, arith}
use Rattle.std.proofs.lemmas.Map.Keys.{ge_from_not_lt}
use Rattle.board_plain.specs.Board.{BoardState}
use Rattle.board_plain.specs.Plain.{clock_of}
use Rattle.debugger_meaning.specs.Stands.{SessionState}
use Rattle.probe.specs.declared.seen.Seen.{Seen}
use Rattle.probe.specs.declared.seen.Turn.{Turn}
use Rattle.probe.specs.Seen.{IsMadeAfter, next_turn, seen_of}
use Rattle.probe.proofs.Counting.{ends_at, on_ok}
use Rattle.probe.proofs.Made.{all_made, made_next, more_made, none_made, short_after}
use Rattle.probe.proofs.Turns.{looked_next, next_of, seen_clock}
use Rattle.probe.proofs.making.make.Goals as goal

pub turns-init : goal.turns-init
turns-init g c =
    let s : SessionState = c.args.session.now in
    let start : c.clock-start.result ≡ clock_of s.board.plain = c.clock-start.ensures ∙ ap (λ (x : BoardState). clock_of x.plain) c.board.ensures.board in
    let end : c.unwrap-end.result ≡ clock_of s.board.plain + c.args.count =
    ends_at c.new.result c.unwrap-end.result c.get-2.result c.clock-start.result (clock_of s.board.plain) c.args.count _ c.new.ensures
    c.unwrap-end.ensures c.get-2.ensures.value start in
    let limit : clock_of s.board.plain + c.args.count ≤ 2 ^ 40 = omega (arith, c.if-get-count.false, c.get.ensures.value, start) in
    record {
      so_far = none_made (λ n. g.V.Visitor.saw c.args.visitor.now s.board.plain n) c.unwrap-end.result s c.board.ensures.few (omega (arith, end)) c.requires;
      asked = c.none-turn.ensures.asked ∙ c.asked.ensures;
      before = (
        c.board-2.result.now.plain,
        c.none-turn.ensures.before ∙ c.none-turn.ensures.seen ∙ ap (λ a. seen_of a c.board-2.result.now.plain) (sym c.none-turn.ensures.asked),
      );
      after = c.none-turn.ensures.seen ∙ ap (λ a. seen_of a c.board-2.result.now.plain) (sym c.none-turn.ensures.asked)
          ∙ ap (λ (b : BoardState). seen_of c.none-turn.result.asked b.plain) c.board-2.ensures.board;
      room = c.none-turn.ensures.room;
      manner = refl;
    }

pub next-requires : goal.next-requires
next-requires g c = (c.turns.invariant.before.0, c.turns.session.board.plain, c.turns.invariant.before.1, c.turns.invariant.after)

pub see-requires-clause-looked : goal.see-requires-clause-looked
see-requires-clause-looked g c =
    let s : SessionState = c.args.session.now in
    let t : SessionState = c.turns.session in
    let u : SessionState = c.run_turn.new.self in
    let b : BoardState = c.board-in-turns-3.result.now in
    let so_far = c.turns.invariant.so_far in
    let one = c.in_ok-begun.ensures.ok in
    let turn : Turn = c.next.new.self in
    let is : turn ≡ next_turn c.turns.turn c.in_ok-begun.begun b.plain =
    c.next.ensures.turn ∙ ap (λ (x : BoardState). next_turn c.turns.turn c.in_ok-begun.begun x.plain)
    (c.board-in-turns-2.ensures.board ∙ sym c.board-in-turns-3.ensures.board) in
    let start : c.clock-start.result ≡ clock_of s.board.plain = c.clock-start.ensures ∙ ap (λ (x : BoardState). clock_of x.plain) c.board.ensures.board in
    let end : c.unwrap-end.result ≡ clock_of s.board.plain + c.args.count =
    ends_at c.new.result c.unwrap-end.result c.get-2.result c.clock-start.result (clock_of s.board.plain) c.args.count _ c.new.ensures
    c.unwrap-end.ensures c.get-2.ensures.value start in
    let limit : clock_of s.board.plain + c.args.count ≤ 2 ^ 40 = omega (arith, c.if-get-count.false, c.get.ensures.value, start) in
    let from : c.turns.turn.after.clock ≡ clock_of t.board.plain =
    ap (λ (x : Seen). x.clock) c.turns.invariant.after ∙ seen_clock c.turns.turn.asked t.board.plain in
    let some = one.some in
    let within = one.before_end in
    looked_next c.turns.turn turn c.in_ok-begun.begun t.board u.board b c.unwrap-end.result c.unwrap-end.result is c.turns.invariant.after
    c.turns.invariant.room c.next.ensures.room (omega (arith, from, some, within, end, limit)) c.board-in-turns-3.ensures.board one

pub see-requires-clause-asked : goal.see-requires-clause-asked
see-requires-clause-asked g c = ap (λ (x : Turn). x.asked) c.next.ensures.turn ∙ c.turns.invariant.asked

pub see-requires-clause-so_far : goal.see-requires-clause-so_far
see-requires-clause-so_far g c =
    let s : SessionState = c.args.session.now in
    let t : SessionState = c.turns.session in
    let u : SessionState = c.run_turn.new.self in
    let b : BoardState = c.board-in-turns-3.result.now in
    let so_far = c.turns.invariant.so_far in
    let one = c.in_ok-begun.ensures.ok in
    let turn : Turn = c.next.new.self in
    let is : turn ≡ next_turn c.turns.turn c.in_ok-begun.begun b.plain =
    c.next.ensures.turn ∙ ap (λ (x : BoardState). next_turn c.turns.turn c.in_ok-begun.begun x.plain)
    (c.board-in-turns-2.ensures.board ∙ sym c.board-in-turns-3.ensures.board) in
    let made = made_next c.turns.turn turn c.in_ok-begun.begun t.board u.board b c.unwrap-end.result is c.turns.invariant.after
    c.board-in-turns-3.ensures.board one in
    let after : IsMadeAfter turn s.board.plain so_far.passed t.board b =
    record { made = made; plain = so_far.ran.plain; clock = so_far.ran.clock } in
    (s.board.plain, so_far.passed, t.board, so_far.seen, after)

pub returns-then-is_err-clause-made : goal.returns-then-is_err-clause-made
returns-then-is_err-clause-made g c =
    let s : SessionState = c.args.session.now in
    let t : SessionState = c.turns.session in
    let u : SessionState = c.run_turn.new.self in
    let so_far = c.turns.invariant.so_far in
    let one = c.in_ok-begun.ensures.ok in
    let start : c.clock-start.result ≡ clock_of s.board.plain = c.clock-start.ensures ∙ ap (λ (x : BoardState). clock_of x.plain) c.board.ensures.board in
    let end : c.unwrap-end.result ≡ clock_of s.board.plain + c.args.count =
    ends_at c.new.result c.unwrap-end.result c.get-2.result c.clock-start.result (clock_of s.board.plain) c.args.count _ c.new.ensures
    c.unwrap-end.ensures c.get-2.ensures.value start in
    let limit : clock_of s.board.plain + c.args.count ≤ 2 ^ 40 = omega (arith, c.if-get-count.false, c.get.ensures.value, start) in
    short_after (λ n. g.V.Visitor.saw c.turns.visitor s.board.plain n) c.args.count c.unwrap-end.result s t u c.lacking.result so_far one
    c.in_ok-begun.ensures.stops c.in_ok-begun.ensures.first end limit c.lacking.ensures

pub turns-preserved : goal.turns-preserved
turns-preserved g c =
    let s : SessionState = c.args.session.now in
    let t : SessionState = c.turns.session in
    let u : SessionState = c.run_turn.new.self in
    let b : BoardState = c.board-in-turns-3.result.now in
    let so_far = c.turns.invariant.so_far in
    let one = c.in_ok-begun.ensures.ok in
    let turn : Turn = c.next.new.self in
    let is : turn ≡ next_turn c.turns.turn c.in_ok-begun.begun b.plain =
    c.next.ensures.turn ∙ ap (λ (x : BoardState). next_turn c.turns.turn c.in_ok-begun.begun x.plain)
    (c.board-in-turns-2.ensures.board ∙ sym c.board-in-turns-3.ensures.board) in
    let made = made_next c.turns.turn turn c.in_ok-begun.begun t.board u.board b c.unwrap-end.result is c.turns.invariant.after
    c.board-in-turns-3.ensures.board one in
    let after : IsMadeAfter turn s.board.plain so_far.passed t.board b =
    record { made = made; plain = so_far.ran.plain; clock = so_far.ran.clock } in
    let saw = on_ok c.see.result c.is_err.result c.is_err.ensures.value c.if-is_err.false c.see.ensures.saw in
    let here : clock_of b.plain ≡ clock_of u.board.plain = ap (λ (x : BoardState). clock_of x.plain) c.board-in-turns-3.ensures.board in
    let seen_clock = made.one.ran.clock in
    let made_clock = one.ran.clock in
    let same : made.one.passed ≡ one.passed = omega (arith, seen_clock, made_clock, here) in
    record {
      so_far = more_made (λ n. g.V.Visitor.saw c.see.new.self s.board.plain n) c.unwrap-end.result s t u so_far.passed made.one.passed so_far.within
          so_far.turns so_far.ran so_far.stops so_far.first one same c.in_ok-begun.ensures.stops c.in_ok-begun.ensures.first
          (saw s.board.plain so_far.passed t.board after c.in_ok-begun.ensures.noted so_far.seen);
      asked = ap (λ (x : Turn). x.asked) is ∙ c.turns.invariant.asked ∙ ap g.V.Visitor.asks (sym c.see.ensures.manner);
      before = (t.board.plain, (next_of c.turns.turn turn c.in_ok-begun.begun t.board.plain b.plain is c.turns.invariant.after).before);
      after = (next_of c.turns.turn turn c.in_ok-begun.begun t.board.plain b.plain is c.turns.invariant.after).after
          ∙ ap (λ (x : BoardState). seen_of turn.asked x.plain) c.board-in-turns-3.ensures.board;
      room = c.next.ensures.room;
      manner = c.see.ensures.manner ∙ c.turns.invariant.manner;
    }

pub returns-clause-made : goal.returns-clause-made
returns-clause-made g c =
    let s : SessionState = c.args.session.now in
    let t : SessionState = c.turns.session in
    let start : c.clock-start.result ≡ clock_of s.board.plain = c.clock-start.ensures ∙ ap (λ (x : BoardState). clock_of x.plain) c.board.ensures.board in
    let end : c.unwrap-end.result ≡ clock_of s.board.plain + c.args.count =
    ends_at c.new.result c.unwrap-end.result c.get-2.result c.clock-start.result (clock_of s.board.plain) c.args.count _ c.new.ensures
    c.unwrap-end.ensures c.get-2.ensures.value start in
    let limit : clock_of s.board.plain + c.args.count ≤ 2 ^ 40 = omega (arith, c.if-get-count.false, c.get.ensures.value, start) in
    let late : c.unwrap-end.result ≤ c.clock.result = ge_from_not_lt c.clock.result c.unwrap-end.result (sym c.lt.ensures ∙ c.turns-test.false) in
    let here : c.clock.result ≡ clock_of t.board.plain = c.clock.ensures ∙ ap (λ (b : BoardState). clock_of b.plain) c.board-in-turns.ensures.board in
    all_made (λ n. g.V.Visitor.saw c.turns.visitor s.board.plain n) c.args.count c.unwrap-end.result s t c.turns.invariant.so_far end
    (omega (arith, late, here)) limit
