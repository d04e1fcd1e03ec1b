use Rattle.std.proofs.Common.{◌≡◌, ◌+◌, ◌≤◌, ◌<◌, ◌-◌, refl, sym, ap, ◌∙◌, subst, arith}
use Rattle.std.proofs.lemmas.Map.Keys.{ge_from_not_lt}
use Rattle.board_plain.specs.Board.{BoardState}
use Rattle.board_plain.specs.Plain.{clock_of}
use Rattle.board.specs.Found.{found_at}
use Rattle.probe.specs.declared.seen.Seen.{Seen}
use Rattle.probe.specs.declared.seen.Turn.{Turn}
use Rattle.probe.specs.Met.{asked_by}
use Rattle.probe.specs.ProbeStops.{standing}
use Rattle.probe.specs.Seen.{seen_of}
use Rattle.probe.specs.Watched.{stops_of}
use Rattle.probe.proofs.Searching.{last_all, last_more, last_none, LastSoFar, none_here}
use Rattle.probe.proofs.Meeting.{told_of, Turned, turned}
use Rattle.probe.proofs.Trying.{trail_stays}
use Rattle.probe.proofs.Turns.{looked_next, next_of, one_of}
use Rattle.probe.proofs.looking.last_met.Goals as goal

pub turns-init : goal.turns-init
turns-init c = record {
  so_far = last_none (stops_of c.args.watches.now) c.args.is_first c.args.to c.clock.result c.args.board.now
      c.copy_bytes.new.watches c.standing-here.result c.found_first-last.result c.requires.few c.requires.from
      (c.standing-here.ensures ∙ ap (λ xs. standing xs c.args.board.now.plain) c.copy_bytes.ensures.keeps.stops) c.clock.ensures
      c.found_first-last.ensures c.copy_bytes.ensures.keeps.stops c.copy_bytes.ensures.copies c.copy_bytes.ensures.keeps.watched;
  asked = c.none-turn.ensures.asked ∙ c.asked_by.ensures ∙ ap asked_by c.copy_bytes.ensures.keeps.stops;
  before = (
    c.args.board.now.plain,
    c.none-turn.ensures.before ∙ c.none-turn.ensures.seen ∙ ap (λ a. seen_of a c.args.board.now.plain) (sym c.none-turn.ensures.asked),
  );
  after = c.none-turn.ensures.seen ∙ ap (λ a. seen_of a c.args.board.now.plain) (sym c.none-turn.ensures.asked);
  clock = c.none-turn.ensures.clock;
  room = c.none-turn.ensures.room;
}

pub next-requires : goal.next-requires
next-requires c = (c.turns.invariant.before.0, c.turns.board.plain, c.turns.invariant.before.1, c.turns.invariant.after)

pub found-number-requires-clause-within : goal.found-number-requires-clause-within
found-number-requires-clause-within c = c.turns.invariant.so_far.watched

pub standing_now-here-requires-clause-within : goal.standing_now-here-requires-clause-within
standing_now-here-requires-clause-within c = c.found-number.ensures.keeps.watched

pub standing_now-here-requires-clause-none : goal.standing_now-here-requires-clause-none
standing_now-here-requires-clause-none c = λ none.
    let t : BoardState = c.turns.board in
    let u : BoardState = c.run_turn.new.self in
    let stops = stops_of c.args.watches.now in
    let old = c.turns.watches in
    let new = c.found-number.new.watches in
    let so_far = c.turns.invariant.so_far in
    let one = c.in-Ok.ensures.ok in
    let made : Turn = c.next.new.self in
    let after = next_of c.turns.turn made c.in-Ok.begun t.plain u.plain c.next.ensures.turn c.turns.invariant.after in
    let turn =
    turned stops made c.as_slice.result.now t u old new c.found-number.result so_far.stops_are
    (told_of stops made c.as_slice.result.now t u u c.next_clock-next.result c.args.to old new c.found-number.result so_far.stops_are
    (after.asked ∙ c.turns.invariant.asked) after.before after.after refl
    (c.as_slice.ensures.value ∙ c.in-Ok.ensures.noted) (c.next_clock-next.ensures ∙ ap (λ (x : Seen). x.clock + 1) (sym after.stood))
    (one_of c.turns.turn made c.in-Ok.begun u.plain c.next_clock-next.result c.args.to t u c.next.ensures.turn one)
    c.found-number.ensures.clock c.found-number.ensures.leap c.found-number.ensures.copied) so_far.copies so_far.watched in
    ap (λ xs. standing xs u.plain) (c.found-number.ensures.keeps.stops ∙ so_far.stops_are) ∙ none_here stops t u new (subst (Turned stops t u new) none turn)

pub returns-in_default-clause-keeps : goal.returns-in_default-clause-keeps
returns-in_default-clause-keeps c = record { stops = c.turns.invariant.so_far.stops_are; watched = c.turns.invariant.so_far.watched }

pub turns-preserved : goal.turns-preserved
turns-preserved c =
    let s : BoardState = c.args.board.now in
    let t : BoardState = c.turns.board in
    let u : BoardState = c.run_turn.new.self in
    let stops = stops_of c.args.watches.now in
    let old = c.turns.watches in
    let new = c.found-number.new.watches in
    let so_far = c.turns.invariant.so_far in
    let one = c.in-Ok.ensures.ok in
    let made : Turn = c.next.new.self in
    let after = next_of c.turns.turn made c.in-Ok.begun t.plain u.plain c.next.ensures.turn c.turns.invariant.after in
    let turn =
    turned stops made c.as_slice.result.now t u old new c.found-number.result so_far.stops_are
    (told_of stops made c.as_slice.result.now t u u c.next_clock-next.result c.args.to old new c.found-number.result so_far.stops_are
    (after.asked ∙ c.turns.invariant.asked) after.before after.after refl
    (c.as_slice.ensures.value ∙ c.in-Ok.ensures.noted) (c.next_clock-next.ensures ∙ ap (λ (x : Seen). x.clock + 1) (sym after.stood))
    (one_of c.turns.turn made c.in-Ok.begun u.plain c.next_clock-next.result c.args.to t u c.next.ensures.turn one)
    c.found-number.ensures.clock c.found-number.ensures.leap c.found-number.ensures.copied) so_far.copies so_far.watched in
    let start : made.before.clock ≡ clock_of t.plain = ap (λ (x : Seen). x.clock) after.stood ∙ c.turns.invariant.clock in
    let before_end = one.before_end in
    let clock = one.ran.clock in
    let passed = turn.ran.clock in
    let end : c.clock-clock.result ≡ clock_of u.plain = c.clock-clock.ensures in
    let far : 1 < turn.passed → c.found_before-before_end.result ≡ found_at c.turns.last c.turns.here (clock_of u.plain - 1) = λ more.
    c.found_before-before_end.ensures.far (omega (arith, start, more, passed, end)) ∙ ap (found_at c.turns.last c.turns.here) (omega (arith, end)) in
    let once : turn.passed ≡ 1 → c.found_before-before_end.result ≡ c.turns.last = λ is.
    c.found_before-before_end.ensures.once (omega (arith, start, is, passed, end)) in
    let now : c.standing_now-here.result ≡ standing stops u.plain =
    c.standing_now-here.ensures ∙ ap (λ xs. standing xs u.plain) (c.found-number.ensures.keeps.stops ∙ so_far.stops_are) in
    record {
      so_far = subst (LastSoFar stops c.args.is_first c.args.to s u new c.standing_now-here.result) (sym c.found_at-last.ensures)
          (last_more stops c.args.is_first c.args.to s t u old new c.turns.here c.found-number.result
          c.standing_now-here.result c.turns.last c.found_before-before_end.result c.clock-clock.result so_far turn far once end
          (omega (arith, before_end, clock)) now c.found-number.ensures.keeps);
      asked = after.asked ∙ c.turns.invariant.asked;
      before = (t.plain, after.before);
      after = after.after;
      clock = c.next.ensures.clock;
      room = c.next.ensures.room;
    }

pub returns-clause-found : goal.returns-clause-found
returns-clause-found c =
    let late : c.args.to ≤ c.clock-in-turns.result = ge_from_not_lt c.clock-in-turns.result c.args.to (sym c.lt.ensures ∙ c.turns-test.false) in
    last_all (stops_of c.args.watches.now) c.args.is_first c.args.to c.args.board.now c.turns.board
    c.turns.watches c.turns.here c.turns.last c.turns.invariant.so_far (omega (arith, late, c.clock-in-turns.ensures))

pub returns-clause-keeps : goal.returns-clause-keeps
returns-clause-keeps c = record { stops = c.turns.invariant.so_far.stops_are; watched = c.turns.invariant.so_far.watched }

pub found-number-requires-clause-few : goal.found-number-requires-clause-few
found-number-requires-clause-few c =
    trail_stays c.in-Ok.ensures.ok.passed c.turns.board c.run_turn.new.self c.in-Ok.ensures.ok.ran

pub found-number-requires-clause-looked : goal.found-number-requires-clause-looked
found-number-requires-clause-looked c =
    looked_next c.turns.turn c.next.new.self c.in-Ok.begun c.turns.board c.run_turn.new.self c.run_turn.new.self c.next_clock-next.result c.args.to
    c.next.ensures.turn c.turns.invariant.after c.turns.invariant.room c.next.ensures.room
    (omega (arith, c.next_clock-next.ensures, c.next_clock-next.type_inv)) refl c.in-Ok.ensures.ok
