use Rattle.std.proofs.Common.{◌≡◌, ◌-◌, ◌≤◌, length, map, ap, ◌∙◌, subst}
use Rattle.std.specs.Option.{option_to_list}
use Rattle.std.specs.Prelude.{IfOk, IfSome, OnOk}
use Rattle.events.specs.Accesses.{accesses_next}
use Rattle.board.specs.OneTurn.{begun_of}
use Rattle.board.specs.UnseenClocks.{WiresStayThen}
use Rattle.board.specs.Turns.{IsTurnOn}
use Rattle.std.specs.Vec.{vec_capacity}
use Rattle.board_plain.specs.Board.{BoardState}
use Rattle.board_plain.specs.Plain.{Plain, clock_of}
use Rattle.board_plain.specs.Trail.{trail_next}
use Rattle.board.proofs.OneTurn.{turned_once}
use Rattle.board.proofs.board.Board.run_turn.Goals as goal

pub returns-clause-ok : goal.returns-clause-ok
returns-clause-ok g c =
    let s : BoardState = c.args.self.now in
    let p : Plain = c.look_ahead.new.self in
    let same : p ≡ s.plain = c.look_ahead.ensures ∙ ap (λ (b : BoardState). b.plain) c.self.view_is in
    let changes = c.self.inside.changes in
    let looked : (record {
      plain = p;
      changes = changes.items;
      room = vec_capacity changes - length changes.items;
      trail = c.self.inside.trail;
      turns = c.self.inside.turns;
    })
    ≡ s =
    ap (λ (q : Plain).
    record { plain = q; changes = changes.items; room = vec_capacity changes - length changes.items; trail = c.self.inside.trail; turns = c.self.inside.turns })
    c.look_ahead.ensures
    ∙ c.self.view_is in
    let few : length s.trail ≤ 32 = subst (λ (b : BoardState). length b.trail ≤ 32) c.self.view_is c.self.invariant.1 in
    turned_once c.args.over_edges c.args.within c.args.end c.get-by.result c.get-to.result s c.turn_by.new.self
    c.turn_by.result few c.requires.before c.requires.order c.get-by.ensures.value c.get-to.ensures.value
    (subst (λ (b : BoardState). OnOk c.turn_by.result (IsTurnOn c.get-by.result c.get-to.result b c.turn_by.new.self)) looked c.turn_by.ensures.ok)
    (λ not. subst (λ (q : Plain). OnOk c.turn_by.result (WiresStayThen c.get-by.result q c.turn_by.new.self.plain)) same (c.turn_by.ensures.steady not))
    (subst (λ (q : Plain). IfOk c.turn_by.result (λ begun. option_to_list begun ≡ map begun_of (trail_next q))) same c.turn_by.ensures.begun)
    (subst (λ (q : Plain). IfOk c.turn_by.result (λ begun. IfSome begun (λ b. b.clock ≡ clock_of q))) same c.turn_by.ensures.clock)

pub returns-clause-noted : goal.returns-clause-noted
returns-clause-noted g c =
    let same : c.look_ahead.new.self ≡ c.args.self.now.plain = c.look_ahead.ensures ∙ ap (λ (b : BoardState). b.plain) c.self.view_is in
    subst (λ (q : Plain). OnOk c.turn_by.result (g.N.Notes.are c.turn_by.new.notes (accesses_next q))) same c.turn_by.ensures.noted
