use Rattle.std.proofs.Common.{◌≡◌, ◌++◌, ◌+◌, ◌<◌, ◌≤◌, length, map, sym, ap, ◌∙◌, subst, arith}
use Rattle.std.specs.Option.{option_to_list}
use Rattle.board_plain.specs.Board.{BoardState}
use Rattle.board_plain.specs.Plain.{Plain, after_clock, change_next, clock_of, next_act}
use Rattle.board_plain.specs.Trail.{last, trail_next}
use Rattle.board_plain.proofs.LastEntries.{last_within}
use Rattle.events.specs.Accesses.{accesses_next}
use Rattle.board.specs.UnseenClocks.{PassesOver, WiresStay}
use Rattle.board.specs.OneTurn.{begun_of}
use Rattle.board.specs.Doings.{act_of}
use Rattle.board.proofs.Beginning.{GoesOn, act_on, goes_over}
use Rattle.board.proofs.OneTurn.{begins_by, passes_within, stay_after_first}
use Rattle.board.proofs.board.Board.act.Goals as goal

pub invariant_of-self-2 : goal.invariant_of-self-2
invariant_of-self-2 g c =
    let same : c.self-2.inside.engine ≡ c.args.self.now.plain =
    ap (λ (b : BoardState). b.plain) c.self-2.view_is ∙ c.list_change.ensures.plain ∙ c.is_high_next-high.ensures.plain
    ∙ ap (λ (b : BoardState). b.plain) c.self.view_is in
    let before : clock_of c.self-2.inside.engine < c.args.within = subst (λ (p : Plain). clock_of p < c.args.within) (sym same) c.requires.before in
    let on : GoesOn c.args.within c.self-2.inside.engine c.act.new.self = goes_over c.args.within _ _ before c.act.ensures.passed in
    let some = on.some in
    let within = on.within in
    let turns = c.self-2.invariant.2 in
    (omega (arith, within, c.requires.limit), subst (λ xs. length xs ≤ 32) (sym c.act.ensures.entries) (last_within 32 _), omega (arith, some, turns))

pub returns-clause-ok : goal.returns-clause-ok
returns-clause-ok g c =
    let s : BoardState = c.args.self.now in
    let l : BoardState = c.list_change.new.self in
    let plain : l.plain ≡ s.plain = c.list_change.ensures.plain ∙ c.is_high_next-high.ensures.plain ∙ ap (λ (b : BoardState). b.plain) c.self.view_is in
    let trail : l.trail ≡ s.trail = c.list_change.ensures.trail ∙ ap (λ (b : BoardState). b.trail) c.self.view_is in
    let turns : l.turns ≡ s.turns = c.list_change.ensures.turns ∙ ap (λ (b : BoardState). b.turns) c.self.view_is in
    let changes : l.changes ≡ s.changes ++ change_next s.plain =
    c.in_ok-list_change.ensures.changes
    ∙ ap (λ (p : Plain). c.self.inside.changes.items ++ change_next p) c.is_high_next-high.ensures.plain
    ∙ ap (λ (b : BoardState). b.changes ++ change_next b.plain) c.self.view_is in
    act_on c.args.within s l _ plain trail turns changes
    (subst (λ (b : BoardState). b.room + length b.changes ≤ l.room + length l.changes) c.self.view_is c.in_ok-list_change.ensures.room)
    c.requires.works (subst (λ (b : BoardState). PassesOver c.args.within (after_clock b.plain) c.act.new.self) c.self-2.view_is c.act.ensures.passed)
    (c.act.ensures.entries ∙ ap (λ (b : BoardState). last 32 (b.trail ++ trail_next b.plain)) c.self-2.view_is)
    (ap (λ (b : BoardState). b.changes) c.self-2.view_is) (ap (λ (b : BoardState). b.room) c.self-2.view_is)
    (ap (λ (b : BoardState). b.turns + 1) c.self-2.view_is)

pub returns-clause-steady : goal.returns-clause-steady
returns-clause-steady g c = λ not.
    let s : BoardState = c.args.self.now in
    let plain : c.self-2.inside.engine ≡ s.plain =
    ap (λ (b : BoardState). b.plain) c.self-2.view_is ∙ c.list_change.ensures.plain ∙ c.is_high_next-high.ensures.plain
    ∙ ap (λ (b : BoardState). b.plain) c.self.view_is in
    let passed : PassesOver c.args.within (after_clock s.plain) c.act.new.self =
    subst (λ (p : Plain). PassesOver c.args.within (after_clock p) c.act.new.self) plain c.act.ensures.passed in
    stay_after_first c.args.within s.plain c.act.new.self (passes_within c.args.within s.plain c.act.new.self c.requires.before passed)
    (subst (λ (p : Plain). WiresStay (after_clock p) c.act.new.self) plain (c.act.ensures.steady not))

pub returns-clause-noted : goal.returns-clause-noted
returns-clause-noted g c =
    let s : BoardState = c.args.self.now in
    let plain : c.self-2.inside.engine ≡ s.plain =
    ap (λ (b : BoardState). b.plain) c.self-2.view_is ∙ c.list_change.ensures.plain ∙ c.is_high_next-high.ensures.plain
    ∙ ap (λ (b : BoardState). b.plain) c.self.view_is in
    subst (λ (p : Plain). g.N.Notes.are c.act.new.notes (accesses_next p)) plain c.act.ensures.noted

pub returns-clause-begun : goal.returns-clause-begun
returns-clause-begun g c =
    subst (λ (b : BoardState). option_to_list c.begins-begun.result ≡ map begun_of (trail_next b.plain)) c.self.view_is
    (begins_by c.self.inside.engine (act_of c.self.inside.engine.cpu c.self.inside.engine.chips c.args.next.now) (option_to_list c.begins-begun.result)
    (subst (λ (b : BoardState). act_of b.plain.cpu b.plain.chips c.args.next.now ≡ next_act b.plain) (sym c.self.view_is) c.requires.next)
    c.begins-begun.ensures.begun)
