use Rattle.std.proofs.Common.{◌≡◌, ◌≤◌, List, inl, map, refl, sym, ap, ◌∙◌, subst, arith, IfOk, IfSome}
use Rattle.std.specs.Option.{option_to_list}
use Rattle.std.specs.Prelude.{OnErr, OnOk}
use Rattle.execute_meaning.specs.declared.boundary.Boundary.{Boundary}
use Rattle.execute_meaning.specs.declared.boundary.Boundary.TheVariants as boundaries
use Rattle.board_plain.specs.Board.{BoardState}
use Rattle.board_plain.specs.declared.act.Act.TheVariants as acts
use Rattle.board_plain.specs.Plain.{Plain, act_at, clock_of, next_act}
use Rattle.board_plain.specs.Trail.{trail_next}
use Rattle.board_plain.specs.Work.{work_next}
use Rattle.events.specs.Accesses.{accesses_next}
use Rattle.events.specs.declared.access.Access.{Access}
use Rattle.board.specs.UnseenClocks.{WiresStayThen}
use Rattle.board.specs.HeldBack.{IsHeldBack}
use Rattle.board.specs.OneTurn.{begun_of}
use Rattle.board.specs.Doings.{act_of}
use Rattle.board.proofs.Leap.{nothing_begins}
use Rattle.board.proofs.OneTurn.{stay_then}
use Rattle.board.proofs.Turns.{if_act}
use Rattle.board.proofs.Uneventful.{no_access}
use Rattle.board.proofs.Works.{acts_there}
use Rattle.board.proofs.board.Board.turn_by.Goals as goal

-- at this boundary the processor does nothing
idle : (s : Plain) (b : Boundary) → b ≡ boundaries.Nothing → act_at s.cpu s.chips b ≡ next_act s → acts.Nothing ≡ next_act s
idle s b is at = subst (λ (x : Boundary). act_at s.cpu s.chips x ≡ next_act s) is at

pub leap-requires-clause-idle : goal.leap-requires-clause-idle
leap-requires-clause-idle g c = idle _ _ c.in-Nothing.is c.requires.boundary

pub returns-then-leap-clause-ok : goal.returns-then-leap-clause-ok
returns-then-leap-clause-ok g c = inl (c.leap.ensures.made c.if-leap.true)

pub returns-then-leap-clause-steady : goal.returns-then-leap-clause-steady
returns-then-leap-clause-steady g c = λ not.
    let leap = (c.leap.ensures.made c.if-leap.true).leap in
    let some = leap.some in
    let clock = leap.unseen.clock in
    stay_then c.args.within c.args.self.now.plain c.leap.new.self.plain (omega (arith, some, clock)) (c.leap.ensures.steady not c.if-leap.true)

pub act-requires-clause-next : goal.act-requires-clause-next
act-requires-clause-next g c =
    subst (λ (b : BoardState). acts.Nothing ≡ next_act b.plain) (sym (c.leap.ensures.not_made (λ yes. let no = c.if-leap.false in cc)))
    (idle _ _ c.in-Nothing.is c.requires.boundary)

pub act-requires-clause-works : goal.act-requires-clause-works
act-requires-clause-works g c =
    subst (λ (b : BoardState). 1 ≤ work_next b.plain) (sym (c.leap.ensures.not_made (λ yes. let no = c.if-leap.false in cc)))
    (c.leap.ensures.works (λ yes. let no = c.if-leap.false in cc))

pub returns-else-leap-clause-ok : goal.returns-else-leap-clause-ok
returns-else-leap-clause-ok g c =
    if_act c.args.within c.args.end c.args.self.now c.leap.new.self c.act.new.self c.act.result
    (c.leap.ensures.not_made (λ yes. let no = c.if-leap.false in cc)) c.act.ensures.ok

pub returns-else-leap-clause-steady : goal.returns-else-leap-clause-steady
returns-else-leap-clause-steady g c = λ not.
    subst (λ (b : BoardState). OnOk c.act.result (WiresStayThen c.args.within b.plain c.act.new.self.plain))
    (c.leap.ensures.not_made (λ yes. let no = c.if-leap.false in cc)) (c.act.ensures.steady not)

pub returns-else-leap-clause-err : goal.returns-else-leap-clause-err
returns-else-leap-clause-err g c =
    subst (λ (b : BoardState). OnErr c.act.result (IsHeldBack b c.act.new.self))
    (c.leap.ensures.not_made (λ yes. let no = c.if-leap.false in cc)) c.act.ensures.err

pub returns-then-leap-clause-noted : goal.returns-then-leap-clause-noted
returns-then-leap-clause-noted g c =
    subst (λ (accesses : List Access). g.N.Notes.are c.none.new.self accesses)
    (sym (no_access c.args.self.now.plain (sym (idle _ _ c.in-Nothing.is c.requires.boundary))))
    c.none.ensures

pub returns-else-leap-clause-noted : goal.returns-else-leap-clause-noted
returns-else-leap-clause-noted g c =
    subst (λ (b : BoardState). OnOk c.act.result (g.N.Notes.are c.act.new.notes (accesses_next b.plain)))
    (c.leap.ensures.not_made (λ yes. let no = c.if-leap.false in cc)) c.act.ensures.noted

pub returns-then-leap-clause-begun : goal.returns-then-leap-clause-begun
returns-then-leap-clause-begun g c = sym (ap (map begun_of) (nothing_begins c.args.self.now.plain (sym (idle _ _ c.in-Nothing.is c.requires.boundary))))

pub returns-else-leap-clause-begun : goal.returns-else-leap-clause-begun
returns-else-leap-clause-begun g c =
    subst (λ (b : BoardState). IfOk c.act.result (λ begun. option_to_list begun ≡ map begun_of (trail_next b.plain)))
    (c.leap.ensures.not_made (λ yes. let no = c.if-leap.false in cc)) c.act.ensures.begun

pub returns-else-leap-clause-clock : goal.returns-else-leap-clause-clock
returns-else-leap-clause-clock g c =
    subst (λ (b : BoardState). IfOk c.act.result (λ begun. IfSome begun (λ o. o.clock ≡ clock_of b.plain)))
    (c.leap.ensures.not_made (λ yes. let no = c.if-leap.false in cc)) c.act.ensures.clock

pub act-requires-in-Instruction-clause-next : goal.act-requires-in-Instruction-clause-next
act-requires-in-Instruction-clause-next g c =
    let s : Plain = c.self.inside.engine in
    let asked = subst (λ (b : BoardState). act_at b.plain.cpu b.plain.chips c.args.boundary ≡ next_act b.plain) (sym c.self.view_is) c.requires.boundary in
    ap (λ (p : Plain). act_of p.cpu p.chips c.instruction-next.result) c.instruction-next.ensures.kept ∙ c.instruction-next.ensures.act
    ∙ subst (λ (b : Boundary). act_at s.cpu s.chips b ≡ next_act s) c.in-Instruction.is asked
    ∙ ap next_act (sym c.instruction-next.ensures.kept)

pub act-requires-in-Instruction-clause-works : goal.act-requires-in-Instruction-clause-works
act-requires-in-Instruction-clause-works g c =
    let s : Plain = c.self.inside.engine in
    let asked = subst (λ (b : BoardState). act_at b.plain.cpu b.plain.chips c.args.boundary ≡ next_act b.plain) (sym c.self.view_is) c.requires.boundary in
    subst (λ (p : Plain). 1 ≤ work_next p) (sym c.instruction-next.ensures.kept)
    (acts_there s boundaries.Instruction (subst (λ (b : Boundary). act_at s.cpu s.chips b ≡ next_act s) c.in-Instruction.is asked) refl)

pub act-requires-in-Request-clause-works : goal.act-requires-in-Request-clause-works
act-requires-in-Request-clause-works g c =
    let s : Plain = c.args.self.now.plain in
    acts_there s boundaries.Request (subst (λ (b : Boundary). act_at s.cpu s.chips b ≡ next_act s) c.in-Request.is c.requires.boundary) refl

pub act-requires-in-SingleStep-clause-works : goal.act-requires-in-SingleStep-clause-works
act-requires-in-SingleStep-clause-works g c =
    let s : Plain = c.args.self.now.plain in
    acts_there s boundaries.SingleStep (subst (λ (b : Boundary). act_at s.cpu s.chips b ≡ next_act s) c.in-SingleStep.is c.requires.boundary) refl

pub act-requires-in-Iteration-clause-works : goal.act-requires-in-Iteration-clause-works
act-requires-in-Iteration-clause-works g c =
    let s : Plain = c.args.self.now.plain in
    acts_there s boundaries.Iteration (subst (λ (b : Boundary). act_at s.cpu s.chips b ≡ next_act s) c.in-Iteration.is c.requires.boundary) refl
