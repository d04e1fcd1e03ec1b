use Rattle.std.proofs.Common.{◌++◌, [], ◌∷◌, sym, ap, ◌∙◌, subst}
use Rattle.board_plain.specs.Trail.{last}
use Rattle.debugger_meaning.specs.declared.answer.Answer.TheVariants.{Clock}
use Rattle.probe.specs.Lab.{belongs, earlier_with, LabState, Sets}
use Rattle.probe.proofs.Labs.{sets, starts}
use Rattle.probe.proofs.lab.Lab.set.Goals as goal

pub change-requires-clause-start : goal.change-requires-clause-start
change-requires-clause-start c =
    starts (record { now = c.self.inside.probe; earlier = c.self.inside.earlier.items })
    (ap belongs c.self.view_is ∙ sym c.belongs.ensures ∙ c.if-belongs.true)

pub returns-then-belongs : goal.returns-then-belongs
returns-then-belongs c =
    let old : LabState = record { now = c.self.inside.probe; earlier = c.self.inside.earlier.items } in
    let new : LabState = record { now = c.change.new.self; earlier = c.self.inside.earlier.items } in
    subst (λ (s : LabState). Sets c.args.edit.now s new (Clock c.clock-clock.result)) c.self.view_is
    (record {
      taken = sym c.takes.ensures ∙ c.if-not-takes.false;
      first = c.change.ensures.first;
      board = c.change.ensures.board;
      stops = c.change.ensures.stops;
      earlier = ap (λ b. earlier_with b old) (sym (ap belongs c.self.view_is ∙ sym c.belongs.ensures ∙ c.if-belongs.true));
      answer_is = ap Clock c.clock-clock.ensures;
    })

pub returns-in-Ok : goal.returns-in-Ok
returns-in-Ok c =
    let old : LabState = record { now = c.self.inside.probe; earlier = c.self.inside.earlier.items } in
    let new : LabState = record { now = c.exchange-left.new.self; earlier = c.keep.new.earlier.items } in
    subst (λ (s : LabState). Sets c.args.edit.now s new (Clock c.clock-clock.result)) c.self.view_is
    (sets c.args.edit.now old new c.in_ok-session.session c.clock-clock.result (sym c.takes.ensures ∙ c.if-not-takes.false)
    c.in_ok-session.ensures.first c.in_ok-session.ensures.board c.exchange-left.ensures.now
    (c.keep.ensures.kept ∙ ap (λ xs. last 16 (xs ++ c.exchange-left.result ∷ [])) c.try_reserve.ensures.items
    ∙ ap (λ x. last 16 (old.earlier ++ x ∷ [])) c.exchange-left.ensures.left
    ∙ ap (λ b. earlier_with b old) (sym (ap belongs c.self.view_is ∙ sym c.belongs.ensures ∙ c.if-belongs.false))) c.clock-clock.ensures)
