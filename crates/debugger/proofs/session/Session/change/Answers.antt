use Rattle.std.proofs.Common.{◌≡◌, sym, ap, ◌∙◌, subst}
use Rattle.board_plain.specs.Changes.{changed}
use Rattle.board_plain.specs.Plain.{clock_of}
use Rattle.debugger_meaning.specs.Stands.{SessionState}
use Rattle.debugger.proofs.Changing.{both_changed, session_changed}
use Rattle.debugger.proofs.session.Session.change.Goals as goal

pub invariant_of-self : goal.invariant_of-self
invariant_of-self g c =
    let same : clock_of c.self.inside.board.plain ≡ clock_of c.self.inside.first.plain =
    subst (λ (s : SessionState). clock_of s.board.plain ≡ clock_of s.first.plain) (sym c.self.view_is) c.requires.start in
    session_changed c.args.change.now c.self.inside.first c.self.inside.board c.change.new.self c.change-2.new.self
    c.self.inside.checkpoints c.clear.new.self c.self.inside.stops.items c.self.invariant same
    c.change.ensures.few c.change-2.ensures.few c.change.ensures.changed c.change-2.ensures.changed c.clear.ensures

pub returns-clause-board : goal.returns-clause-board
returns-clause-board g c =
    c.change-2.ensures.changed
    ∙ ap (λ (s : SessionState). record s.board { plain = changed c.args.change.now s.board.plain }) c.self.view_is

pub returns-clause-first : goal.returns-clause-first
returns-clause-first g c =
    let same : clock_of c.self.inside.board.plain ≡ clock_of c.self.inside.first.plain =
    subst (λ (s : SessionState). clock_of s.board.plain ≡ clock_of s.first.plain) (sym c.self.view_is) c.requires.start in
    both_changed c.args.change.now c.self.inside.first c.self.inside.board c.change.new.self c.change-2.new.self
    c.self.invariant.stands same c.change.ensures.few c.change.ensures.changed c.change-2.ensures.changed

pub returns-clause-stops : goal.returns-clause-stops
returns-clause-stops g c = ap (λ (s : SessionState). s.stops) c.self.view_is
