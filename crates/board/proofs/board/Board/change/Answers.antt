use Rattle.std.proofs.Common.{◌≡◌, ◌≤◌, ◌^◌, sym, ap, ◌∙◌, subst}
use Rattle.board_plain.specs.Plain.{clock_of}
use Rattle.board_plain.proofs.Changing.{clock_of_changed}
use Rattle.board.proofs.board.Board.change.Goals as goal

pub invariant_of-self : goal.invariant_of-self
invariant_of-self g c =
    let clock : clock_of c.change.new.self ≡ clock_of c.self.inside.engine =
    ap clock_of c.change.ensures ∙ clock_of_changed c.args.change.now c.self.inside.engine in (
      subst (λ n. n ≤ 2 ^ 40) (sym clock) c.self.invariant.0,
      c.self.invariant.1,
      subst (λ n. c.self.inside.turns ≤ n) (sym clock) c.self.invariant.2,
    )
