use Rattle.std.proofs.Common.{◌≡◌, ap, arith}
use Rattle.board_plain.specs.Plain.{clock_of}
use Rattle.board.proofs.board.Board.take_keys.Goals as goal

pub invariant_of-self : goal.invariant_of-self
unfolding clock_of
invariant_of-self g c =
    let same : clock_of c.take_keys.new.self ≡ clock_of c.self.inside.engine = ap clock_of c.take_keys.ensures in
    let before = c.self.invariant in (omega (arith, same, before.0), before.1, omega (arith, same, before.2))
