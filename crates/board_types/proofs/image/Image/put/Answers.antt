use Rattle.std.proofs.Common.{◌<◌, arith}
use Rattle.board_types.proofs.Images.{image_put}
use Rattle.board_types.proofs.image.Image.put.Goals as goal

pub invariant_of-self-2 : goal.invariant_of-self-2
invariant_of-self-2 c =
    let small : c.args.byte < 256 = omega arith in
    image_put _ _ _ _ c.in_ok-insert.ensures.entries c.in_ok-insert.ensures.ordered c.self.invariant c.requires small
