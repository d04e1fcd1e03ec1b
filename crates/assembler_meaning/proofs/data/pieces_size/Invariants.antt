use Rattle.std.proofs.Common.{◌≡◌, ◌+◌, ◌*◌, ◌≤◌, drop}
use Rattle.assembler_syntax.specs.Weights.{pieces_weight}
use Rattle.assembler_meaning.specs.Data.{pieces_size}
use Rattle.assembler_meaning.proofs.data.pieces_size.Given as goal

abbrev pub invariant-loop-piece : goal.invariant-loop-piece
invariant-loop-piece l = record {
  rest : l.size + pieces_size l.width (drop l.piece-index l.pieces) ≡ pieces_size l.width l.pieces;
  bound : l.size + 4 * pieces_weight (drop l.piece-index l.pieces) ≤ 4 * pieces_weight l.pieces;
}
