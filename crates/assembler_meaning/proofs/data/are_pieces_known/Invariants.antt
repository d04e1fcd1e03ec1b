use Rattle.std.proofs.Common.{◌≡◌, drop, true}
use Rattle.std.specs.List.{list_all}
use Rattle.assembler_syntax.specs.Weights.{is_piece_within}
use Rattle.assembler_meaning.specs.Data.{is_piece_known}
use Rattle.assembler_meaning.specs.Values.{term_limit}
use Rattle.assembler_meaning.proofs.data.are_pieces_known.Given as goal

abbrev pub invariant-loop-piece : goal.invariant-loop-piece
invariant-loop-piece l = record {
  rest : list_all (is_piece_known l.symbols.entries l.here) (drop l.piece-index l.pieces) ≡ list_all (is_piece_known l.symbols.entries l.here) l.pieces;
  short : list_all (is_piece_within term_limit) (drop l.piece-index l.pieces) ≡ true;
}
