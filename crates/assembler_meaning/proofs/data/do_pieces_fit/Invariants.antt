use Rattle.std.proofs.Common.{◌≡◌, drop, true}
use Rattle.std.specs.List.{list_all}
use Rattle.assembler_syntax.specs.Weights.{is_piece_within}
use Rattle.assembler_meaning.specs.Data.{does_piece_fit}
use Rattle.assembler_meaning.specs.Values.{term_limit}
use Rattle.assembler_meaning.proofs.data.do_pieces_fit.Given as goal

abbrev pub invariant-loop-piece : goal.invariant-loop-piece
invariant-loop-piece l = record {
  rest : list_all (does_piece_fit l.symbols.entries l.here l.width) (drop l.piece-index l.pieces)
      ≡ list_all (does_piece_fit l.symbols.entries l.here l.width) l.pieces;
  short : list_all (is_piece_within term_limit) (drop l.piece-index l.pieces) ≡ true;
}
