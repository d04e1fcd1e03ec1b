use Rattle.std.proofs.Common.{◌≡◌, drop, take, true}
use Rattle.std.specs.List.{flat_map, list_all}
use Rattle.assembler_syntax.specs.Weights.{is_piece_within}
use Rattle.assembler_meaning.specs.Data.{piece_bytes}
use Rattle.assembler_meaning.specs.Values.{term_limit}
use Rattle.assembler_meaning.proofs.bytes.pieces_bytes.Given as goal

abbrev pub invariant-loop-piece : goal.invariant-loop-piece
invariant-loop-piece l = record {
  front : l.bytes.items ≡ flat_map (piece_bytes l.symbols.entries l.here l.width) (take l.piece-index l.pieces);
  short : list_all (is_piece_within term_limit) (drop l.piece-index l.pieces) ≡ true;
}
