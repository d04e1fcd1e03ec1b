use Rattle.std.proofs.Common.{◌≡◌, drop, take, true}
use Rattle.std.specs.List.{flat_map, list_all}
use Rattle.assembler_syntax.specs.Weights.{is_item_within}
use Rattle.assembler_meaning.specs.Data.{item_bytes}
use Rattle.assembler_meaning.specs.Values.{term_limit}
use Rattle.assembler_meaning.proofs.bytes.data_bytes.Given as goal

abbrev pub invariant-loop-item : goal.invariant-loop-item
invariant-loop-item l = record {
  front : l.bytes.items ≡ flat_map (item_bytes l.symbols.entries l.here l.width) (take l.item-index l.items);
  short : list_all (is_item_within term_limit) (drop l.item-index l.items) ≡ true;
}
