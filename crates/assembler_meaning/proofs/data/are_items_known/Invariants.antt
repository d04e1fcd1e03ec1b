use Rattle.std.proofs.Common.{◌≡◌, drop, true}
use Rattle.std.specs.List.{list_all}
use Rattle.assembler_syntax.specs.Weights.{is_item_within}
use Rattle.assembler_meaning.specs.Data.{are_items_known}
use Rattle.assembler_meaning.specs.Values.{term_limit}
use Rattle.assembler_meaning.proofs.data.are_items_known.Given as goal

abbrev pub invariant-loop-item : goal.invariant-loop-item
invariant-loop-item l = record {
  rest : are_items_known l.symbols.entries l.here (drop l.item-index l.items) ≡ are_items_known l.symbols.entries l.here l.items;
  short : list_all (is_item_within term_limit) (drop l.item-index l.items) ≡ true;
}
