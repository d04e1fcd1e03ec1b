use Rattle.std.proofs.Common.{◌≡◌, ◌+◌, ◌*◌, ◌^◌, ◌≤◌, drop, true, false}
use Rattle.std.specs.List.{list_all, list_any}
use Rattle.assembler_syntax.specs.Weights.{is_item_within, items_weight}
use Rattle.assembler_meaning.specs.Data.{counts_of, data_size, is_wrong_count}
use Rattle.assembler_meaning.specs.Values.{term_limit}
use Rattle.assembler_meaning.proofs.data.data_size.Given as goal

abbrev pub invariant-loop-item : goal.invariant-loop-item
invariant-loop-item l = record {
  rest : l.size + data_size l.symbols.entries l.width (drop l.item-index l.items) ≡ data_size l.symbols.entries l.width l.items;
  bound : l.size + 2 ^ 18 * items_weight (drop l.item-index l.items) ≤ 2 ^ 18 * items_weight l.items;
  short : list_all (is_item_within term_limit) (drop l.item-index l.items) ≡ true;
  counts : list_any (is_wrong_count l.symbols.entries) (counts_of (drop l.item-index l.items)) ≡ false;
}
