use Rattle.std.proofs.Common.{◌≡◌, drop, true}
use Rattle.std.specs.List.{list_all, list_any}
use Rattle.assembler_syntax.specs.Weights.{is_item_within}
use Rattle.assembler_meaning.specs.Data.{counts_of, is_unknown}
use Rattle.assembler_meaning.specs.Values.{term_limit}
use Rattle.assembler_meaning.proofs.data.has_unknown_count.Given as goal

abbrev pub invariant-loop-item : goal.invariant-loop-item
invariant-loop-item l = record {
  rest : list_any (is_unknown l.symbols.entries) (counts_of (drop l.item-index l.items)) ≡ list_any (is_unknown l.symbols.entries) (counts_of l.items);
  short : list_all (is_item_within term_limit) (drop l.item-index l.items) ≡ true;
}
