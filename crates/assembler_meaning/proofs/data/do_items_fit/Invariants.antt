use Rattle.std.proofs.Common.{◌≡◌, drop, true}
use Rattle.std.specs.List.{list_all}
use Rattle.assembler_syntax.specs.Weights.{is_item_within}
use Rattle.assembler_meaning.specs.Data.{do_items_fit}
use Rattle.assembler_meaning.specs.Values.{term_limit}
use Rattle.assembler_meaning.proofs.data.do_items_fit.Given as goal

abbrev pub invariant-loop-item : goal.invariant-loop-item
invariant-loop-item l = record {
  rest : do_items_fit l.symbols.entries l.here l.width (drop l.item-index l.items) ≡ do_items_fit l.symbols.entries l.here l.width l.items;
  short : list_all (is_item_within term_limit) (drop l.item-index l.items) ≡ true;
}
