use Rattle.std.proofs.Common.{◌≡◌, ◌+◌, drop, Some}
use Rattle.assembler_meaning.specs.Values.{added, value_of}
use Rattle.assembler_meaning.proofs.LeavesValues.{IsSum}
use Rattle.assembler_meaning.proofs.value.value_of.Given as goal

abbrev pub invariant-loop-term : goal.invariant-loop-term
invariant-loop-term l = record {
  rest : added (Some l.sum) (value_of l.symbols.entries l.here (drop l.term-index l.rest)) ≡ value_of l.symbols.entries l.here l.expression;
  small : IsSum (l.term-index + 1) l.sum;
}
