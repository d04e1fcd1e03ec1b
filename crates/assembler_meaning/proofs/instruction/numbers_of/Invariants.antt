use Rattle.std.proofs.Common.{◌≡◌, drop, Some, true}
use Rattle.std.specs.List.{list_all}
use Rattle.assembler_syntax.specs.Weights.{is_operand_within}
use Rattle.assembler_meaning.specs.Instructions.{numbers_after, no_numbers}
use Rattle.assembler_meaning.specs.Values.{term_limit}
use Rattle.assembler_meaning.proofs.instruction.numbers_of.Given as goal

abbrev pub invariant-loop-operand : goal.invariant-loop-operand
invariant-loop-operand l = record {
  rest : numbers_after l.symbols.entries l.here (Some l.numbers) (drop l.operand-index l.operand-items)
      ≡ numbers_after l.symbols.entries l.here (Some no_numbers) l.instruction.operands;
  short : list_all (is_operand_within term_limit) (drop l.operand-index l.operand-items) ≡ true;
}
