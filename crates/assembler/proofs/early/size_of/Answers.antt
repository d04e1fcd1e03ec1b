use Rattle.std.proofs.Common.{subst, Some}
use Rattle.assembler.specs.LocatedLines.{IsFormOf}
use Rattle.assembler.proofs.ReadingWeights.{few_prefixes}
use Rattle.assembler.proofs.early.size_of.Goals as goal

pub instruction_size-requires : goal.instruction_size-requires
instruction_size-requires c = record {
  few = few_prefixes c.args.symbols.now.entries c.in-Instruction-Some.instruction c.in-Instruction-Some.form
      (subst (λ s. IsFormOf c.args.symbols.now.entries s (Some c.in-Instruction-Some.form)) c.in-Instruction-Some.is-0
      (subst (λ o. IsFormOf c.args.symbols.now.entries c.args.statement.now o) c.in-Instruction-Some.is-1 c.requires.chosen));
}
