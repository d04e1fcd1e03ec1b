use Rattle.std.proofs.Common.{rules}
use Rattle.assembler_form.specs.Fields.{values_of}
use Rattle.assembler_form.proofs.FieldRanges.{values_fit}
use Rattle.assembler_form.proofs.fields.values_of.Goals as goal

pub returns-clause-fits : goal.returns-clause-fits
unfolding values_of
returns-clause-fits c = values_fit c.args.form.now c.args.next c.args.numbers.now _ (search rules)
