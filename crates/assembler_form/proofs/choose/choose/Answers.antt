use Rattle.assembler_form.proofs.Shapes.{chosen_is, form_of_first}
use Rattle.assembler_form.proofs.choose.choose.Goals as goal

pub returns-clause-chosen : goal.returns-clause-chosen
returns-clause-chosen c =
    chosen_is _ _ _ _ _ c.form_with.ensures c.of-asked.ensures c.table.ensures c.in_ok-row.ensures.first

pub returns-clause-form : goal.returns-clause-form
returns-clause-form c = form_of_first _ _ _ _ c.form_with.ensures c.table.ensures c.in_ok-row.ensures.first
