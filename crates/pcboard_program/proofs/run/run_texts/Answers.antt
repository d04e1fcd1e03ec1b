use Rattle.std.proofs.Common.{sym, subst}
use Rattle.pcboard_texts.specs.ImageReport.{FitsBoard}
use Rattle.pcboard_program.proofs.run.run_texts.Goals as goal

pub returns-clause-accepted : goal.returns-clause-accepted
returns-clause-accepted c = λ image gives run_file says fits.
    let same = c.in_ok-image.ensures.accepted image gives run_file says in
    c.run_image.ensures.accepted (subst (λ given. FitsBoard given c.in_ok-image.run') (sym same.0) (subst (FitsBoard image) (sym same.1) fits))
