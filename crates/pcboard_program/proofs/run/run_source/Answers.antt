use Rattle.std.proofs.Common.{sym, subst, ◌∙◌}
use Rattle.std.proofs.lemmas.Result.{err_from_is_err_and}
use Rattle.pcboard_texts.specs.ImageReport.{FitsBoard}
use Rattle.pcboard_program.proofs.run.run_source.Goals as goal

pub returns-in_err-listing-clause-accepted : goal.returns-in_err-listing-clause-accepted
returns-in_err-listing-clause-accepted c = λ image gives fits.
    let p = err_from_is_err_and c.from_residual.result c.from_residual.ensures.1 in
    rw (p.1, p.2, c.in_err-listing.ensures.refused image gives) tt

pub returns-clause-accepted : goal.returns-clause-accepted
returns-clause-accepted c = λ image gives fits.
    c.run_image.ensures.accepted (subst (λ given. FitsBoard given c.args.run.now) (sym (c.image.ensures ∙ c.in_ok-listing.ensures.refused image gives)) fits)
