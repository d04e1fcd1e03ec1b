use Rattle.std.proofs.lemmas.Result.{err_from_is_err_and}
use Rattle.pcboard_texts.proofs.texts.read_texts.Goals as goal

pub returns-in_err-image-clause-fault : goal.returns-in_err-image-clause-fault
returns-in_err-image-clause-fault c =
    let p = err_from_is_err_and c.from_residual.result c.from_residual.ensures.1 in
    rw (p.1, p.2) (c.in_err-image.ensures.fault c.args.run.now)
