use Rattle.std.proofs.Common.{subst}
use Rattle.decode.specs.Decoding.{IsDecoded}
use Rattle.decode.proofs.decode.decode_whole.Goals as goal

pub returns-clause-exact : goal.returns-clause-exact
returns-clause-exact g c =
    subst (λ code. IsDecoded code c.decode_code.result) c.code_at.ensures c.decode_code.ensures.exact
