use Rattle.std.proofs.Common.{◌<◌, sym, subst, arith}
use Rattle.std.proofs.lemmas.List.Elements.{All-from_get_or}
use Rattle.decode.specs.Decoding.{IsDecoded}
use Rattle.decode.proofs.Exact.{exact}
use Rattle.decode.proofs.decode.decode_code.Goals as goal

pub returns-clause-exact : goal.returns-clause-exact
returns-clause-exact c =
    subst (IsDecoded c.args.code.now) (sym c.decode_prefixed.ensures)
    (exact c.args.code.now (omega (arith, c.told-code)) (All-from_get_or (λ b. b < 256) c.args.code.now 0 (λ i within. c.fits-code i)))
