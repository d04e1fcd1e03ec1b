use Rattle.std.proofs.Common.{◌≡◌, ◌<◌, [], ap, sym, subst, ◌∙◌, arith}
use Rattle.std.proofs.lemmas.List.Elements.{All-from_get_or}
use Rattle.decode.specs.Decoding.{decoded_after, IsDecoded}
use Rattle.decode.proofs.Exact.{exact}
use Rattle.decode.proofs.Fronts.{bare_from}
use Rattle.decode.proofs.decode.decode_bare.Goals as goal

pub returns-clause-exact : goal.returns-clause-exact
returns-clause-exact c =
    let code = c.args.code.now in
    let found : c.decode_after.result ≡ decoded_after [] code =
    c.decode_after.ensures ∙ ap (λ ps. decoded_after ps code) c.new.ensures in
    subst (IsDecoded code) (sym (found ∙ sym (bare_from code c.requires)))
    (exact code (omega (arith, c.told-code)) (All-from_get_or (λ b. b < 256) code 0 (λ i within. c.fits-code i)))
