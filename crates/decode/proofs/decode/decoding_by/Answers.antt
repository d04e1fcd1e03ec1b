use Rattle.std.proofs.Common.{◌∙◌, sym}
use Rattle.decode.proofs.Fronts.{bare_again}
use Rattle.decode.proofs.decode.decoding_by.Goals as goal

pub returns-in-None-clause-value : goal.returns-in-None-clause-value
returns-in-None-clause-value g c =
    (bare_again c.args.code.now _ c.decode_bare.result c.requires
    (sym c.prefix_of.ensures ∙ c.in-None.is) c.decode_bare.ensures.value c.decode_bare.ensures.exact).value

pub returns-in-None-clause-exact : goal.returns-in-None-clause-exact
returns-in-None-clause-exact g c =
    (bare_again c.args.code.now _ c.decode_bare.result c.requires
    (sym c.prefix_of.ensures ∙ c.in-None.is) c.decode_bare.ensures.value c.decode_bare.ensures.exact).exact
