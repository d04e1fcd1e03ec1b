use Rattle.std.proofs.Common.{w8, ◌%◌, ◌^◌, ap, sym, ◌∙◌, eqb-true}
use Rattle.std.proofs.lemmas.Simd.{tops_compared}
use Rattle.std.specs.Simd.Lanes.{chunk, mask_l}
use Rattle.mda_text.proofs.Lanes.{differ, lanes_same}
use Rattle.mda_text.proofs.difference.same_section.Goals as goal

pub returns : goal.returns
returns c told =
    let xs = chunk c.args.at 32 c.args.a.now in
    let ys = chunk c.args.at 32 c.args.b.now in
    lanes_same c.args.a.now c.args.b.now c.args.at c.requires.first c.requires.second
    (sym (ap (λ lanes. mask_l lanes % 2 ^ 64) (tops_compared w8 differ xs ys)) ∙ eqb-true _ _ told)
