use Rattle.std.proofs.Common.{sym}
use Rattle.mda_text.proofs.Sizes.{text_size_is, cell_count_is, powered}
use Rattle.mda_text.proofs.mda.Mda.new.Goals as goal

pub returns : goal.returns
returns c =
    powered c.in_ok-vec.field-0.items c.in_ok-vec-2.field-0.items 4096 2000 (c.in_ok-vec.ensures.items_if_clones_equal (λ y same. same)) (sym text_size_is)
    (c.in_ok-vec-2.ensures.items_if_clones_equal (λ y same. same)) (sym cell_count_is)
