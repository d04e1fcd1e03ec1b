use Rattle.std.proofs.Common.{◌∙◌, sym, ap}
use Rattle.wiring.specs.Chips.{ChipsState}
use Rattle.cached_chips.proofs.AtSeenClock.{ppi_stays}
use Rattle.cached_chips.proofs.cached.CachedChips.parallel_port.Goals as goal

pub returns : goal.returns
returns c =
    c.parallel_port.ensures
    ∙ sym (ppi_stays c.self.inside.chips c.self.inside.seen_clock c.self.invariant.2)
    ∙ ap (λ (s : ChipsState). s.ppi) c.self.view_is
