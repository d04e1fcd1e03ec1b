use Rattle.std.proofs.Common.{◌∙◌, sym, ap}
use Rattle.wiring.specs.Chips.{ChipsState}
use Rattle.cached_chips.proofs.AtSeenClock.{controller_stays}
use Rattle.cached_chips.proofs.cached.CachedChips.controller.Goals as goal

pub returns : goal.returns
returns c =
    c.controller.ensures
    ∙ sym (controller_stays c.self.inside.chips c.self.inside.seen_clock c.self.invariant.2)
    ∙ ap (λ (s : ChipsState). s.pic) c.self.view_is
