use Rattle.std.proofs.Common.{◌∙◌, sym, ap}
use Rattle.wiring.specs.Chips.{ChipsState}
use Rattle.cached_chips.proofs.AtSeenClock.{keyboard_stays}
use Rattle.cached_chips.proofs.cached.CachedChips.keyboard.Goals as goal

pub returns : goal.returns
returns c =
    c.keyboard.ensures
    ∙ sym (keyboard_stays c.self.inside.chips c.self.inside.seen_clock c.self.invariant.2)
    ∙ ap (λ (s : ChipsState). s.keyboard) c.self.view_is
