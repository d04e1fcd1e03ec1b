use Rattle.std.proofs.Common.{◌≡◌, ◌∙◌, ◌-◌, ◌/◌, ℕ, sym, ap}
use Rattle.pit8253.specs.Pit.{after_ticks}
use Rattle.wiring.specs.Chips.{ChipsState}
use Rattle.cached_chips.proofs.AtSeenClock.{pit_goes_on}
use Rattle.cached_chips.proofs.cached.CachedChips.timer.Goals as goal

pub returns : goal.returns
returns c =
    let seen_clock : c.get.result ≡ c.self.inside.seen_clock = c.get.ensures.value in
    let clock : c.get-2.result ≡ c.self.inside.chips.clock = c.get-2.ensures.value ∙ c.clock.ensures in
    let ticks : c.get.result / 4 - c.get-2.result / 4 ≡ c.self.inside.seen_clock / 4 - c.self.inside.chips.clock / 4 =
    ap (λ (n : ℕ). n / 4 - c.get-2.result / 4) seen_clock ∙ ap (λ (n : ℕ). c.self.inside.seen_clock / 4 - n / 4) clock in
    c.advance.ensures
    ∙ ap (λ (n : ℕ). after_ticks c.timer-pit.result n) ticks
    ∙ ap (λ p. after_ticks p (c.self.inside.seen_clock / 4 - c.self.inside.chips.clock / 4)) c.timer-pit.ensures
    ∙ sym (pit_goes_on c.self.inside.chips c.self.inside.seen_clock c.self.invariant.2)
    ∙ ap (λ (s : ChipsState). s.pit) c.self.view_is
