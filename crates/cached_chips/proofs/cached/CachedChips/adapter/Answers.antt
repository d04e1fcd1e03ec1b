use Rattle.std.proofs.Common.{◌≡◌, ◌∙◌, ◌-◌, ℕ, sym, ap}
use Rattle.mda_text.specs.Mda.{after_clocks}
use Rattle.mda_text.specs.Registers.{registers_of}
use Rattle.wiring.specs.Chips.{ChipsState}
use Rattle.cached_chips.proofs.AtSeenClock.{mda_goes_on}
use Rattle.cached_chips.proofs.cached.CachedChips.adapter.Goals as goal

pub returns : goal.returns
returns c =
    let seen_clock : c.get.result ≡ c.self.inside.seen_clock = c.get.ensures.value in
    let clock : c.get-2.result ≡ c.self.inside.chips.clock = c.get-2.ensures.value ∙ c.clock.ensures in
    let lag : c.get.result - c.get-2.result ≡ c.self.inside.seen_clock - c.self.inside.chips.clock =
    ap (λ (n : ℕ). n - c.get-2.result) seen_clock ∙ ap (λ (n : ℕ). c.self.inside.seen_clock - n) clock in
    c.adapter_after.ensures
    ∙ ap (λ (n : ℕ). registers_of (after_clocks c.self.inside.chips.mda n)) lag
    ∙ sym (ap registers_of (mda_goes_on c.self.inside.chips c.self.inside.seen_clock c.self.invariant.2))
    ∙ ap (λ (s : ChipsState). registers_of s.mda) c.self.view_is
