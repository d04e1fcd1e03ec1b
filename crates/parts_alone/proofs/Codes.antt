-- Two codes that arrive, taken one after another.
use Rattle.std.specs.Prelude.{unwrap_or}
use Rattle.std.proofs.Common.{◌≡◌, ℕ, refl}
use Rattle.keyboard.specs.Keyboard.{KeyboardState, power_on, after_arrival, after_settling}

abbrev pub arrived : ℕ → ℕ → KeyboardState
arrived first second = after_arrival (after_arrival power_on first) second

-- the latch once the keyboard may send; 0 if it is empty
abbrev pub taken : KeyboardState → ℕ
taken s = unwrap_or (after_settling s 0x40).latch 0

-- the keyboard after its latch is cleared
abbrev pub after_take : KeyboardState → KeyboardState
after_take s = after_settling (after_settling s 0x40) 0xC0

pub takes_both : (first second : ℕ)
    → (taken (arrived first second) ≡ first)
    × (taken (after_take (arrived first second)) ≡ second)
    × (taken (after_take (after_take (arrived first second))) ≡ 0)
unfolding after_arrival after_settling
takes_both first second = (refl, refl, refl)
