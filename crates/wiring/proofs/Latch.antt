-- The keyboard's own settling empties the latch if line 7 of port B is 1.
use Rattle.keyboard.specs.QueueParts.{sends, after_sending}
use Rattle.std.proofs.Common.{◌≡◌, ℕ, Bool, true, false, if◌then◌else◌, refl, sym, ap, ◌∙◌}
use Rattle.board_types.specs.Bits.{has_bit}
use Rattle.keyboard.specs.Keyboard.{KeyboardState, after_settling, after_clearing}
use Rattle.ppi8255.specs.Ppi.{lines_b}
use Rattle.wiring.specs.Chips.{ChipsState}
use Rattle.wiring.specs.WiringLaws.{KeysSettled}
use Rattle.wiring.specs.EachWire.{after_latch_wire}

pub line_7_clears : (s : KeyboardState) (lines : ℕ) → has_bit lines 7 ≡ true → after_settling s lines ≡ after_clearing s
unfolding after_settling
line_7_clears s lines high = ap (λ b. if b then after_clearing s else (if sends s lines then after_sending s else s)) high

clears_nothing : (b : Bool) (s : KeyboardState) (lines : ℕ) → has_bit lines 7 ≡ b → after_settling s lines ≡ s → (if b then after_clearing s else s) ≡ s
clears_nothing true s lines high settled = sym (line_7_clears s lines high) ∙ settled
clears_nothing false s lines low settled = refl

-- if the keyboard has settled, the latch's wire does nothing
pub latch_settled : (s : ChipsState) → KeysSettled s → after_latch_wire s.keyboard s.ppi ≡ s.keyboard
latch_settled s settled = clears_nothing (has_bit (lines_b s.ppi) 7) s.keyboard (lines_b s.ppi) refl settled
