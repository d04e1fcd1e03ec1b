-- Chips that go on alone: the parallel port and the keyboard stay over clocks, and the speaker stays low.
use Rattle.std.proofs.Common.{◌≡◌, ℕ, zero, suc, ◌+◌, ◌&&◌, false, sym, ap, ◌∙◌, arith}
use Rattle.board_types.proofs.Iterate.{iterate_zero, iterate_more}
use Rattle.board_types.specs.Bits.{has_bit}
use Rattle.board_types.specs.LineLevel.{is_high}
use Rattle.keyboard.specs.Keyboard as keys
use Rattle.keyboard.specs.Keyboard.{KeyboardState}
use Rattle.ppi8255.specs.Ppi.{lines_b}
use Rattle.wiring.specs.Alone.{GoesOnAlone}
use Rattle.wiring.specs.Chips.{ChipsState}
use Rattle.wiring.specs.WiringLaws.{KeysSettled}
use Rattle.wiring.specs.Speaker.{is_speaker_high}
use Rattle.wiring.specs.Wires.{after_settling, after_clock, after_clocks}
use Rattle.wiring.proofs.Latch.{latch_settled}
use Rattle.wiring.proofs.Speaker.{ppi_of_clocks}

-- chips with the parallel port and the keyboard of chips that go on alone do so, too
pub alone_alike : (s t : ChipsState) → t.ppi ≡ s.ppi → t.keyboard ≡ s.keyboard → GoesOnAlone s → GoesOnAlone t
alone_alike s t ppi keyboard alone = record {
  speaker_off = ap (λ p. has_bit (lines_b p) 1) ppi ∙ alone.speaker_off;
  keys = ap (λ p. keys.after_settling t.keyboard (lines_b p)) ppi ∙ ap (λ k. keys.after_settling k (lines_b s.ppi)) keyboard
      ∙ alone.keys ∙ sym keyboard;
}

keyboard_of_clock : (s : ChipsState) → KeysSettled s → (after_clock s).keyboard ≡ s.keyboard
unfolding after_clock after_settling
keyboard_of_clock s settled = latch_settled s settled

pub keyboard_of_clocks : (s : ChipsState) (n : ℕ) → KeysSettled s → (after_clocks s n).keyboard ≡ s.keyboard
keyboard_of_clocks s zero settled = ap (λ (t : ChipsState). t.keyboard) (iterate_zero after_clock s)
keyboard_of_clocks s (suc n) settled =
    let more : suc n ≡ n + 1 = omega arith in
    let t : ChipsState = after_clocks s n in
    let same : t.keyboard ≡ s.keyboard = keyboard_of_clocks s n settled in
    let still : KeysSettled t =
    ap (λ p. keys.after_settling t.keyboard (lines_b p)) (ppi_of_clocks s n) ∙ ap (λ k. keys.after_settling k (lines_b s.ppi)) same
    ∙ settled ∙ sym same in
    ap (λ (u : ChipsState). u.keyboard) (ap (λ k. after_clocks s k) more ∙ iterate_more after_clock n s)
    ∙ keyboard_of_clock t still ∙ same

-- a keyboard that has settled has still settled at any later clock
pub keys_settled_later : (s : ChipsState) (n : ℕ) → KeysSettled s → KeysSettled (after_clocks s n)
keys_settled_later s n settled =
    let t : ChipsState = after_clocks s n in
    let same : t.keyboard ≡ s.keyboard = keyboard_of_clocks s n settled in
    ap (λ p. keys.after_settling t.keyboard (lines_b p)) (ppi_of_clocks s n) ∙ ap (λ k. keys.after_settling k (lines_b s.ppi)) same
    ∙ settled ∙ sym same

-- chips that go on alone still do so at any later clock
pub alone_later : (s : ChipsState) (n : ℕ) → GoesOnAlone s → GoesOnAlone (after_clocks s n)
alone_later s n alone = alone_alike s (after_clocks s n) (ppi_of_clocks s n) (keyboard_of_clocks s n alone.keys) alone

pub low_now : (s : ChipsState) → has_bit (lines_b s.ppi) 1 ≡ false → is_speaker_high s ≡ false
unfolding is_speaker_high
low_now s low = ap (λ b. b && is_high s.pit.counter_2.out) low

-- chips that go on alone leave the speaker low
pub low_alone : (s : ChipsState) (n : ℕ) → GoesOnAlone s → is_speaker_high (after_clocks s n) ≡ false
low_alone s n alone = low_now (after_clocks s n) (ap (λ p. has_bit (lines_b p) 1) (ppi_of_clocks s n) ∙ alone.speaker_off)
