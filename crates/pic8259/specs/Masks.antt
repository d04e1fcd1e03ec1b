-- How the code holds the list and the sets of levels: by the number of the lowest level, and by a byte for each set.
-- From both you get back what they stand for.
-- For proofs alone: no public contract rests on it.
use Rattle.std.specs.Prelude.{◌≡◌, ℕ, ◌+◌, ◌*◌, ◌/◌, ◌%◌, ◌<◌, ◌==◌, ◌&&◌, if◌then◌else◌, map, slice_index}
use Rattle.std.proofs.Common.{arith, ap, ◌∙◌, inl, inr}
use Rattle.std.proofs.lemmas.Bool.Decides.{eqb_tells}
use Rattle.pic8259.specs.Levels.{all_levels, Levels, contains, byte_of, levels_of, order_with_lowest}

-- the levels that are in both sets
abbrev pub in_both : Levels → Levels → Levels
in_both a b = map (λ level. contains a level && contains b level) all_levels

pub last-order_with_lowest : (lowest : ℕ) → lowest < 8 → slice_index (order_with_lowest lowest) 7 ≡ lowest
unfolding order_with_lowest
last-order_with_lowest lowest within = omega arith

bit_weight : (weight b : ℕ) → b < 2 → (if b == 1 then weight else 0) ≡ b * weight
bit_weight weight b small =
    elim (eqb_tells b 1) [
      | inl one ↦ ap (λ c. if c then weight else 0) one.0 ∙ rw one.1 (omega arith)
      | inr other ↦ let none : b ≡ 0 = omega arith in ap (λ c. if c then weight else 0) other.0 ∙ rw none (omega arith)
    ]

-- a byte is the sum of its bits
pub byte_of-levels_of : (byte : ℕ) → byte < 256 → byte_of (levels_of byte) ≡ byte
byte_of-levels_of byte within =
    let h0 : byte ≡ 2 * (byte / 2) + byte % 2 = omega arith in
    let h1 : byte / 2 ≡ 2 * (byte / 4) + byte / 2 % 2 = omega arith in
    let h2 : byte / 4 ≡ 2 * (byte / 8) + byte / 4 % 2 = omega arith in
    let h3 : byte / 8 ≡ 2 * (byte / 16) + byte / 8 % 2 = omega arith in
    let h4 : byte / 16 ≡ 2 * (byte / 32) + byte / 16 % 2 = omega arith in
    let h5 : byte / 32 ≡ 2 * (byte / 64) + byte / 32 % 2 = omega arith in
    let h6 : byte / 64 ≡ 2 * (byte / 128) + byte / 64 % 2 = omega arith in
    let h7 : byte / 128 ≡ byte / 128 % 2 = omega arith in
    let w0 = bit_weight 1 (byte / 1 % 2) (omega arith) in
    let w1 = bit_weight 2 (byte / 2 % 2) (omega arith) in
    let w2 = bit_weight 4 (byte / 4 % 2) (omega arith) in
    let w3 = bit_weight 8 (byte / 8 % 2) (omega arith) in
    let w4 = bit_weight 16 (byte / 16 % 2) (omega arith) in
    let w5 = bit_weight 32 (byte / 32 % 2) (omega arith) in
    let w6 = bit_weight 64 (byte / 64 % 2) (omega arith) in
    let w7 = bit_weight 128 (byte / 128 % 2) (omega arith) in
    omega arith
