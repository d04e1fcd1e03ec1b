-- Two lines of a controller that was initialised for 8086 mode, the one with the lower priority rising first.
use Rattle.std.proofs.Common.{◌≡◌, ℕ, ◌+◌, ◌*◌, ◌/◌, ◌<◌, [], ◌∷◌, false, refl, arith}
use Rattle.board_types.specs.declared.line.Line.TheVariants.{High}
use Rattle.pic8259.specs.Pic.{PicState, power_on, level_to_take, vector, after_taking, after_acknowledge, after_line}
use Rattle.pic8259.specs.Pic.{after_icw1, after_word, after_command, after_ocw2, after_end, highest_served, after_write}
use Rattle.pic8259.specs.PicLaws.{after_words}
use Rattle.pic8259.proofs.Order.{by_level}

-- both lines rise after the words of the initialisation
abbrev pub with_both : ℕ → ℕ → ℕ → PicState
with_both base first second =
    after_line (after_line (after_words (after_write power_on false 0x13) (base ∷ 1 ∷ [])) second High) first High

-- the controller after an acknowledge and a plain end of interrupt
abbrev pub with_one_ended : ℕ → ℕ → ℕ → PicState
with_one_ended base first second = after_write (after_acknowledge (with_both base first second)) false 0x20

-- an acknowledge gives the vector of the first, and the next one that of the second
pub gives_both : (base first second : ℕ) → first < second → second < 8
    → (vector (with_both base first second) ≡ 8 * (base / 8) + first) × (vector (with_one_ended base first second) ≡ 8 * (base / 8) + second)
unfolding level_to_take after_taking after_acknowledge after_line after_icw1 after_word after_command after_ocw2 after_end highest_served after_write
gives_both base first second order within =
    let P : ℕ → ℕ → Type 0 = λ a b. (vector (with_both base a b) ≡ 8 * (base / 8) + a) × (vector (with_one_ended base a b) ≡ 8 * (base / 8) + b) in
    by_level (λ b. (a : ℕ) → a < 8 → a < b → P a b)
    (λ a _ lt. absurd (omega arith))
    (λ a small. by_level (λ n. n < 1 → P n 1) (λ _. (refl, refl)) (λ lt. absurd (omega arith)) (λ lt. absurd (omega arith)) (λ lt. absurd (omega arith))
    (λ lt. absurd (omega arith)) (λ lt. absurd (omega arith)) (λ lt. absurd (omega arith)) (λ lt. absurd (omega arith)) a small)
    (λ a small. by_level (λ n. n < 2 → P n 2) (λ _. (refl, refl)) (λ _. (refl, refl)) (λ lt. absurd (omega arith)) (λ lt. absurd (omega arith))
    (λ lt. absurd (omega arith)) (λ lt. absurd (omega arith)) (λ lt. absurd (omega arith)) (λ lt. absurd (omega arith)) a small)
    (λ a small. by_level (λ n. n < 3 → P n 3) (λ _. (refl, refl)) (λ _. (refl, refl)) (λ _. (refl, refl)) (λ lt. absurd (omega arith))
    (λ lt. absurd (omega arith)) (λ lt. absurd (omega arith)) (λ lt. absurd (omega arith)) (λ lt. absurd (omega arith)) a small)
    (λ a small. by_level (λ n. n < 4 → P n 4) (λ _. (refl, refl)) (λ _. (refl, refl)) (λ _. (refl, refl)) (λ _. (refl, refl))
    (λ lt. absurd (omega arith)) (λ lt. absurd (omega arith)) (λ lt. absurd (omega arith)) (λ lt. absurd (omega arith)) a small)
    (λ a small. by_level (λ n. n < 5 → P n 5) (λ _. (refl, refl)) (λ _. (refl, refl)) (λ _. (refl, refl)) (λ _. (refl, refl))
    (λ _. (refl, refl)) (λ lt. absurd (omega arith)) (λ lt. absurd (omega arith)) (λ lt. absurd (omega arith)) a small)
    (λ a small. by_level (λ n. n < 6 → P n 6) (λ _. (refl, refl)) (λ _. (refl, refl)) (λ _. (refl, refl)) (λ _. (refl, refl))
    (λ _. (refl, refl)) (λ _. (refl, refl)) (λ lt. absurd (omega arith)) (λ lt. absurd (omega arith)) a small)
    (λ a small. by_level (λ n. n < 7 → P n 7) (λ _. (refl, refl)) (λ _. (refl, refl)) (λ _. (refl, refl))
    (λ _. (refl, refl)) (λ _. (refl, refl)) (λ _. (refl, refl)) (λ _. (refl, refl)) (λ lt. absurd (omega arith)) a small)
    second within first (omega arith) order
