-- The list of levels with a given lowest: turned to another lowest, and its part up to each place.
use Rattle.std.proofs.Common.{◌≡◌, ℕ, zero, suc, ◌+◌, ◌-◌, ◌%◌, ◌<◌, refl, take, slice_index_or, arith}
use Rattle.pic8259.specs.Levels.{order_with_lowest, with_lowest, up_to}

-- what holds of each of the eight levels
pub by_level : (P : ℕ → Type 0) → P 0 → P 1 → P 2 → P 3 → P 4 → P 5 → P 6 → P 7 → (level : ℕ) → level < 8 → P level
by_level P p0 p1 p2 p3 p4 p5 p6 p7 zero h = p0
by_level P p0 p1 p2 p3 p4 p5 p6 p7 (suc zero) h = p1
by_level P p0 p1 p2 p3 p4 p5 p6 p7 (suc (suc zero)) h = p2
by_level P p0 p1 p2 p3 p4 p5 p6 p7 (suc (suc (suc zero))) h = p3
by_level P p0 p1 p2 p3 p4 p5 p6 p7 (suc (suc (suc (suc zero)))) h = p4
by_level P p0 p1 p2 p3 p4 p5 p6 p7 (suc (suc (suc (suc (suc zero))))) h = p5
by_level P p0 p1 p2 p3 p4 p5 p6 p7 (suc (suc (suc (suc (suc (suc zero)))))) h = p6
by_level P p0 p1 p2 p3 p4 p5 p6 p7 (suc (suc (suc (suc (suc (suc (suc zero))))))) h = p7
by_level P p0 p1 p2 p3 p4 p5 p6 p7 (suc (suc (suc (suc (suc (suc (suc (suc n)))))))) h = absurd (omega arith)

pub turned_to_lowest : (level lowest : ℕ) → level < 8 → lowest < 8 → with_lowest (order_with_lowest lowest) level ≡ order_with_lowest level
unfolding with_lowest order_with_lowest
turned_to_lowest level lowest is_level within =
    let P : ℕ → ℕ → Type 0 = λ other n. with_lowest (order_with_lowest n) other ≡ order_with_lowest other in
    by_level (λ other. P other lowest)
    (by_level (P 0) refl refl refl refl refl refl refl refl lowest within)
    (by_level (P 1) refl refl refl refl refl refl refl refl lowest within)
    (by_level (P 2) refl refl refl refl refl refl refl refl lowest within)
    (by_level (P 3) refl refl refl refl refl refl refl refl lowest within)
    (by_level (P 4) refl refl refl refl refl refl refl refl lowest within)
    (by_level (P 5) refl refl refl refl refl refl refl refl lowest within)
    (by_level (P 6) refl refl refl refl refl refl refl refl lowest within)
    (by_level (P 7) refl refl refl refl refl refl refl refl lowest within)
    level is_level

-- the part of the list up to its level at a place
pub up_to_place : (place lowest : ℕ) → place < 8 → lowest < 8
    → up_to (order_with_lowest lowest) (slice_index_or (order_with_lowest lowest) place 0) ≡ take (place + 1) (order_with_lowest lowest)
unfolding order_with_lowest
up_to_place place lowest is_place within =
    let P : ℕ → ℕ → Type 0 = λ k n. up_to (order_with_lowest n) (slice_index_or (order_with_lowest n) k 0) ≡ take (k + 1) (order_with_lowest n) in
    by_level (λ k. P k lowest)
    (by_level (P 0) refl refl refl refl refl refl refl refl lowest within)
    (by_level (P 1) refl refl refl refl refl refl refl refl lowest within)
    (by_level (P 2) refl refl refl refl refl refl refl refl lowest within)
    (by_level (P 3) refl refl refl refl refl refl refl refl lowest within)
    (by_level (P 4) refl refl refl refl refl refl refl refl lowest within)
    (by_level (P 5) refl refl refl refl refl refl refl refl lowest within)
    (by_level (P 6) refl refl refl refl refl refl refl refl lowest within)
    (by_level (P 7) refl refl refl refl refl refl refl refl lowest within)
    place is_place

-- each level stands at the place that its distance from the lowest gives
pub stands_at : (level lowest : ℕ) → level < 8 → lowest < 8 → slice_index_or (order_with_lowest lowest) ((level + 7 - lowest) % 8) 0 ≡ level
unfolding order_with_lowest
stands_at level lowest is_level within =
    let P : ℕ → ℕ → Type 0 = λ k n. slice_index_or (order_with_lowest n) ((k + 7 - n) % 8) 0 ≡ k in
    by_level (λ k. P k lowest)
    (by_level (P 0) refl refl refl refl refl refl refl refl lowest within)
    (by_level (P 1) refl refl refl refl refl refl refl refl lowest within)
    (by_level (P 2) refl refl refl refl refl refl refl refl lowest within)
    (by_level (P 3) refl refl refl refl refl refl refl refl lowest within)
    (by_level (P 4) refl refl refl refl refl refl refl refl lowest within)
    (by_level (P 5) refl refl refl refl refl refl refl refl lowest within)
    (by_level (P 6) refl refl refl refl refl refl refl refl lowest within)
    (by_level (P 7) refl refl refl refl refl refl refl refl lowest within)
    level is_level
