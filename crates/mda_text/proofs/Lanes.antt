-- What a comparison of lanes says of the bytes.
use Rattle.std.proofs.Common.{◌≡◌, ℕ, zero, suc, ◌+◌, ◌-◌, ◌%◌, ◌^◌, ◌<◌, ◌≤◌, ◌==◌, Bool, true, false}
use Rattle.std.proofs.Common.{not, List, [], ◌∷◌, length, get_or, slice_index, refl, sym, ap, ◌∙◌, arith}
use Rattle.std.proofs.lemmas.Bool.Decides.{nat_tests}
use Rattle.std.proofs.lemmas.Simd.{get_or-zip2, get_or-chunk, length-chunk, length-zip2, mask_l-mod}
use Rattle.std.specs.Simd.Lanes.{chunk, mask_l, zip2}

-- if no bit is set, no lane is
no_lane : (ms : List Bool) (i : ℕ) → mask_l ms ≡ 0 → get_or ms i false ≡ false
no_lane [] i none = refl
no_lane (true ∷ ms) i none = absurd (omega (arith, none))
no_lane (false ∷ ms) zero none = refl
no_lane (false ∷ ms) (suc i) none = no_lane ms i (omega (arith, none))

abbrev pub differ : ℕ → ℕ → Bool
differ a b = not (a == b)

same_if_not : (a b : ℕ) → differ a b ≡ false → a ≡ b
same_if_not a b told = grind (arith, nat_tests)

-- if the mask of 32 lanes is 0, the bytes under them are the same
pub lanes_same : (a b : List ℕ) (at : ℕ) → at + 32 ≤ length a → at + 32 ≤ length b
    → mask_l (zip2 differ (chunk at 32 a) (chunk at 32 b)) % 2 ^ 64 ≡ 0 → (k : ℕ) → at ≤ k → k < at + 32 → slice_index a k ≡ slice_index b k
lanes_same a b at first second none k from below =
    let xs = chunk at 32 a in
    let ys = chunk at 32 b in
    let j = k - at in
    let long : length xs ≡ 32 = length-chunk at 32 a first in
    let alike : length ys ≡ 32 = length-chunk at 32 b second in
    let lanes : length (zip2 differ xs ys) ≡ 32 = length-zip2 differ xs ys (long ∙ sym alike) ∙ long in
    let empty : mask_l (zip2 differ xs ys) ≡ 0 = sym (mask_l-mod (zip2 differ xs ys) 64 (omega (arith, lanes))) ∙ none in
    let lane : differ (get_or xs j 0) (get_or ys j 0) ≡ false =
    sym (get_or-zip2 differ xs ys j 0 0 false (omega (arith, long)) (omega (arith, alike))) ∙ no_lane (zip2 differ xs ys) j empty
    in
    let there : at + j ≡ k = omega arith in
    sym (get_or-chunk at 32 a j 0 (omega arith) ∙ ap (λ i. get_or a i 0) there)
    ∙ same_if_not _ _ lane
    ∙ get_or-chunk at 32 b j 0 (omega arith)
    ∙ ap (λ i. get_or b i 0) there
