-- The codes of the keys that are stamped with a clock.
use Rattle.std.proofs.Common.{◌≡◌, ◌≢◌, ℕ, suc, ◌+◌, ◌<◌, List, [], ◌∷◌, ◌++◌, length, take, map, filter, get_or, nat_eq, refl, ap, ◌∙◌, arith}
use Rattle.std.proofs.lemmas.Grind.{common_steps}
use Rattle.std.proofs.lemmas.List.{take_more, map-append}
use Rattle.std.proofs.lemmas.List.Elements.{filter-append}
use Rattle.board_types.specs.declared.keys.StampedKey.{StampedKey}
use Rattle.board_plain.specs.Plain.{codes_at}

pub none_due : (c : ℕ) (ks : List StampedKey) → ((i : ℕ) (d : StampedKey) → i < length ks → (get_or ks i d).stamp ≢ c) → codes_at ks c ≡ []
none_due c [] all = refl
none_due c (k ∷ ks) all =
    let first : k.stamp ≢ c = all 0 k (omega arith) in
    let rest : codes_at ks c ≡ [] = none_due c ks (λ i d within. all (suc i) d (omega (arith, within))) in
    grind (arith, common_steps)

pub codes_append : (c : ℕ) (xs ys : List StampedKey) → codes_at (xs ++ ys) c ≡ codes_at xs c ++ codes_at ys c
codes_append c xs ys =
    ap (map (λ (k : StampedKey). k.code)) (filter-append (λ (k : StampedKey). nat_eq k.stamp c) xs ys)
    ∙ map-append (λ (k : StampedKey). k.code) (filter (λ (k : StampedKey). nat_eq k.stamp c) xs) (filter (λ (k : StampedKey). nat_eq k.stamp c) ys)

one_due : (c : ℕ) (k : StampedKey) → k.stamp ≡ c → codes_at (k ∷ []) c ≡ k.code ∷ []
one_due c k is = grind (arith, common_steps)

pub codes_more : (c : ℕ) (ks : List StampedKey) (i : ℕ) (d : StampedKey) → i < length ks → (get_or ks i d).stamp ≡ c
    → codes_at (take (i + 1) ks) c ≡ codes_at (take i ks) c ++ (get_or ks i d).code ∷ []
codes_more c ks i d within is =
    ap (λ xs. codes_at xs c) (take_more ks i d within)
    ∙ codes_append c (take i ks) (get_or ks i d ∷ [])
    ∙ ap (λ xs. codes_at (take i ks) c ++ xs) (one_due c (get_or ks i d) is)
