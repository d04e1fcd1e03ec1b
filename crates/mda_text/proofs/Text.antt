-- One more row, and one more cell, of a text that grows.
use Rattle.std.proofs.Common.{◌≡◌, ℕ, ◌+◌, List, [], ◌∷◌, ◌++◌, map, sym, ap, ◌∙◌, arith, append_assoc, append-nil}
use Rattle.std.specs.List.{range_with_len, flat_map}
use Rattle.std.proofs.lemmas.List.FromFn.{map-range_with_len_more}
use Rattle.std.proofs.lemmas.List.Folds.{flat_map-map}
use Rattle.std.proofs.lemmas.Grind.{flat_map-append}
use Rattle.mda_text.specs.Mda.{MdaState}
use Rattle.mda_text.specs.Screen.{cell, screen_row, screen_text, column_count}
use Rattle.mda_text.proofs.Sizes.{row_count_is, column_count_is}

pub one_more_cell : (f : ℕ → ℕ) (start text grown : List ℕ) (count item : ℕ)
    → text ≡ start ++ map f (range_with_len 0 count) → grown ≡ text ++ item ∷ [] → item ≡ f count → grown ≡ start ++ map f (range_with_len 0 (count + 1))
one_more_cell f start text grown count item filled more is =
    more ∙ ap (λ xs. xs ++ item ∷ []) filled
    ∙ append_assoc start (map f (range_with_len 0 count)) (item ∷ [])
    ∙ ap (λ n. start ++ (map f (range_with_len 0 count) ++ n ∷ [])) is
    ∙ ap (λ xs. start ++ xs) (sym (map-range_with_len_more f 0 count count (omega arith)))

rows_more : (f : ℕ → List ℕ) (count : ℕ) → flat_map f (range_with_len 0 (count + 1)) ≡ flat_map f (range_with_len 0 count) ++ f count
rows_more f count =
    sym (flat_map-map f (λ k. k) (range_with_len 0 (count + 1)))
    ∙ ap (flat_map f) (map-range_with_len_more (λ k. k) 0 count count (omega arith))
    ∙ flat_map-append f (map (λ k. k) (range_with_len 0 count)) (count ∷ [])
    ∙ ap (λ xs. xs ++ (f count ++ [])) (flat_map-map f (λ k. k) (range_with_len 0 count))
    ∙ ap (λ xs. flat_map f (range_with_len 0 count) ++ xs) (append-nil (f count))

pub one_more_row : (f : ℕ → List ℕ) (start text grown : List ℕ) (count : ℕ) → text ≡ start ++ flat_map f (range_with_len 0 count) → grown ≡ text ++ f count
    → grown ≡ start ++ flat_map f (range_with_len 0 (count + 1))
one_more_row f start text grown count filled more =
    more ∙ ap (λ xs. xs ++ f count) filled
    ∙ append_assoc start (flat_map f (range_with_len 0 count)) (f count)
    ∙ ap (λ xs. start ++ xs) (sym (rows_more f count))

pub row_ended : (m : MdaState) (row column : ℕ) (start text grown : List ℕ)
    → text ≡ start ++ map (cell m row) (range_with_len 0 column) → grown ≡ text ++ 10 ∷ [] → column ≡ 80 → grown ≡ start ++ screen_row m row
unfolding screen_row
row_ended m row column start text grown filled more all =
    let end : column ≡ column_count = all ∙ sym column_count_is in
    more ∙ ap (λ xs. xs ++ 10 ∷ []) filled ∙ append_assoc start (map (cell m row) (range_with_len 0 column)) (10 ∷ [])
    ∙ ap (λ n. start ++ (map (cell m row) (range_with_len 0 n) ++ 10 ∷ [])) end

pub screen_ended : (m : MdaState) (row : ℕ) (text : List ℕ) → text ≡ flat_map (screen_row m) (range_with_len 0 row) → row ≡ 25 → text ≡ screen_text m
unfolding screen_text
screen_ended m row text filled all =
    filled ∙ ap (λ n. flat_map (screen_row m) (range_with_len 0 n)) (all ∙ sym row_count_is)
