-- The characters that a mark keeps, one after another.
use Rattle.std.proofs.Common.{◌≡◌, ℕ, ◌+◌, ◌<◌, ◌++◌, List, [], ◌∷◌, map, length, take, slice_set, refl, sym, ap, ◌∙◌, arith}
use Rattle.std.specs.List.{range_with_len}
use Rattle.std.proofs.lemmas.List.{take_more_set, take_all, length-set}
use Rattle.std.proofs.lemmas.List.FromFn.{map-range_with_len_more}
use Rattle.mda_text.specs.Mda.{MdaState, text_byte, cell_count}
use Rattle.mda_text.specs.Screen.{cell, character_at, nth_character, characters}
use Rattle.mda_text.proofs.Sizes.{cell_count_is}

abbrev pub with_kept : MdaState → List ℕ → MdaState
with_kept m kept = record m { kept = kept }

-- what is kept doesn't show
pub same_characters : (m : MdaState) (kept : List ℕ) (n : ℕ) → nth_character (with_kept m kept) n ≡ nth_character m n
unfolding nth_character cell character_at text_byte
same_characters m kept n = refl

pub kept_shown : (m s : MdaState) → s ≡ with_kept m (characters m) → s.kept ≡ characters s
unfolding characters nth_character cell character_at text_byte
kept_shown m s is = ap (λ t. t.kept) is ∙ ap characters (sym is)

-- n characters of m are kept, and nothing else has changed
pub record IsKeptTo (m s : MdaState) (n : ℕ) : Type 0 where
  pub others : s ≡ with_kept m s.kept
  pub kept : take n s.kept ≡ map (nth_character m) (range_with_len 0 n)
  pub whole : length s.kept ≡ 2000

pub keeps_none : (m v : MdaState) → v ≡ m → length v.kept ≡ 2000 → IsKeptTo m m 0
keeps_none m v same whole = record { others = refl; kept = refl; whole = ap (λ s. length s.kept) (sym same) ∙ whole }

pub keeps_one_more : (m s v : MdaState) (n character : ℕ) → v ≡ s → IsKeptTo m s n → n < 2000 → character ≡ nth_character s n
    → IsKeptTo m (with_kept v (slice_set v.kept n character)) (n + 1)
keeps_one_more m s v n character same so_far below is =
    let shown : character ≡ nth_character m n = is ∙ ap (λ t. nth_character t n) so_far.others ∙ same_characters m s.kept n in
    let whole : length v.kept ≡ 2000 = ap (λ t. length t.kept) same ∙ so_far.whole in
    let front : take n v.kept ≡ map (nth_character m) (range_with_len 0 n) = ap (λ t. take n t.kept) same ∙ so_far.kept in
    record {
      others = ap (λ t. with_kept t (slice_set v.kept n character)) (same ∙ so_far.others);
      kept = take_more_set v.kept n character (omega arith) ∙ ap (λ xs. xs ++ character ∷ []) front
          ∙ ap (λ k. map (nth_character m) (range_with_len 0 n) ++ k ∷ []) shown ∙ sym (map-range_with_len_more (nth_character m) 0 n n (omega arith));
      whole = length-set v.kept n character ∙ whole;
    }

pub keeps_all : (m s : MdaState) (n : ℕ) → IsKeptTo m s n → n ≡ 2000 → s ≡ with_kept m (characters m)
unfolding characters
keeps_all m s n so_far all =
    let end : n ≡ cell_count = all ∙ sym cell_count_is in
    so_far.others
    ∙ ap (with_kept m) (sym (take_all n s.kept (omega (arith, so_far.whole))) ∙ so_far.kept ∙ ap (λ k. map (nth_character m) (range_with_len 0 k)) end)
