-- Looking a word up in the code's words finds what looking it up in the definition's does.
use Rattle.std.proofs.Common.{◌≡◌, ℕ, Bool, true, false, cond, List, [], ◌∷◌, map, find, Option, Some, refl, ap, ◌∙◌}
use Rattle.std.specs.Option.{option_map}
use Rattle.dialect.specs.declared.meaning.Entry.{Entry as Kept}
use Rattle.dialect.specs.Words.{entry_of, words, spells, meaning_of}

found : (word : List ℕ) (kept : List Kept)
    → option_map (λ e. e.meaning) (find (λ e. spells word e.word.now) kept) ≡ option_map (λ e. e.1) (find (λ e. spells word e.0) (map entry_of kept))
found word [] = refl
found word (k ∷ ks) = by_test word k ks (spells word k.word.now) (found word ks)
  where
    by_test : (word : List ℕ) (k : Kept) (ks : List Kept) (is : Bool)
        → option_map (λ e. e.meaning) (find (λ e. spells word e.word.now) ks) ≡ option_map (λ e. e.1) (find (λ e. spells word e.0) (map entry_of ks))
        → option_map (λ e. e.meaning) (cond is (Some k) (find (λ e. spells word e.word.now) ks))
        ≡ option_map (λ e. e.1) (cond is (Some (entry_of k)) (find (λ e. spells word e.0) (map entry_of ks)))
    by_test word k ks true rest = refl
    by_test word k ks false rest = rest

pub looked_up : (word : List ℕ) (kept : List Kept) (r : Option Kept) → map entry_of kept ≡ words → r ≡ find (λ e. spells word e.word.now) kept
    → option_map (λ e. e.meaning) r ≡ meaning_of word
unfolding meaning_of
looked_up word kept r same is =
    ap (option_map (λ (e : Kept). e.meaning)) is
    ∙ found word kept
    ∙ ap (λ ws. option_map (λ e. e.1) (find (λ e. spells word e.0) ws)) same
