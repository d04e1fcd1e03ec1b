-- The words of a line are those that it has.
use Rattle.std.proofs.Common.{◌≡◌, ◌≢◌, ◌∙◌, ℕ, Bool, true, false, not, if◌then◌else◌, List, [], ◌∷◌, ◌++◌, refl, ap, subst}
use Rattle.std.specs.Bool.{Decides}
use Rattle.std.specs.List.{AllByRecursion}
use Rattle.std.proofs.lemmas.Bool.Decides.{Decides-eqb}
use Rattle.board_types.specs.TextLines.{onto_first}
use Rattle.debugger_meaning.specs.CommandWords.{is_space, begins_word, words_from, words_of}
use Rattle.debugger_meaning.specs.Spellings.{AreSpaces, HasWords, IsApart, IsWord}
use Rattle.debugger_meaning.specs.DebuggerLaws.{WordsAreRead}
use Rattle.debugger_meaning.proofs.Scanning.{space_first}
use Rattle.debugger_meaning.proofs.Reading.{word_end, word_step}

-- ---- what is a space
by_test : (b : ℕ) (test : Bool) → Decides test (b ≡ 32) → b ≢ 32 → test ≡ false
by_test b true is other = absurd (other (is.0 refl))
by_test b false is other = refl

no_space : (b : ℕ) → b ≢ 32 → is_space b ≡ false
no_space b other = by_test b (is_space b) (Decides-eqb b 32) other

a_space : (b : ℕ) → b ≡ 32 → is_space b ≡ true
a_space b is = (Decides-eqb b 32).1 is

space_is : (b : ℕ) → is_space b ≡ true → b ≡ 32
space_is b is = (Decides-eqb b 32).0 is

both_tests : (test : Bool) → test ≡ true → test ≡ false → ⊥
both_tests true one other = cc
both_tests false one other = cc

other_is : (b : ℕ) → is_space b ≡ false → b ≢ 32
other_is b at is = both_tests (is_space b) (a_space b is) at

not_false : (test : Bool) → not test ≡ false → test ≡ true
not_false true is = refl
not_false false is = absurd (cc)

not_true : (test : Bool) → not test ≡ true → test ≡ false
not_true true is = absurd (cc)
not_true false is = refl

-- ---- words that a line has are read
no_words : (line : List ℕ) → AreSpaces line → words_from line ≡ []
no_words [] is = refl
no_words (b ∷ bs) is = space_first b bs (a_space b is.0) ∙ no_words bs is.1

skipped : (spaces rest : List ℕ) → AreSpaces spaces → words_from (spaces ++ rest) ≡ words_from rest
skipped [] rest is = refl
skipped (b ∷ bs) rest is = space_first b (bs ++ rest) (a_space b is.0) ∙ skipped bs rest is.1

word_apart : (first second : Bool) (b : ℕ) (more skips : List (List ℕ)) → first ≡ false → second ≡ true
    → (if first then skips else (if not second then onto_first b more else (b ∷ []) ∷ more)) ≡ (b ∷ []) ∷ more
word_apart first second b more skips p q = rw (p, q) refl

word_ends : (b : ℕ) (w rest : List ℕ) → b ≢ 32 → AllByRecursion (λ c. c ≢ 32) w → IsApart rest → words_from (b ∷ (w ++ rest)) ≡ (b ∷ w) ∷ words_from rest
word_ends b [] [] other none apart = word_end (is_space b) b [] [] (no_space b other)
word_ends b [] (c ∷ cs) other none apart =
    word_apart (is_space b) (is_space c) b (words_from (c ∷ cs)) (words_from (c ∷ cs)) (no_space b other) (a_space c apart)
word_ends b (c ∷ cs) rest other none apart =
    word_step (is_space b) (is_space c) b (words_from (c ∷ (cs ++ rest))) (words_from (c ∷ (cs ++ rest))) (no_space b other) (no_space c none.0)
    ∙ ap (onto_first b) (word_ends c cs rest none.0 none.1 apart)

first_word : (w rest : List ℕ) → IsWord w → IsApart rest → words_from (w ++ rest) ≡ w ∷ words_from rest
first_word [] rest is apart = absurd (is.some refl)
first_word (b ∷ w) rest is apart = word_ends b w rest is.no_space.0 is.no_space.1 apart

words_read : (ws : List (List ℕ)) (line : List ℕ) → HasWords ws line → words_from line ≡ ws
words_read [] line is = no_words line is
words_read (w ∷ ws) line is =
    ap words_from is.are
    ∙ skipped is.spaces (w ++ is.following) is.are_spaces
    ∙ first_word w is.following is.is_word is.is_apart
    ∙ ap (λ (more : List (List ℕ)). w ∷ more) (words_read ws is.following is.is_following)

-- ---- words that are read are those of the line
some_word : (b : ℕ) (w : List ℕ) → b ∷ w ≢ []
some_word b w none = cc

more_space : (b : ℕ) (bs : List ℕ) (ws : List (List ℕ)) → b ≡ 32 → HasWords ws bs → HasWords ws (b ∷ bs)
more_space b bs [] is more = (is, more)
more_space b bs (w ∷ ws) is more = record {
  spaces = b ∷ more.spaces;
  following = more.following;
  are = ap (λ (cs : List ℕ). b ∷ cs) more.are;
  are_spaces = (is, more.are_spaces);
  is_word = more.is_word;
  is_apart = more.is_apart;
  is_following = more.is_following;
}

apart : (bs : List ℕ) → begins_word bs ≡ false → IsApart bs
apart [] at = tt
apart (c ∷ cs) at = space_is c (not_false (is_space c) at)

-- a word that is longer by its first byte
longer_by : (b c : ℕ) (cs w : List ℕ) (ws : List (List ℕ)) (spaces following : List ℕ) → b ≢ 32 → c ≢ 32 → c ∷ cs ≡ spaces ++ (w ++ following)
    → AreSpaces spaces → IsWord w → IsApart following → HasWords ws following → HasWords ((b ∷ w) ∷ ws) (b ∷ c ∷ cs)
longer_by b c cs w ws [] following other not_space are spaces word ends more = record {
  spaces = [];
  following = following;
  are = ap (λ (ds : List ℕ). b ∷ ds) are;
  are_spaces = tt;
  is_word = record { some = some_word b w; no_space = (other, word.no_space) };
  is_apart = ends;
  is_following = more;
}
longer_by b c cs w ws (d ∷ ds) following other not_space are spaces word ends more = absurd (let same : c ≡ d = cc in not_space (same ∙ spaces.0))

longer : (b : ℕ) (bs : List ℕ) (ws : List (List ℕ)) → begins_word bs ≡ true → b ≢ 32 → HasWords ws bs → HasWords (onto_first b ws) (b ∷ bs)
longer b [] ws at other more = absurd (cc)
longer b (c ∷ cs) [] at other more = absurd (other_is c (not_true (is_space c) at) more.0)
longer b (c ∷ cs) (w ∷ ws) at other more =
    longer_by b c cs w ws more.spaces more.following other
    (other_is c (not_true (is_space c) at)) more.are more.are_spaces more.is_word more.is_apart more.is_following

begun : (b : ℕ) (bs : List ℕ) (begins : Bool) → begins_word bs ≡ begins → b ≢ 32 → HasWords (words_from bs) bs
    → HasWords (if begins then onto_first b (words_from bs) else (b ∷ []) ∷ words_from bs) (b ∷ bs)
begun b bs true at other more = longer b bs (words_from bs) at other more
begun b bs false at other more = record {
  spaces = [];
  following = bs;
  are = refl;
  are_spaces = tt;
  is_word = record { some = some_word b []; no_space = (other, tt) };
  is_apart = apart bs at;
  is_following = more;
}

one_more : (b : ℕ) (bs : List ℕ) (space : Bool) → is_space b ≡ space → HasWords (words_from bs) bs
    → HasWords (if space then words_from bs else (if begins_word bs then onto_first b (words_from bs) else (b ∷ []) ∷ words_from bs)) (b ∷ bs)
one_more b bs true at more = more_space b bs (words_from bs) (space_is b at) more
one_more b bs false at more = begun b bs (begins_word bs) refl (other_is b at) more

has_words : (line : List ℕ) → HasWords (words_from line) line
has_words [] = tt
has_words (b ∷ bs) = one_more b bs (is_space b) refl (has_words bs)

pub words_are : WordsAreRead
unfolding words_of
words_are line ws = (λ is. subst (λ (vs : List (List ℕ)). HasWords vs line) is (has_words line), words_read ws line)
