-- The lines of a listing, one after another.
use Rattle.std.proofs.Common.{◌≡◌, ◌∙◌, ℕ, zero, suc, ◌+◌, ◌≤◌, List, [], ◌∷◌, ◌++◌, length, drop, refl, sym, ap, arith, Option, None, Some, append_assoc}
use Rattle.std.proofs.lemmas.List.{append-nil}
use Rattle.assembler.specs.LocatedLines.{LocatedLine}
use Rattle.assembler.specs.Listing.{Names, line_at, listed}
use Rattle.pcboard_texts.specs.Answer.{listing_text}

-- the lines from the i-th on begin with the i-th
pub line_first : (names : Names) (texts : List (List ℕ)) (rows : List LocatedLine) (i : ℕ) (line : List ℕ) → line_at names texts rows i ≡ Some line
    → listing_text names (drop i texts) (drop i rows) ≡ line ++ (10 ∷ listing_text names (drop (suc i) texts) (drop (suc i) rows))
line_first names [] rows i line is = cc
line_first names (text ∷ texts) [] zero line is = cc
line_first names (text ∷ texts) [] (suc i) line is = cc
line_first names (text ∷ texts) (row ∷ rows) zero line is =
    let same : listed names text row ≡ line = cc in
    ap (λ (l : List ℕ). l ++ (10 ∷ listing_text names texts rows)) same
line_first names (text ∷ texts) (row ∷ rows) (suc i) line is = line_first names texts rows i line is

-- if there is no i-th line, none follows
without_rows : (names : Names) (texts : List (List ℕ)) → listing_text names texts [] ≡ []
without_rows names [] = refl
without_rows names (text ∷ texts) = refl

without_texts : (names : Names) (rows : List LocatedLine) → listing_text names [] rows ≡ []
without_texts names [] = refl
without_texts names (row ∷ rows) = refl

pub line_none : (names : Names) (texts : List (List ℕ)) (rows : List LocatedLine) (i : ℕ) → line_at names texts rows i ≡ None
    → listing_text names (drop i texts) (drop i rows) ≡ []
line_none names [] rows zero is = without_texts names rows
line_none names [] rows (suc i) is = without_texts names (drop (suc i) rows)
line_none names (text ∷ texts) [] zero is = refl
line_none names (text ∷ texts) [] (suc i) is = without_rows names (drop i texts)
line_none names (text ∷ texts) (row ∷ rows) zero is = cc
line_none names (text ∷ texts) (row ∷ rows) (suc i) is = line_none names texts rows i is

-- past the last line none follows
pub all_shown : (names : Names) (texts : List (List ℕ)) (rows : List LocatedLine) (i : ℕ) → length texts ≤ i
    → listing_text names (drop i texts) (drop i rows) ≡ []
all_shown names [] rows zero within = without_texts names rows
all_shown names [] rows (suc i) within = without_texts names (drop (suc i) rows)
all_shown names (text ∷ texts) rows zero within = let never : ⊥ = omega (arith, within) in absurd never
all_shown names (text ∷ texts) [] (suc i) within = without_rows names (drop i texts)
all_shown names (text ∷ texts) (row ∷ rows) (suc i) within = all_shown names texts rows i (omega (arith, within))

-- one more line
pub shows_more : (names : Names) (texts : List (List ℕ)) (rows : List LocatedLine) (i : ℕ) (text line new whole : List ℕ)
    → line_at names texts rows i ≡ Some line → new ≡ text ++ (line ++ 10 ∷ []) → text ++ listing_text names (drop i texts) (drop i rows) ≡ whole
    → new ++ listing_text names (drop (i + 1) texts) (drop (i + 1) rows) ≡ whole
shows_more names texts rows i text line new whole is adds shown =
    let rest : List ℕ = listing_text names (drop (suc i) texts) (drop (suc i) rows) in
    let next : i + 1 ≡ suc i = omega (arith) in
    let first : listing_text names (drop i texts) (drop i rows) ≡ line ++ (10 ∷ rest) = line_first names texts rows i line is in
    let told : new ++ rest ≡ text ++ (line ++ (10 ∷ rest)) =
    ap (λ (l : List ℕ). l ++ rest) adds ∙ (append_assoc text (line ++ 10 ∷ []) rest ∙ ap (λ (l : List ℕ). text ++ l) (append_assoc line (10 ∷ []) rest)) in
    ap (λ (n : ℕ). new ++ listing_text names (drop n texts) (drop n rows)) next ∙ (told ∙ (ap (λ (l : List ℕ). text ++ l) (sym first) ∙ shown))

-- all lines
pub shows_all : (names others : Names) (texts : List (List ℕ)) (rows : List LocatedLine) (i : ℕ) (text : List ℕ)
    → text ++ listing_text names (drop i texts) (drop i rows) ≡ listing_text names texts rows
    → listing_text names (drop i texts) (drop i rows) ≡ [] → names ≡ others
    → text ≡ listing_text others texts rows
shows_all names others texts rows i text shown none same =
    sym (append-nil text) ∙ (ap (λ (l : List ℕ). text ++ l) (sym none) ∙ (shown ∙ ap (λ (ns : Names). listing_text ns texts rows) same))

-- what holds no value is None
pub holds_none : {A : Type 0} (found : Option A) → ((x : A) → found ≡ Some x → ⊥) → found ≡ None
holds_none None never = refl
holds_none (Some x) never = absurd (never x refl)
