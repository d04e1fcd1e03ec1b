-- A source has one first fault.
use Rattle.std.proofs.Common.{◌≡◌, ◌∙◌, ℕ, zero, suc, ◌+◌, List, [], ◌∷◌, ◌++◌, length, take, drop, refl, sym, ap}
use Rattle.std.proofs.Common.{ap₂, subst, arith, inl, inr, Option, None, Some, Ok, Err, append_assoc, append-nil}
use Rattle.std.specs.Prelude.{◌⊎◌}
use Rattle.std.proofs.lemmas.List.{take-append-drop}
use Rattle.assembler_lexeme.specs.declared.fault.SyntaxFault.{SyntaxFault}
use Rattle.assembler_syntax.specs.declared.statement.Line.{Line}
use Rattle.board_types.specs.TextLines.{text_lines}
use Rattle.assembler_syntax.specs.Lines.{read_line}
use Rattle.assembler_meaning.specs.declared.symbol.Location.{Location}
use Rattle.assembler_meaning.specs.Values.{Names}
use Rattle.assembler.specs.declared.fault.AsmFault.TheVariants.{SourceTooLong, InLine, Memory}
use Rattle.assembler.specs.declared.fault.SourceFault.{SourceFault}
use Rattle.assembler.specs.FirstFault.{AreFaultless, HasLateFault, IsEarlyFault, IsLateFault, IsTextFault, fault_of_line}
use Rattle.assembler.specs.Placement.{located_fault}
use Rattle.assembler.specs.LocatedLines.{LocatedLine, AreLocatedLines, IsCleanLine, early_fault, names_of, location_following}
use Rattle.assembler.proofs.AnsweringLines.{one_located, one_lines, lines_up_to, LinesUpTo}
use Rattle.assembler_laws.specs.FirstFaults.{LaterLinesDoNotCount, OneFaultIsFirst}

-- ---- a list that is parted twice
abbrev pub IsSame : {X : Type 0} → List X → X → List X → X → Type 0
IsSame f x g y = (f ≡ g) × (x ≡ y)

abbrev pub IsLonger : {X : Type 0} → List X → X → List X → Type 0
IsLonger {X} f x g = (mid : List X) × (g ≡ f ++ x ∷ mid)

heads : {X : Type 0} (x y : X) (xs ys : List X) → x ∷ xs ≡ y ∷ ys → x ≡ y
heads x y xs ys is = cc

tails : {X : Type 0} (x y : X) (xs ys : List X) → x ∷ xs ≡ y ∷ ys → xs ≡ ys
tails x y xs ys is = cc

longer_by : {X : Type 0} (a b : X) (f g : List X) (x : X) → a ≡ b → IsLonger f x g → IsLonger (a ∷ f) x (b ∷ g)
longer_by a b f g x heads_are longer = (longer.0, ap₂ (λ z zs. z ∷ zs) (sym heads_are) longer.1)

same_by : {X : Type 0} (a b : X) (f g : List X) (x y : X) → a ≡ b → IsSame f x g y ⊎ (IsLonger f x g ⊎ IsLonger g y f)
    → IsSame (a ∷ f) x (b ∷ g) y ⊎ (IsLonger (a ∷ f) x (b ∷ g) ⊎ IsLonger (b ∷ g) y (a ∷ f))
same_by a b f g x y heads_are (inl same) = inl (ap₂ (λ z zs. z ∷ zs) heads_are same.0, same.1)
same_by a b f g x y heads_are (inr (inl longer)) = inr (inl (longer_by a b f g x heads_are longer))
same_by a b f g x y heads_are (inr (inr longer)) = inr (inr (longer_by b a g f y (sym heads_are) longer))

pub parted : {X : Type 0} (f : List X) (x : X) (b : List X) (g : List X) (y : X) (c : List X) → f ++ x ∷ b ≡ g ++ y ∷ c
    → IsSame f x g y ⊎ (IsLonger f x g ⊎ IsLonger g y f)
parted [] x b [] y c is = inl (refl, heads x y b c is)
parted [] x b (k ∷ g) y c is = inr (inl (g, ap (λ z. z ∷ g) (sym (heads x k b (g ++ y ∷ c) is))))
parted (k ∷ f) x b [] y c is = inr (inr (f, ap (λ z. z ∷ f) (heads k y (f ++ x ∷ b) c is)))
parted (k ∷ f) x b (l ∷ g) y c is =
    same_by k l f g x y (heads k l (f ++ x ∷ b) (g ++ y ∷ c) is) (parted f x b g y c (tails k l (f ++ x ∷ b) (g ++ y ∷ c) is))

-- ---- a text has one fault
not_read : (text : List ℕ) (line : Line) (found : SyntaxFault) → read_line text ≡ Ok line → read_line text ≡ Err found → ⊥
not_read text line found is also = cc

read_once : (text : List ℕ) (a b : SyntaxFault) → read_line text ≡ Err a → read_line text ≡ Err b → a ≡ b
read_once text a b is also = cc

some_once : (o : Option SourceFault) (a b : SourceFault) → o ≡ Some a → o ≡ Some b → a ≡ b
some_once o a b is also = cc

never_found : (o : Option SourceFault) (fault : SourceFault) → o ≡ None → o ≡ Some fault → ⊥
never_found o fault none some = cc

one_text_fault : (names : Names) (location : Option Location) (text : List ℕ) (a b : SourceFault)
    → IsTextFault names location text a → IsTextFault names location text b → a ≡ b
one_text_fault names location text a b (inl is) (inl also) = is.2 ∙ ap fault_of_line (read_once text is.0 also.0 is.1 also.1) ∙ sym also.2
one_text_fault names location text a b (inl is) (inr also) = absurd (not_read text also.0.line is.0 also.1.reads is.1)
one_text_fault names location text a b (inr is) (inl also) = absurd (not_read text is.0.line also.0 is.1.reads also.1)
one_text_fault names location text a b (inr is) (inr also) =
    let same : is.0 ≡ also.0 = one_located names location text is.0 also.0 is.1 also.1 in
    some_once (early_fault names also.0.location also.0.line also.0.form) a b
    (subst (λ (row : LocatedLine). early_fault names row.location row.line row.form ≡ Some a) same is.2) also.2

no_text_fault : (before : List LocatedLine) (text : List ℕ) (row : LocatedLine) (fault : SourceFault) → IsCleanLine before text row
    → IsTextFault (names_of before) (location_following before) text fault → ⊥
no_text_fault before text row fault clean (inl read) = not_read text row.line read.0 clean.is_located_line.reads read.1
no_text_fault before text row fault clean (inr found) =
    let same : row ≡ found.0 = one_located (names_of before) (location_following before) text row found.0 clean.is_located_line found.1 in
    never_found (early_fault (names_of before) found.0.location found.0.line found.0.form) fault
    (subst (λ (r : LocatedLine). early_fault (names_of before) r.location r.line r.form ≡ None) same clean.clean) found.2

-- clean lines have no fault of the first pass among them
none_among : (texts : List (List ℕ)) (rows : List LocatedLine) (front : List (List ℕ))
    (text : List ℕ) (back : List (List ℕ)) (before : List LocatedLine) (fault : SourceFault)
    → texts ≡ front ++ text ∷ back → AreLocatedLines [] texts rows → AreLocatedLines [] front before
    → IsTextFault (names_of before) (location_following before) text fault → ⊥
none_among texts rows front text back before fault split are clean found =
    let own : LinesUpTo [] front text = lines_up_to [] front text back rows (subst (λ (ts : List (List ℕ)). AreLocatedLines [] ts rows) split are) in
    let same : own.located_lines ≡ before = one_lines [] front own.located_lines before own.clean clean in
    no_text_fault before text own.located fault (subst (λ (rs : List LocatedLine). IsCleanLine rs text own.located) same own.is_located_line) found

one_early : (source : List ℕ) (a b : SourceFault) (m n : ℕ) (is : IsEarlyFault source a m) (also : IsEarlyFault source b n)
    → IsSame is.front is.text also.front also.text ⊎ (IsLonger is.front is.text also.front ⊎ IsLonger also.front also.text is.front)
    → InLine a m ≡ InLine b n
one_early source a b m n is also (inl same) =
    let rows : is.located_lines ≡ also.located_lines =
    one_lines [] also.front is.located_lines also.located_lines
    (subst (λ (ts : List (List ℕ)). AreLocatedLines [] ts is.located_lines) same.0 is.clean) also.clean in
    let found : IsTextFault (names_of also.located_lines) (location_following also.located_lines) also.text a =
    subst (λ (t : List ℕ). IsTextFault (names_of also.located_lines) (location_following also.located_lines) t a) same.1
    (subst (λ (rs : List LocatedLine). IsTextFault (names_of rs) (location_following rs) is.text a) rows is.found) in
    let number : m ≡ n = sym is.counted ∙ ap (λ (ts : List (List ℕ)). length ts + 1) same.0 ∙ also.counted in
    ap₂ InLine (one_text_fault (names_of also.located_lines) (location_following also.located_lines) also.text a b found also.found) number
one_early source a b m n is also (inr (inl longer)) =
    absurd (none_among also.front also.located_lines is.front is.text longer.0 is.located_lines a longer.1 also.clean is.clean is.found)
one_early source a b m n is also (inr (inr longer)) =
    absurd (none_among is.front is.located_lines also.front also.text longer.0 also.located_lines b longer.1 is.clean also.clean also.found)

pub never_both : (source : List ℕ) (a b : SourceFault) (m n : ℕ) → IsEarlyFault source a m → IsLateFault source b n → ⊥
never_both source a b m n early late =
    none_among (text_lines source) late.located_lines early.front early.text early.back early.located_lines a early.texts late.clean early.clean early.found

-- ---- rows have one fault of placing
faultless_there : (names : Names) (before front : List LocatedLine) (row : LocatedLine) (back : List LocatedLine)
    → AreFaultless names before (front ++ row ∷ back) → located_fault names (before ++ front) row ≡ None
faultless_there names before [] row back free = ap (λ (rs : List LocatedLine). located_fault names rs row) (append-nil before) ∙ free.0
faultless_there names before (first ∷ front) row back free =
    ap (λ (rs : List LocatedLine). located_fault names rs row) (sym (append_assoc before (first ∷ []) front))
    ∙ faultless_there names (before ++ first ∷ []) front row back free.1

one_late : (rows : List LocatedLine) (a b : SourceFault) (m n : ℕ) (is : HasLateFault rows a m) (also : HasLateFault rows b n)
    → IsSame is.front is.located also.front also.located ⊎ (IsLonger is.front is.located also.front ⊎ IsLonger also.front also.located is.front)
    → InLine a m ≡ InLine b n
one_late rows a b m n is also (inl same) =
    let found : located_fault (names_of rows) also.front also.located ≡ Some a =
    sym (ap₂ (λ (rs : List LocatedLine) (r : LocatedLine). located_fault (names_of rows) rs r) same.0 same.1) ∙ is.found in
    let number : m ≡ n = sym is.counted ∙ ap (λ (rs : List LocatedLine). length rs + 1) same.0 ∙ also.counted in
    ap₂ InLine (some_once (located_fault (names_of rows) also.front also.located) a b found also.found) number
one_late rows a b m n is also (inr (inl longer)) =
    absurd (never_found (located_fault (names_of rows) is.front is.located) a
    (faultless_there (names_of rows) [] is.front is.located longer.0 (subst (AreFaultless (names_of rows) []) longer.1 also.placed)) is.found)
one_late rows a b m n is also (inr (inr longer)) =
    absurd (never_found (located_fault (names_of rows) also.front also.located) b
    (faultless_there (names_of rows) [] also.front also.located longer.0 (subst (AreFaultless (names_of rows) []) longer.1 is.placed)) also.found)

-- ---- the laws
one_in_line : (source : List ℕ) (a b : SourceFault) (m n : ℕ) → IsEarlyFault source a m ⊎ IsLateFault source a m
    → IsEarlyFault source b n ⊎ IsLateFault source b n → InLine a m ≡ InLine b n
one_in_line source a b m n (inl is) (inl also) =
    one_early source a b m n is also (parted is.front is.text is.back also.front also.text also.back (sym is.texts ∙ also.texts))
one_in_line source a b m n (inl is) (inr also) = absurd (never_both source a b m n is also)
one_in_line source a b m n (inr is) (inl also) = absurd (never_both source b a n m also is)
one_in_line source a b m n (inr is) (inr also) =
    let rows : also.located_lines ≡ is.located_lines = one_lines [] (text_lines source) also.located_lines is.located_lines also.clean is.clean in
    let found : HasLateFault is.located_lines b n = subst (λ (rs : List LocatedLine). HasLateFault rs b n) rows also.found in
    one_late is.located_lines a b m n is.found found
    (parted is.found.front is.found.located is.found.back found.front found.located found.back (sym is.found.split ∙ found.split))

pub one_fault_is_first : OneFaultIsFirst
one_fault_is_first source Memory b one two is also = absurd (one refl)
one_fault_is_first source SourceTooLong Memory one two is also = absurd (two refl)
one_fault_is_first source SourceTooLong SourceTooLong one two is also = refl
one_fault_is_first source SourceTooLong (InLine fault number) one two is also = let short = also.0 in absurd (omega (arith, is, short))
one_fault_is_first source (InLine fault number) Memory one two is also = absurd (two refl)
one_fault_is_first source (InLine fault number) SourceTooLong one two is also = let short = is.0 in absurd (omega (arith, also, short))
one_fault_is_first source (InLine a m) (InLine b n) one two is also = one_in_line source a b m n is.1 also.1

taken : (front : List (List ℕ)) (text : List ℕ) (back : List (List ℕ)) (n : ℕ) → length front + 1 ≡ n → take n (front ++ text ∷ back) ≡ front ++ text ∷ []
taken [] text back zero is = absurd (omega (arith, is))
taken [] text back (suc zero) is = refl
taken [] text back (suc (suc n)) is = absurd (omega (arith, is))
taken (first ∷ front) text back zero is = absurd (omega (arith, is))
taken (first ∷ front) text back (suc n) is = ap (λ (ts : List (List ℕ)). first ∷ ts) (taken front text back n (omega (arith, is)))

pub later_lines_do_not_count : LaterLinesDoNotCount
later_lines_do_not_count s t fault number early same within =
    let front : take number (text_lines t) ≡ early.front ++ early.text ∷ [] =
    same ∙ ap (take number) early.texts ∙ taken early.front early.text early.back number early.counted in (
      within,
      inl (record {
        front = early.front;
        text = early.text;
        back = drop number (text_lines t);
        texts = sym (take-append-drop number (text_lines t)) ∙ ap (λ (ts : List (List ℕ)). ts ++ drop number (text_lines t)) front
            ∙ append_assoc early.front (early.text ∷ []) (drop number (text_lines t));
        counted = early.counted;
        located_lines = early.located_lines;
        clean = early.clean;
        found = early.found;
      }),
    )
