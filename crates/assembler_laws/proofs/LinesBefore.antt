-- The lines before that of the first fault.
use Rattle.std.proofs.Common.{◌≡◌, ◌∙◌, ℕ, suc, ◌+◌, ◌<◌, ◌≤◌, List, [], ◌∷◌, ◌++◌, length, refl}
use Rattle.std.proofs.Common.{sym, ap, subst, arith, inl, inr, true, false, append_assoc, append-nil}
use Rattle.std.specs.Prelude.{◌⊎◌}
use Rattle.std.proofs.lemmas.List.{length-append}
use Rattle.board_types.specs.TextLines.{text_lines}
use Rattle.assembler.specs.declared.fault.SourceFault.{SourceFault}
use Rattle.assembler.specs.FirstFault.{IsEarlyFault, IsLateFault}
use Rattle.assembler.specs.LocatedLines.{LocatedLine, AreLocatedLines, IsCleanLine}
use Rattle.assembler.proofs.AnsweringLines.{lines_up_to, LinesUpTo}
use Rattle.assembler_laws.specs.FirstFaults.{IsFirstLine, LinesBeforeAreClean}
use Rattle.assembler_laws.proofs.FaultOrder.{faults_come_in_passes}
use Rattle.assembler_laws.proofs.Uniqueness.{parted, IsLonger, IsSame}

are_push : (before : List LocatedLine) (texts : List (List ℕ)) (rows : List LocatedLine) (text : List ℕ) (row : LocatedLine)
    → AreLocatedLines before texts rows → IsCleanLine (before ++ rows) text row → AreLocatedLines before (texts ++ text ∷ []) (rows ++ row ∷ [])
are_push before [] [] text row are is = (subst (λ (rs : List LocatedLine). IsCleanLine rs text row) (append-nil before) is, tt)
are_push before [] (r ∷ rows) text row are is = absurd are
are_push before (t ∷ texts) [] text row are is = absurd are
are_push before (t ∷ texts) (r ∷ rows) text row are is = (
  are.0,
  are_push (before ++ r ∷ []) texts rows text row are.1
      (subst (λ (rs : List LocatedLine). IsCleanLine rs text row) (sym (append_assoc before (r ∷ []) rows)) is),
)

rows_count : (before : List LocatedLine) (texts : List (List ℕ)) (rows : List LocatedLine) → AreLocatedLines before texts rows → length rows ≡ length texts
rows_count before [] [] are = refl
rows_count before [] (row ∷ rows) are = absurd are
rows_count before (text ∷ texts) [] are = absurd are
rows_count before (text ∷ texts) (row ∷ rows) are = ap suc (rows_count (before ++ row ∷ []) texts rows are.1)

clean_to : (texts : List (List ℕ)) (rows : List LocatedLine) (front : List (List ℕ)) (text : List ℕ) (back : List (List ℕ))
    → texts ≡ front ++ text ∷ back → AreLocatedLines [] texts rows → (rs : List LocatedLine) × AreLocatedLines [] (front ++ text ∷ []) rs
clean_to texts rows front text back split are =
    let own : LinesUpTo [] front text = lines_up_to [] front text back rows (subst (λ (ts : List (List ℕ)). AreLocatedLines [] ts rows) split are) in
    (own.located_lines ++ own.located ∷ [], are_push [] front own.located_lines text own.located own.clean own.is_located_line)

longer : {X : Type 0} (f : List X) (x : X) (g : List X) → IsLonger f x g → length f < length g
longer f x g is = let long : length g ≡ length f + suc (length is.0) = ap length is.1 ∙ length-append f (x ∷ is.0) in omega (arith, long)

split_count : {X : Type 0} (xs front : List X) (x : X) (back : List X) (n : ℕ) → xs ≡ front ++ x ∷ back → length front + 1 ≡ n → (0 < n) × (n ≤ length xs)
split_count xs front x back n split counted =
    let long : length xs ≡ length front + suc (length back) = ap length split ∙ length-append front (x ∷ back) in
    (omega (arith, counted), omega (arith, counted, long))

clean_before : (source : List ℕ) (fault : SourceFault) (number : ℕ) (early : IsEarlyFault source fault number) (front : List (List ℕ)) (text : List ℕ)
    → length front + 1 < number → IsSame front text early.front early.text ⊎ (IsLonger front text early.front ⊎ IsLonger early.front early.text front)
    → (rows : List LocatedLine) × AreLocatedLines [] (front ++ text ∷ []) rows
clean_before source fault number early front text below (inl same) =
    let at : length front ≡ length early.front = ap length same.0 in
    let counted : length early.front + 1 ≡ number = early.counted in
    absurd (omega (arith, below, at, counted))
clean_before source fault number early front text below (inr (inl is)) = clean_to early.front early.located_lines front text is.0 is.1 early.clean
clean_before source fault number early front text below (inr (inr is)) =
    let at : length early.front < length front = longer early.front early.text front is in
    let counted : length early.front + 1 ≡ number = early.counted in
    absurd (omega (arith, below, at, counted))

first_line : (source : List ℕ) (fault : SourceFault) (number : ℕ)
    → IsEarlyFault source fault number ⊎ IsLateFault source fault number → IsFirstLine source fault number
first_line source fault number (inl early) = record {
  counted = split_count (text_lines source) early.front early.text early.back number early.texts early.counted;
  before = λ front text back split below.
      clean_before source fault number early front text below (parted front text back early.front early.text early.back (sym split ∙ early.texts));
  all = λ late. absurd (let never : true ≡ false = sym ((faults_come_in_passes source).early fault number early) ∙ late in cc);
}
first_line source fault number (inr late) =
    let long : length late.located_lines ≡ length (text_lines source) = rows_count [] (text_lines source) late.located_lines late.clean in
    let at = split_count late.located_lines late.found.front late.found.located late.found.back number late.found.split late.found.counted in
    record {
      counted = (at.0, subst (λ (n : ℕ). number ≤ n) long at.1);
      before = λ front text back split below. clean_to (text_lines source) late.located_lines front text back split late.clean;
      all = λ is. (late.located_lines, late.clean);
    }

pub lines_before_are_clean : LinesBeforeAreClean
lines_before_are_clean source fault number first = first_line source fault number first.1
