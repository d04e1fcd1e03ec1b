-- A source that gives an image has no fault.
use Rattle.std.proofs.Common.{◌≡◌, ℕ, List, [], ◌∷◌, ◌++◌, refl, subst, arith, Option, None, Some, Ok, Err, inl, inr}
use Rattle.assembler_lexeme.specs.declared.fault.SyntaxFault.{SyntaxFault}
use Rattle.assembler_syntax.specs.declared.statement.Line.{Line}
use Rattle.board_types.specs.TextLines.{text_lines}
use Rattle.assembler_syntax.specs.Lines.{read_line}
use Rattle.assembler.specs.declared.fault.SourceFault.{SourceFault}
use Rattle.assembler.specs.declared.fault.AsmFault.{AsmFault}
use Rattle.assembler.specs.declared.fault.AsmFault.TheVariants.{SourceTooLong, InLine, Memory}
use Rattle.assembler.specs.LocatedLines.{LocatedLine, AreLocatedLines, IsCleanLine, early_fault, names_of, location_following}
use Rattle.assembler.specs.FirstFault.{IsFirst, IsEarlyFault, IsTextFault, HasLateFault}
use Rattle.assembler.specs.Gives.{Gives, ArePlaced}
use Rattle.assembler.proofs.AnsweringLines.{one_located, one_lines, lines_up_to, LinesUpTo}
use Rattle.assembler.specs.Placement.{located_fault}
use Rattle.assembler.proofs.AnsweringPlaces.{no_located_fault}

not_read : (text : List ℕ) (line : Line) (found : SyntaxFault) → read_line text ≡ Ok line → read_line text ≡ Err found → ⊥
not_read text line found is also = cc

not_found : (o : Option SourceFault) (fault : SourceFault) → o ≡ None → o ≡ Some fault → ⊥
not_found o fault none some = cc

-- a text that makes a clean row has no fault
no_text_fault : (before : List LocatedLine) (text : List ℕ) (located : LocatedLine) (fault : SourceFault)
    → IsCleanLine before text located → IsTextFault (names_of before) (location_following before) text fault → ⊥
no_text_fault before text located fault clean (inl read) = not_read text located.line read.0 clean.is_located_line.reads read.1
no_text_fault before text located fault clean (inr found) =
    let same : located ≡ found.0 = one_located (names_of before) (location_following before) text located found.0 clean.is_located_line found.1 in
    not_found (early_fault (names_of before) found.0.location found.0.line found.0.form) fault
    (subst (λ (r : LocatedLine). early_fault (names_of before) r.location r.line r.form ≡ None) same clean.clean) found.2

-- texts that make clean rows have no fault of reading
no_early_fault : (source : List ℕ) (located_lines : List LocatedLine) (fault : SourceFault) (number : ℕ)
    → AreLocatedLines [] (text_lines source) located_lines → IsEarlyFault source fault number → ⊥
no_early_fault source located_lines fault number are early =
    let own : LinesUpTo [] early.front early.text =
    lines_up_to [] early.front early.text early.back located_lines
    (subst (λ (texts : List (List ℕ)). AreLocatedLines [] texts located_lines) early.texts are) in
    let same : own.located_lines ≡ early.located_lines = one_lines [] early.front own.located_lines early.located_lines own.clean early.clean in
    no_text_fault early.located_lines early.text own.located fault
    (subst (λ (rs : List LocatedLine). IsCleanLine rs early.text own.located) same own.is_located_line) early.found

-- rows that place an image have no fault of placing
no_late_fault : (texts : List (List ℕ)) (located_lines : List LocatedLine) (image : List (ℕ × ℕ)) (fault : SourceFault) (number : ℕ)
    → AreLocatedLines [] texts located_lines → ArePlaced located_lines image → HasLateFault located_lines fault number → ⊥
no_late_fault texts located_lines image fault number are placed late =
    let split : List LocatedLine = late.front ++ late.located ∷ late.back in
    let none : located_fault (names_of split) late.front late.located ≡ None =
    no_located_fault texts late.front late.located late.back image (subst (AreLocatedLines [] texts) late.split are)
    (subst (λ (rs : List LocatedLine). ArePlaced rs image) late.split placed) in
    not_found (located_fault (names_of split) late.front late.located) fault none
    (subst (λ (rs : List LocatedLine). located_fault (names_of rs) late.front late.located ≡ Some fault) late.split late.found)

pub only_memory : (source : List ℕ) (image : List (ℕ × ℕ)) (fault : AsmFault) → Gives source image → IsFirst source fault → fault ≡ Memory
only_memory source image Memory gives first = refl
only_memory source image SourceTooLong gives first = let within = gives.within in absurd (omega (arith, within, first))
only_memory source image (InLine fault number) gives (within, inl early) =
    absurd (no_early_fault source gives.located_lines fault number gives.are_located_lines early)
only_memory source image (InLine fault number) gives (within, inr late) =
    let same : late.located_lines ≡ gives.located_lines =
    one_lines [] (text_lines source) late.located_lines gives.located_lines late.clean gives.are_located_lines in
    absurd (no_late_fault (text_lines source) gives.located_lines image fault number gives.are_located_lines gives.placed
    (subst (λ (rs : List LocatedLine). HasLateFault rs fault number) same late.found))
