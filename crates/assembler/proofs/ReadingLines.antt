-- One more row after those that are read.
use Rattle.std.proofs.Common.{◌≡◌, ℕ, refl, sym, ap, ◌∙◌, subst, List, [], ◌∷◌, ◌++◌, Option, None, fold, append_assoc}
use Rattle.std.specs.List.{AllByRecursion}
use Rattle.assembler.specs.declared.kept_line.KeptLine.{KeptLine}
use Rattle.assembler_meaning.specs.declared.symbol.Location.{Location}
use Rattle.assembler_meaning.specs.Values.{Names}
use Rattle.assembler.specs.LocatedLines.{LocatedLine, AreLocatedLines, IsCleanLine, names_of, location_following}
use Rattle.assembler.specs.KeptLines.{AreKept, Keeps}

pub no_more : {A : Type 0} (xs : List A) → xs ++ [] ≡ xs
no_more [] = refl
no_more {A} (x ∷ xs) = ap (λ (r : List A). x ∷ r) (no_more xs)

fold_push : {A B : Type 0} (f : B → A → B) (b : B) (xs : List A) (x : A) → fold f b (xs ++ x ∷ []) ≡ f (fold f b xs) x
fold_push f b [] x = refl
fold_push f b (y ∷ ys) x = fold_push f (f b y) ys x

pub location_push : (located_lines : List LocatedLine) (located : LocatedLine) → location_following (located_lines ++ located ∷ []) ≡ located.next
location_push located_lines located = fold_push (λ (location : Option Location) (r : LocatedLine). r.next) None located_lines located

pub names_push : (located_lines : List LocatedLine) (located : LocatedLine) → names_of (located_lines ++ located ∷ []) ≡ names_of located_lines ++ located.names
names_push [] located = no_more located.names
names_push (r ∷ located_lines) located =
    ap (λ (ns : Names). r.names ++ ns) (names_push located_lines located) ∙ sym (append_assoc r.names (names_of located_lines) located.names)

pub lines_push : (before : List LocatedLine) (texts : List (List ℕ)) (located_lines : List LocatedLine) (text : List ℕ) (located : LocatedLine)
    → AreLocatedLines before texts located_lines → IsCleanLine (before ++ located_lines) text located
    → AreLocatedLines before (texts ++ text ∷ []) (located_lines ++ located ∷ [])
lines_push before [] [] text located are last = (subst (λ (b : List LocatedLine). IsCleanLine b text located) (no_more before) last, tt)
lines_push before [] (r ∷ located_lines) text located are last = absurd are
lines_push before (t ∷ texts) [] text located are last = absurd are
lines_push before (t ∷ texts) (r ∷ located_lines) text located are last = (
  are.0,
  lines_push (before ++ r ∷ []) texts located_lines text located are.1
      (subst (λ (b : List LocatedLine). IsCleanLine b text located) (sym (append_assoc before (r ∷ []) located_lines)) last),
)

pub kept_push : (source : List ℕ) (texts : List (List ℕ)) (kept : List KeptLine)
    (located_lines : List LocatedLine) (text : List ℕ) (last : KeptLine) (located : LocatedLine)
    → AreKept source texts kept located_lines → Keeps source text last located
    → AreKept source (texts ++ text ∷ []) (kept ++ last ∷ []) (located_lines ++ located ∷ [])
kept_push source [] [] [] text last located are keeps = (keeps, tt)
kept_push source [] [] (r ∷ located_lines) text last located are keeps = absurd are
kept_push source [] (k ∷ kept) [] text last located are keeps = absurd are
kept_push source [] (k ∷ kept) (r ∷ located_lines) text last located are keeps = absurd are
kept_push source (t ∷ texts) [] [] text last located are keeps = absurd are
kept_push source (t ∷ texts) [] (r ∷ located_lines) text last located are keeps = absurd are
kept_push source (t ∷ texts) (k ∷ kept) [] text last located are keeps = absurd are
kept_push source (t ∷ texts) (k ∷ kept) (r ∷ located_lines) text last located are keeps =
    (are.0, kept_push source texts kept located_lines text last located are.1 keeps)

pub all_push : {A : Type 0} (P : A → Type 0) (xs : List A) (x : A) → AllByRecursion P xs → P x → AllByRecursion P (xs ++ x ∷ [])
all_push P [] x all last = (last, tt)
all_push P (y ∷ ys) x all last = (all.0, all_push P ys x all.1 last)
