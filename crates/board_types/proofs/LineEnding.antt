-- A text is its first line, what ends that line, and what follows.
use Rattle.std.proofs.Common.{◌≡◌, ℕ, ◌-◌, ◌≤◌, List, [], ◌∷◌, ◌++◌, length, take, drop, refl}
use Rattle.std.proofs.Common.{sym, ap, ◌∙◌, arith, Bool, true, false, if◌then◌else◌, append_assoc}
use Rattle.std.specs.Prelude.{◌==◌, slice_index}
use Rattle.std.specs.Str.Lines.{strip_carriage_return}
use Rattle.std.proofs.lemmas.List.{take-append-drop}
use Rattle.board_types.proofs.LineScanning.{take_all}

no_more : (xs : List ℕ) → xs ++ [] ≡ xs
no_more [] = refl
no_more (x ∷ xs) = ap (λ (r : List ℕ). x ∷ r) (no_more xs)

strip_by : (test : Bool) (n : ℕ) (l : List ℕ) → (ending : List ℕ) × (l ≡ (if test then take n l else l) ++ ending)
strip_by true n l = (drop n l, sym (take-append-drop n l))
strip_by false n l = ([], sym (no_more l))

strip_parts : (l : List ℕ) → (ending : List ℕ) × (l ≡ strip_carriage_return l ++ ending)
strip_parts l = strip_by (slice_index l (length l - 1) == 13) (length l - 1) l

-- no line feed ends the last line
pub last_parts : (s : List ℕ) (n : ℕ) (back : List ℕ) → back ≡ drop n s → (ending : List ℕ) × (s ≡ take n s ++ (ending ++ back))
last_parts s n back is = ([], rw is (sym (take-append-drop n s)))

joined : (s front line ending back rest : List ℕ) (c : ℕ) → front ++ back ≡ s → back ≡ c ∷ rest → front ≡ line ++ ending
    → s ≡ line ++ ((ending ++ c ∷ []) ++ rest)
joined s front line ending back rest c whole is parts =
    sym whole ∙ ap (λ (b : List ℕ). front ++ b) is ∙ ap (λ (f : List ℕ). f ++ c ∷ rest) parts
    ∙ append_assoc line ending (c ∷ rest) ∙ ap (λ (b : List ℕ). line ++ b) (sym (append_assoc ending (c ∷ []) rest))

pub ended_parts : (s : List ℕ) (n : ℕ) (back : List ℕ) → back ≡ drop n s → 1 ≤ length back
    → (ending : List ℕ) × (s ≡ strip_carriage_return (take n s) ++ (ending ++ take (length back - 1) (drop 1 back)))
ended_parts s n [] is some = absurd (omega arith)
ended_parts s n (c ∷ cs) is some =
    let line = strip_parts (take n s) in (
      line.0 ++ c ∷ [],
      rw (take_all cs) (joined s (take n s) (strip_carriage_return (take n s)) line.0
          (c ∷ cs) cs c (ap (λ (b : List ℕ). take n s ++ b) is ∙ take-append-drop n s) refl line.1),
    )
