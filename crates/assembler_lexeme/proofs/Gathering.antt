-- Readers that put one thing after another into a list.
use Rattle.std.proofs.Common.{◌≡◌, List, [], ◌∷◌, ◌++◌, append_assoc, refl, sym, ap, ◌∙◌, Result, Ok, Err}
use Rattle.assembler_lexeme.specs.declared.fault.SyntaxFault.{SyntaxFault}
use Rattle.assembler_lexeme.specs.Faults.{◌>>=◌, all_of, with_front}

moved : {A : Type 0} (front : List A) (y : A) (read : Result (List A) SyntaxFault)
    → with_front (front ++ y ∷ []) read ≡ with_front front (read >>= λ ys. Ok (y ∷ ys))
moved front y (Ok ys) = ap Ok (append_assoc front (y ∷ []) ys)
moved front y (Err fault) = refl

pub one_after : {A B : Type 0} (f : A → Result B SyntaxFault) (front : List B) (x : A) (y : B) (xs : List A) → f x ≡ Ok y
    → with_front (front ++ y ∷ []) (all_of f xs) ≡ with_front front (all_of f (x ∷ xs))
one_after f front x y xs is = moved front y (all_of f xs) ∙ ap (λ r. with_front front (r >>= λ z. all_of f xs >>= λ zs. Ok (z ∷ zs))) (sym is)
