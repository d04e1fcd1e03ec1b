-- Text that grows piece by piece.
use Rattle.std.proofs.Common.{◌≡◌, ℕ, zero, suc, ◌<◌, ◌≤◌, length, take, get_or, Some, None, ◌+◌}
use Rattle.std.proofs.Common.{List, [], ◌∷◌, ◌++◌, map, sym, ap, ◌∙◌, refl, append_assoc, arith}
use Rattle.std.specs.List.{flat_map, range_with_len, slice_get}
use Rattle.std.proofs.lemmas.List.{map-id, take_more}
use Rattle.std.proofs.Math.Seq.{take-length}
use Rattle.std.proofs.lemmas.Option.{slice_get_within, slice_get-get_or}
use Rattle.std.proofs.lemmas.List.Concat.{flat_map-cons}
use Rattle.std.proofs.lemmas.List.FromFn.{map-range_with_len_more}
use Rattle.std.proofs.lemmas.Grind.{flat_map-append}

from_zero : (n : ℕ) → 0 + n ≡ n
from_zero n = omega arith

range_more : (n : ℕ) → range_with_len 0 (n + 1) ≡ range_with_len 0 n ++ n ∷ []
range_more n =
    sym (map-id (range_with_len 0 (n + 1)))
    ∙ map-range_with_len_more (λ (x : ℕ). x) 0 n n (from_zero n)
    ∙ ap (λ (r : List ℕ). r ++ n ∷ []) (map-id (range_with_len 0 n))

nothing_after : (xs : List ℕ) → xs ++ [] ≡ xs
nothing_after [] = refl
nothing_after (x ∷ xs) = ap (λ (r : List ℕ). x ∷ r) (nothing_after xs)

one_more : {X : Type 0} (f : X → List ℕ) (xs : List X) (x : X) → flat_map f (xs ++ x ∷ []) ≡ flat_map f xs ++ f x
one_more f xs x = flat_map-append f xs (x ∷ []) ∙ ap (λ (r : List ℕ). flat_map f xs ++ r) (flat_map-cons f x [] ∙ nothing_after (f x))

-- one more line
pub line_more : (f : ℕ → List ℕ) (n : ℕ) → flat_map f (range_with_len 0 (n + 1)) ≡ flat_map f (range_with_len 0 n) ++ f n
line_more f n = ap (flat_map f) (range_more n) ∙ one_more f (range_with_len 0 n) n

-- one more byte
pub byte_more : (f : ℕ → List ℕ) (g : ℕ → ℕ) (n : ℕ) → flat_map f (map g (range_with_len 0 (n + 1))) ≡ flat_map f (map g (range_with_len 0 n)) ++ f (g n)
byte_more f g n = ap (flat_map f) (map-range_with_len_more g 0 n n (from_zero n)) ∙ one_more f (map g (range_with_len 0 n)) (g n)

-- a piece is added after what is there
pub pushed : (text old start front shown piece : List ℕ) → text ≡ old ++ shown → old ≡ start ++ front → shown ≡ piece → text ≡ start ++ (front ++ piece)
pushed text old start front shown piece is was same = cc (append_assoc start front piece)

pub pushed_first : (text old front shown piece : List ℕ) → text ≡ old ++ shown → old ≡ front → shown ≡ piece → text ≡ front ++ piece
pushed_first text old front shown piece is was same = cc

some_same : {X : Type 0} (x y : X) → Some x ≡ Some y → x ≡ y
some_same x y is = cc

-- one more element
pub entry_more : {X : Type 0} (f : X → List ℕ) (xs : List X) (i : ℕ) (x : X) → slice_get xs i ≡ Some x
    → flat_map f (take (i + 1) xs) ≡ flat_map f (take i xs) ++ f x
entry_more f xs i x is =
    let within : i < length xs = slice_get_within xs i x is in
    let same : get_or xs i x ≡ x = some_same (get_or xs i x) x (sym (slice_get-get_or xs i x within) ∙ is) in
    ap (flat_map f) (take_more xs i x within) ∙ one_more f (take i xs) (get_or xs i x) ∙ ap (λ (e : _). flat_map f (take i xs) ++ f e) same

none_past : {X : Type 0} (xs : List X) (i : ℕ) → slice_get xs i ≡ None → length xs ≤ i
none_past [] i is = omega arith
none_past (x ∷ xs) zero is = cc
none_past (x ∷ xs) (suc i) is = let rest : length xs ≤ i = none_past xs i is in omega arith

-- all elements, if none follows these
pub entries_all : {X : Type 0} (f : X → List ℕ) (xs : List X) (i : ℕ) → i ≤ length xs → slice_get xs i ≡ None → flat_map f (take i xs) ≡ flat_map f xs
entries_all f xs i within is =
    let past : length xs ≤ i = none_past xs i is in
    let end : i ≡ length xs = omega arith in
    rw end (ap (flat_map f) (take-length xs))
