-- The bytes of an image, address by address: what a byte that is put changes, and that they determine the image.
use Rattle.std.proofs.Common.{◌≡◌, ◌∙◌, ℕ, ◌<◌, ◌≤◌, ◌==◌, List, [], ◌∷◌, refl, sym, ap, ap₂, inl, inr}
use Rattle.std.proofs.Common.{arith, Bool, true, false, Option, None, Some, nat_lt, if◌then◌else◌}
use Rattle.std.specs.Ordering.{nat_cmp, is_eq}
use Rattle.std.specs.BTreeMap.{insert_entry}
use Rattle.std.specs.List.{AllByRecursion}
use Rattle.std.specs.List.Sorted.{IsStrictlySortedBy}
use Rattle.std.specs.Map.{keys_of}
use Rattle.std.specs.declared.cmp.Ordering.TheVariants.{Less, Equal, Greater}
use Rattle.std.proofs.lemmas.Bool.{cases_lt, eqb-true, eq-eqb as eq_yes, le-ltb as lt_not, lt-ltb as lt_yes}
use Rattle.std.proofs.lemmas.Bool.Decides.{nat_tests}
use Rattle.board_types.specs.Image.{image_byte}

pub eq_not : (a b : ℕ) → b < a → (a == b) ≡ false
eq_not a b h = grind (arith, nat_tests)

above_not : (a b : ℕ) → a < b → (a == b) ≡ false
above_not a b h = grind (arith, nat_tests)

at_is : (a k : ℕ) → is_eq (nat_cmp a k) ≡ (k == a)
at_is a k = elim (cases_lt a k) [
  | inl below ↦ rw (lt_yes a k below, eq_not k a below) refl
  | inr not_below ↦ elim (cases_lt k a) [
    | inl above ↦ rw (lt_not a k not_below, eq_not a k above, above_not k a above) refl
    | inr not_above ↦ rw (lt_not a k not_below, eq_yes a k (omega arith), eq_yes k a (omega arith)) refl
  ]
]

pub first_byte : (a : ℕ) (e : ℕ × ℕ) (es : List (ℕ × ℕ)) → image_byte (e ∷ es) a ≡ (if e.0 == a then Some e.1 else image_byte es a)
first_byte a e es = ap (λ t. if t then Some e.1 else image_byte es a) (at_is a e.0)

swapped : (t u : Bool) (x y z : Option ℕ) → (t ≡ true → u ≡ true → ⊥) → (if t then x else (if u then y else z)) ≡ (if u then y else (if t then x else z))
swapped true true x y z never = absurd (never refl refl)
swapped true false x y z never = refl
swapped false true x y z never = refl
swapped false false x y z never = refl

twice : (t : Bool) (x y z : Option ℕ) → (if t then x else z) ≡ (if t then x else (if t then y else z))
twice true x y z = refl
twice false x y z = refl

-- the byte that is put stands at its address, and all others stay
pub byte_put : (k v a : ℕ) (es : List (ℕ × ℕ)) → image_byte (insert_entry nat_cmp es k v) a ≡ (if k == a then Some v else image_byte es a)
byte_put k v a [] = first_byte a (k, v) []
byte_put k v a (e ∷ es) = elim (cases_lt k e.0) [
  | inl below ↦ rw (lt_yes k e.0 below) (first_byte a (k, v) (e ∷ es))
  | inr not_below ↦ elim (cases_lt e.0 k) [
    | inl above ↦
        let tail : image_byte (e ∷ insert_entry nat_cmp es k v) a ≡ (if k == a then Some v else image_byte (e ∷ es) a) =
        first_byte a e (insert_entry nat_cmp es k v) ∙ ap (λ r. if e.0 == a then Some e.1 else r) (byte_put k v a es)
        ∙ swapped (e.0 == a) (k == a) (Some e.1) (Some v) (image_byte es a)
        (λ one two. let first = eqb-true e.0 a one in let second = eqb-true k a two in omega (arith, first, second))
        ∙ ap (λ r. if k == a then Some v else r) (sym (first_byte a e es)) in
        rw (lt_not k e.0 not_below, eq_not k e.0 above) tail
    | inr not_above ↦
        let same : e.0 ≡ k = omega arith in
        let tail : image_byte ((e.0, v) ∷ es) a ≡ (if k == a then Some v else image_byte (e ∷ es) a) =
        first_byte a (e.0, v) es ∙ twice (e.0 == a) (Some v) (Some e.1) (image_byte es a)
        ∙ ap (λ r. if e.0 == a then Some v else r) (sym (first_byte a e es))
        ∙ ap (λ x. if x == a then Some v else image_byte (e ∷ es) a) same in
        rw (lt_not k e.0 not_below, eq_yes k e.0 (sym same)) tail
  ]
]

pub less_is : (a b : ℕ) → nat_cmp a b ≡ Less → a < b
less_is a b is = elim (cases_lt a b) [
  | inl below ↦ below
  | inr not_below ↦ absurd (never (a == b) (rw (lt_not a b not_below) at is))
]
  where
    never : (same : Bool) → (if same then Equal else Greater) ≡ Less → ⊥
    never true is = cc
    never false is = cc

is_less : (a b : ℕ) → a < b → nat_cmp a b ≡ Less
is_less a b h = rw (lt_yes a b h) refl

abbrev AllAbove : ℕ → List (ℕ × ℕ) → Type 0
AllAbove k es = AllByRecursion (λ y. nat_cmp k y ≡ Less) (keys_of es)

above_put : (k l v : ℕ) (es : List (ℕ × ℕ)) → k < l → AllAbove k es → AllAbove k (insert_entry nat_cmp es l v)
above_put k l v [] h above = (is_less k l h, tt)
above_put k l v (e ∷ es) h above = elim (cases_lt l e.0) [
  | inl below ↦ rw (lt_yes l e.0 below) (is_less k l h, above)
  | inr not_below ↦ elim (cases_lt e.0 l) [
    | inl over ↦ rw (lt_not l e.0 not_below, eq_not l e.0 over) (above.0, above_put k l v es h above.1)
    | inr not_over ↦ rw (lt_not l e.0 not_below, eq_yes l e.0 (omega arith)) above
  ]
]

all_higher : (k l : ℕ) (es : List (ℕ × ℕ)) → k < l → AllAbove l es → AllAbove k es
all_higher k l [] h above = tt
all_higher k l (e ∷ es) h above =
    let over : l < e.0 = less_is l e.0 above.0 in
    (is_less k e.0 (omega arith), all_higher k l es h above.1)

-- a byte that is put leaves the addresses rising
pub sorted_put : (l v : ℕ) (es : List (ℕ × ℕ)) → IsStrictlySortedBy nat_cmp (keys_of es) → IsStrictlySortedBy nat_cmp (keys_of (insert_entry nat_cmp es l v))
unfolding IsStrictlySortedBy
sorted_put l v [] s = (tt, tt)
sorted_put l v (e ∷ es) s = elim (cases_lt l e.0) [
  | inl below ↦ rw (lt_yes l e.0 below) ((is_less l e.0 below, all_higher l e.0 es below s.0), s)
  | inr not_below ↦ elim (cases_lt e.0 l) [
    | inl over ↦ rw (lt_not l e.0 not_below, eq_not l e.0 over) (above_put e.0 l v es over s.0, sorted_put l v es s.1)
    | inr not_over ↦ rw (lt_not l e.0 not_below, eq_yes l e.0 (omega arith)) s
  ]
]

head_byte : (e : ℕ × ℕ) (es : List (ℕ × ℕ)) → image_byte (e ∷ es) e.0 ≡ Some e.1
head_byte e es = first_byte e.0 e es ∙ ap (λ t. if t then Some e.1 else image_byte es e.0) (eq_yes e.0 e.0 refl)

later_byte : (a : ℕ) (e : ℕ × ℕ) (es : List (ℕ × ℕ)) → e.0 < a → image_byte (e ∷ es) a ≡ image_byte es a
later_byte a e es h = first_byte a e es ∙ ap (λ t. if t then Some e.1 else image_byte es a) (above_not e.0 a h)

early_byte : (a : ℕ) (e : ℕ × ℕ) (es : List (ℕ × ℕ)) → a < e.0 → image_byte (e ∷ es) a ≡ image_byte es a
early_byte a e es h = first_byte a e es ∙ ap (λ t. if t then Some e.1 else image_byte es a) (eq_not e.0 a h)

-- below the first of rising addresses there is no byte
pub none_below : (a k : ℕ) (es : List (ℕ × ℕ)) → AllAbove k es → a ≤ k → image_byte es a ≡ None
none_below a k [] above low = refl
none_below a k (e ∷ es) above low =
    let over : k < e.0 = less_is k e.0 above.0 in
    early_byte a e es (omega arith) ∙ none_below a k es above.1 low

-- an entry before another, of which nothing comes first
none_before : (a : ℕ) (e : ℕ × ℕ) (es : List (ℕ × ℕ)) → AllAbove e.0 es → a < e.0 → image_byte (e ∷ es) a ≡ None
none_before a e es above h = early_byte a e es h ∙ none_below a e.0 es above (omega arith)

not_both : (byte : ℕ) (x : Option ℕ) → x ≡ None → x ≡ Some byte → ⊥
not_both byte x none some = cc

some_same : (x y : ℕ) → Some x ≡ Some y → x ≡ y
some_same x y is = cc

-- images that have the same byte at each address are the same
pub same_bytes : (es fs : List (ℕ × ℕ)) → IsStrictlySortedBy nat_cmp (keys_of es) → IsStrictlySortedBy nat_cmp (keys_of fs)
    → ((a : ℕ) → image_byte es a ≡ image_byte fs a) → es ≡ fs
unfolding IsStrictlySortedBy
same_bytes [] [] s t same = refl
same_bytes [] (f ∷ fs) s t same = absurd (not_both f.1 _ (sym (same f.0)) (head_byte f fs))
same_bytes (e ∷ es) [] s t same = absurd (not_both e.1 _ (same e.0) (head_byte e es))
same_bytes (e ∷ es) (f ∷ fs) s t same = elim (cases_lt e.0 f.0) [
  | inl below ↦ absurd (not_both e.1 _ (same e.0 ∙ none_before e.0 f fs t.0 below) (head_byte e es))
  | inr not_below ↦ elim (cases_lt f.0 e.0) [
    | inl above ↦ absurd (not_both f.1 _ (sym (same f.0) ∙ none_before f.0 e es s.0 above) (head_byte f fs))
    | inr not_above ↦
        let at : e.0 ≡ f.0 = omega arith in
        let byte : e.1 ≡ f.1 = some_same e.1 f.1 (sym (head_byte e es) ∙ same e.0 ∙ ap (image_byte (f ∷ fs)) at ∙ head_byte f fs) in
        let rest : es ≡ fs = same_bytes es fs s.1 t.1 (λ a. elim (cases_lt e.0 a) [
          | inl over ↦ sym (later_byte a e es over) ∙ same a ∙ later_byte a f fs (omega arith)
          | inr not_over ↦ none_below a e.0 es s.0 (omega arith) ∙ sym (none_below a f.0 fs t.0 (omega arith))
        ]) in
        let head : e ≡ f = λ i. (at i, byte i) in
        ap₂ (λ (x : ℕ × ℕ) (xs : List (ℕ × ℕ)). x ∷ xs) head rest
  ]
]
