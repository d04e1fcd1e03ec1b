-- The addresses of a line.
use Rattle.std.proofs.Common.{zero, suc, ◌≡◌, ◌∙◌, ℕ, ◌+◌, ◌*◌, ◌%◌, ◌<◌, ◌≤◌, ◌==◌, ◌||◌, List}
use Rattle.std.proofs.Common.{[], ◌∷◌, ◌++◌, length, refl, ap, inl, inr, arith, Bool, true, false}
use Rattle.std.specs.Prelude.{IsTrue, ◌↔◌}
use Rattle.std.specs.List.{AllByRecursion, IsDistinct, list_all, list_any}
use Rattle.std.specs.Map.{keys_of}
use Rattle.std.proofs.lemmas.Bool.{and_parts, cases_lt, eqb-true, or_parts, or_right}
use Rattle.std.proofs.lemmas.Bool.Decides.{nat_tests}
use Rattle.std.proofs.lemmas.Map.Keys.{IsDistinct-cons, IsDistinct-head, IsDistinct-tail}
use Rattle.board_types.specs.Image.{IsLoadable}
use Rattle.assembler_meaning.specs.declared.symbol.Location.{Location}
use Rattle.assembler.specs.Placement.{address_after, addresses_from, bytes_from, is_loadable, is_placed}

-- a test of each address
any_from : (test : ℕ → Bool) (location : Location) (n k : ℕ) → ((j : ℕ) → n ≤ j → j < n + k → test (address_after location j) ≡ false)
    → list_any test (addresses_from location n k) ≡ false
any_from test location n zero none = refl
any_from test location n (suc k) none =
    rw (none n (omega arith) (omega arith)) (any_from test location (n + 1) k (λ j low high. none j (omega arith) (omega arith)))

pub any_none : (test : ℕ → Bool) (location : Location) (size : ℕ) → ((j : ℕ) → j < size → test (address_after location j) ≡ false)
    → list_any test (addresses_from location 0 size) ≡ false
any_none test location size none = any_from test location 0 size (λ j low high. none j (omega arith))

any_there : (test : ℕ → Bool) (location : Location) (n k j : ℕ) → n ≤ j → j < n + k → test (address_after location j) ≡ true
    → list_any test (addresses_from location n k) ≡ true
any_there test location n zero j low high there = absurd (omega arith)
any_there test location n (suc k) j low high there = elim (cases_lt n j) [
  | inl above ↦ or_right (test (address_after location n)) (list_any test (addresses_from location (n + 1) k))
      (any_there test location (n + 1) k j (omega arith) (omega arith) there)
  | inr not_above ↦ let same : j ≡ n = omega arith in rw (rw same at there) refl
]

pub any_at : (test : ℕ → Bool) (location : Location) (size j : ℕ) → j < size → test (address_after location j) ≡ true
    → list_any test (addresses_from location 0 size) ≡ true
any_at test location size j within there = any_there test location 0 size j (omega arith) (omega arith) there

all_from : (test : ℕ → Bool) (location : Location) (n k : ℕ) → ((j : ℕ) → n ≤ j → j < n + k → test (address_after location j) ≡ true)
    → list_all test (addresses_from location n k) ≡ true
all_from test location n zero each = refl
all_from test location n (suc k) each =
    rw (each n (omega arith) (omega arith)) (all_from test location (n + 1) k (λ j low high. each j (omega arith) (omega arith)))

pub all_each : (test : ℕ → Bool) (location : Location) (size : ℕ) → ((j : ℕ) → j < size → test (address_after location j) ≡ true)
    → list_all test (addresses_from location 0 size) ≡ true
all_each test location size each = all_from test location 0 size (λ j low high. each j (omega arith))

all_there : (test : ℕ → Bool) (location : Location) (n k j : ℕ)
    → n ≤ j → j < n + k → list_all test (addresses_from location n k) ≡ true → test (address_after location j) ≡ true
all_there test location n zero j low high all = absurd (omega arith)
all_there test location n (suc k) j low high all = elim (cases_lt n j) [
  | inl above ↦
      all_there test location (n + 1) k j (omega arith) (omega arith)
      (and_parts (test (address_after location n)) (list_all test (addresses_from location (n + 1) k)) all).1
  | inr not_above ↦
      let same : j ≡ n = omega arith in rw same (and_parts (test (address_after location n)) (list_all test (addresses_from location (n + 1) k)) all).0
]

pub all_at : (test : ℕ → Bool) (location : Location) (size j : ℕ)
    → list_all test (addresses_from location 0 size) ≡ true → j < size → test (address_after location j) ≡ true
all_at test location size j all within = all_there test location 0 size j (omega arith) (omega arith) all

not_both : (b : Bool) → b ≡ true → b ≡ false → ⊥
not_both b holds fails = cc

not_all : (b : Bool) → (b ≡ true → ⊥) → b ≡ false
not_all true never = absurd (never refl)
not_all false never = refl

pub all_not : (test : ℕ → Bool) (location : Location) (size j : ℕ) → j < size → test (address_after location j) ≡ false
    → list_all test (addresses_from location 0 size) ≡ false
all_not test location size j within fails =
    not_all (list_all test (addresses_from location 0 size)) (λ all. not_both (test (address_after location j)) (all_at test location size j all within) fails)

-- the addresses that the board can be loaded at
pub can_load_at : (address : ℕ) → is_loadable address ≡ true → IsLoadable address
can_load_at address e = elim (cases_lt address 0xA0000) [
  | inl below ↦ inl below
  | inr not_below ↦ elim (cases_lt address 0xF0000) [
    | inl between ↦ absurd (not_both (is_loadable address) e (no_hole address not_below between))
    | inr high ↦ elim (cases_lt address 0x100000) [
      | inl within ↦ inr (high, within)
      | inr past ↦ absurd (not_both (is_loadable address) e (no_end address past))
    ]
  ]
]
  where
    no_hole : (a : ℕ) → 0xA0000 ≤ a → a < 0xF0000 → is_loadable a ≡ false
    no_hole a low high = grind (arith, nat_tests)

    no_end : (a : ℕ) → 0x100000 ≤ a → is_loadable a ≡ false
    no_end a past = grind (arith, nat_tests)

pub loads_at : (address : ℕ) → IsLoadable address → is_loadable address ≡ true
loads_at address (inl below) = grind (arith, nat_tests)
loads_at address (inr (low, high)) = grind (arith, nat_tests)

-- the addresses of bytes from a location on
pub keys_are : (location : Location) (n : ℕ) (bytes : List ℕ) → keys_of (bytes_from location n bytes) ≡ addresses_from location n (length bytes)
keys_are location n [] = refl
keys_are location n (b ∷ bs) = ap (λ (ks : List ℕ). address_after location n ∷ ks) (keys_are location (n + 1) bs)

-- the addresses of different offsets of a segment differ
wrapped : (a b : ℕ) → a < b → b < a + 1048576 → a % 1048576 ≡ b % 1048576 → ⊥
wrapped a b above near same = omega arith

pub differ : (location : Location) (n j : ℕ) → n < j → j < n + 65537 → (address_after location n == address_after location j) ≡ false
differ location n j above near =
    not_all (address_after location n == address_after location j)
    (λ same. wrapped (16 * location.segment + (location.offset + n)) (16 * location.segment + (location.offset + j)) (omega arith) (omega arith)
    (eqb-true (address_after location n) (address_after location j) same))

differ_from : (location : Location) (n m k : ℕ) → n < m → m + k ≤ n + 65536
    → AllByRecursion (λ y. (address_after location n == y) ≡ false) (addresses_from location m k)
differ_from location n m zero above near = tt
differ_from location n m (suc k) above near = (differ location n m above (omega arith), differ_from location n (m + 1) k (omega arith) (omega arith))

pub addresses_differ : (location : Location) (n k : ℕ) → k ≤ 65536 → IsDistinct (λ a b. a == b) (addresses_from location n k)
unfolding IsDistinct
addresses_differ location n zero few = tt
addresses_differ location n (suc k) few =
    IsDistinct-cons (λ a b. a == b) (address_after location n) (addresses_from location (n + 1) k)
    (differ_from location n (n + 1) k (omega arith) (omega arith)) (addresses_differ location (n + 1) k (omega arith))

-- lists of distinct addresses that have none in common
all_append : {X : Type 0} (P : X → Type 0) (xs ys : List X) → AllByRecursion P xs → AllByRecursion P ys → AllByRecursion P (xs ++ ys)
all_append P [] ys all more = more
all_append P (x ∷ xs) ys all more = (all.0, all_append P xs ys all.1 more)

none_first : (x : ℕ) (taken : ℕ → Bool) (ys : List ℕ) → list_any (λ y. (x == y) || taken y) ys ≡ false
    → AllByRecursion (λ y. (x == y) ≡ false) ys × (list_any taken ys ≡ false)
none_first x taken [] none = (tt, refl)
none_first x taken (y ∷ ys) none =
    let head = (or_parts ((x == y) || taken y) (list_any (λ y. (x == y) || taken y) ys) none).0 in
    let rest = none_first x taken ys (or_parts ((x == y) || taken y) (list_any (λ y. (x == y) || taken y) ys) none).1 in
    (((or_parts (x == y) (taken y) head).0, rest.0), rw (or_parts (x == y) (taken y) head).1 rest.1)

pub still_differ : (placed : List (ℕ × ℕ)) (ys : List ℕ) → IsDistinct (λ a b. a == b) (keys_of placed)
    → IsDistinct (λ a b. a == b) ys → list_any (is_placed placed) ys ≡ false → IsDistinct (λ a b. a == b) (keys_of placed ++ ys)
still_differ [] ys before now none = now
still_differ (e ∷ es) ys before now none =
    let parts = none_first e.0 (is_placed es) ys none in
    IsDistinct-cons (λ a b. a == b) e.0 (keys_of es ++ ys)
    (all_append (λ y. (e.0 == y) ≡ false) (keys_of es) ys (IsDistinct-head (λ a b. a == b) e.0 (keys_of es) before) parts.0)
    (still_differ es ys (IsDistinct-tail (λ a b. a == b) e.0 (keys_of es) before) now parts.1)

never_true : IsTrue false → ⊥
never_true e = cc

-- the code's test is the definition's
pub loads_is : (address : ℕ) (result : Bool) → (IsTrue result ↔ IsLoadable address) → is_loadable address ≡ result
loads_is address true is = loads_at address (is.0 refl)
loads_is address false is = not_all (is_loadable address) (λ e. never_true (is.1 (can_load_at address e)))

pub loadable_at : (location : Location) (size j address : ℕ) → list_all is_loadable (addresses_from location 0 size) ≡ true
    → j < size → address ≡ address_after location j → IsLoadable address
loadable_at location size j address all within is = can_load_at address (ap is_loadable is ∙ all_at is_loadable location size j all within)
