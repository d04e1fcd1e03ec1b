-- Bytes that change, by the writes of a clock and a copy of what was there before it.
use Rattle.std.proofs.Common.{◌≡◌, ℕ, zero, suc, ◌+◌, ◌-◌, ◌<◌, ◌≤◌, Bool, true, false, if◌then◌else◌, not, List, []}
use Rattle.std.proofs.Common.{◌∷◌, ◌++◌, length, map, get_or, inl, inr, Option, None, Some, refl, sym, ap, ◌∙◌, arith}
use Rattle.std.specs.Prelude.{◌||◌, ◌&&◌, ◌==◌, ◌⊎◌, nat_le, nat_lt, fold, slice_get}
use Rattle.std.specs.List.{flat_map, list_any, range_with_len}
use Rattle.std.proofs.lemmas.Bool.Decides.{nat_tests}
use Rattle.std.proofs.lemmas.List.Folds.{list_any-append, list_any_at, list_any_none}
use Rattle.std.proofs.lemmas.List.FromFn.{get_or-range_with_len, length-range_with_len, map-range_with_len_more}
use Rattle.std.proofs.lemmas.List.{map-id}
use Rattle.std.proofs.lemmas.Option.{slice_get-get_or}
use Rattle.board_plain.specs.Plain.{Plain, after_clock, byte_of, clock_of}
use Rattle.events.specs.declared.access.Access.{Access}
use Rattle.events.specs.declared.access.Access.TheVariants.{Write, In, Out}
use Rattle.events.specs.declared.event.Event.TheVariants.{Reached}
use Rattle.events.specs.Accesses.{accesses_next}
use Rattle.events.specs.ClockLaws.{byte_after, written_by}
use Rattle.events.proofs.Told.{byte_of_clock}
use Rattle.wiring.specs.Ports.{is_writable}
use Rattle.probe.specs.declared.bytes.Copied.{Copied}
use Rattle.probe.specs.Met.{AreRenewed, IsCopy, differs_from, differs_copied, copied_at, one_differs, write_differs, writes_to}
use Rattle.probe.specs.ProbeStops.{any_differs}

-- an address that isn't written keeps its byte

not_taken : (takes : Bool) (byte other : ℕ) → (if takes && false then other else byte) ≡ byte
not_taken true byte other = refl
not_taken false byte other = refl

either_false : (a b : Bool) → (a || b) ≡ false → (a ≡ false) × (b ≡ false)
either_false false b is = (refl, is)
either_false true b is = let never : true ≡ false = is in absurd (cc)

unwritten : (clock address byte : ℕ) (takes : Bool) (accesses : List Access) → list_any (writes_to address) accesses ≡ false
    → fold (byte_after takes address) byte (flat_map written_by (map (Reached clock) accesses)) ≡ byte
unwritten clock address byte takes [] none = refl
unwritten clock address byte takes (Write at value ∷ rest) none =
    let parts = either_false (at == address) (list_any (writes_to address) rest) none in
    ap (λ (here : Bool). fold (byte_after takes address) (if takes && here then value else byte) (flat_map written_by (map (Reached clock) rest))) parts.0
    ∙ ap (λ b. fold (byte_after takes address) b (flat_map written_by (map (Reached clock) rest))) (not_taken takes byte value)
    ∙ unwritten clock address byte takes rest parts.1
unwritten clock address byte takes (In port value ∷ rest) none = unwritten clock address byte takes rest none
unwritten clock address byte takes (Out port value ∷ rest) none = unwritten clock address byte takes rest none

pub byte_stays : (s : Plain) (address : ℕ) → list_any (writes_to address) (accesses_next s) ≡ false → byte_of (after_clock s) address ≡ byte_of s address
byte_stays s address none =
    byte_of_clock s address (is_writable s.chips address) refl
    ∙ unwritten (clock_of s) address (byte_of s address) (is_writable s.chips address) (accesses_next s) none

-- what a copy has

slice_of : (bytes : List ℕ) (first address count : ℕ) → first ≤ address → address < first + length bytes
    → copied_at first bytes address ≡ Some (get_or bytes (address - first) 0)
slice_of bytes first address count from to =
    let least : nat_lt address first ≡ false = grind (arith, nat_tests, from) in
    ap (λ (below : Bool). if below then None else slice_get bytes (address - first)) least
    ∙ slice_get-get_or bytes (address - first) 0 (omega (arith, from, to))

pub copied_there : (copied : Copied) (s : Plain) (address : ℕ) → IsCopy copied s → copied.first ≤ address
    → address < copied.first + length copied.bytes.items → copied_at copied.first copied.bytes.items address ≡ Some (byte_of s address)
copied_there copied s address copy from to =
    slice_of copied.bytes.items copied.first address 0 from to
    ∙ ap Some (copy (address - copied.first) (omega (arith, from, to)) ∙ ap (byte_of s) (omega (arith, from)))

-- found in a list

both_true : (a b : Bool) → (a && b) ≡ true → (a ≡ true) × (b ≡ true)
both_true true b is = (refl, is)
both_true false b is = let never : false ≡ true = is in absurd (cc)

found_by : {X : Type 0} (p : X → Bool) (x : X) (xs : List X) (here : Bool)
    → p x ≡ here → (here || list_any p xs) ≡ true → (list_any p xs ≡ true → (y : X) × (p y ≡ true)) → (y : X) × (p y ≡ true)
found_by p x xs true is any rest = (x, is)
found_by p x xs false is any rest = rest any

found_in : {X : Type 0} (p : X → Bool) (xs : List X) → list_any p xs ≡ true → (x : X) × (p x ≡ true)
found_in p [] any = let never : false ≡ true = any in absurd (cc)
found_in p (x ∷ xs) any = found_by p x xs (p x) refl any (found_in p xs)

or_true : (b : Bool) → (b || true) ≡ true
or_true true = refl
or_true false = refl

or_none : (b : Bool) → (b || false) ≡ b
or_none true = refl
or_none false = refl

any_by : {X : Type 0} (p q : X → Bool) (x : X) (xs : List X) (here : Bool) → p x ≡ here → (here || list_any p xs) ≡ true
    → (p x ≡ true → q x ≡ true) → (list_any p xs ≡ true → list_any q xs ≡ true) → (q x || list_any q xs) ≡ true
any_by p q x xs true is any weaker rest = ap (λ (b : Bool). b || list_any q xs) (weaker is)
any_by p q x xs false is any weaker rest = ap (λ (b : Bool). q x || b) (rest any) ∙ or_true (q x)

any_weaker : {X : Type 0} (p q : X → Bool) (xs : List X) → ((x : X) → p x ≡ true → q x ≡ true) → list_any p xs ≡ true → list_any q xs ≡ true
any_weaker p q [] weaker any = any
any_weaker p q (x ∷ xs) weaker any = any_by p q x xs (p x) refl any (weaker x) (any_weaker p q xs weaker)

split_or : (a b : Bool) → (a || b) ≡ true → (a ≡ true) ⊎ (b ≡ true)
split_or true b is = inl refl
split_or false b is = inr is

-- in a range

range_more : (n : ℕ) → range_with_len 0 (n + 1) ≡ range_with_len 0 n ++ n ∷ []
range_more n =
    sym (map-id (range_with_len 0 (n + 1)))
    ∙ map-range_with_len_more (λ (k : ℕ). k) 0 n n (omega arith)
    ∙ ap (λ (r : List ℕ). r ++ n ∷ []) (map-id (range_with_len 0 n))

in_range : (q : ℕ → Bool) (n k : ℕ) → k < n → q k ≡ true → list_any q (range_with_len 0 n) ≡ true
in_range q n k within is =
    list_any_at q (range_with_len 0 n) k 0 (omega (arith, within, length-range_with_len 0 n)) (ap q (get_or-range_with_len 0 n k 0 within ∙ omega arith) ∙ is)

from_range : (q : ℕ → Bool) (n : ℕ) → list_any q (range_with_len 0 n) ≡ true → (k : ℕ) × (k < n) × (q k ≡ true)
from_range q zero any = let never : false ≡ true = any in absurd (cc)
from_range q (suc n) any =
    let more : suc n ≡ n + 1 = omega arith in
    let parts : list_any q (range_with_len 0 (n + 1)) ≡ (list_any q (range_with_len 0 n) || (q n || false)) =
    ap (list_any q) (range_more n) ∙ list_any-append q (range_with_len 0 n) (n ∷ []) in
    elim (split_or (list_any q (range_with_len 0 n)) (q n || false) (sym parts ∙ ap (λ m. list_any q (range_with_len 0 m)) (sym more) ∙ any)) [
      | inl before ↦ let found = from_range q n before in (found.0, (let within = found.1 in omega (arith, within)), found.2)
      | inr here ↦ (n, omega arith, sym (or_none (q n)) ∙ here)
    ]

-- the bytes that differ were written, and are found

same_if : (a b : Bool) → (a ≡ true → b ≡ true) → (b ≡ true → a ≡ true) → a ≡ b
same_if true b on back = sym (on refl)
same_if false true on back = back refl
same_if false false on back = refl

differs_there : (before now : ℕ) (kept : Option ℕ) → kept ≡ Some before → differs_from kept now ≡ not (before == now)
differs_there before now copied is = ap (λ k. differs_from k now) is

is_same : (n : ℕ) → (n == n) ≡ true
is_same n = grind (arith, nat_tests)

written_if : (s : Plain) (address : ℕ) (some : Bool) → list_any (writes_to address) (accesses_next s) ≡ some
    → not (byte_of s address == byte_of (after_clock s) address) ≡ true → some ≡ true
written_if s address true is differs = refl
written_if s address false is differs =
    let same : not (byte_of s address == byte_of (after_clock s) address) ≡ false =
    ap (λ b. not (byte_of s address == b)) (byte_stays s address is) ∙ ap not (is_same (byte_of s address)) in
    let never : true ≡ false = sym differs ∙ same in absurd (cc)

write_tells : (address count : ℕ) (copied : Copied) (s t : Plain) (access : Access) → IsCopy copied s → copied.first ≤ address
    → address + count ≤ copied.first + length copied.bytes.items → write_differs address count copied t access ≡ true
    → (k : ℕ) × (k < count) × (not (byte_of s (address + k) == byte_of t (address + k)) ≡ true)
write_tells address count copied s t (Write at value) copy from to is =
    let parts = both_true (nat_le address at && nat_lt at (address + count)) (differs_copied copied at t) is in
    let bounds = both_true (nat_le address at) (nat_lt at (address + count)) parts.0 in
    let least : address ≤ at = grind (arith, nat_tests, bounds.0) in
    let most : at < address + count = grind (arith, nat_tests, bounds.1) in
    let here : at ≡ address + (at - address) = omega (arith, least) in (
      at - address,
      omega (arith, least, most),
      ap (λ a. not (byte_of s a == byte_of t a)) (sym here)
          ∙ sym (differs_there (byte_of s at) (byte_of t at) (copied_at copied.first copied.bytes.items at)
          (copied_there copied s at copy (omega (arith, from, least)) (omega (arith, to, most))))
          ∙ parts.1,
    )
write_tells address count copied s t (In port value) copy from to is = let never : false ≡ true = is in absurd (cc)
write_tells address count copied s t (Out port value) copy from to is = let never : false ≡ true = is in absurd (cc)

tells_write : (address count k : ℕ) (copied : Copied) (s t : Plain) (access : Access) → IsCopy copied s → copied.first ≤ address
    → address + count ≤ copied.first + length copied.bytes.items → k < count → not (byte_of s (address + k) == byte_of t (address + k)) ≡ true
    → writes_to (address + k) access ≡ true → write_differs address count copied t access ≡ true
tells_write address count k copied s t (Write at value) copy from to within differs is =
    let here : at ≡ address + k = grind (arith, nat_tests, is) in
    let least : nat_le address at ≡ true = grind (arith, nat_tests, here) in
    let most : nat_lt at (address + count) ≡ true = grind (arith, nat_tests, here, within) in
    let told : differs_copied copied at t ≡ true =
    differs_there (byte_of s at) (byte_of t at) (copied_at copied.first copied.bytes.items at)
    (copied_there copied s at copy (omega (arith, from, here)) (omega (arith, to, here, within)))
    ∙ ap (λ a. not (byte_of s a == byte_of t a)) here ∙ differs in
    (λ i. (least i && most i) && told i)
tells_write address count k copied s t (In port value) copy from to within differs is = let never : false ≡ true = is in absurd (cc)
tells_write address count k copied s t (Out port value) copy from to within differs is = let never : false ≡ true = is in absurd (cc)

none_of_range : (q : ℕ → Bool) (n : ℕ) → ((k : ℕ) → q k ≡ false) → list_any q (range_with_len 0 n) ≡ false
none_of_range q n none = list_any_none q (range_with_len 0 n) (λ i d within. none (get_or (range_with_len 0 n) i d))

pub changes_seen : (address count : ℕ) (copied : Copied) (s : Plain)
    → IsCopy copied s → copied.first ≤ address → address + count ≤ copied.first + length copied.bytes.items
    → any_differs address count s (after_clock s) ≡ one_differs address count (accesses_next s) copied (after_clock s)
changes_seen address count copied s copy from to =
    let t : Plain = after_clock s in
    let q : ℕ → Bool = λ k. not (byte_of s (address + k) == byte_of t (address + k)) in
    same_if (list_any q (range_with_len 0 count)) (list_any (write_differs address count copied t) (accesses_next s))
    (λ any.
    let found = from_range q count any in
    any_weaker (writes_to (address + found.0)) (write_differs address count copied t) (accesses_next s)
    (λ access is. tells_write address count found.0 copied s t access copy from to found.1 found.2 is)
    (written_if s (address + found.0) (list_any (writes_to (address + found.0)) (accesses_next s)) refl found.2))
    (λ any.
    let found = found_in (write_differs address count copied t) (accesses_next s) any in
    let there = write_tells address count copied s t found.0 copy from to found.1 in
    in_range q count there.0 there.1 there.2)

-- a copy is renewed

copied_by : (s : Plain) (new was address : ℕ) → was ≡ byte_of s address
    → (new ≡ byte_of (after_clock s) address) ⊎ ((list_any (writes_to address) (accesses_next s) ≡ false) × (new ≡ was)) → new ≡ byte_of (after_clock s) address
copied_by s new was address here (inl there) = there
copied_by s new was address here (inr kept) = kept.1 ∙ here ∙ sym (byte_stays s address kept.0)

pub copy_renewed : (old new : Copied) (s : Plain) → IsCopy old s → AreRenewed (accesses_next s) (after_clock s) old new → IsCopy new (after_clock s)
copy_renewed old new s copy renewed = λ k within.
    let few : k < length old.bytes.items = omega (arith, within, renewed.count) in
    copied_by s (get_or new.bytes.items k 0) (get_or old.bytes.items k 0) (old.first + k) (copy k few) (renewed.bytes k few)
    ∙ ap (λ f. byte_of (after_clock s) (f + k)) (sym renewed.first)

-- no byte differs in a clock without accesses

pub nothing_changes : (address count : ℕ) (s : Plain) → accesses_next s ≡ [] → any_differs address count s (after_clock s) ≡ false
nothing_changes address count s none = none_of_range (λ k. not (byte_of s (address + k) == byte_of (after_clock s) (address + k))) count (λ k.
    ap (λ b. not (byte_of s (address + k) == b)) (byte_stays s (address + k) (ap (list_any (writes_to (address + k))) none))
    ∙ ap not (is_same (byte_of s (address + k))))
