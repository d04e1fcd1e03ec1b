-- Facts about all rows, each computed from a test of one row.
use Rattle.std.proofs.Common.{◌≡◌, ℕ, ◌+◌, ◌/◌, ◌%◌, ◌<◌, ◌≤◌, Bool, true, false, not, ◌&&◌, ◌==◌, nat_lt, nat_le, nat_eq, inl, inr, List, [], ◌∷◌, ◌++◌}
use Rattle.std.proofs.Common.{length, take, drop, get_or, find, Some, cond, Contains, filter, zero, suc, refl, sym, ap, subst, ◌∙◌, arith, length-append}
use Rattle.std.proofs.lemmas.Bool.{cases_lt, eqb-true, ltb-true}
use Rattle.std.proofs.lemmas.Bool.Decides.{nat_tests}
use Rattle.std.specs.List.{list_all}
use Rattle.isa.specs.declared.parts.TheConstants.{FIRST}
use Rattle.isa.specs.declared.layout.CodePart.{CodePart}
use Rattle.isa.specs.declared.layout.CodePart.TheVariants as code_parts
use Rattle.isa.specs.declared.layout.RegPart.TheVariants as reg_parts
use Rattle.isa.specs.declared.layout.Second.{Second}
use Rattle.isa.specs.declared.layout.Second.TheVariants as seconds
use Rattle.isa.specs.declared.layout.Field.{Field}
use Rattle.isa.specs.declared.layout.Field.TheVariants as fields
use Rattle.isa.specs.declared.register.SegmentRegister.TheVariants.{Es, Cs, Ss, Ds}
use Rattle.isa.specs.declared.row.Row.{Row}
use Rattle.isa.specs.declared.form.Form.{Form}
use Rattle.isa.specs.declared.form.Place.{Place}
use Rattle.isa.specs.declared.form.Repeat.TheVariants.{Repne, Rep}
use Rattle.isa.specs.declared.form.Prefix.{Prefix}
use Rattle.isa.specs.declared.form.Prefix.TheVariants.{Segment, Lock, Repeat}
use Rattle.isa.specs.Table.{rows}
use Rattle.isa.specs.Layout.{code_part, field_part, field_size, second_part, second_size}
use Rattle.isa.specs.Encoding.{code_number, displacement_field, encoding, field_bytes, form_length, prefix_byte, second_bytes, FitsCode, IsForm}
use Rattle.isa.specs.OpcodeBytes.{begins, is_named, is_second}
use Rattle.isa.specs.RowSearch.{has_opcode, is_before, HasDigit}
use Rattle.isa.specs.IsaLaws.{LengthIsTheForms, NoPrefixIsARow, OneRowFits}

left_true : (s t : Bool) → (s && t) ≡ true → s ≡ true
left_true true t e = refl
left_true false t e = absurd (cc)

right_true : (s t : Bool) → (s && t) ≡ true → t ≡ true
right_true true t e = e
right_true false t e = absurd (cc)

-- a test that all elements pass, one of them passes
each_at : {X : Type 0} (p : X → Bool) (xs : List X) (x : X) (i : ℕ) → list_all p xs ≡ true → i < length xs → get_or xs i x ≡ x → p x ≡ true
each_at p [] x i all within is = absurd (omega (arith, within))
each_at p (y ∷ ys) x zero all within is = subst (λ z. p z ≡ true) is (left_true (p y) (list_all p ys) all)
each_at p (y ∷ ys) x (suc i) all within is =
    each_at p ys x i (right_true (p y) (list_all p ys) all) (omega (arith, within)) is

pub each : {X : Type 0} (p : X → Bool) (xs : List X) (x : X) → list_all p xs ≡ true → Contains xs x → p x ≡ true
each p xs x all within = each_at p xs x within.0 all within.1 within.2

-- the opcode byte fits, and so does a digit
abbrev greatest : CodePart → ℕ
greatest code_parts.Fixed = 0
greatest code_parts.Register = 7
greatest code_parts.Segment = 24
greatest code_parts.SegmentNotCs = 24

abbrev has_digit : Second → Bool
has_digit (seconds.Addressing (reg_parts.Digit digit) _) = nat_lt digit 8
has_digit _ = true

abbrev has_room : Row → Bool
has_room r = nat_lt (r.opcode + greatest (code_part r)) 256 && has_digit (second_part r)

all_have_room : list_all has_room rows ≡ true
unfolding rows
all_have_room = refl

greatest_within : (part : CodePart) (code opcode : ℕ) → FitsCode part code → opcode + greatest part < 256 → opcode + code_number part code < 256
greatest_within code_parts.Fixed code opcode fits within = within
greatest_within code_parts.Register code opcode fits within = omega arith
greatest_within code_parts.Segment code opcode fits within = omega arith
greatest_within code_parts.SegmentNotCs code opcode fits within = omega (arith, fits.0)

pub code_within : (f : Form) → IsForm f → f.row.opcode + code_number (code_part f.row) f.code < 256
code_within f form =
    let room = each has_room rows f.row all_have_room form.row in
    greatest_within (code_part f.row) f.code f.row.opcode form.code
    (ltb-true (f.row.opcode + greatest (code_part f.row)) 256
    (left_true (nat_lt (f.row.opcode + greatest (code_part f.row)) 256) (has_digit (second_part f.row)) room))

digit_told : (s : Second) → has_digit s ≡ true → HasDigit s
digit_told seconds.Absent e = tt
digit_told (seconds.Exactly _) e = tt
digit_told (seconds.Addressing (reg_parts.Digit digit) _) e = ltb-true digit 8 e
digit_told (seconds.Addressing reg_parts.Register _) e = tt
digit_told (seconds.Addressing reg_parts.Segment _) e = tt
digit_told (seconds.Addressing reg_parts.SegmentNotCs _) e = tt

pub digit_within : (r : Row) → Contains rows r → HasDigit (second_part r)
digit_within r within =
    digit_told (second_part r)
    (right_true (nat_lt (r.opcode + greatest (code_part r)) 256) (has_digit (second_part r)) (each has_room rows r all_have_room within))

-- of the rows with one opcode any two have digits, and other ones
abbrev digits_apart : Second → Second → Bool
digits_apart (seconds.Addressing (reg_parts.Digit j) _) (seconds.Addressing (reg_parts.Digit k) _) = not (j == k)
digits_apart _ _ = false

abbrev apart : Row → Row → Bool
apart r s = digits_apart (second_part r) (second_part s)

abbrev all_apart : List Row → Bool
all_apart [] = true
all_apart (r ∷ rs) = list_all (apart r) rs && all_apart rs

abbrev clear : ℕ → Bool
clear opcode = all_apart (filter (has_opcode opcode) rows)

abbrev all_below : (ℕ → Bool) → ℕ → Bool
all_below p zero = true
all_below p (suc n) = p n && all_below p n

all_clear : all_below clear 256 ≡ true
unfolding rows
all_clear = refl

below_at : (p : ℕ → Bool) (n k : ℕ) → all_below p n ≡ true → k < n → p k ≡ true
below_at p zero k all within = absurd (omega (arith, within))
below_at p (suc n) k all within =
    elim (cases_lt k n) [
      | inl less ↦ below_at p n k (right_true (p n) (all_below p n) all) less
      | inr more ↦
          let same : n ≡ k = omega (arith, within, more) in
          subst (λ j. p j ≡ true) same (left_true (p n) (all_below p n) all)
    ]

not_both : (s t : Second) (next : ℕ) → is_second s next ≡ true → is_second t next ≡ true → digits_apart s t ≡ true → ⊥
not_both (seconds.Addressing (reg_parts.Digit j) m) (seconds.Addressing (reg_parts.Digit k) n) next one other is_apart =
    let first = eqb-true (next / 8 % 8) j (left_true (nat_eq (next / 8 % 8) j) (is_named m (next / 64)) one) in
    let second = eqb-true (next / 8 % 8) k (left_true (nat_eq (next / 8 % 8) k) (is_named n (next / 64)) other) in
    same_digit j k (sym first ∙ second) is_apart
  where
    same_digit : (a b : ℕ) → a ≡ b → not (a == b) ≡ true → ⊥
    same_digit a b e h = grind (arith)
not_both _ _ next one other is_apart = absurd (cc)

one_at : (xs : List Row) (r s : Row) (i j : ℕ) → all_apart xs ≡ true → i < length xs → get_or xs i r ≡ r
    → j < length xs → get_or xs j s ≡ s → (apart r s ≡ true → ⊥) → (apart s r ≡ true → ⊥) → r ≡ s
one_at [] r s i j all hi is_r hj is_s one other = absurd (omega (arith, hi))
one_at (x ∷ xs) r s zero zero all hi is_r hj is_s one other = sym is_r ∙ is_s
one_at (x ∷ xs) r s zero (suc j) all hi is_r hj is_s one other =
    absurd (one (subst (λ z. apart z s ≡ true) is_r (each_at (apart x) xs s j (left_true (list_all (apart x) xs) (all_apart xs) all) (omega (arith, hj)) is_s)))
one_at (x ∷ xs) r s (suc i) zero all hi is_r hj is_s one other =
    absurd
    (other (subst (λ z. apart z r ≡ true) is_s (each_at (apart x) xs r i (left_true (list_all (apart x) xs) (all_apart xs) all) (omega (arith, hi)) is_r)))
one_at (x ∷ xs) r s (suc i) (suc j) all hi is_r hj is_s one other =
    one_at xs r s i j (right_true (list_all (apart x) xs) (all_apart xs) all) (omega (arith, hi)) is_r (omega (arith, hj)) is_s one other

later : {X : Type 0} (y : X) (ys : List X) (z : X) → Contains ys z → Contains (y ∷ ys) z
later y ys z w = (suc w.0, omega (arith, w.1), w.2)

-- what passes the test stays in the list
kept_at : {X : Type 0} (p : X → Bool) (xs : List X) (x : X) (i : ℕ) → i < length xs → get_or xs i x ≡ x → p x ≡ true → Contains (filter p xs) x
kept_at p [] x i within is passes = absurd (omega (arith, within))
kept_at p (y ∷ ys) x zero within is passes =
    elim (p y) as (λ b. p y ≡ b → Contains (cond b (y ∷ filter p ys) (filter p ys)) x) [
      | true ↦ λ _. (zero, omega arith, is)
      | false ↦ λ e. let same : p y ≡ p x = ap p is in absurd (cc)
    ] refl
kept_at p (y ∷ ys) x (suc i) within is passes =
    let rest : Contains (filter p ys) x = kept_at p ys x i (omega (arith, within)) is passes in
    elim (p y) as (λ b. Contains (cond b (y ∷ filter p ys) (filter p ys)) x) [
      | true ↦ later y (filter p ys) x rest
      | false ↦ rest
    ]

byte_clear : (opcode : ℕ) → opcode < 256 → clear opcode ≡ true
byte_clear opcode within = below_at clear 256 opcode all_clear within

pub one_row : OneRowFits
one_row opcode next r s byte in_r in_s is_r is_s =
    let code_r = left_true (has_opcode opcode r) (is_second (second_part r) next) is_r in
    let code_s = left_true (has_opcode opcode s) (is_second (second_part s) next) is_s in
    let next_r = right_true (has_opcode opcode r) (is_second (second_part r) next) is_r in
    let next_s = right_true (has_opcode opcode s) (is_second (second_part s) next) is_s in
    let kept_r = kept_at (has_opcode opcode) rows r in_r.0 in_r.1 in_r.2 code_r in
    let kept_s = kept_at (has_opcode opcode) rows s in_s.0 in_s.1 in_s.2 code_s in
    one_at (filter (has_opcode opcode) rows) r s kept_r.0 kept_s.0 (byte_clear opcode byte) kept_r.1 kept_r.2 kept_s.1 kept_s.2
    (λ h. not_both (second_part r) (second_part s) next next_r next_s h)
    (λ h. not_both (second_part s) (second_part r) next next_s next_r h)

-- no row has the opcode of a prefix
abbrev is_none : ℕ → Row → Bool
is_none byte r = not (has_opcode byte r)

abbrev prefix_free : Prefix → Bool
prefix_free p = list_all (is_none (prefix_byte p)) rows

all_free : (p : Prefix) → prefix_free p ≡ true
unfolding rows
all_free (Segment Es) = refl
all_free (Segment Cs) = refl
all_free (Segment Ss) = refl
all_free (Segment Ds) = refl
all_free Lock = refl
all_free (Repeat Repne) = refl
all_free (Repeat Rep) = refl

not_true : (a b : Bool) → not a ≡ true → (a && b) ≡ false
not_true true b e = absurd (cc)
not_true false b e = refl

pub no_prefix : NoPrefixIsARow
no_prefix p next r within =
    not_true (has_opcode (prefix_byte p) r) (is_second (second_part r) next) (each (is_none (prefix_byte p)) rows r (all_free p) within)

-- lengths add
second_length : (s : Second) (reg : ℕ) (place : Place) → length (second_bytes s reg place) ≡ second_size s
second_length seconds.Absent reg place = refl
second_length (seconds.Exactly _) reg place = refl
second_length (seconds.Addressing _ _) reg place = refl

field_length : (f : Field) (number segment : ℕ) → length (field_bytes f number segment) ≡ field_size f
field_length fields.Absent number segment = refl
field_length fields.Byte number segment = refl
field_length fields.Word number segment = refl
field_length fields.Far number segment = refl

lengths : (b : ℕ) (xs ys zs : List ℕ) → length (b ∷ (xs ++ (ys ++ zs))) ≡ 1 + length xs + length ys + length zs
lengths b xs ys zs = simp (length-append) (omega arith)

pub length_of : LengthIsTheForms
unfolding encoding form_length
length_of f v =
    lengths (f.row.opcode + code_number (code_part f.row) f.code) (second_bytes (second_part f.row) f.reg f.place)
    (field_bytes (displacement_field f.place) v.displacement 0) (field_bytes (field_part f.row) v.number v.segment)
    ∙ (let a = second_length (second_part f.row) f.reg f.place in
    let b = field_length (displacement_field f.place) v.displacement 0 in
    let c = field_length (field_part f.row) v.number v.segment in cc)

-- the search may begin after rows that don't have the opcode
not_so : (b : Bool) → not b ≡ true → b ≡ false
not_so true e = absurd (cc)
not_so false e = refl

find_after : (q s : Row → Bool) (k : ℕ) (xs : List Row) → list_all (λ r. not (q r)) (take k xs) ≡ true
    → find (λ r. q r && s r) (drop k xs) ≡ find (λ r. q r && s r) xs
find_after q s zero xs all = refl
find_after q s (suc k) [] all = refl
find_after q s (suc k) (x ∷ xs) all =
    let fails = not_so (q x) (left_true (not (q x)) (list_all (λ r. not (q r)) (take k xs)) all) in
    find_after q s k xs (right_true (not (q x)) (list_all (λ r. not (q r)) (take k xs)) all)
    ∙ sym (ap (λ b. cond (b && s x) (Some x) (find (λ r. q r && s r) xs)) fails)

pub within_rows : (opcode count : ℕ) → is_before opcode count ≡ true → count ≤ length rows
within_rows opcode count e =
    from_le count (length rows) (left_true (nat_le count (length rows)) (list_all (λ r. not (has_opcode opcode r)) (take count rows)) e)
  where
    from_le : (a b : ℕ) → nat_le a b ≡ true → a ≤ b
    from_le a b h = grind (arith, nat_tests)

pub find_before : (opcode next count : ℕ) → is_before opcode count ≡ true
    → find (λ r. begins r opcode next) (drop count rows) ≡ find (λ r. begins r opcode next) rows
find_before opcode next count e =
    find_after (has_opcode opcode) (λ r. is_second (second_part r) next) count rows
    (right_true (nat_le count (length rows)) (list_all (λ r. not (has_opcode opcode r)) (take count rows)) e)

all_before : all_below (λ opcode. is_before opcode (get_or FIRST opcode 0)) 256 ≡ true
unfolding rows
all_before = refl

pub before_at : (opcode : ℕ) → opcode < 256 → is_before opcode (get_or FIRST opcode 0) ≡ true
before_at opcode within = below_at (λ b. is_before b (get_or FIRST b 0)) 256 opcode all_before within
