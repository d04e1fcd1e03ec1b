-- Prefixes at the front of bytes.
use Rattle.std.proofs.Common.{◌≡◌, ℕ, zero, suc, ◌+◌, ◌-◌, ◌<◌, ◌≤◌, true, false, ◌==◌, List, [], ◌∷◌, ◌++◌, length}
use Rattle.std.proofs.Common.{take, drop, map, Option, Some, None, get_or, refl, sym, ap, ◌∙◌, arith, cond, append_assoc}
use Rattle.std.proofs.lemmas.List.{append-nil, drop_more, get_or-take, length-take}
use Rattle.std.proofs.lemmas.Bool.{eqb-true}
use Rattle.isa.specs.declared.register.SegmentRegister.TheVariants.{Es, Cs, Ss, Ds}
use Rattle.isa.specs.declared.form.Repeat.TheVariants.{Repne, Rep}
use Rattle.isa.specs.declared.form.Prefix.{Prefix}
use Rattle.isa.specs.declared.form.Prefix.TheVariants.{Segment, Lock, Repeat}
use Rattle.isa.specs.Encoding.{prefix_byte}
use Rattle.decode.specs.Decoding.{and_then, prefix_of, prefixes_at}

-- a prefix is read from its byte
pub prefix_again : (p : Prefix) → prefix_of (prefix_byte p) ≡ Some p
prefix_again (Segment Es) = refl
prefix_again (Segment Cs) = refl
prefix_again (Segment Ss) = refl
prefix_again (Segment Ds) = refl
prefix_again Lock = refl
prefix_again (Repeat Repne) = refl
prefix_again (Repeat Rep) = refl

one_of : (byte wanted : ℕ) (q p : Prefix) (rest : Option Prefix)
    → prefix_byte q ≡ wanted → (rest ≡ Some p → prefix_byte p ≡ byte) → cond (byte == wanted) (Some q) rest ≡ Some p → prefix_byte p ≡ byte
one_of byte wanted q p rest is others e =
    elim (byte == wanted) as (λ b. (byte == wanted) ≡ b → cond b (Some q) rest ≡ Some p → prefix_byte p ≡ byte) [
      | true ↦ λ same found. let at : byte ≡ wanted = eqb-true byte wanted same in let this : q ≡ p = cc in ap prefix_byte (sym this) ∙ is ∙ sym at
      | false ↦ λ _ found. others found
    ] refl e

-- the byte is that of the prefix that is read from it
pub prefix_from : (byte : ℕ) (p : Prefix) → prefix_of byte ≡ Some p → prefix_byte p ≡ byte
prefix_from byte p e =
    one_of byte 0x26 (Segment Es) p _ refl
    (one_of byte 0x2E (Segment Cs) p _ refl
    (one_of byte 0x36 (Segment Ss) p _ refl
    (one_of byte 0x3E (Segment Ds) p _ refl
    (one_of byte 0xF0 Lock p _ refl
    (one_of byte 0xF2 (Repeat Repne) p _ refl
    (one_of byte 0xF3 (Repeat Rep) p None refl (λ none. absurd (cc)))))))) e

-- prefixes that stand at the front are read, if the byte after them is none
pub read_all : (n : ℕ) (ps : List Prefix) (c : ℕ) (cs : List ℕ) → length ps ≤ n → prefix_of c ≡ None → prefixes_at n (map prefix_byte ps ++ (c ∷ cs)) ≡ ps
read_all zero [] c cs few none = refl
read_all (suc n) [] c cs few none = ap (λ o. and_then o (prefixes_at n cs)) none
read_all zero (p ∷ ps) c cs few none = absurd (omega (arith, few))
read_all (suc n) (p ∷ ps) c cs few none =
    ap (λ o. and_then o (prefixes_at n (map prefix_byte ps ++ (c ∷ cs)))) (prefix_again p)
    ∙ ap (λ rest. p ∷ rest) (read_all n ps c cs (omega (arith, few)) none)

-- the prefixes that are read stand at the front, and are no more than were asked for
pub stand_at : (n : ℕ) (bytes : List ℕ) → map prefix_byte (prefixes_at n bytes) ++ drop (length (prefixes_at n bytes)) bytes ≡ bytes
stand_at zero bytes = refl
stand_at (suc n) [] = refl
stand_at (suc n) (b ∷ bs) =
    elim (prefix_of b)
    as (λ o. prefix_of b ≡ o → map prefix_byte (and_then o (prefixes_at n bs)) ++ drop (length (and_then o (prefixes_at n bs))) (b ∷ bs) ≡ b ∷ bs) [
      | None ↦ λ _. refl
      | Some p ↦ λ e.
          ap (λ x. x ∷ (map prefix_byte (prefixes_at n bs) ++ drop (length (prefixes_at n bs)) bs)) (prefix_from b p e)
          ∙ ap (λ rest. b ∷ rest) (stand_at n bs)
    ] refl

pub at_most : (n : ℕ) (bytes : List ℕ) → length (prefixes_at n bytes) ≤ n
at_most zero bytes = omega arith
at_most (suc n) [] = omega arith
at_most (suc n) (b ∷ bs) =
    let fewer = at_most n bs in
    elim (prefix_of b) as (λ o. length (and_then o (prefixes_at n bs)) ≤ suc n) [
      | None ↦ omega arith
      | Some p ↦ omega (arith, fewer)
    ]

-- one more is read, or none is left
more : (n : ℕ) (b : ℕ) (bs : List ℕ) (ps : List Prefix) (p : Prefix) → prefix_of b ≡ Some p
    → (ps ++ (p ∷ [])) ++ prefixes_at n bs ≡ ps ++ prefixes_at (suc n) (b ∷ bs)
more n b bs ps p is = append_assoc ps (p ∷ []) (prefixes_at n bs) ∙ ap (λ o. ps ++ and_then o (prefixes_at n bs)) (sym is)

front_few : (code : List ℕ) (i : ℕ) → 7 ≤ length code → i < length (take 7 code) → i < 7
front_few code i long here = let e = length-take 7 code in omega (arith, e, here, long)

front_within : (code : List ℕ) (i : ℕ) → 7 ≤ length code → i < length (take 7 code) → i < length code
front_within code i long here = let e = length-take 7 code in omega (arith, e, here, long)

front_same : (code : List ℕ) (i : ℕ) → 7 ≤ length code → i < length (take 7 code) → get_or code i 0 ≡ get_or (take 7 code) i 0
front_same code i long here = sym (get_or-take 7 code i 0 (front_few code i long here))

pub read_more : (code : List ℕ) (i byte : ℕ) (ps qs : List Prefix) (p : Prefix)
    → 7 ≤ length code → i < length (take 7 code) → get_or (take 7 code) i 0 ≡ byte → prefix_of byte ≡ Some p → qs ≡ ps ++ (p ∷ [])
    → qs ++ prefixes_at (7 - (i + 1)) (drop (i + 1) code) ≡ ps ++ prefixes_at (7 - i) (drop i code)
read_more code i byte ps qs p long here front_at is now =
    let left : 7 - i ≡ suc (7 - (i + 1)) = omega (arith, front_few code i long here) in
    let split : drop i code ≡ byte ∷ drop (i + 1) code =
    drop_more code i 0 (front_within code i long here) ∙ ap (λ b. b ∷ drop (i + 1) code) (front_same code i long here ∙ front_at) in
    ap (λ xs. xs ++ prefixes_at (7 - (i + 1)) (drop (i + 1) code)) now
    ∙ more (7 - (i + 1)) byte (drop (i + 1) code) ps p is
    ∙ ap (λ n. ps ++ prefixes_at n (byte ∷ drop (i + 1) code)) (sym left)
    ∙ ap (λ xs. ps ++ prefixes_at (7 - i) xs) (sym split)

pub read_none : (code : List ℕ) (i byte : ℕ) (ps : List Prefix) → 7 ≤ length code → i < length (take 7 code)
    → get_or (take 7 code) i 0 ≡ byte → prefix_of byte ≡ None → ps ++ prefixes_at (7 - i) (drop i code) ≡ ps
read_none code i byte ps long here front_at is =
    let left : 7 - i ≡ suc (7 - (i + 1)) = omega (arith, front_few code i long here) in
    let split : drop i code ≡ byte ∷ drop (i + 1) code =
    drop_more code i 0 (front_within code i long here) ∙ ap (λ b. b ∷ drop (i + 1) code) (front_same code i long here ∙ front_at) in
    ap (λ n. ps ++ prefixes_at n (drop i code)) left
    ∙ ap (λ xs. ps ++ prefixes_at (suc (7 - (i + 1))) xs) split
    ∙ ap (λ o. ps ++ and_then o (prefixes_at (7 - (i + 1)) (drop (i + 1) code))) is
    ∙ append-nil ps
