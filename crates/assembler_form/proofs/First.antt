-- The first row that takes what is asked, and that none does.
use Rattle.std.proofs.Common.{ℕ, ◌≡◌, ◌+◌, ◌<◌, ◌≤◌, Bool, true, false, List, length, get_or, inl, inr, sym, ap, ◌∙◌, subst, arith}
use Rattle.std.specs.Prelude.{slice_get, Some, IsTrue}
use Rattle.std.proofs.lemmas.Option.{get_or_from_slice_get, slice_get-get_or}
use Rattle.isa.specs.declared.row.Row.{Row}
use Rattle.assembler_form.specs.declared.asked.Asked.{Asked}
use Rattle.assembler_form.specs.Takes.{Takes}
use Rattle.assembler_form.specs.Choice.{IsFirst, NoneTakes}
use Rattle.assembler_form.specs.FormLaws.{OneForm}
use Rattle.assembler_form.specs.OperandBytes.{form_with}
use Rattle.isa.specs.Table.{rows}
use Rattle.std.proofs.lemmas.Bool.{cases_lt}
use borrow.Author.Count.{below_more}

by_cases : (m n : ℕ) → (m < n → m ≡ n) → (n < m → m ≡ n) → m ≡ n
by_cases m n less more =
    elim (cases_lt m n) [
      | inl small ↦ less small
      | inr not_small ↦ elim (cases_lt n m) [
        | inl large ↦ more large
        | inr not_large ↦ omega (arith, not_small, not_large)
      ]
    ]

-- no row at a place below n takes what is asked
abbrev pub NoneBelow : List Row → Asked → ℕ → Type 0
NoneBelow rs a n = (i : ℕ) (s : Row) → i < n → slice_get rs i ≡ Some s → ¬ Takes s a

pub none_below_more : (rs : List Row) (a : Asked) (n : ℕ) (d : Row) → NoneBelow rs a n → ¬ Takes (get_or rs n d) a → NoneBelow rs a (n + 1)
none_below_more rs a n d below here i s within is =
    let P : ℕ → Type 0 = λ k. (r : Row) → slice_get rs k ≡ Some r → ¬ Takes r a in
    below_more P n (λ k small r e. below k r small e)
    (λ r e takes. here (subst (λ x. Takes x a) (sym (get_or_from_slice_get rs n r d e)) takes)) i within s is

pub none_of_all : (rs : List Row) (a : Asked) (n : ℕ) → length rs ≤ n → NoneBelow rs a n → NoneTakes rs a
none_of_all rs a n long below r within takes =
    let small : within.0 < length rs = within.1 in
    below within.0 (get_or rs within.0 r) (omega arith) (slice_get-get_or rs within.0 r within.1)
    (subst (λ x. Takes x a) (sym within.2) takes)

pub not_true : (P : Type 0) (b : Bool) → (P → IsTrue b) → b ≡ false → ¬ P
not_true P b told is p = let h : b ≡ true = told p in cc

-- two firsts are one: neither stands before the other
first_place : (rs : List Row) (a : Asked) (r s : Row) (f : IsFirst rs a r) (g : IsFirst rs a s) → f.place ≡ g.place
first_place rs a r s f g =
    by_cases f.place g.place (λ less. absurd (g.earlier f.place r less f.stands f.takes))
    (λ more. absurd (f.earlier g.place s more g.stands g.takes))

one_first : (rs : List Row) (a : Asked) (r s : Row) → IsFirst rs a r → IsFirst rs a s → r ≡ s
one_first rs a r s f g =
    let same : slice_get rs g.place ≡ Some r = subst (λ n. slice_get rs n ≡ Some r) (first_place rs a r s f g) f.stands in
    let other : slice_get rs g.place ≡ Some s = g.stands in
    cc

pub one_form : OneForm
one_form a f g f_is g_is =
    let same : f.row ≡ g.row = one_first rows a f.row g.row f_is.first g_is.first in
    f_is.parts ∙ (ap (λ r. form_with r a) same ∙ sym g_is.parts)
