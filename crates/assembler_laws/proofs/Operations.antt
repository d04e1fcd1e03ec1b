-- Operations in their order: what passes for each, and whether two are the same.
use Rattle.std.proofs.Common.{◌≡◌, ◌∙◌, ℕ, zero, suc, List, [], ◌∷◌, get_or, refl, sym, ap, subst, arith, inl, inr, Bool, true}
use Rattle.std.specs.Prelude.{◌⊎◌}
use Rattle.std.specs.List.{list_all}
use Rattle.std.proofs.lemmas.Bool.{and_parts, cases_lt}
use Rattle.isa.specs.declared.operation.Operation.{Operation}
use Rattle.isa.specs.declared.operation.Operation.TheVariants as operations
use Rattle.isa.specs.declared.operation.Arithmetic.TheVariants as arithmetic
use Rattle.isa.specs.declared.operation.Shift.TheVariants as shift
use Rattle.isa.specs.declared.operation.Product.TheVariants as product
use Rattle.isa.specs.declared.operation.Unary.TheVariants as unary
use Rattle.isa.specs.declared.operation.JumpCondition.TheVariants as condition
use Rattle.isa.specs.declared.operation.Looping.TheVariants as looping
use Rattle.isa.specs.declared.operation.Strings.TheVariants as strings
use Rattle.isa.specs.declared.operation.Adjust.TheVariants as adjust
use Rattle.isa.specs.declared.operation.Transfer.TheVariants as transfer
use Rattle.isa.specs.declared.operation.Control.TheVariants as control
use Rattle.isa.specs.declared.operation.Processor.TheVariants as processor

-- the operations in their order, and the place of each
abbrev all : List Operation
all =
    operations.Arithmetic arithmetic.Add ∷ operations.Arithmetic arithmetic.Or ∷
    operations.Arithmetic arithmetic.Adc ∷ operations.Arithmetic arithmetic.Sbb ∷
    operations.Arithmetic arithmetic.And ∷ operations.Arithmetic arithmetic.Sub ∷
    operations.Arithmetic arithmetic.Xor ∷ operations.Arithmetic arithmetic.Cmp ∷
    operations.Arithmetic arithmetic.Test ∷ operations.Shift shift.Rol ∷ operations.Shift shift.Ror ∷
    operations.Shift shift.Rcl ∷ operations.Shift shift.Rcr ∷ operations.Shift shift.Shl ∷
    operations.Shift shift.Shr ∷ operations.Shift shift.Sar ∷ operations.Product product.Mul ∷
    operations.Product product.Imul ∷ operations.Product product.Div ∷ operations.Product product.Idiv ∷
    operations.Unary unary.Inc ∷ operations.Unary unary.Dec ∷ operations.Unary unary.Not ∷
    operations.Unary unary.Neg ∷ operations.Jump condition.Overflow ∷ operations.Jump condition.NotOverflow ∷
    operations.Jump condition.Below ∷ operations.Jump condition.NotBelow ∷ operations.Jump condition.Zero ∷
    operations.Jump condition.NotZero ∷ operations.Jump condition.BelowOrZero ∷ operations.Jump condition.Above ∷
    operations.Jump condition.Sign ∷ operations.Jump condition.NotSign ∷ operations.Jump condition.Parity ∷
    operations.Jump condition.NotParity ∷ operations.Jump condition.Less ∷ operations.Jump condition.NotLess ∷
    operations.Jump condition.LessOrZero ∷ operations.Jump condition.Greater ∷ operations.Looping looping.Loopne ∷
    operations.Looping looping.Loope ∷ operations.Looping looping.Loop ∷ operations.Looping looping.Jcxz ∷
    operations.Strings strings.Movsb ∷ operations.Strings strings.Movsw ∷ operations.Strings strings.Cmpsb ∷
    operations.Strings strings.Cmpsw ∷ operations.Strings strings.Stosb ∷ operations.Strings strings.Stosw ∷
    operations.Strings strings.Lodsb ∷ operations.Strings strings.Lodsw ∷ operations.Strings strings.Scasb ∷
    operations.Strings strings.Scasw ∷ operations.Adjust adjust.Daa ∷ operations.Adjust adjust.Das ∷
    operations.Adjust adjust.Aaa ∷ operations.Adjust adjust.Aas ∷ operations.Adjust adjust.Aam ∷
    operations.Adjust adjust.Aad ∷ operations.Adjust adjust.Cbw ∷ operations.Adjust adjust.Cwd ∷
    operations.Transfer transfer.Mov ∷ operations.Transfer transfer.Xchg ∷ operations.Transfer transfer.Lea ∷
    operations.Transfer transfer.Les ∷ operations.Transfer transfer.Lds ∷ operations.Transfer transfer.Push ∷
    operations.Transfer transfer.Pop ∷ operations.Transfer transfer.Pushf ∷ operations.Transfer transfer.Popf ∷
    operations.Transfer transfer.Sahf ∷ operations.Transfer transfer.Lahf ∷ operations.Transfer transfer.Xlat ∷
    operations.Transfer transfer.In ∷ operations.Transfer transfer.Out ∷ operations.Control control.Jmp ∷
    operations.Control control.Call ∷ operations.Control control.Ret ∷ operations.Control control.JmpFar ∷
    operations.Control control.CallFar ∷ operations.Control control.Retf ∷ operations.Control control.Int3 ∷
    operations.Control control.Int ∷ operations.Control control.Into ∷ operations.Control control.Iret ∷
    operations.Processor processor.Hlt ∷ operations.Processor processor.Cmc ∷ operations.Processor processor.Clc ∷
    operations.Processor processor.Stc ∷ operations.Processor processor.Cli ∷ operations.Processor processor.Sti ∷
    operations.Processor processor.Cld ∷ operations.Processor processor.Std ∷ operations.Processor processor.Wait ∷
    operations.Processor processor.Esc ∷ []

place_of : Operation → ℕ
place_of (operations.Arithmetic arithmetic.Add) = 0
place_of (operations.Arithmetic arithmetic.Or) = 1
place_of (operations.Arithmetic arithmetic.Adc) = 2
place_of (operations.Arithmetic arithmetic.Sbb) = 3
place_of (operations.Arithmetic arithmetic.And) = 4
place_of (operations.Arithmetic arithmetic.Sub) = 5
place_of (operations.Arithmetic arithmetic.Xor) = 6
place_of (operations.Arithmetic arithmetic.Cmp) = 7
place_of (operations.Arithmetic arithmetic.Test) = 8
place_of (operations.Shift shift.Rol) = 9
place_of (operations.Shift shift.Ror) = 10
place_of (operations.Shift shift.Rcl) = 11
place_of (operations.Shift shift.Rcr) = 12
place_of (operations.Shift shift.Shl) = 13
place_of (operations.Shift shift.Shr) = 14
place_of (operations.Shift shift.Sar) = 15
place_of (operations.Product product.Mul) = 16
place_of (operations.Product product.Imul) = 17
place_of (operations.Product product.Div) = 18
place_of (operations.Product product.Idiv) = 19
place_of (operations.Unary unary.Inc) = 20
place_of (operations.Unary unary.Dec) = 21
place_of (operations.Unary unary.Not) = 22
place_of (operations.Unary unary.Neg) = 23
place_of (operations.Jump condition.Overflow) = 24
place_of (operations.Jump condition.NotOverflow) = 25
place_of (operations.Jump condition.Below) = 26
place_of (operations.Jump condition.NotBelow) = 27
place_of (operations.Jump condition.Zero) = 28
place_of (operations.Jump condition.NotZero) = 29
place_of (operations.Jump condition.BelowOrZero) = 30
place_of (operations.Jump condition.Above) = 31
place_of (operations.Jump condition.Sign) = 32
place_of (operations.Jump condition.NotSign) = 33
place_of (operations.Jump condition.Parity) = 34
place_of (operations.Jump condition.NotParity) = 35
place_of (operations.Jump condition.Less) = 36
place_of (operations.Jump condition.NotLess) = 37
place_of (operations.Jump condition.LessOrZero) = 38
place_of (operations.Jump condition.Greater) = 39
place_of (operations.Looping looping.Loopne) = 40
place_of (operations.Looping looping.Loope) = 41
place_of (operations.Looping looping.Loop) = 42
place_of (operations.Looping looping.Jcxz) = 43
place_of (operations.Strings strings.Movsb) = 44
place_of (operations.Strings strings.Movsw) = 45
place_of (operations.Strings strings.Cmpsb) = 46
place_of (operations.Strings strings.Cmpsw) = 47
place_of (operations.Strings strings.Stosb) = 48
place_of (operations.Strings strings.Stosw) = 49
place_of (operations.Strings strings.Lodsb) = 50
place_of (operations.Strings strings.Lodsw) = 51
place_of (operations.Strings strings.Scasb) = 52
place_of (operations.Strings strings.Scasw) = 53
place_of (operations.Adjust adjust.Daa) = 54
place_of (operations.Adjust adjust.Das) = 55
place_of (operations.Adjust adjust.Aaa) = 56
place_of (operations.Adjust adjust.Aas) = 57
place_of (operations.Adjust adjust.Aam) = 58
place_of (operations.Adjust adjust.Aad) = 59
place_of (operations.Adjust adjust.Cbw) = 60
place_of (operations.Adjust adjust.Cwd) = 61
place_of (operations.Transfer transfer.Mov) = 62
place_of (operations.Transfer transfer.Xchg) = 63
place_of (operations.Transfer transfer.Lea) = 64
place_of (operations.Transfer transfer.Les) = 65
place_of (operations.Transfer transfer.Lds) = 66
place_of (operations.Transfer transfer.Push) = 67
place_of (operations.Transfer transfer.Pop) = 68
place_of (operations.Transfer transfer.Pushf) = 69
place_of (operations.Transfer transfer.Popf) = 70
place_of (operations.Transfer transfer.Sahf) = 71
place_of (operations.Transfer transfer.Lahf) = 72
place_of (operations.Transfer transfer.Xlat) = 73
place_of (operations.Transfer transfer.In) = 74
place_of (operations.Transfer transfer.Out) = 75
place_of (operations.Control control.Jmp) = 76
place_of (operations.Control control.Call) = 77
place_of (operations.Control control.Ret) = 78
place_of (operations.Control control.JmpFar) = 79
place_of (operations.Control control.CallFar) = 80
place_of (operations.Control control.Retf) = 81
place_of (operations.Control control.Int3) = 82
place_of (operations.Control control.Int) = 83
place_of (operations.Control control.Into) = 84
place_of (operations.Control control.Iret) = 85
place_of (operations.Processor processor.Hlt) = 86
place_of (operations.Processor processor.Cmc) = 87
place_of (operations.Processor processor.Clc) = 88
place_of (operations.Processor processor.Stc) = 89
place_of (operations.Processor processor.Cli) = 90
place_of (operations.Processor processor.Sti) = 91
place_of (operations.Processor processor.Cld) = 92
place_of (operations.Processor processor.Std) = 93
place_of (operations.Processor processor.Wait) = 94
place_of (operations.Processor processor.Esc) = 95

stands_there : (x : Operation) → get_or all (place_of x) (operations.Arithmetic arithmetic.Add) ≡ x
unfolding place_of
stands_there (operations.Arithmetic arithmetic.Add) = refl
stands_there (operations.Arithmetic arithmetic.Or) = refl
stands_there (operations.Arithmetic arithmetic.Adc) = refl
stands_there (operations.Arithmetic arithmetic.Sbb) = refl
stands_there (operations.Arithmetic arithmetic.And) = refl
stands_there (operations.Arithmetic arithmetic.Sub) = refl
stands_there (operations.Arithmetic arithmetic.Xor) = refl
stands_there (operations.Arithmetic arithmetic.Cmp) = refl
stands_there (operations.Arithmetic arithmetic.Test) = refl
stands_there (operations.Shift shift.Rol) = refl
stands_there (operations.Shift shift.Ror) = refl
stands_there (operations.Shift shift.Rcl) = refl
stands_there (operations.Shift shift.Rcr) = refl
stands_there (operations.Shift shift.Shl) = refl
stands_there (operations.Shift shift.Shr) = refl
stands_there (operations.Shift shift.Sar) = refl
stands_there (operations.Product product.Mul) = refl
stands_there (operations.Product product.Imul) = refl
stands_there (operations.Product product.Div) = refl
stands_there (operations.Product product.Idiv) = refl
stands_there (operations.Unary unary.Inc) = refl
stands_there (operations.Unary unary.Dec) = refl
stands_there (operations.Unary unary.Not) = refl
stands_there (operations.Unary unary.Neg) = refl
stands_there (operations.Jump condition.Overflow) = refl
stands_there (operations.Jump condition.NotOverflow) = refl
stands_there (operations.Jump condition.Below) = refl
stands_there (operations.Jump condition.NotBelow) = refl
stands_there (operations.Jump condition.Zero) = refl
stands_there (operations.Jump condition.NotZero) = refl
stands_there (operations.Jump condition.BelowOrZero) = refl
stands_there (operations.Jump condition.Above) = refl
stands_there (operations.Jump condition.Sign) = refl
stands_there (operations.Jump condition.NotSign) = refl
stands_there (operations.Jump condition.Parity) = refl
stands_there (operations.Jump condition.NotParity) = refl
stands_there (operations.Jump condition.Less) = refl
stands_there (operations.Jump condition.NotLess) = refl
stands_there (operations.Jump condition.LessOrZero) = refl
stands_there (operations.Jump condition.Greater) = refl
stands_there (operations.Looping looping.Loopne) = refl
stands_there (operations.Looping looping.Loope) = refl
stands_there (operations.Looping looping.Loop) = refl
stands_there (operations.Looping looping.Jcxz) = refl
stands_there (operations.Strings strings.Movsb) = refl
stands_there (operations.Strings strings.Movsw) = refl
stands_there (operations.Strings strings.Cmpsb) = refl
stands_there (operations.Strings strings.Cmpsw) = refl
stands_there (operations.Strings strings.Stosb) = refl
stands_there (operations.Strings strings.Stosw) = refl
stands_there (operations.Strings strings.Lodsb) = refl
stands_there (operations.Strings strings.Lodsw) = refl
stands_there (operations.Strings strings.Scasb) = refl
stands_there (operations.Strings strings.Scasw) = refl
stands_there (operations.Adjust adjust.Daa) = refl
stands_there (operations.Adjust adjust.Das) = refl
stands_there (operations.Adjust adjust.Aaa) = refl
stands_there (operations.Adjust adjust.Aas) = refl
stands_there (operations.Adjust adjust.Aam) = refl
stands_there (operations.Adjust adjust.Aad) = refl
stands_there (operations.Adjust adjust.Cbw) = refl
stands_there (operations.Adjust adjust.Cwd) = refl
stands_there (operations.Transfer transfer.Mov) = refl
stands_there (operations.Transfer transfer.Xchg) = refl
stands_there (operations.Transfer transfer.Lea) = refl
stands_there (operations.Transfer transfer.Les) = refl
stands_there (operations.Transfer transfer.Lds) = refl
stands_there (operations.Transfer transfer.Push) = refl
stands_there (operations.Transfer transfer.Pop) = refl
stands_there (operations.Transfer transfer.Pushf) = refl
stands_there (operations.Transfer transfer.Popf) = refl
stands_there (operations.Transfer transfer.Sahf) = refl
stands_there (operations.Transfer transfer.Lahf) = refl
stands_there (operations.Transfer transfer.Xlat) = refl
stands_there (operations.Transfer transfer.In) = refl
stands_there (operations.Transfer transfer.Out) = refl
stands_there (operations.Control control.Jmp) = refl
stands_there (operations.Control control.Call) = refl
stands_there (operations.Control control.Ret) = refl
stands_there (operations.Control control.JmpFar) = refl
stands_there (operations.Control control.CallFar) = refl
stands_there (operations.Control control.Retf) = refl
stands_there (operations.Control control.Int3) = refl
stands_there (operations.Control control.Int) = refl
stands_there (operations.Control control.Into) = refl
stands_there (operations.Control control.Iret) = refl
stands_there (operations.Processor processor.Hlt) = refl
stands_there (operations.Processor processor.Cmc) = refl
stands_there (operations.Processor processor.Clc) = refl
stands_there (operations.Processor processor.Stc) = refl
stands_there (operations.Processor processor.Cli) = refl
stands_there (operations.Processor processor.Sti) = refl
stands_there (operations.Processor processor.Cld) = refl
stands_there (operations.Processor processor.Std) = refl
stands_there (operations.Processor processor.Wait) = refl
stands_there (operations.Processor processor.Esc) = refl

same_by : (x y : Operation) → place_of x ≡ place_of y → x ≡ y
same_by x y is = sym (stands_there x) ∙ ap (λ (n : ℕ). get_or all n (operations.Arithmetic arithmetic.Add)) is ∙ stands_there y

-- what passes for each operation in their order passes for any
passes_at : (p : Operation → Bool) (os : List Operation) (n : ℕ) (d : Operation) → list_all p os ≡ true → p d ≡ true → p (get_or os n d) ≡ true
passes_at p [] n d each here = here
passes_at p (o ∷ os) zero d each here = (and_parts (p o) (list_all p os) each).0
passes_at p (o ∷ os) (suc n) d each here = passes_at p os n d (and_parts (p o) (list_all p os) each).1 here

pub each_operation : (p : Operation → Bool) → list_all p all ≡ true → (x : Operation) → p x ≡ true
each_operation p passes x =
    let add : Operation = operations.Arithmetic arithmetic.Add in
    subst (λ (o : Operation). p o ≡ true) (stands_there x) (passes_at p all (place_of x) add passes (and_parts (p add) _ passes).0)

pub one_or_other : (x y : Operation) → (x ≡ y) ⊎ (x ≡ y → ⊥)
one_or_other x y = elim (cases_lt (place_of x) (place_of y)) [
  | inl below ↦ inr (λ is. let at : place_of x ≡ place_of y = ap place_of is in omega (arith, below, at))
  | inr not_below ↦ elim (cases_lt (place_of y) (place_of x)) [
    | inl above ↦ inr (λ is. let at : place_of x ≡ place_of y = ap place_of is in omega (arith, above, at))
    | inr not_above ↦ inl (same_by x y (omega (arith, not_below, not_above)))
  ]
]
