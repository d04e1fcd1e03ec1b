-- Over two buses in states that are related, arithmetic, logic, shifts, products and quotients do the same to the
-- registers and leave states that are related.
use Rattle.std.proofs.Common.{◌≡◌, ℕ, Option, Some, None, refl, sym, ap, subst}
use Rattle.isa.specs.declared.operation.Arithmetic.{Arithmetic}
use Rattle.isa.specs.declared.operation.Arithmetic.TheVariants.{Cmp, Test}
use Rattle.isa.specs.declared.operation.Unary.{Unary}
use Rattle.isa.specs.declared.operation.Shift.{Shift}
use Rattle.isa.specs.declared.operation.Product.{Product}
use Rattle.isa.specs.declared.operation.Product.TheVariants.{Mul, Imul, Div, Idiv}
use Rattle.isa.specs.declared.form.Instr.{Instr}
use Rattle.isa.specs.Row.{first_of, second_of}
use Rattle.bus.specs.Bus.{BusMeaning}
use Rattle.execute_machine.specs.RegisterFile.{Registers}
use Rattle.execute_machine.specs.FlagState.{FlagState}
use Rattle.execute_machine.specs.declared.width.Width.{Width}
use Rattle.execute_machine.specs.declared.location.OperandLocation.{OperandLocation}
use Rattle.execute_machine.specs.Locations.{Machine, machine, location_of, operand_at, width_at, with_value_at}
use Rattle.execute_machine.proofs.Related.{Alike, Same, both, same_by_entry, same_by_put, same_operand, same_value}
use Rattle.execute_arith.specs.ArithmeticMeaning.{after_arithmetic, after_unary, result_of, unary_result_of, with_flags, with_flags_of, with_unary_flags_of}
use Rattle.execute_arith.specs.declared.single.Shifted.{Shifted}
use Rattle.execute_arith.specs.Shifts.{after_shift, after_shifts, shifted_operand, with_shifted}
use Rattle.execute_arith.specs.declared.numbers.Division.{Division}
use Rattle.execute_arith.specs.Products.{after_division, after_operation, after_product, has_fault, has_no_quotient}

-- where the two operands of an instruction stand
abbrev first_at : Registers → Instr → OperandLocation
first_at r i = location_of r i (first_of i.form.row)

abbrev second_at : Registers → Instr → OperandLocation
second_at r i = location_of r i (second_of i.form.row)

-- what is made of two operands, over the flags that they leave
abbrev put_of : {S : Type 0} → BusMeaning S → Registers → S → OperandLocation → (ℕ → ℕ → FlagState) → (ℕ → ℕ → ℕ) → ℕ → ℕ → Machine S
put_of bus r s l flags result a b = with_value_at bus (with_flags (machine r s) (flags a b)) l (result a b)

same_flagged : {S T : Type 0} (R : S → T → Type 0) (r : Registers) (s : S) (t : T) (flags : ℕ → ℕ → FlagState) (a b c d : ℕ) → a ≡ c → b ≡ d → R s t
    → Same R (with_flags (machine r s) (flags c d)) (with_flags (machine r t) (flags a b))
same_flagged R r s t flags a b c d first second related = record {
  registers = both (λ x y. record r { flags = flags x y }) a b c d first second;
  bus = related;
}

same_put : {S T : Type 0} (bus : BusMeaning S) (other : BusMeaning T) (R : S → T → Type 0) → Alike bus other R
    → (r : Registers) (s : S) (t : T) (l : OperandLocation) (flags : ℕ → ℕ → FlagState) (result : ℕ → ℕ → ℕ) (a b c d : ℕ) → a ≡ c → b ≡ d → R s t
    → Same R (put_of bus r s l flags result c d) (put_of other r t l flags result a b)
same_put bus other R alike r s t l flags result a b c d first second related =
    same_by_put bus other R alike _ _ l _ _ (both result a b c d first second) (same_flagged R r s t flags a b c d first second related)

same_first : {S T : Type 0} (bus : BusMeaning S) (other : BusMeaning T) (R : S → T → Type 0)
    → Alike bus other R → (r : Registers) (s : S) (t : T) (i : Instr) → R s t
    → operand_at other (machine r t) (first_at r i) (width_at (first_at r i)) ≡ operand_at bus (machine r s) (first_at r i) (width_at (first_at r i))
same_first bus other R alike r s t i related = same_operand bus other R alike r s t (first_at r i) (width_at (first_at r i)) related

same_second : {S T : Type 0} (bus : BusMeaning S) (other : BusMeaning T) (R : S → T → Type 0)
    → Alike bus other R → (r : Registers) (s : S) (t : T) (i : Instr) → R s t
    → operand_at other (machine r t) (second_at r i) (width_at (first_at r i)) ≡ operand_at bus (machine r s) (second_at r i) (width_at (first_at r i))
same_second bus other R alike r s t i related = same_operand bus other R alike r s t (second_at r i) (width_at (first_at r i)) related

pub same_by_arithmetic : {S T : Type 0} (bus : BusMeaning S) (other : BusMeaning T) (R : S → T → Type 0)
    → Alike bus other R → (r : Registers) (s : S) (t : T) (op : Arithmetic) (i : Instr) → R s t
    → Same R (after_arithmetic bus (machine r s) op i) (after_arithmetic other (machine r t) op i)
unfolding after_arithmetic
same_by_arithmetic bus other R alike r s t Cmp i related =
    same_flagged R r s t (λ a b. with_flags_of Cmp r.flags (width_at (first_at r i)) a b) _ _ _ _
    (same_first bus other R alike r s t i related) (same_second bus other R alike r s t i related) related
same_by_arithmetic bus other R alike r s t Test i related =
    same_flagged R r s t (λ a b. with_flags_of Test r.flags (width_at (first_at r i)) a b) _ _ _ _
    (same_first bus other R alike r s t i related) (same_second bus other R alike r s t i related) related
same_by_arithmetic bus other R alike r s t op i related =
    same_put bus other R alike r s t (first_at r i) (λ a b. with_flags_of op r.flags (width_at (first_at r i)) a b)
    (λ a b. result_of op r.flags (width_at (first_at r i)) a b) _ _ _ _
    (same_first bus other R alike r s t i related) (same_second bus other R alike r s t i related) related

pub same_by_unary : {S T : Type 0} (bus : BusMeaning S) (other : BusMeaning T) (R : S → T → Type 0) → Alike bus other R
    → (r : Registers) (s : S) (t : T) (op : Unary) (i : Instr) → R s t → Same R (after_unary bus (machine r s) op i) (after_unary other (machine r t) op i)
unfolding after_unary
same_by_unary bus other R alike r s t op i related =
    same_put bus other R alike r s t (first_at r i) (λ a b. with_unary_flags_of op r.flags (width_at (first_at r i)) a)
    (λ a b. unary_result_of op (width_at (first_at r i)) a) _ 0 _ 0
    (same_first bus other R alike r s t i related) refl related

-- what a shift makes of an operand and a count
abbrev shifts_of : Registers → Shift → Width → ℕ → ℕ → Shifted
shifts_of r op width a count = after_shifts op width (shifted_operand r.flags a) count

pub same_by_shift : {S T : Type 0} (bus : BusMeaning S) (other : BusMeaning T) (R : S → T → Type 0) → Alike bus other R
    → (r : Registers) (s : S) (t : T) (op : Shift) (i : Instr) → R s t → Same R (after_shift bus (machine r s) op i) (after_shift other (machine r t) op i)
unfolding after_shift
same_by_shift bus other R alike r s t op i related =
    let width = width_at (first_at r i) in
    same_put bus other R alike r s t (first_at r i) (λ a count. with_shifted r.flags op width count (shifts_of r op width a count))
    (λ a count. (shifts_of r op width a count).value) _ _ _ _
    (same_first bus other R alike r s t i related) (same_value bus other R alike r s t (second_at r i) related) related

same_by_division : {S T : Type 0} (bus : BusMeaning S) (other : BusMeaning T) (R : S → T → Type 0)
    → Alike bus other R → (r : Registers) (s : S) (t : T) (width : Width) (d : Option Division) → R s t
    → Same R (after_division bus (machine r s) width d) (after_division other (machine r t) width d)
unfolding after_division
same_by_division bus other R alike r s t width None related =
    same_by_entry bus other R alike (machine r s) (machine r t) 0 0 refl (record { registers = refl; bus = related })
same_by_division bus other R alike r s t width (Some d) related = record { registers = refl; bus = related }

same_by_operation : {S T : Type 0} (bus : BusMeaning S) (other : BusMeaning T) (R : S → T → Type 0)
    → Alike bus other R → (r : Registers) (s : S) (t : T) (op : Product) (width : Width) (operand : ℕ) → R s t
    → Same R (after_operation bus (machine r s) op width operand) (after_operation other (machine r t) op width operand)
unfolding after_operation
same_by_operation bus other R alike r s t Mul width operand related = record { registers = refl; bus = related }
same_by_operation bus other R alike r s t Imul width operand related = record { registers = refl; bus = related }
same_by_operation bus other R alike r s t Div width operand related = same_by_division bus other R alike r s t width _ related
same_by_operation bus other R alike r s t Idiv width operand related = same_by_division bus other R alike r s t width _ related

pub same_by_product : {S T : Type 0} (bus : BusMeaning S) (other : BusMeaning T) (R : S → T → Type 0)
    → Alike bus other R → (r : Registers) (s : S) (t : T) (op : Product) (i : Instr) → R s t
    → Same R (after_product bus (machine r s) op i) (after_product other (machine r t) op i)
unfolding after_product
same_by_product bus other R alike r s t op i related =
    let width = width_at (first_at r i) in
    let operand = operand_at bus (machine r s) (first_at r i) width in
    subst (λ n. Same R (after_operation bus (machine r s) op width operand) (after_operation other (machine r t) op width n))
    (sym (same_first bus other R alike r s t i related))
    (same_by_operation bus other R alike r s t op width operand related)

-- a division lacks a quotient over both or over neither
pub same_fault : {S T : Type 0} (bus : BusMeaning S) (other : BusMeaning T) (R : S → T → Type 0) → Alike bus other R
    → (r : Registers) (s : S) (t : T) (op : Product) (i : Instr) → R s t → has_fault other (machine r t) op i ≡ has_fault bus (machine r s) op i
unfolding has_fault
same_fault bus other R alike r s t op i related = ap (λ n. has_no_quotient r op (width_at (first_at r i)) n) (same_first bus other R alike r s t i related)
