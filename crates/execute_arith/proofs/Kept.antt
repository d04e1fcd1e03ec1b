-- What memory writes keep, arithmetic, logic, shifts, products and quotients keep.
use Rattle.std.proofs.Common.{ℕ, Option, Some, None}
use Rattle.isa.specs.declared.operation.Arithmetic.{Arithmetic}
use Rattle.isa.specs.declared.operation.Arithmetic.TheVariants.{Cmp, Test}
use Rattle.isa.specs.declared.operation.Unary.{Unary}
use Rattle.isa.specs.declared.form.Instr.{Instr}
use Rattle.isa.specs.declared.operation.Shift.{Shift}
use Rattle.isa.specs.declared.operation.Product.{Product}
use Rattle.isa.specs.declared.operation.Product.TheVariants.{Mul, Imul, Div, Idiv}
use Rattle.bus.specs.Bus.{BusMeaning}
use Rattle.execute_machine.specs.Locations.{Machine}
use Rattle.execute_machine.proofs.Kept.{Kept, kept_by_entry, kept_by_put}
use Rattle.execute_machine.specs.declared.width.Width.{Width}
use Rattle.execute_arith.specs.ArithmeticMeaning.{after_arithmetic, after_unary}
use Rattle.execute_arith.specs.Shifts.{after_shift}
use Rattle.execute_arith.specs.declared.numbers.Division.{Division}
use Rattle.execute_arith.specs.Products.{after_division, after_operation, after_product}

pub kept_by_arithmetic : {S : Type 0} (bus : BusMeaning S) (P : S → Type 0)
    → Kept bus P → (m : Machine S) (op : Arithmetic) (i : Instr) → P m.bus → P (after_arithmetic bus m op i).bus
unfolding after_arithmetic
kept_by_arithmetic bus P kept m Cmp i holds = holds
kept_by_arithmetic bus P kept m Test i holds = holds
kept_by_arithmetic bus P kept m op i holds = kept_by_put bus P kept _ _ _ holds

pub kept_by_unary : {S : Type 0} (bus : BusMeaning S) (P : S → Type 0)
    → Kept bus P → (m : Machine S) (op : Unary) (i : Instr) → P m.bus → P (after_unary bus m op i).bus
unfolding after_unary
kept_by_unary bus P kept m op i holds = kept_by_put bus P kept _ _ _ holds

pub kept_by_shift : {S : Type 0} (bus : BusMeaning S) (P : S → Type 0)
    → Kept bus P → (m : Machine S) (op : Shift) (i : Instr) → P m.bus → P (after_shift bus m op i).bus
unfolding after_shift
kept_by_shift bus P kept m op i holds = kept_by_put bus P kept _ _ _ holds

kept_by_division : {S : Type 0} (bus : BusMeaning S) (P : S → Type 0)
    → Kept bus P → (m : Machine S) (width : Width) (d : Option Division) → P m.bus → P (after_division bus m width d).bus
unfolding after_division
kept_by_division bus P kept m width None holds = kept_by_entry bus P kept m 0 holds
kept_by_division bus P kept m width (Some d) holds = holds

kept_by_operation : {S : Type 0} (bus : BusMeaning S) (P : S → Type 0)
    → Kept bus P → (m : Machine S) (op : Product) (width : Width) (operand : ℕ) → P m.bus → P (after_operation bus m op width operand).bus
unfolding after_operation
kept_by_operation bus P kept m Mul width operand holds = holds
kept_by_operation bus P kept m Imul width operand holds = holds
kept_by_operation bus P kept m Div width operand holds = kept_by_division bus P kept m width _ holds
kept_by_operation bus P kept m Idiv width operand holds = kept_by_division bus P kept m width _ holds

pub kept_by_product : {S : Type 0} (bus : BusMeaning S) (P : S → Type 0)
    → Kept bus P → (m : Machine S) (op : Product) (i : Instr) → P m.bus → P (after_product bus m op i).bus
unfolding after_product
kept_by_product bus P kept m op i holds = kept_by_operation bus P kept m op _ _ holds
