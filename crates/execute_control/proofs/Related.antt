-- Over two buses in states that are related, these instructions do the same to the registers and leave states that are
-- related: none of them reads or writes a port.
use Rattle.std.proofs.Common.{◌≡◌, ℕ, Bool, true, false, if◌then◌else◌, refl, sym, ap, subst}
use Rattle.bus.specs.Bus.{BusMeaning}
use Rattle.isa.specs.declared.operation.Control.{Control}
use Rattle.isa.specs.declared.operation.Control.TheVariants.{Jmp, Call, Ret, JmpFar, CallFar, Retf, Int3, Int, Into, Iret}
use Rattle.isa.specs.declared.form.Instr.{Instr}
use Rattle.isa.specs.Row.{first_of}
use Rattle.execute_machine.specs.RegisterFile.{Registers}
use Rattle.execute_machine.specs.declared.width.Width.TheVariants.{Byte}
use Rattle.execute_machine.specs.Flags.{popped_flags}
use Rattle.execute_machine.specs.Locations.{Machine, machine, location_of}
use Rattle.execute_machine.specs.Stack.{after_entry, after_pop, top_word}
use Rattle.execute_machine.proofs.Related.{Alike, Same, same_by_entry, same_by_push, same_far_segment, same_operand, same_top, same_value}
use Rattle.execute_control.specs.ControlMeaning.{after_call, after_control, after_far_pop, after_interrupt_return, after_ip_pop, after_return}
use Rattle.execute_control.specs.ControlMeaning.{control_operand, control_segment, is_relative, near_target, relative_target, with_cs_ip, with_ip}

unchanged : {S T : Type 0} (R : S → T → Type 0) (r : Registers) (s : S) (t : T) → R s t → Same R (machine r s) (machine r t)
unchanged R r s t related = record { registers = refl; bus = related }

-- what an instruction reads of its operand

same_control_operand : {S T : Type 0} (bus : BusMeaning S) (other : BusMeaning T) (R : S → T → Type 0)
    → Alike bus other R → (r : Registers) (s : S) (t : T) (i : Instr) → R s t → control_operand other (machine r t) i ≡ control_operand bus (machine r s) i
same_control_operand bus other R alike r s t i related = same_value bus other R alike r s t (location_of r i (first_of i.form.row)) related

same_control_segment : {S T : Type 0} (bus : BusMeaning S) (other : BusMeaning T) (R : S → T → Type 0)
    → Alike bus other R → (r : Registers) (s : S) (t : T) (i : Instr) → R s t → control_segment other (machine r t) i ≡ control_segment bus (machine r s) i
same_control_segment bus other R alike r s t i related = same_far_segment bus other R alike s t (location_of r i (first_of i.form.row)) i related

same_near_target : {S T : Type 0} (bus : BusMeaning S) (other : BusMeaning T) (R : S → T → Type 0)
    → Alike bus other R → (r : Registers) (s : S) (t : T) (i : Instr) → R s t → near_target other (machine r t) i ≡ near_target bus (machine r s) i
unfolding near_target
same_near_target bus other R alike r s t i related =
    ap (λ n. if is_relative (first_of i.form.row) then relative_target r i else n) (same_control_operand bus other R alike r s t i related)

-- machines that are the same, from a target on

same_with_ip : {S T : Type 0} (R : S → T → Type 0) (m : Machine S) (n : Machine T) (a b : ℕ) → b ≡ a → Same R m n → Same R (with_ip m a) (with_ip n b)
same_with_ip R m n a b target same = record { registers = let registers = same.registers in cc; bus = same.bus }

same_with_cs_ip : {S T : Type 0} (R : S → T → Type 0) (m : Machine S) (n : Machine T) (a b c d : ℕ)
    → b ≡ a → d ≡ c → Same R m n → Same R (with_cs_ip m a c) (with_cs_ip n b d)
same_with_cs_ip R m n a b c d segment target same = record { registers = let registers = same.registers in cc; bus = same.bus }

same_by_pop : {S T : Type 0} (R : S → T → Type 0) (m : Machine S) (n : Machine T) (a b : ℕ) → b ≡ a → Same R m n → Same R (after_pop m a) (after_pop n b)
unfolding after_pop
same_by_pop R m n a b bytes same = record { registers = let registers = same.registers in cc; bus = same.bus }

-- what is popped

same_top_of : {S T : Type 0} (bus : BusMeaning S) (other : BusMeaning T) (R : S → T → Type 0)
    → Alike bus other R → (m : Machine S) (n : Machine T) → Same R m n → top_word other n ≡ top_word bus m
same_top_of bus other R alike m n same =
    subst (λ (r : Registers). top_word other (machine r n.bus) ≡ top_word bus m)
    (sym same.registers) (same_top bus other R alike m.registers m.bus n.bus same.bus)

same_by_ip_pop : {S T : Type 0} (bus : BusMeaning S) (other : BusMeaning T) (R : S → T → Type 0)
    → Alike bus other R → (m : Machine S) (n : Machine T) → Same R m n → Same R (after_ip_pop bus m) (after_ip_pop other n)
unfolding after_ip_pop
same_by_ip_pop bus other R alike m n same = same_by_pop R _ _ 2 2 refl (same_with_ip R m n _ _ (same_top_of bus other R alike m n same) same)

same_with_cs : {S T : Type 0} (R : S → T → Type 0) (m : Machine S) (n : Machine T) (a b : ℕ) → b ≡ a → Same R m n
    → Same R (machine (record m.registers { cs = a }) m.bus) (machine (record n.registers { cs = b }) n.bus)
same_with_cs R m n a b segment same = record { registers = let registers = same.registers in cc; bus = same.bus }

same_with_popped : {S T : Type 0} (R : S → T → Type 0) (m : Machine S) (n : Machine T) (a b : ℕ) → b ≡ a → Same R m n
    → Same R (machine (record m.registers { flags = popped_flags a }) m.bus) (machine (record n.registers { flags = popped_flags b }) n.bus)
same_with_popped R m n a b word same = record { registers = let registers = same.registers in cc; bus = same.bus }

same_by_far_pop : {S T : Type 0} (bus : BusMeaning S) (other : BusMeaning T) (R : S → T → Type 0)
    → Alike bus other R → (m : Machine S) (n : Machine T) → Same R m n → Same R (after_far_pop bus m) (after_far_pop other n)
unfolding after_far_pop
same_by_far_pop bus other R alike m n same =
    let popped = same_by_ip_pop bus other R alike m n same in
    same_by_pop R _ _ 2 2 refl (same_with_cs R _ _ _ _ (same_top_of bus other R alike _ _ popped) popped)

same_by_interrupt_return : {S T : Type 0} (bus : BusMeaning S) (other : BusMeaning T) (R : S → T → Type 0)
    → Alike bus other R → (m : Machine S) (n : Machine T) → Same R m n → Same R (after_interrupt_return bus m) (after_interrupt_return other n)
unfolding after_interrupt_return
same_by_interrupt_return bus other R alike m n same =
    let popped = same_by_far_pop bus other R alike m n same in
    same_by_pop R _ _ 2 2 refl (same_with_popped R _ _ _ _ (same_top_of bus other R alike _ _ popped) popped)

-- each instruction

same_by_call : {S T : Type 0} (bus : BusMeaning S) (other : BusMeaning T) (R : S → T → Type 0)
    → Alike bus other R → (r : Registers) (s : S) (t : T) (i : Instr) → R s t → Same R (after_call bus (machine r s) i) (after_call other (machine r t) i)
unfolding after_call
same_by_call bus other R alike r s t i related =
    same_with_ip R _ _ _ _ (same_near_target bus other R alike r s t i related)
    (same_by_push bus other R alike (machine r s) (machine r t) _ _ refl (unchanged R r s t related))

same_by_far_call : {S T : Type 0} (bus : BusMeaning S) (other : BusMeaning T) (R : S → T → Type 0) → Alike bus other R
    → (r : Registers) (s : S) (t : T) (i : Instr) → R s t → Same R (after_control bus (machine r s) CallFar i) (after_control other (machine r t) CallFar i)
unfolding after_control
same_by_far_call bus other R alike r s t i related =
    same_with_cs_ip R _ _ _ _ _ _ (same_control_segment bus other R alike r s t i related) (same_control_operand bus other R alike r s t i related)
    (same_by_push bus other R alike _ _ _ _ refl (same_by_push bus other R alike (machine r s) (machine r t) _ _ refl (unchanged R r s t related)))

same_by_int : {S T : Type 0} (bus : BusMeaning S) (other : BusMeaning T) (R : S → T → Type 0) → Alike bus other R
    → (r : Registers) (s : S) (t : T) (i : Instr) → R s t → Same R (after_control bus (machine r s) Int i) (after_control other (machine r t) Int i)
unfolding after_control
same_by_int bus other R alike r s t i related =
    same_by_entry bus other R alike (machine r s) (machine r t) _ _
    (same_operand bus other R alike r s t (location_of r i (first_of i.form.row)) Byte related) (unchanged R r s t related)

same_if : {S T : Type 0} (bus : BusMeaning S) (other : BusMeaning T) (R : S → T → Type 0)
    → Alike bus other R → (r : Registers) (s : S) (t : T) (kind : ℕ) (taken : Bool) → R s t
    → Same R (if taken then after_entry bus (machine r s) kind else machine r s) (if taken then after_entry other (machine r t) kind else machine r t)
same_if bus other R alike r s t kind true related = same_by_entry bus other R alike (machine r s) (machine r t) kind kind refl (unchanged R r s t related)
same_if bus other R alike r s t kind false related = unchanged R r s t related

pub same_by_control : {S T : Type 0} (bus : BusMeaning S) (other : BusMeaning T) (R : S → T → Type 0)
    → Alike bus other R → (r : Registers) (s : S) (t : T) (control : Control) (i : Instr) → R s t
    → Same R (after_control bus (machine r s) control i) (after_control other (machine r t) control i)
unfolding after_control after_return
same_by_control bus other R alike r s t Jmp i related =
    same_with_ip R (machine r s) (machine r t) _ _ (same_near_target bus other R alike r s t i related) (unchanged R r s t related)
same_by_control bus other R alike r s t Call i related = same_by_call bus other R alike r s t i related
same_by_control bus other R alike r s t Ret i related =
    same_by_pop R _ _ _ _ (same_control_operand bus other R alike r s t i related)
    (same_by_ip_pop bus other R alike (machine r s) (machine r t) (unchanged R r s t related))
same_by_control bus other R alike r s t JmpFar i related =
    same_with_cs_ip R (machine r s) (machine r t) _ _ _ _ (same_control_segment bus other R alike r s t i related)
    (same_control_operand bus other R alike r s t i related) (unchanged R r s t related)
same_by_control bus other R alike r s t CallFar i related = same_by_far_call bus other R alike r s t i related
same_by_control bus other R alike r s t Retf i related =
    same_by_pop R _ _ _ _ (same_control_operand bus other R alike r s t i related)
    (same_by_far_pop bus other R alike (machine r s) (machine r t) (unchanged R r s t related))
same_by_control bus other R alike r s t Int3 i related = same_by_entry bus other R alike (machine r s) (machine r t) 3 3 refl (unchanged R r s t related)
same_by_control bus other R alike r s t Int i related = same_by_int bus other R alike r s t i related
same_by_control bus other R alike r s t Into i related = same_if bus other R alike r s t 4 r.flags.overflow related
same_by_control bus other R alike r s t Iret i related = same_by_interrupt_return bus other R alike (machine r s) (machine r t) (unchanged R r s t related)
