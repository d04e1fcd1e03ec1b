-- What memory writes keep, these instructions keep: none of them reads or writes a port.
use Rattle.std.proofs.Common.{ℕ, Bool, true, false, if◌then◌else◌}
use Rattle.bus.specs.Bus.{BusMeaning}
use Rattle.isa.specs.declared.operation.Control.{Control}
use Rattle.isa.specs.declared.operation.Control.TheVariants.{Jmp, Call, Ret, JmpFar, CallFar, Retf, Int3, Int, Into, Iret}
use Rattle.isa.specs.declared.form.Instr.{Instr}
use Rattle.execute_machine.specs.Locations.{Machine}
use Rattle.execute_machine.specs.Stack.{after_pop, after_entry}
use Rattle.execute_machine.proofs.Kept.{Kept, kept_by_push, kept_by_entry}
use Rattle.execute_control.specs.ControlMeaning.{after_call, after_control, after_far_pop, after_interrupt_return, after_ip_pop, after_return}

kept_if : {S : Type 0} (bus : BusMeaning S) (P : S → Type 0) → Kept bus P → (m : Machine S) (kind : ℕ) (taken : Bool) → P m.bus
    → P (if taken then after_entry bus m kind else m).bus
kept_if bus P kept m kind true holds = kept_by_entry bus P kept m kind holds
kept_if bus P kept m kind false holds = holds

kept_by_far_pop : {S : Type 0} (bus : BusMeaning S) (P : S → Type 0) (m : Machine S) → P m.bus → P (after_far_pop bus m).bus
unfolding after_far_pop after_ip_pop after_pop
kept_by_far_pop bus P m holds = holds

pub kept_by_control : {S : Type 0} (bus : BusMeaning S) (P : S → Type 0)
    → Kept bus P → (m : Machine S) (control : Control) (i : Instr) → P m.bus → P (after_control bus m control i).bus
unfolding after_control after_call after_return after_interrupt_return after_ip_pop after_pop
kept_by_control bus P kept m Jmp i holds = holds
kept_by_control bus P kept m Call i holds = kept_by_push bus P kept m _ holds
kept_by_control bus P kept m Ret i holds = holds
kept_by_control bus P kept m JmpFar i holds = holds
kept_by_control bus P kept m CallFar i holds = kept_by_push bus P kept _ _ (kept_by_push bus P kept m _ holds)
kept_by_control bus P kept m Retf i holds = kept_by_far_pop bus P m holds
kept_by_control bus P kept m Int3 i holds = kept_by_entry bus P kept m 3 holds
kept_by_control bus P kept m Int i holds = kept_by_entry bus P kept m _ holds
kept_by_control bus P kept m Into i holds = kept_if bus P kept m 4 m.registers.flags.overflow holds
kept_by_control bus P kept m Iret i holds = kept_by_far_pop bus P m holds
