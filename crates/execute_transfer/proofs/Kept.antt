-- What memory writes and port reads keep, data transfer keeps, but for OUT, which keeps what port writes keep.
use Rattle.std.proofs.Common.{◌≢◌, ℕ, Bool, true, false, if◌then◌else◌, refl}
use Rattle.isa.specs.declared.operation.Transfer.{Transfer}
use Rattle.isa.specs.declared.operation.Transfer.TheVariants.{Mov, Xchg, Lea, Les, Lds, Push, Pop, Pushf, Popf, Sahf, Lahf, Xlat, In, Out}
use Rattle.isa.specs.declared.register.SegmentRegister.{SegmentRegister}
use Rattle.isa.specs.declared.form.Instr.{Instr}
use Rattle.isa.specs.Row.{first_of, second_of}
use Rattle.bus.specs.Bus.{BusMeaning}
use Rattle.execute_machine.specs.Locations.{Machine}
use Rattle.execute_machine.proofs.Kept.{Kept, kept_by_pop, kept_by_push, kept_by_put}
use Rattle.execute_transfer.specs.TransferMeaning.{after_byte_input, after_in, after_lea, after_mov, after_pointer_load}
use Rattle.execute_transfer.specs.TransferMeaning.{after_pop_operand, after_popf, after_push_operand, after_transfer}
use Rattle.execute_transfer.specs.TransferMeaning.{after_word_input, after_xchg, after_xlat, is_ax, port_of}

kept_by_pointer_load : {S : Type 0} (bus : BusMeaning S) (P : S → Type 0)
    → Kept bus P → (m : Machine S) (segment : SegmentRegister) (i : Instr) → P m.bus → P (after_pointer_load bus m segment i).bus
unfolding after_pointer_load
kept_by_pointer_load bus P kept m segment i holds = kept_by_put bus P kept _ _ _ (kept_by_put bus P kept m _ _ holds)

kept_by_pop_operand : {S : Type 0} (bus : BusMeaning S) (P : S → Type 0)
    → Kept bus P → (m : Machine S) (i : Instr) → P m.bus → P (after_pop_operand bus m i).bus
unfolding after_pop_operand
kept_by_pop_operand bus P kept m i holds = kept_by_put bus P kept _ _ _ (kept_by_pop P m 2 holds)

-- port reads keep the fact
abbrev pub InputsKeep : {S : Type 0} → BusMeaning S → (S → Type 0) → Type 0
InputsKeep {S} bus P = (s : S) (port : ℕ) → P s → P (bus.after_input s port)

kept_by_input : {S : Type 0} (bus : BusMeaning S) (P : S → Type 0) → InputsKeep bus P → (m : Machine S) (port : ℕ) (both : Bool) → P m.bus
    → P (if both then after_word_input bus m port else after_byte_input bus m port).bus
unfolding after_word_input after_byte_input
kept_by_input bus P inputs m port true holds = inputs _ _ (inputs _ _ holds)
kept_by_input bus P inputs m port false holds = inputs _ _ holds

pub kept_by_transfer : {S : Type 0} (bus : BusMeaning S) (P : S → Type 0) → Kept bus P → InputsKeep bus P
    → (m : Machine S) (operation : Transfer) (i : Instr) → operation ≢ Out → P m.bus → P (after_transfer bus m operation i).bus
unfolding after_transfer after_mov after_xchg after_lea after_push_operand after_popf after_xlat after_in
kept_by_transfer bus P kept inputs m Mov i other holds = kept_by_put bus P kept m _ _ holds
kept_by_transfer bus P kept inputs m Xchg i other holds = kept_by_put bus P kept _ _ _ (kept_by_put bus P kept m _ _ holds)
kept_by_transfer bus P kept inputs m Lea i other holds = kept_by_put bus P kept m _ _ holds
kept_by_transfer bus P kept inputs m Les i other holds = kept_by_pointer_load bus P kept m _ i holds
kept_by_transfer bus P kept inputs m Lds i other holds = kept_by_pointer_load bus P kept m _ i holds
kept_by_transfer bus P kept inputs m Push i other holds = kept_by_push bus P kept m _ holds
kept_by_transfer bus P kept inputs m Pop i other holds = kept_by_pop_operand bus P kept m i holds
kept_by_transfer bus P kept inputs m Pushf i other holds = kept_by_push bus P kept m _ holds
kept_by_transfer bus P kept inputs m Popf i other holds = kept_by_pop P m 2 holds
kept_by_transfer bus P kept inputs m Sahf i other holds = holds
kept_by_transfer bus P kept inputs m Lahf i other holds = holds
kept_by_transfer bus P kept inputs m Xlat i other holds = holds
kept_by_transfer bus P kept inputs m In i other holds =
    kept_by_input bus P inputs m (port_of (second_of i.form.row) m.registers.dx i.values.number) (is_ax (first_of i.form.row)) holds
kept_by_transfer bus P kept inputs m Out i other holds = absurd (other refl)
