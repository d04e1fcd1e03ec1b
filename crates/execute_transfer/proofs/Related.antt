-- Over two buses in states that are related, data transfer does the same to the registers and leaves states that are
-- related, if the ports that it reaches are alike.
use Rattle.std.proofs.Common.{◌≡◌, ℕ, ◌+◌, ◌*◌, ◌%◌, Bool, true, false, if◌then◌else◌, refl, ap, List, [], ◌∷◌, All, arith}
use Rattle.std.proofs.lemmas.List.Elements.{All-tail}
use Rattle.board_types.specs.Address.{physical, offset_after}
use Rattle.isa.specs.declared.operation.Transfer.{Transfer}
use Rattle.isa.specs.declared.operation.Transfer.TheVariants.{Mov, Xchg, Lea, Les, Lds, Push, Pop, Pushf, Popf, Sahf, Lahf, Xlat, In, Out}
use Rattle.isa.specs.declared.register.SegmentRegister.{SegmentRegister}
use Rattle.isa.specs.declared.register.SegmentRegister.TheVariants.{Ds}
use Rattle.isa.specs.declared.register.ByteRegister.TheVariants.{Al}
use Rattle.isa.specs.declared.form.Instr.{Instr}
use Rattle.isa.specs.Row.{first_of, second_of}
use Rattle.bus.specs.Bus.{BusMeaning}
use Rattle.bus.specs.PortWriteBus.{after_port_writes}
use Rattle.execute_machine.specs.RegisterFile.{Registers}
use Rattle.execute_machine.specs.Registers.{with_byte_register}
use Rattle.execute_machine.specs.Flags.{popped_flags, pushed_word}
use Rattle.execute_machine.specs.declared.location.OperandLocation.{OperandLocation}
use Rattle.execute_machine.specs.Locations.{machine, segment_for}
use Rattle.execute_machine.specs.Stack.{after_pop, after_push}
use Rattle.execute_machine.proofs.Related.{Alike, Same, both, same_by_push, same_by_put, same_far_segment, same_top, same_value}
use Rattle.execute_transfer.specs.TransferMeaning.{after_byte_input, after_in, after_lea, after_mov, after_out, outputs_of, after_pointer_load}
use Rattle.execute_transfer.specs.TransferMeaning.{after_pop_operand, after_popf, after_push_operand, after_transfer, after_word_input}
use Rattle.execute_transfer.specs.TransferMeaning.{after_xchg, after_xlat, first_place, is_ax, is_sp, port_of, pushed_operand, second_place}

-- the ports that an IN reads: AX's high byte comes from the next port, which wraps
abbrev pub inputs_at : ℕ → Bool → List ℕ
inputs_at port true = port ∷ offset_after port 1 ∷ []
inputs_at port false = port ∷ []

unfoldable pub inputs_of : Registers → Instr → List ℕ
inputs_of r i = inputs_at (port_of (second_of i.form.row) r.dx i.values.number) (is_ax (first_of i.form.row))

-- IN alone reads ports
abbrev pub transfer_inputs : Registers → Transfer → Instr → List ℕ
transfer_inputs r In i = inputs_of r i
transfer_inputs r _ i = []

-- OUT alone writes to ports
abbrev pub transfer_outputs : Registers → Transfer → Instr → List (ℕ × ℕ)
transfer_outputs r Out i = outputs_of r i
transfer_outputs r _ i = []

-- some ports give the same in states that are related, which stay so when these ports are read, and when some are
-- written
pub record PortsAlike {S T : Type 0} (bus : BusMeaning S) (other : BusMeaning T) (reads writes : ℕ → Bool) (R : S → T → Type 0) : Type 0 where
  pub input : (s : S) (t : T) (port : ℕ) → reads port ≡ true → R s t → other.input t port ≡ bus.input s port
  pub read : (s : S) (t : T) (port : ℕ) → reads port ≡ true → R s t → R (bus.after_input s port) (other.after_input t port)
  pub write : (s : S) (t : T) (port byte : ℕ) → writes port ≡ true → R s t → R (bus.after_output s port byte) (other.after_output t port byte)

unchanged : {S T : Type 0} (R : S → T → Type 0) (r : Registers) (s : S) (t : T) → R s t → Same R (machine r s) (machine r t)
unchanged R r s t related = record { registers = refl; bus = related }

same_by_mov : {S T : Type 0} (bus : BusMeaning S) (other : BusMeaning T) (R : S → T → Type 0)
    → Alike bus other R → (r : Registers) (s : S) (t : T) (i : Instr) → R s t → Same R (after_mov bus (machine r s) i) (after_mov other (machine r t) i)
unfolding after_mov
same_by_mov bus other R alike r s t i related =
    same_by_put bus other R alike _ _ (first_place r i) _ _ (same_value bus other R alike r s t (second_place r i) related) (unchanged R r s t related)

same_by_xchg : {S T : Type 0} (bus : BusMeaning S) (other : BusMeaning T) (R : S → T → Type 0)
    → Alike bus other R → (r : Registers) (s : S) (t : T) (i : Instr) → R s t → Same R (after_xchg bus (machine r s) i) (after_xchg other (machine r t) i)
unfolding after_xchg
same_by_xchg bus other R alike r s t i related =
    same_by_put bus other R alike _ _ (second_place r i) _ _ (same_value bus other R alike r s t (first_place r i) related)
    (same_by_put bus other R alike _ _ (first_place r i) _ _ (same_value bus other R alike r s t (second_place r i) related) (unchanged R r s t related))

same_by_lea : {S T : Type 0} (bus : BusMeaning S) (other : BusMeaning T) (R : S → T → Type 0)
    → Alike bus other R → (r : Registers) (s : S) (t : T) (i : Instr) → R s t → Same R (after_lea bus (machine r s) i) (after_lea other (machine r t) i)
unfolding after_lea
same_by_lea bus other R alike r s t i related = same_by_put bus other R alike _ _ (first_place r i) _ _ refl (unchanged R r s t related)

same_by_pointer_load : {S T : Type 0} (bus : BusMeaning S) (other : BusMeaning T) (R : S → T → Type 0)
    → Alike bus other R → (r : Registers) (s : S) (t : T) (segment : SegmentRegister) (i : Instr) → R s t
    → Same R (after_pointer_load bus (machine r s) segment i) (after_pointer_load other (machine r t) segment i)
unfolding after_pointer_load
same_by_pointer_load bus other R alike r s t segment i related =
    same_by_put bus other R alike _ _ _ _ _ (same_far_segment bus other R alike s t (second_place r i) i related)
    (same_by_put bus other R alike _ _ (first_place r i) _ _ (same_value bus other R alike r s t (second_place r i) related) (unchanged R r s t related))

same_pushed : {S T : Type 0} (bus : BusMeaning S) (other : BusMeaning T) (R : S → T → Type 0) → Alike bus other R
    → (r : Registers) (s : S) (t : T) (l : OperandLocation) → R s t → pushed_operand other (machine r t) l ≡ pushed_operand bus (machine r s) l
same_pushed bus other R alike r s t l related = ap (λ n. if is_sp l then offset_after r.sp 65534 else n) (same_value bus other R alike r s t l related)

same_by_push_operand : {S T : Type 0} (bus : BusMeaning S) (other : BusMeaning T) (R : S → T → Type 0) → Alike bus other R
    → (r : Registers) (s : S) (t : T) (i : Instr) → R s t → Same R (after_push_operand bus (machine r s) i) (after_push_operand other (machine r t) i)
unfolding after_push_operand
same_by_push_operand bus other R alike r s t i related =
    same_by_push bus other R alike _ _ _ _ (same_pushed bus other R alike r s t (first_place r i) related) (unchanged R r s t related)

same_by_pop_operand : {S T : Type 0} (bus : BusMeaning S) (other : BusMeaning T) (R : S → T → Type 0) → Alike bus other R
    → (r : Registers) (s : S) (t : T) (i : Instr) → R s t → Same R (after_pop_operand bus (machine r s) i) (after_pop_operand other (machine r t) i)
unfolding after_pop_operand after_pop
same_by_pop_operand bus other R alike r s t i related =
    same_by_put bus other R alike _ _ (first_place r i) _ _ (same_top bus other R alike r s t related) (unchanged R _ s t related)

same_by_pushf : {S T : Type 0} (bus : BusMeaning S) (other : BusMeaning T) (R : S → T → Type 0) → Alike bus other R → (r : Registers) (s : S) (t : T)
    → R s t → Same R (after_push bus (machine r s) (pushed_word r.flags)) (after_push other (machine r t) (pushed_word r.flags))
same_by_pushf bus other R alike r s t related = same_by_push bus other R alike _ _ _ _ refl (unchanged R r s t related)

same_by_popf : {S T : Type 0} (bus : BusMeaning S) (other : BusMeaning T) (R : S → T → Type 0)
    → Alike bus other R → (r : Registers) (s : S) (t : T) → R s t → Same R (after_popf bus (machine r s)) (after_popf other (machine r t))
unfolding after_popf after_pop
same_by_popf bus other R alike r s t related = record {
  registers = ap (λ word. record r { sp = offset_after r.sp 2; flags = popped_flags word }) (same_top bus other R alike r s t related);
  bus = related;
}

same_by_xlat : {S T : Type 0} (bus : BusMeaning S) (other : BusMeaning T) (R : S → T → Type 0)
    → Alike bus other R → (r : Registers) (s : S) (t : T) (i : Instr) → R s t → Same R (after_xlat bus (machine r s) i) (after_xlat other (machine r t) i)
unfolding after_xlat
same_by_xlat bus other R alike r s t i related = record {
  registers = ap (λ byte. with_byte_register r Al byte) (alike.byte s t (physical (segment_for r i Ds) (offset_after r.bx (r.ax % 256))) related);
  bus = related;
}

same_by_input : {S T : Type 0} (bus : BusMeaning S) (other : BusMeaning T) (reads writes : ℕ → Bool) (R : S → T → Type 0)
    → PortsAlike bus other reads writes R → (r : Registers) (s : S) (t : T) (port : ℕ) (word : Bool) → R s t → All (λ p. reads p ≡ true) (inputs_at port word)
    → Same R (if word then after_word_input bus (machine r s) port else after_byte_input bus (machine r s) port)
    (if word then after_word_input other (machine r t) port else after_byte_input other (machine r t) port)
unfolding after_word_input after_byte_input
same_by_input bus other reads writes R ports r s t port false related may = record {
  registers = ap (λ byte. with_byte_register r Al byte) (ports.input s t port (may 0 0 (omega arith)) related);
  bus = ports.read s t port (may 0 0 (omega arith)) related;
}
same_by_input bus other reads writes R ports r s t port true related may =
    let read = ports.read s t port (may 0 0 (omega arith)) related in record {
      registers = both (λ low high. record r { ax = low + 256 * high }) _ _ _ _
          (ports.input s t port (may 0 0 (omega arith)) related) (ports.input _ _ (offset_after port 1) (may 1 0 (omega arith)) read);
      bus = ports.read _ _ (offset_after port 1) (may 1 0 (omega arith)) read;
    }

same_by_in : {S T : Type 0} (bus : BusMeaning S) (other : BusMeaning T) (reads writes : ℕ → Bool) (R : S → T → Type 0)
    → PortsAlike bus other reads writes R → (r : Registers) (s : S) (t : T) (i : Instr) → R s t → All (λ p. reads p ≡ true) (inputs_of r i)
    → Same R (after_in bus (machine r s) i) (after_in other (machine r t) i)
unfolding after_in inputs_of
same_by_in bus other reads writes R ports r s t i related may =
    same_by_input bus other reads writes R ports r s t (port_of (second_of i.form.row) r.dx i.values.number) (is_ax (first_of i.form.row)) related may

related_by_outputs : {S T : Type 0} (bus : BusMeaning S) (other : BusMeaning T) (reads writes : ℕ → Bool) (R : S → T → Type 0)
    → PortsAlike bus other reads writes R → (outputs : List (ℕ × ℕ)) (s : S) (t : T) → R s t → All (λ w. writes w.0 ≡ true) outputs
    → R (after_port_writes bus.after_output s outputs) (after_port_writes other.after_output t outputs)
related_by_outputs bus other reads writes R ports [] s t related may = related
related_by_outputs bus other reads writes R ports (w ∷ outputs) s t related may =
    related_by_outputs bus other reads writes R ports outputs _ _
    (ports.write s t w.0 w.1 (may 0 w (omega arith)) related) (All-tail (λ (x : ℕ × ℕ). writes x.0 ≡ true) w outputs may)

same_by_out : {S T : Type 0} (bus : BusMeaning S) (other : BusMeaning T) (reads writes : ℕ → Bool) (R : S → T → Type 0)
    → PortsAlike bus other reads writes R → (r : Registers) (s : S) (t : T) (i : Instr) → R s t → All (λ w. writes w.0 ≡ true) (outputs_of r i)
    → Same R (after_out bus (machine r s) i) (after_out other (machine r t) i)
unfolding after_out
same_by_out bus other reads writes R ports r s t i related may =
    record { registers = refl; bus = related_by_outputs bus other reads writes R ports (outputs_of r i) s t related may }

pub same_by_transfer : {S T : Type 0} (bus : BusMeaning S) (other : BusMeaning T) (reads writes : ℕ → Bool) (R : S → T → Type 0)
    → Alike bus other R → PortsAlike bus other reads writes R → (r : Registers) (s : S) (t : T) (operation : Transfer) (i : Instr)
    → All (λ p. reads p ≡ true) (transfer_inputs r operation i) → All (λ w. writes w.0 ≡ true) (transfer_outputs r operation i) → R s t
    → Same R (after_transfer bus (machine r s) operation i) (after_transfer other (machine r t) operation i)
unfolding after_transfer
same_by_transfer bus other reads writes R alike ports r s t Mov i read written related = same_by_mov bus other R alike r s t i related
same_by_transfer bus other reads writes R alike ports r s t Xchg i read written related = same_by_xchg bus other R alike r s t i related
same_by_transfer bus other reads writes R alike ports r s t Lea i read written related = same_by_lea bus other R alike r s t i related
same_by_transfer bus other reads writes R alike ports r s t Les i read written related = same_by_pointer_load bus other R alike r s t _ i related
same_by_transfer bus other reads writes R alike ports r s t Lds i read written related = same_by_pointer_load bus other R alike r s t _ i related
same_by_transfer bus other reads writes R alike ports r s t Push i read written related = same_by_push_operand bus other R alike r s t i related
same_by_transfer bus other reads writes R alike ports r s t Pop i read written related = same_by_pop_operand bus other R alike r s t i related
same_by_transfer bus other reads writes R alike ports r s t Pushf i read written related = same_by_pushf bus other R alike r s t related
same_by_transfer bus other reads writes R alike ports r s t Popf i read written related = same_by_popf bus other R alike r s t related
same_by_transfer bus other reads writes R alike ports r s t Sahf i read written related = unchanged R _ s t related
same_by_transfer bus other reads writes R alike ports r s t Lahf i read written related = unchanged R _ s t related
same_by_transfer bus other reads writes R alike ports r s t Xlat i read written related = same_by_xlat bus other R alike r s t i related
same_by_transfer bus other reads writes R alike ports r s t In i read written related = same_by_in bus other reads writes R ports r s t i related read
same_by_transfer bus other reads writes R alike ports r s t Out i read written related = same_by_out bus other reads writes R ports r s t i related written
