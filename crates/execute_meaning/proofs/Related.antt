-- Over two buses in states that are related, a step, the next iteration of a repeat and an entry do the same to the
-- processor, take as many clocks, and leave states that are related.
use Rattle.std.proofs.Common.{◌≡◌, ℕ, Bool, true, false, List, [], All, subst, ◌%◌, if◌then◌else◌, Option, Some, None, refl, sym, ap, ◌∙◌, arith}
use Rattle.std.specs.Prelude.{◌==◌}
use Rattle.board_types.specs.declared.choice.ClockTable.{ClockTable}
use Rattle.board_types.specs.declared.choice.ClockTable.TheVariants.{C1}
use Rattle.isa.specs.declared.operation.Operation.{Operation}
use Rattle.isa.specs.declared.operation.Operation.TheVariants as operations
use Rattle.isa.specs.declared.operation.Strings.{Strings}
use Rattle.isa.specs.declared.form.Instr.{Instr}
use Rattle.isa.specs.declared.operation.Transfer.TheVariants.{In}
use Rattle.isa.specs.Row.{first_of, operation_of, second_of}
use Rattle.isa.specs.Clocks.{is_repeated}
use Rattle.isa.specs.WordCounts.{clocks_in}
use Rattle.decode.specs.declared.decoding.Decoding.{Decoding as Decoded}
use Rattle.decode.specs.declared.decoding.Decoding.TheVariants.{Found, NoRow}
use Rattle.bus.specs.Bus.{BusMeaning}
use Rattle.execute_machine.specs.RegisterFile.{Registers}
use Rattle.execute_machine.specs.Locations.{machine}
use Rattle.execute_strings.specs.StringMeaning.{goes_on, source_segment}
use Rattle.execute_meaning.specs.declared.boundary.Cause.{Cause}
use Rattle.execute_meaning.specs.declared.repeating.Repeating.{Repeating}
use Rattle.execute_meaning.specs.declared.shadow.Shadow.TheVariants.{Nothing}
use Rattle.board_types.specs.declared.state.State.TheVariants.{Running}
use Rattle.execute_meaning.specs.Boundaries.{after_enter, still_due}
use Rattle.execute_meaning.specs.Cpu.{CpuState}
use Rattle.execute_meaning.specs.Meaning.{StepResult, after_again, after_again_of, after_begun, after_fetch, after_found}
use Rattle.execute_meaning.specs.Meaning.{after_iterating, after_operation, after_repeat, after_step, after_whole, is_taken}
use Rattle.execute_meaning.specs.Meaning.{lacks_quotient, shadow_of, repeating_of, state_after, with_end, with_repeat}
use Rattle.execute_machine.proofs.Related.{Alike, Same, same_by_entry}
use Rattle.execute_arith.proofs.Related.{same_by_arithmetic, same_by_product, same_by_shift, same_by_unary, same_fault}
use Rattle.execute_strings.proofs.Related.{same_by_element, same_by_iteration}
use Rattle.execute_transfer.specs.TransferMeaning.{after_byte_input, after_in, after_transfer, after_word_input, is_ax, port_of}
use Rattle.execute_transfer.proofs.Related.{PortsAlike, inputs_at, inputs_of, same_by_transfer, transfer_inputs}
use Rattle.execute_control.proofs.Related.{same_by_control}
use Rattle.execute_meaning.specs.PortReads.{port_reads_of, reading_bus}
use Rattle.execute_meaning.specs.PortWrites.{port_writes_of}
use Rattle.execute_meaning.proofs.Writes.{fetched, operation_writes, writes_of}

-- two accounts of one step
pub record SameStep {S T : Type 0} (R : S → T → Type 0) (a : StepResult S) (b : StepResult T) : Type 0 where
  pub cpu : b.cpu ≡ a.cpu
  pub bus : R a.bus b.bus
  pub clocks : b.clocks ≡ a.clocks

unchanged : {S T : Type 0} (R : S → T → Type 0) (r : Registers) (s : S) (t : T) → R s t → Same R (machine r s) (machine r t)
unchanged R r s t related = record { registers = refl; bus = related }

-- the ports that an operation reads
abbrev operation_inputs : Registers → Operation → Instr → List ℕ
operation_inputs r (operations.Transfer operation) i = transfer_inputs r operation i
operation_inputs r _ i = []

same_by_operation : {S T : Type 0} (bus : BusMeaning S) (other : BusMeaning T) (reads writes : ℕ → Bool) (R : S → T → Type 0)
    → Alike bus other R → PortsAlike bus other reads writes R → (r : Registers) (s : S) (t : T) (op : Operation) (i : Instr)
    → All (λ p. reads p ≡ true) (operation_inputs r op i) → All (λ w. writes w.0 ≡ true) (operation_writes r op i) → R s t
    → Same R (after_operation bus (machine r s) op i) (after_operation other (machine r t) op i)
unfolding after_operation
same_by_operation bus other reads writes R alike ports r s t (operations.Arithmetic op) i read written related =
    same_by_arithmetic bus other R alike r s t op i related
same_by_operation bus other reads writes R alike ports r s t (operations.Shift op) i read written related = same_by_shift bus other R alike r s t op i related
same_by_operation bus other reads writes R alike ports r s t (operations.Product op) i read written related =
    same_by_product bus other R alike r s t op i related
same_by_operation bus other reads writes R alike ports r s t (operations.Unary op) i read written related = same_by_unary bus other R alike r s t op i related
same_by_operation bus other reads writes R alike ports r s t (operations.Jump _) i read written related = unchanged R _ s t related
same_by_operation bus other reads writes R alike ports r s t (operations.Looping _) i read written related = unchanged R _ s t related
same_by_operation bus other reads writes R alike ports r s t (operations.Strings op) i read written related =
    same_by_element bus other R alike r s t op (source_segment i) related
same_by_operation bus other reads writes R alike ports r s t (operations.Adjust _) i read written related = unchanged R _ s t related
same_by_operation bus other reads writes R alike ports r s t (operations.Transfer op) i read written related =
    same_by_transfer bus other reads writes R alike ports r s t op i read written related
same_by_operation bus other reads writes R alike ports r s t (operations.Control op) i read written related =
    same_by_control bus other R alike r s t op i related
same_by_operation bus other reads writes R alike ports r s t (operations.Processor _) i read written related = unchanged R _ s t related

same_lack : {S T : Type 0} (bus : BusMeaning S) (other : BusMeaning T) (R : S → T → Type 0) → Alike bus other R
    → (r : Registers) (s : S) (t : T) (op : Operation) (i : Instr) → R s t → lacks_quotient other (machine r t) op i ≡ lacks_quotient bus (machine r s) op i
unfolding lacks_quotient
same_lack bus other R alike r s t (operations.Product op) i related = same_fault bus other R alike r s t op i related
same_lack bus other R alike r s t op i related = refl

same_by_whole : {S T : Type 0} (bus : BusMeaning S) (other : BusMeaning T) (table : ClockTable) (reads writes : ℕ → Bool) (R : S → T → Type 0)
    → Alike bus other R → PortsAlike bus other reads writes R → (p : CpuState) (s : S) (t : T) (op : Operation) (i : Instr)
    → All (λ p. reads p ≡ true) (operation_inputs p.registers op i) → All (λ w. writes w.0 ≡ true) (operation_writes p.registers op i) → R s t
    → SameStep R (after_whole bus table p s op i) (after_whole other table p t op i)
unfolding after_whole
same_by_whole bus other table reads writes R alike ports p s t op i read written related =
    let same = same_by_operation bus other reads writes R alike ports p.registers s t op i read written related in record {
      cpu = ap (λ (r : Registers). with_end p r (state_after p.state op) (shadow_of op (first_of i.form.row))) same.registers;
      bus = same.bus;
      clocks =
          ap (λ fault.
          clocks_in table i (record { taken = is_taken p.registers op; cl = p.registers.cx % 256; first_step = true; cx_zero = false; fault = fault }))
          (same_lack bus other R alike p.registers s t op i related);
    }

same_by_iterating : {S T : Type 0} (bus : BusMeaning S) (other : BusMeaning T) (R : S → T → Type 0)
    → Alike bus other R → (p : CpuState) (s : S) (t : T) (q : Repeating) (clocks : ℕ) → R s t
    → SameStep R (after_iterating bus p s q clocks) (after_iterating other p t q clocks)
unfolding after_iterating
same_by_iterating bus other R alike p s t q clocks related =
    let same = same_by_iteration bus other R alike p.registers s t q.operation q.segment related in record {
      cpu = ap (λ (r : Registers). if goes_on r q.operation q.repeat then with_repeat p r q else with_end p r p.state Nothing) same.registers;
      bus = same.bus;
      clocks = refl;
    }

same_if : {S T : Type 0} (R : S → T → Type 0) (b : Bool) (w x : StepResult S) (y z : StepResult T)
    → SameStep R w y → SameStep R x z → SameStep R (if b then w else x) (if b then y else z)
same_if R true w x y z first second = first
same_if R false w x y z first second = second

same_by_repeat : {S T : Type 0} (bus : BusMeaning S) (other : BusMeaning T) (table : ClockTable) (R : S → T → Type 0)
    → Alike bus other R → (p : CpuState) (s : S) (t : T) (operation : Strings) (i : Instr) → R s t
    → SameStep R (after_repeat bus table p s operation i) (after_repeat other table p t operation i)
unfolding after_repeat
same_by_repeat bus other table R alike p s t operation i related =
    same_if R (p.registers.cx == 0) _ _ _ _ (record { cpu = refl; bus = related; clocks = refl })
    (same_by_iterating bus other R alike p s t (repeating_of table operation i) _ related)

same_by_begun : {S T : Type 0} (bus : BusMeaning S) (other : BusMeaning T) (table : ClockTable) (reads writes : ℕ → Bool) (R : S → T → Type 0)
    → Alike bus other R → PortsAlike bus other reads writes R → (p : CpuState) (s : S) (t : T) (op : Operation) (i : Instr)
    → All (λ p. reads p ≡ true) (operation_inputs p.registers op i) → All (λ w. writes w.0 ≡ true) (operation_writes p.registers op i) → R s t
    → SameStep R (after_begun bus table p s op i) (after_begun other table p t op i)
same_by_begun bus other table reads writes R alike ports p s t (operations.Strings operation) i read written related =
    same_if R (is_repeated i) _ _ _ _ (same_by_repeat bus other table R alike p s t operation i related)
    (same_by_whole bus other table reads writes R alike ports p s t (operations.Strings operation) i read written related)
same_by_begun bus other table reads writes R alike ports p s t op i read written related =
    same_by_whole bus other table reads writes R alike ports p s t op i read written related

-- the ports that a step reads and those that it writes are its operation's

noted : (r : Registers) (port : ℕ) (word : Bool)
    → (if word then after_word_input reading_bus (machine r []) port else after_byte_input reading_bus (machine r []) port).bus ≡ inputs_at port word
unfolding after_word_input after_byte_input
noted r port true = refl
noted r port false = refl

noted_by_in : (p : CpuState) (i : Instr) → (after_begun reading_bus C1 p [] (operations.Transfer In) i).bus ≡ inputs_of p.registers i
unfolding after_whole after_operation after_transfer after_in inputs_of
noted_by_in p i = noted p.registers (port_of (second_of i.form.row) p.registers.dx i.values.number) (is_ax (first_of i.form.row))

inputs_are : (reads : ℕ → Bool) (p : CpuState) (op : Operation) (i : Instr) → All (λ port. reads port ≡ true) (after_begun reading_bus C1 p [] op i).bus
    → All (λ port. reads port ≡ true) (operation_inputs p.registers op i)
inputs_are reads p (operations.Transfer In) i read = subst (λ (l : List ℕ). All (λ port. reads port ≡ true) l) (noted_by_in p i) read
inputs_are reads p op i read = λ k d within. absurd (omega arith)

outputs_are : (writes : ℕ → Bool) (p : CpuState) (i : Instr) (size : ℕ) → All (λ w. writes w.0 ≡ true) (port_writes_of p (Found i size))
    → All (λ w. writes w.0 ≡ true) (operation_writes (after_fetch p size).registers (operation_of i.form.row) i)
outputs_are writes p i size written =
    subst (λ (l : List (ℕ × ℕ)). All (λ w. writes w.0 ≡ true) l) (writes_of p (Found i size) ∙ sym (fetched p size (operation_of i.form.row) i)) written

same_by_found : {S T : Type 0} (bus : BusMeaning S) (other : BusMeaning T) (table : ClockTable) (reads writes : ℕ → Bool) (R : S → T → Type 0)
    → Alike bus other R → PortsAlike bus other reads writes R → (p : CpuState) (s : S) (t : T) (i : Instr) (size : ℕ)
    → All (λ port. reads port ≡ true) (after_found reading_bus C1 p [] i size).bus → All (λ w. writes w.0 ≡ true) (port_writes_of p (Found i size)) → R s t
    → SameStep R (after_found bus table p s i size) (after_found other table p t i size)
unfolding after_found
same_by_found bus other table reads writes R alike ports p s t i size read written related =
    same_by_begun bus other table reads writes R alike ports (after_fetch p size) s t (operation_of i.form.row) i
    (inputs_are reads (after_fetch p size) (operation_of i.form.row) i read) (outputs_are writes p i size written) related

pub same_by_step : {S T : Type 0} (bus : BusMeaning S) (other : BusMeaning T) (table : ClockTable) (reads writes : ℕ → Bool) (R : S → T → Type 0)
    → Alike bus other R → PortsAlike bus other reads writes R → (p : CpuState) (s : S) (t : T) (decoded : Decoded)
    → All (λ port. reads port ≡ true) (port_reads_of p decoded) → All (λ w. writes w.0 ≡ true) (port_writes_of p decoded) → R s t
    → SameStep R (after_step bus table p s decoded) (after_step other table p t decoded)
unfolding after_step port_reads_of
same_by_step bus other table reads writes R alike ports p s t NoRow read written related = record { cpu = refl; bus = related; clocks = refl }
same_by_step bus other table reads writes R alike ports p s t (Found i size) read written related =
    same_by_found bus other table reads writes R alike ports p s t i size read written related

same_by_again_of : {S T : Type 0} (bus : BusMeaning S) (other : BusMeaning T) (R : S → T → Type 0)
    → Alike bus other R → (p : CpuState) (s : S) (t : T) (repeat : Option Repeating) → R s t
    → SameStep R (after_again_of bus p s repeat) (after_again_of other p t repeat)
same_by_again_of bus other R alike p s t None related = record { cpu = refl; bus = related; clocks = refl }
same_by_again_of bus other R alike p s t (Some r) related =
    same_by_iterating bus other R alike (after_fetch p r.size) s t r _ related

pub same_by_again : {S T : Type 0} (bus : BusMeaning S) (other : BusMeaning T) (R : S → T → Type 0)
    → Alike bus other R → (p : CpuState) (s : S) (t : T) → R s t → SameStep R (after_again bus p s) (after_again other p t)
unfolding after_again
same_by_again bus other R alike p s t related = same_by_again_of bus other R alike p s t p.repeat related

pub same_by_enter : {S T : Type 0} (bus : BusMeaning S) (other : BusMeaning T) (table : ClockTable) (R : S → T → Type 0)
    → Alike bus other R → (p : CpuState) (s : S) (t : T) (kind : ℕ) (cause : Cause) → R s t
    → SameStep R (after_enter bus table p s kind cause) (after_enter other table p t kind cause)
unfolding after_enter
same_by_enter bus other table R alike p s t kind cause related =
    let same = same_by_entry bus other R alike (machine p.registers s) (machine p.registers t) kind kind refl (unchanged R p.registers s t related) in record {
      cpu = ap (λ (r : Registers). record { registers = r; state = Running; shadow = p.shadow; step_due = still_due p.step_due cause; repeat = None })
          same.registers;
      bus = same.bus;
      clocks = refl;
    }
