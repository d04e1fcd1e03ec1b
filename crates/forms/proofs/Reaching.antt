-- The accesses of a step are those that are told.
use Rattle.std.proofs.Common.{◌≡◌, ℕ, ◌+◌, ◌*◌, Bool, true, false, cond, ◌&&◌, ◌||◌, if◌then◌else◌, List, [], ◌∷◌, ◌++◌, map, Option, Some, None, refl, ap, ◌∙◌}
use Rattle.std.proofs.Common.{arith}
use Rattle.std.specs.Prelude.{◌==◌}
use Rattle.board_types.specs.Address.{offset_after}
use Rattle.board_types.specs.declared.choice.ClockTable.TheVariants.{C1}
use Rattle.bus.specs.Bus.{BusMeaning}
use Rattle.decode.specs.declared.decoding.Decoding.TheVariants.{Found}
use Rattle.execute_arith.proofs.Kept.{kept_by_arithmetic, kept_by_product, kept_by_shift, kept_by_unary}
use Rattle.execute_arith.specs.Products.{has_fault, has_no_quotient}
use Rattle.execute_control.proofs.Kept.{kept_by_control}
use Rattle.execute_machine.proofs.Kept.{Kept, kept_by_pop, kept_by_push, kept_by_put}
use Rattle.execute_machine.specs.Locations.{Machine, machine}
use Rattle.execute_machine.specs.RegisterFile.{Registers}
use Rattle.execute_meaning.proofs.Writes.{operation_writes, writes_of}
use Rattle.execute_meaning.specs.AccessCounts.{WritesAreCounted, bytes_of_writes, found_by, outcome_in, whole_bytes_written, whole_words_written, written_bytes}
use Rattle.execute_meaning.specs.AccessCounts.{written_words}
use Rattle.execute_meaning.specs.Cpu.{CpuState}
use Rattle.execute_meaning.specs.Meaning.{after_begun, after_fetch, after_found, after_iterating, after_operation, after_repeat, after_step, after_whole}
use Rattle.execute_meaning.specs.Meaning.{is_taken, iteration_outcome, lacks_quotient, outcome_of, repeating_of, step_result, with_end}
use Rattle.execute_meaning.specs.declared.shadow.Shadow.TheVariants.{Nothing}
use Rattle.isa.specs.WordCounts.{clocks_in}
use Rattle.bus.specs.PortWriteBus.{after_port_writes}
use Rattle.forms.specs.declared.accesses.PortAccess.{PortAccess}
use Rattle.forms.specs.declared.accesses.PortName.{PortName}
use Rattle.forms.specs.declared.accesses.PortName.TheVariants as names
use Rattle.execute_meaning.specs.PortReads.{port_reads_of, reading_bus}
use Rattle.execute_strings.proofs.Kept.{kept_by_element, kept_by_iteration}
use Rattle.execute_strings.specs.StringMeaning.{source_segment}
use Rattle.execute_transfer.specs.TransferMeaning.{after_byte_input, after_in, after_lea, after_mov, after_out, after_pointer_load, after_pop_operand}
use Rattle.execute_transfer.specs.TransferMeaning.{after_popf, after_push_operand, after_transfer}
use Rattle.execute_transfer.specs.TransferMeaning.{after_word_input, after_xchg, after_xlat, outputs_at, outputs_of}
use Rattle.execute_transfer.specs.TransferMeaning as transfers
use Rattle.isa.specs.Clocks.{is_repeated}
use Rattle.isa.specs.Row.{first_of, operation_of, second_of}
use Rattle.isa.specs.declared.form.Instr.{Instr}
use Rattle.isa.specs.declared.operation.Operation.{Operation}
use Rattle.isa.specs.declared.operation.Operation.TheVariants.{Arithmetic, Shift, Product, Unary, Jump, Looping, Strings, Adjust, Transfer, Control, Processor}
use Rattle.isa.specs.declared.operation.Product.TheVariants.{Div, Idiv}
use Rattle.isa.specs.declared.operation.Strings.{Strings as StringsType}
use Rattle.isa.specs.declared.operation.Transfer.{Transfer as TransferType}
use Rattle.isa.specs.declared.operation.Transfer.TheVariants.{Mov, Xchg, Lea, Les, Lds, Push, Pop, Pushf, Popf, Sahf, Lahf, Xlat, In, Out}
use Rattle.isa.specs.declared.row.Kind.{Kind}
use Rattle.isa.specs.declared.row.Kind.TheVariants as kinds
use Rattle.forms.specs.AccessLaws.{AccessesAreTold, number_of, ports_at, reads_told, writes_told, written_by}
use Rattle.forms.specs.Reached.{accesses_of, bytes_written, is_ax, port_by, port_name, port_of}

-- the bytes that are written

-- a division alone lacks a quotient, and isn't taken
abbrev Fits : Operation → Bool → Bool → Type 0
Fits (Product Div) taken fault = taken ≡ false
Fits (Product Idiv) taken fault = taken ≡ false
Fits op taken fault = fault ≡ false

told_by : (op : Operation) (i : Instr) (taken fault : Bool) → Fits op taken fault
    → 2 * (whole_words_written op i taken + cond fault 3 0) + whole_bytes_written op i ≡ bytes_written op i (taken || fault)
told_by (Product Div) i true fault fits = let none : true ≡ false = fits in cc
told_by (Product Div) i false true fits = refl
told_by (Product Div) i false false fits = refl
told_by (Product Idiv) i true fault fits = let none : true ≡ false = fits in cc
told_by (Product Idiv) i false true fits = refl
told_by (Product Idiv) i false false fits = refl
told_by op i taken true fits = let none : true ≡ false = fits in cc
told_by op i true false fits = omega arith
told_by op i false false fits = omega arith

outcome_fits : {S : Type 0} (bus : BusMeaning S) (m : Machine S) (op : Operation) (i : Instr) → Fits op (is_taken m.registers op) (lacks_quotient bus m op i)
unfolding is_taken lacks_quotient has_fault has_no_quotient
outcome_fits bus m (Product Div) i = refl
outcome_fits bus m (Product Idiv) i = refl
outcome_fits bus m (Product op) i = refl
outcome_fits bus m op i = refl

string_fits : {S : Type 0} (bus : BusMeaning S) (p : CpuState) (s : S) (op : StringsType) (i : Instr) (repeated : Bool)
    → (if repeated then iteration_outcome true (p.registers.cx == 0) else outcome_of bus (machine p.registers s) (Strings op) i).fault ≡ false
unfolding lacks_quotient
string_fits bus p s op i true = refl
string_fits bus p s op i false = refl

step_fits : {S : Type 0} (bus : BusMeaning S) (p : CpuState) (s : S) (op : Operation) (i : Instr)
    → Fits op (outcome_in bus p s op i).taken (outcome_in bus p s op i).fault
step_fits bus p s (Strings op) i = string_fits bus p s op i (is_repeated i)
step_fits bus p s (Product Div) i = outcome_fits bus (machine p.registers s) (Product Div) i
step_fits bus p s (Product Idiv) i = outcome_fits bus (machine p.registers s) (Product Idiv) i
step_fits bus p s op i = outcome_fits bus (machine p.registers s) op i

by_empty : (empty : Bool) (words bytes told : ℕ) → 2 * words + bytes ≡ told → 2 * cond empty 0 words + cond empty 0 bytes ≡ (if empty then 0 else told)
by_empty true words bytes told is = refl
by_empty false words bytes told is = is

bytes_told : {S : Type 0} (bus : BusMeaning S) (p : CpuState) (s : S) (i : Instr) (size : ℕ)
    → bytes_of_writes i (found_by bus p s i size) ≡ written_by i (found_by bus p s i size)
unfolding written_words written_bytes accesses_of
bytes_told bus p s i size =
    by_empty (is_repeated i && (found_by bus p s i size).cx_zero) _ _ _
    (told_by (operation_of i.form.row) i (found_by bus p s i size).taken (found_by bus p s i size).fault
    (step_fits bus (after_fetch p size) s (operation_of i.form.row) i))

-- ports

port_is : (kind : Kind) (r : Registers) (number : ℕ) → transfers.port_of kind r.dx number ≡ number_of (port_name kind number) r
port_is kinds.Dx r number = refl
port_is kind r number = refl

word_is : (kind : Kind) → transfers.is_ax kind ≡ is_ax kind
word_is kinds.Ax = refl
word_is kind = refl

outputs_are : (port ax : ℕ) (both : Bool) → map (λ (w : ℕ × ℕ). w.0) (outputs_at port ax both) ≡ ports_at port both
outputs_are port ax true = refl
outputs_are port ax false = refl

same_ports : (port other : ℕ) (both word : Bool) → port ≡ other → both ≡ word → ports_at port both ≡ ports_at other word
same_ports port other both word is are = ap (λ n. ports_at n both) is ∙ ap (ports_at other) are

writes_are : (r : Registers) (op : Operation) (i : Instr) → map (λ (w : ℕ × ℕ). w.0) (operation_writes r op i) ≡ writes_told (port_by op i) r
unfolding outputs_of
writes_are r (Transfer Out) i =
    outputs_are (transfers.port_of (first_of i.form.row) r.dx i.values.number) r.ax (transfers.is_ax (second_of i.form.row))
    ∙ same_ports _ _ _ _ (port_is (first_of i.form.row) r i.values.number) (word_is (second_of i.form.row))
writes_are r (Transfer In) i = refl
writes_are r op i = refl

-- nothing was read from a port
abbrev Unread : List ℕ → Type 0
Unread reads = reads ≡ []

memory_keeps : Kept reading_bus Unread
memory_keeps = record { write = λ s address byte none. none }

inputs_are : (m : Machine (List ℕ)) (port : ℕ) (both : Bool) → m.bus ≡ []
    → (if both then after_word_input reading_bus m port else after_byte_input reading_bus m port).bus ≡ ports_at port both
unfolding after_word_input after_byte_input
inputs_are m port true none = ap (λ reads. (reads ++ port ∷ []) ++ offset_after port 1 ∷ []) none
inputs_are m port false none = ap (λ reads. reads ++ port ∷ []) none

-- what a transfer does but for ports
opens_moves : Unit {0}
unfolding after_mov after_xchg after_lea after_pointer_load after_push_operand after_pop_operand after_popf after_xlat
opens_moves = tt

transfer_reads : (r : Registers) (op : TransferType) (i : Instr) → (after_transfer reading_bus (machine r []) op i).bus ≡ reads_told (port_by (Transfer op) i) r
unfolding after_transfer opens_moves after_in after_out outputs_of
transfer_reads r Mov i = kept_by_put reading_bus Unread memory_keeps (machine r []) _ _ refl
transfer_reads r Xchg i = kept_by_put reading_bus Unread memory_keeps _ _ _ (kept_by_put reading_bus Unread memory_keeps (machine r []) _ _ refl)
transfer_reads r Lea i = kept_by_put reading_bus Unread memory_keeps (machine r []) _ _ refl
transfer_reads r Les i = kept_by_put reading_bus Unread memory_keeps _ _ _ (kept_by_put reading_bus Unread memory_keeps (machine r []) _ _ refl)
transfer_reads r Lds i = kept_by_put reading_bus Unread memory_keeps _ _ _ (kept_by_put reading_bus Unread memory_keeps (machine r []) _ _ refl)
transfer_reads r Push i = kept_by_push reading_bus Unread memory_keeps (machine r []) _ refl
transfer_reads r Pop i = kept_by_put reading_bus Unread memory_keeps _ _ _ (kept_by_pop Unread (machine r []) 2 refl)
transfer_reads r Pushf i = kept_by_push reading_bus Unread memory_keeps (machine r []) _ refl
transfer_reads r Popf i = kept_by_pop Unread (machine r []) 2 refl
transfer_reads r Sahf i = refl
transfer_reads r Lahf i = refl
transfer_reads r Xlat i = refl
transfer_reads r In i =
    inputs_are (machine r []) (transfers.port_of (second_of i.form.row) r.dx i.values.number) (transfers.is_ax (first_of i.form.row)) refl
    ∙ same_ports _ _ _ _ (port_is (second_of i.form.row) r i.values.number) (word_is (first_of i.form.row))
transfer_reads r Out i = outputs_unread (transfers.is_ax (second_of i.form.row))
  where
    outputs_unread : (both : Bool)
        → after_port_writes reading_bus.after_output []
        (outputs_at (transfers.port_of (first_of i.form.row) r.dx i.values.number) r.ax both)
        ≡ []
    outputs_unread true = refl
    outputs_unread false = refl

reads_are : (r : Registers) (op : Operation) (i : Instr) → (after_operation reading_bus (machine r []) op i).bus ≡ reads_told (port_by op i) r
unfolding after_operation
reads_are r (Arithmetic op) i = kept_by_arithmetic reading_bus Unread memory_keeps (machine r []) op i refl
reads_are r (Shift op) i = kept_by_shift reading_bus Unread memory_keeps (machine r []) op i refl
reads_are r (Product op) i = kept_by_product reading_bus Unread memory_keeps (machine r []) op i refl
reads_are r (Unary op) i = kept_by_unary reading_bus Unread memory_keeps (machine r []) op i refl
reads_are r (Jump op) i = refl
reads_are r (Looping op) i = refl
reads_are r (Strings op) i = kept_by_element reading_bus Unread memory_keeps (machine r []) op (source_segment i) refl
reads_are r (Adjust op) i = refl
reads_are r (Transfer op) i = transfer_reads r op i
reads_are r (Control op) i = kept_by_control reading_bus Unread memory_keeps (machine r []) op i refl
reads_are r (Processor op) i = refl

repeat_reads : (p : CpuState) (op : StringsType) (i : Instr) (repeated empty : Bool) → p.registers.cx == 0 ≡ empty
    → (if repeated then after_repeat reading_bus C1 p [] op i else after_whole reading_bus C1 p [] (Strings op) i).bus ≡ []
unfolding after_repeat after_whole after_iterating after_operation
repeat_reads p op i true empty is = by_cx (p.registers.cx == 0)
  where
    by_cx : (b : Bool)
        → (if b then step_result (with_end p p.registers p.state Nothing) [] (clocks_in C1 i (iteration_outcome true true))
        else after_iterating reading_bus p [] (repeating_of C1 op i) (clocks_in C1 i (iteration_outcome true false))).bus
        ≡ []
    by_cx true = refl
    by_cx false = kept_by_iteration reading_bus Unread memory_keeps (machine p.registers []) op (source_segment i) refl
repeat_reads p op i false empty is = kept_by_element reading_bus Unread memory_keeps (machine p.registers []) op (source_segment i) refl

begun_reads : (p : CpuState) (op : Operation) (i : Instr) → (after_begun reading_bus C1 p [] op i).bus ≡ reads_told (port_by op i) p.registers
unfolding after_whole
begun_reads p (Strings op) i = repeat_reads p op i (is_repeated i) (p.registers.cx == 0) refl
begun_reads p (Arithmetic op) i = reads_are p.registers (Arithmetic op) i
begun_reads p (Shift op) i = reads_are p.registers (Shift op) i
begun_reads p (Product op) i = reads_are p.registers (Product op) i
begun_reads p (Unary op) i = reads_are p.registers (Unary op) i
begun_reads p (Jump op) i = reads_are p.registers (Jump op) i
begun_reads p (Looping op) i = reads_are p.registers (Looping op) i
begun_reads p (Adjust op) i = reads_are p.registers (Adjust op) i
begun_reads p (Transfer op) i = reads_are p.registers (Transfer op) i
begun_reads p (Control op) i = reads_are p.registers (Control op) i
begun_reads p (Processor op) i = reads_are p.registers (Processor op) i

-- a fetch leaves DX
fetched_told : (told : Option PortAccess) (p : CpuState) (size : ℕ) → reads_told told (after_fetch p size).registers ≡ reads_told told p.registers
fetched_told None p size = refl
fetched_told (Some access) p size =
    ap (λ n. if access.is_read then ports_at n access.is_word else []) (same_number access.name p size)
  where
    same_number : (name : PortName) (p : CpuState) (size : ℕ) → number_of name (after_fetch p size).registers ≡ number_of name p.registers
    same_number (names.Number number) p size = refl
    same_number names.InDx p size = refl

pub accesses_are_told : {S : Type 0} (bus : BusMeaning S) → WritesAreCounted bus → AccessesAreTold bus
unfolding after_step after_found port_reads_of port_of
accesses_are_told bus counted = record {
  written = λ count counts table p s i size of_table.
      ((counted count counts).step table p s i size of_table).1 ∙ ap (λ n. count s + n) (bytes_told bus p s i size);
  port_reads = λ p i size. begun_reads (after_fetch p size) (operation_of i.form.row) i ∙ fetched_told (port_by (operation_of i.form.row) i) p size;
  port_writes = λ p i size.
      ap (λ writes. map (λ (w : ℕ × ℕ). w.0) writes) (writes_of p (Found i size)) ∙ writes_are p.registers (operation_of i.form.row) i;
}
