-- The form that the text of an instruction takes gets its numbers.
use Rattle.std.proofs.Common.{◌≡◌, ◌∙◌, ℕ, ◌+◌, ◌%◌, refl, sym, ap, subst, Bool, true, false, if◌then◌else◌, Some}
use Rattle.std.specs.Prelude.{ℤ, pos, negsuc, ◌-ℤ◌}
use Rattle.isa.specs.declared.operation.Operation.{Operation}
use Rattle.isa.specs.declared.operation.Operation.TheVariants.{Arithmetic, Control, Transfer}
use Rattle.isa.specs.declared.operation.Arithmetic.TheVariants.{Test}
use Rattle.isa.specs.declared.operation.Control.TheVariants as control
use Rattle.isa.specs.declared.register.WordRegister.TheVariants.{Ax}
use Rattle.isa.specs.declared.operation.Transfer.TheVariants as transfer
use Rattle.isa.specs.declared.form.Form.{Form}
use Rattle.isa.specs.declared.form.Values.{Values}
use Rattle.isa.specs.declared.form.Instr.{Instr}
use Rattle.isa.specs.declared.row.Kind.{Kind}
use Rattle.isa.specs.declared.row.Row.{Row}
use Rattle.isa.specs.declared.row.Kind.TheVariants as kinds
use Rattle.isa.specs.Row.{first_of, operation_of, second_of}
use Rattle.isa.specs.Encoding.{instr_length, sign_extended, IsForm, IsInstr}
use Rattle.isa.specs.Table.{rows}
use Rattle.disassembler.specs.Text.{is_nop}
use Rattle.disassembler.specs.Written.{written_operand}
use Rattle.dialect.specs.declared.register.Register.{Register}
use Rattle.dialect.specs.declared.register.Register.TheVariants as registers
use Rattle.assembler_form.specs.declared.asked.Asked.{Asked}
use Rattle.assembler_form.specs.declared.fields.Numbers.{Numbers}
use Rattle.assembler_form.specs.declared.operand.KnownOperand.{KnownOperand}
use Rattle.assembler_form.specs.declared.operand.KnownOperand.TheVariants as known
use Rattle.assembler_form.specs.Asked.{asked_in_order, is_exchanged, is_memory, is_register_and_ax, sized}
use Rattle.assembler_form.specs.Choice.{IsChosen}
use Rattle.assembler_form.specs.Fields.{field_kind}
use Rattle.assembler_form.specs.Kinds.{is_near, is_of}
use Rattle.assembler_form.specs.Takes.{is_within, Takes}
use Rattle.assembler_form.proofs.Alike.{in_steps}
use Rattle.assembler_form.proofs.Shapes.{form_of_first}
use Rattle.assembler_meaning.specs.declared.symbol.Location.{Location}
use Rattle.assembler_meaning.specs.Instructions.{instruction_asked, instruction_size, no_numbers, prefixes_of, IsFormFor}
use Rattle.assembler_meaning.specs.Values.{Names}
use Rattle.assembler.specs.Placement.{fields_for, fields_of}
use Rattle.assembler_laws.specs.Fitting.{FitsByte}
use Rattle.assembler_laws.specs.NearTargets.{HasNearTarget, TextsGetNumbers}
use Rattle.assembler_laws.specs.SaidTexts.{first_written, next_of, said_instruction, second_written}
use Rattle.assembler_laws.specs.SameMeaning.{AreOf}
use Rattle.assembler_laws.proofs.AskedTexts.{asked_by, Has}
use Rattle.assembler_laws.proofs.ChosenRows.{first_field, has_field, second_field}
use Rattle.assembler_laws.proofs.FittingTexts.{numbers_fit}
use Rattle.assembler_laws.proofs.GivenTexts.{in_order_fits, never, rel_length, rel_number, row_strict}
use Rattle.assembler_laws.proofs.TakenTexts.{xchg_registers}
use Rattle.assembler_laws.proofs.TextForms.{ask_both, ax, chosen_said, exchanged_is, first_asked, nop_says}
use Rattle.assembler_laws.proofs.TextForms.{numbers_said, plain_says, row_agrees, second_asked, AskBoth, Says}

-- the text of an instruction, but NOP and XCHG with AX second, in the order in which it is written
same_size : (i : Instr) (ip : ℕ) (f : Form) → IsInstr i → IsForm f → prefixes_of (said_instruction i ip) ≡ i.prefixes.items
    → first_of i.form.row ≡ kinds.Rel8 → first_of f.row ≡ kinds.Rel8 → instruction_size f (said_instruction i ip) ≡ instr_length i
same_size i ip f is formed prefixes old new = rw (prefixes, rel_length f formed new, rel_length i.form is.form old) refl

-- ---- registers alone have no number
register_not_near : (op : Operation) (r : Register) → is_near op (known.Register r) ≡ false
register_not_near (Control control.Jmp) r = refl
register_not_near _ r = refl

register_fits : (op : Operation) (k : Kind) (r : Register) (from : ℕ) (n : Numbers) → is_of op k (known.Register r) ≡ true → FitsByte k from n
register_fits op kinds.Imm8 r from n e = absurd (let contradiction : false ≡ true = e in cc)
register_fits op kinds.Rel8 r from n e = never (is_near op (known.Register r)) (register_not_near op r) e
register_fits op _ r from n e = tt

registers_fit : (s : Row) (op : Operation) (r t : Register) (from : ℕ) (n : Numbers)
    → Takes s (asked_in_order op (known.Register r) (known.Register t)) → FitsByte (field_kind s) from n
registers_fit s op r t from n takes = by (has_field (first_of s)) refl
  where
    by : (b : Bool) → has_field (first_of s) ≡ b → FitsByte (field_kind s) from n
    by true e =
        subst (λ (k : Kind). FitsByte k from n) (sym (first_field (first_of s) (second_of s) e))
        (register_fits op (first_of s) r from n (in_steps op (first_of s) (known.Register r) takes.first))
    by false e =
        subst (λ (k : Kind). FitsByte k from n) (sym (second_field (first_of s) (second_of s) e))
        (register_fits op (second_of s) t from n (in_steps op (second_of s) (known.Register t) takes.second))

-- ---- the law
given : (before names : Names) (location : Location) (size : ℕ) (i : Instr) (f : Form) (x y : KnownOperand) (n : Numbers) (a : Asked)
    → Says before names location.offset i x y n a → AreOf a.first n → AreOf a.second n
    → IsFormFor (instruction_asked before (said_instruction i location.offset)) (Some f)
    → (IsChosen a f → FitsByte (field_kind f.row) (location.offset + size) n)
    → (v : Values) × (fields_of names location size f (said_instruction i location.offset) ≡ Some v)
given before names location size i f x y n a says one two formed fits =
    let choice : IsChosen a f = chosen_said before names location.offset i f x y n a says formed in
    let found = numbers_fit a f (location.offset + size) n choice one two (fits choice) in
    (found.0, ap (fields_for f (location.offset + size)) says.numbers ∙ found.1)

chosen_form : (a : Asked) (f : Form) → IsChosen a f → IsForm f
chosen_form a f choice = form_of_first f f.row a rows choice.parts refl choice.first

abbrev Goal : Names → Location → Instr → Form → Type 0
Goal names location i f =
    (v : Values) × (fields_of names location (instruction_size f (said_instruction i location.offset)) f (said_instruction i location.offset) ≡ Some v)

nop_given : (before names : Names) (location : Location) (i : Instr) (f : Form)
    → is_nop i.form ≡ true → IsFormFor (instruction_asked before (said_instruction i location.offset)) (Some f) → Goal names location i f
nop_given before names location i f nop formed =
    let ip : ℕ = location.offset in
    let size : ℕ = instruction_size f (said_instruction i ip) in
    given before names location size i f known.Nothing known.Nothing no_numbers (asked_in_order (Transfer transfer.Xchg) ax ax) (nop_says before names ip i nop)
    tt tt formed (λ choice. registers_fit f.row (Transfer transfer.Xchg) (registers.Word Ax) (registers.Word Ax) (ip + size) no_numbers choice.first.takes)

ax_registers : (x y : KnownOperand) → is_register_and_ax x y ≡ true → (r : Register) × (t : Register) × (x ≡ known.Register r) × (y ≡ known.Register t)
ax_registers (known.Register (registers.Word r)) (known.Register (registers.Word Ax)) e = (registers.Word r, registers.Word Ax, refl, refl)
ax_registers _ _ e = cc

order_fits : (location : Location) (i : Instr) (f : Form) → IsInstr i → HasNearTarget i location.offset
    → prefixes_of (said_instruction i location.offset) ≡ i.prefixes.items → IsForm f
    → Takes f.row (asked_in_order (operation_of i.form.row) (asked_by (first_written i.form i.values (next_of i location.offset)))
    (asked_by (second_written i.form i.values (next_of i location.offset))))
    → FitsByte (field_kind f.row) (location.offset + instruction_size f (said_instruction i location.offset))
    (numbers_said i.form i.values (next_of i location.offset))
order_fits location i f is near prefixes formed takes =
    let ip : ℕ = location.offset in
    let next : ℕ = next_of i ip in
    let n : Numbers = numbers_said i.form i.values next in
    let both : AskBoth i.form i.values next n = ask_both i.form i.values next is.form is.values in
    in_order_fits i.form i.values next n f.row (ip + instruction_size f (said_instruction i ip))
    (record {
      strict = row_strict i.form.row is.form.row;
      s_strict = row_strict f.row formed.row;
      agrees = row_agrees i.form.row is.form.row;
      size = both.size;
      has_first = both.has_first;
      has_second = both.has_second;
      takes = takes;
    })
    (λ old new.
    let target : n.number ≡ pos ((next + sign_extended i.values.number) % 65536) =
    rel_number i.form i.values next (second_of i.form.row) n
    (subst (λ (k : Kind). Has (written_operand i.form i.values next k (second_of i.form.row)) n) old both.has_first) in
    let size : instruction_size f (said_instruction i ip) ≡ instr_length i = same_size i ip f is formed prefixes old new in
    subst (λ (z : ℤ). is_within (negsuc 127) (pos 127) (z -ℤ pos (ip + instruction_size f (said_instruction i ip))) ≡ true) (sym target)
    (subst (λ (m : ℕ). is_within (negsuc 127) (pos 127) (pos ((next + sign_extended i.values.number) % 65536) -ℤ pos (ip + m)) ≡ true) (sym size) (near old)))

plain_given : (before names : Names) (location : Location) (i : Instr) (f : Form) → IsInstr i → HasNearTarget i location.offset → is_nop i.form ≡ false
    → IsFormFor (instruction_asked before (said_instruction i location.offset)) (Some f) → Goal names location i f
plain_given before names location i f is near plain formed =
    let ip : ℕ = location.offset in
    let next : ℕ = next_of i ip in
    let size : ℕ = instruction_size f (said_instruction i ip) in
    let op : Operation = operation_of i.form.row in
    let x : KnownOperand = first_asked i ip in
    let y : KnownOperand = second_asked i ip in
    let n : Numbers = numbers_said i.form i.values next in
    let both : AskBoth i.form i.values next n = ask_both i.form i.values next is.form is.values in
    let says = plain_says before names ip i is plain in
    by_order (is_exchanged op x y) op x y n refl both.order both.first.0 both.second.0 (λ e. xchg_registers i.form i.values next is.form e)
    (λ a a_is first second fits. given before names location size i f x y n a (subst (Says before names ip i x y n) a_is says) first second formed fits)
    (λ choice. order_fits location i f is near says.prefixes (chosen_form (asked_in_order op x y) f choice) choice.first.takes)
  where
    by_order : (b : Bool) (op : Operation) (x y : KnownOperand) (n : Numbers)
        → is_exchanged op x y ≡ b → (op ≡ Arithmetic Test → is_memory y ≡ false) → AreOf (sized op x y) n → AreOf (sized op y x) n
        → (is_exchanged op x y ≡ true → op ≡ Transfer transfer.Xchg → is_register_and_ax x y ≡ true)
        → ((a : Asked) → (if b then asked_in_order op y x else asked_in_order op x y) ≡ a → AreOf a.first n → AreOf a.second n
        → (IsChosen a f → FitsByte (field_kind f.row) (location.offset + instruction_size f (said_instruction i location.offset)) n) → Goal names location i f)
        → (IsChosen (asked_in_order op x y) f → FitsByte (field_kind f.row) (location.offset + instruction_size f (said_instruction i location.offset)) n)
        → Goal names location i f
    by_order false op x y n e order first second registers_are result in_turn = result (asked_in_order op x y) refl first second in_turn
    by_order true op x y n e order first second registers_are result in_turn =
        let are = ax_registers x y (registers_are e (exchanged_is op x y e order)) in
        result (asked_in_order op y x) refl second first
        (λ choice. registers_fit f.row op are.1 are.0 (location.offset + instruction_size f (said_instruction i location.offset)) n
        (subst (λ (z : KnownOperand). Takes f.row (asked_in_order op (known.Register are.1) z)) are.2
        (subst (λ (z : KnownOperand). Takes f.row (asked_in_order op z x)) are.3 choice.first.takes)))

pub texts_get_numbers : TextsGetNumbers
texts_get_numbers before names location i f is near formed = by (is_nop i.form) refl
  where
    by : (b : Bool) → is_nop i.form ≡ b → Goal names location i f
    by true nop = nop_given before names location i f nop formed
    by false plain = plain_given before names location i f is near plain formed
