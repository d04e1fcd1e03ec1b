-- The clocks of a step are those that are told.
use Rattle.std.proofs.Common.{◌≡◌, ℕ, ◌+◌, ◌*◌, Bool, true, false, cond, ◌&&◌, ◌||◌, ◌==◌, if◌then◌else◌, refl, sym, ap, ◌∙◌, arith}
use Rattle.board_types.specs.declared.choice.ClockTable.{ClockTable}
use Rattle.board_types.specs.declared.choice.ClockTable.TheVariants.{C1, C2}
use Rattle.bus.specs.Bus.{BusMeaning}
use Rattle.digest.specs.Outcomes.{later_outcome, whole_outcome}
use Rattle.execute_arith.specs.Products.{has_fault, has_no_quotient}
use Rattle.execute_machine.specs.Locations.{machine}
use Rattle.execute_meaning.specs.AccessCounts.{outcome_in}
use Rattle.execute_meaning.specs.Cpu.{CpuState}
use Rattle.execute_meaning.specs.Meaning.{after_begun, after_fetch, after_found, after_iterating, after_repeat, after_step, after_whole, is_taken}
use Rattle.execute_meaning.specs.Meaning.{iteration_outcome, lacks_quotient, outcome_of, repeating_of, step_result, with_end}
use Rattle.execute_meaning.specs.declared.shadow.Shadow.TheVariants.{Nothing}
use Rattle.isa.specs.Clocks.{clocks_of, counts, first_clocks, is_counted, is_repeated, row_clocks}
use Rattle.isa.specs.Row.{operation_of}
use Rattle.isa.specs.WordCounts.{clocks_in, data_words, whole_words, word_clocks}
use Rattle.isa.specs.declared.form.Instr.{Instr}
use Rattle.isa.specs.declared.form.Place.{Place}
use Rattle.isa.specs.declared.operation.Control.TheVariants as controls
use Rattle.isa.specs.declared.operation.Operation.{Operation}
use Rattle.isa.specs.declared.operation.Operation.TheVariants.{Arithmetic, Shift, Product, Unary, Jump, Looping, Strings, Adjust, Transfer, Control, Processor}
use Rattle.isa.specs.declared.operation.Processor.TheVariants as processors
use Rattle.isa.specs.declared.operation.Product.TheVariants as products
use Rattle.isa.specs.declared.operation.Strings.{Strings as StringsType}
use Rattle.isa.specs.declared.outcome.Outcome.{Outcome}
use Rattle.isa.specs.declared.row.Clocks.{Clocks}
use Rattle.isa.specs.declared.row.Clocks.TheVariants as costs
use Rattle.isa.specs.declared.row.Row.{Row}
use Rattle.isa.proofs.Rows.{each}
use Rattle.isa.specs.Table.{rows}
use Rattle.std.specs.List.{list_all}
use Rattle.std.specs.Prelude.{not}
use Rattle.forms.specs.declared.step_clocks.StepClocks.TheVariants.{Always, Either, Counted, Repeated}
use Rattle.forms.specs.StepClocks.{empty_outcome}
use Rattle.forms.specs.Flow.{flow_by, flow_of}
use Rattle.forms.specs.FormLaws.{ClocksAreTold}
use Rattle.forms.specs.StepClocks.{clocks_by, clocks_for, clocks_told, unvaried}

-- the clocks of a step are those of its outcome

by_empty : {S : Type 0} (bus : BusMeaning S) (table : ClockTable) (p : CpuState) (s : S) (op : StringsType) (i : Instr) (empty : Bool)
    → (if empty then step_result (with_end p p.registers p.state Nothing) s (clocks_in table i (iteration_outcome true true))
    else after_iterating bus p s (repeating_of table op i) (clocks_in table i (iteration_outcome true false))).clocks
    ≡ clocks_in table i (iteration_outcome true empty)
unfolding after_iterating
by_empty bus table p s op i true = refl
by_empty bus table p s op i false = refl

by_repeat : {S : Type 0} (bus : BusMeaning S) (table : ClockTable) (p : CpuState) (s : S) (op : StringsType) (i : Instr) (repeated : Bool)
    → (if repeated then after_repeat bus table p s op i else after_whole bus table p s (Strings op) i).clocks
    ≡ clocks_in table i (if repeated then iteration_outcome true (p.registers.cx == 0) else outcome_of bus (machine p.registers s) (Strings op) i)
unfolding after_repeat after_whole
by_repeat bus table p s op i true = by_empty bus table p s op i (p.registers.cx == 0)
by_repeat bus table p s op i false = refl

begun : {S : Type 0} (bus : BusMeaning S) (table : ClockTable) (p : CpuState) (s : S) (op : Operation) (i : Instr)
    → (after_begun bus table p s op i).clocks ≡ clocks_in table i (outcome_in bus p s op i)
unfolding after_whole
begun bus table p s (Strings op) i = by_repeat bus table p s op i (is_repeated i)
begun bus table p s (Arithmetic op) i = refl
begun bus table p s (Shift op) i = refl
begun bus table p s (Product op) i = refl
begun bus table p s (Unary op) i = refl
begun bus table p s (Jump op) i = refl
begun bus table p s (Looping op) i = refl
begun bus table p s (Adjust op) i = refl
begun bus table p s (Transfer op) i = refl
begun bus table p s (Control op) i = refl
begun bus table p s (Processor op) i = refl

-- CL counts places in shifts and rotates alone

row_by : (c : Clocks) (place : Place) (repeated taken : Bool) (cl : ℕ) (fault : Bool)
    → row_clocks c place repeated (whole_outcome taken cl fault)
    ≡ row_clocks c place repeated (whole_outcome taken 0 fault) + cond (counts c) (4 * cl) 0
row_by (costs.Always n) place repeated taken cl fault = omega arith
row_by (costs.Place a b) place repeated taken cl fault = omega arith
row_by (costs.Memory n) place repeated taken cl fault = omega arith
row_by (costs.Counted a b) place repeated taken cl fault = omega arith
row_by (costs.Taken a b) place repeated taken cl fault = omega arith
row_by (costs.Repeated a b) place repeated taken cl fault = omega arith

sum_by : (repeated : Bool) (first row none more fault words : ℕ) → row ≡ none + more
    → cond (repeated && false) first (row + first + fault) + words ≡ cond (repeated && false) first (none + first + fault) + words + more
sum_by true first row none more fault words is = omega (arith, is)
sum_by false first row none more fault words is = omega (arith, is)

by_places : (table : ClockTable) (i : Instr) (taken : Bool) (cl : ℕ) (fault : Bool)
    → clocks_in table i (whole_outcome taken cl fault)
    ≡ clocks_in table i (whole_outcome taken 0 fault) + cond (is_counted i) (4 * cl) 0
unfolding clocks_in clocks_of data_words
by_places table i taken cl fault =
    sum_by (is_repeated i) (first_clocks i) _ _ (cond (is_counted i) (4 * cl) 0) (cond fault 51 0) _
    (row_by i.form.row.clocks i.form.place (is_repeated i) taken cl fault)

-- what is told

none_more : (n : ℕ) → n + 0 ≡ n
none_more n = omega arith

unvaried_by : (counted : Bool) (n all : ℕ) (o : Outcome) → all ≡ n + cond counted (4 * o.cl) 0
    → clocks_for (if counted then Counted n else Always n) o ≡ all
unvaried_by true n all o is = sym is
unvaried_by false n all o is = sym (is ∙ none_more n)

same_places : (table : ClockTable) (i : Instr) (taken : Bool) (cl : ℕ) (fault : Bool) → is_counted i ≡ false
    → clocks_in table i (whole_outcome taken 0 fault) ≡ clocks_in table i (whole_outcome taken cl fault)
same_places table i taken cl fault uncounted =
    sym
    (by_places table i taken cl fault ∙ ap (λ b. clocks_in table i (whole_outcome taken 0 fault) + cond b (4 * cl) 0) uncounted
    ∙ none_more (clocks_in table i (whole_outcome taken 0 fault)))

either : (table : ClockTable) (i : Instr) (taken : Bool) (cl : ℕ) → is_counted i ≡ false
    → clocks_for (Either (clocks_in table i (whole_outcome true 0 false)) (clocks_in table i (whole_outcome false 0 false))) (whole_outcome taken cl false)
    ≡ clocks_in table i (whole_outcome taken cl false)
either table i true cl uncounted = same_places table i true cl false uncounted
either table i false cl uncounted = same_places table i false cl false uncounted

divided : (table : ClockTable) (i : Instr) (fault : Bool) (cl : ℕ) → is_counted i ≡ false
    → clocks_for (Either (clocks_in table i (whole_outcome false 0 true)) (clocks_in table i (whole_outcome false 0 false))) (whole_outcome false cl fault)
    ≡ clocks_in table i (whole_outcome false cl fault)
divided table i true cl uncounted = same_places table i false cl true uncounted
divided table i false cl uncounted = same_places table i false cl false uncounted

unvaried_told : (table : ClockTable) (op : Operation) (i : Instr) (cl : ℕ)
    → clocks_for (unvaried op i table) (whole_outcome (Rattle.forms.specs.StepClocks.controls op) cl false)
    ≡ clocks_in table i (whole_outcome (Rattle.forms.specs.StepClocks.controls op) cl false)
unvaried_told table op i cl =
    unvaried_by (is_counted i) _ _ (whole_outcome (Rattle.forms.specs.StepClocks.controls op) cl false)
    (by_places table i (Rattle.forms.specs.StepClocks.controls op) cl false)

-- the first iteration pays for the prefixes and the set-up
no_words : (table : ClockTable) → word_clocks table 0 ≡ 0
no_words C1 = refl
no_words C2 = refl

row_same : (c : Clocks) (place : Place) (repeated : Bool) (o q : Outcome) → o.taken ≡ q.taken → o.cl ≡ q.cl
    → row_clocks c place repeated o ≡ row_clocks c place repeated q
row_same (costs.Always n) place repeated o q taken cl = refl
row_same (costs.Place a b) place repeated o q taken cl = refl
row_same (costs.Memory n) place repeated o q taken cl = refl
row_same (costs.Counted a b) place repeated o q taken cl = omega (arith, cl)
row_same (costs.Taken a b) place repeated o q taken cl = ap (λ t. cond t a b) taken
row_same (costs.Repeated a b) place repeated o q taken cl = refl

first_sum : (repeated : Bool) (table : ClockTable) (first row later whole words : ℕ) → repeated ≡ true → later ≡ whole
    → cond (repeated && true) first (row + first + 0) + word_clocks table (cond (repeated && true) 0 (words + 0))
    + (cond (repeated && false) first (later + 0 + 0) + word_clocks table (cond (repeated && false) 0 (words + 0)))
    ≡ cond (repeated && false) first (whole + first + 0) + word_clocks table (cond (repeated && false) 0 (words + 0))
first_sum true table first row later whole words is same = let none = no_words table in omega (arith, none, same)
first_sum false table first row later whole words is same = let never : false ≡ true = is in cc

iterated : (table : ClockTable) (i : Instr) (empty : Bool) → is_repeated i ≡ true
    → clocks_for (Repeated (clocks_in table i empty_outcome) (clocks_in table i later_outcome)) (iteration_outcome true empty)
    ≡ clocks_in table i (iteration_outcome true empty)
unfolding clocks_in clocks_of data_words
iterated table i true is = refl
iterated table i false is =
    first_sum (is_repeated i) table (first_clocks i) (row_clocks i.form.row.clocks i.form.place (is_repeated i) empty_outcome)
    (row_clocks i.form.row.clocks i.form.place (is_repeated i) later_outcome)
    (row_clocks i.form.row.clocks i.form.place (is_repeated i) (iteration_outcome true false)) (whole_words i false) is
    (row_same i.form.row.clocks i.form.place (is_repeated i) later_outcome (iteration_outcome true false) refl refl)

strings_told : {S : Type 0} (bus : BusMeaning S) (table : ClockTable) (p : CpuState) (s : S) (op : StringsType) (i : Instr) (repeated : Bool)
    → is_repeated i ≡ repeated
    → clocks_for (clocks_by (flow_by (Strings op) repeated) (Strings op) i table)
    (if repeated then iteration_outcome true (p.registers.cx == 0) else outcome_of bus (machine p.registers s) (Strings op) i)
    ≡ clocks_in table i
    (if repeated then iteration_outcome true (p.registers.cx == 0) else outcome_of bus (machine p.registers s) (Strings op) i)
unfolding is_taken lacks_quotient
strings_told bus table p s op i true is = iterated table i (p.registers.cx == 0) is
strings_told bus table p s op i false is = unvaried_told table (Strings op) i _

abbrev shifts : Operation → Bool
shifts (Shift op) = true
shifts op = false

abbrev is_uncounted : Operation → Clocks → Bool
is_uncounted op c = shifts op || not (counts c)

all_uncounted : list_all (λ (r : Row). is_uncounted r.operation r.clocks) rows ≡ true
unfolding rows
all_uncounted = refl

no_count : (b : Bool) → not b ≡ true → b ≡ false
no_count true is = let never : false ≡ true = is in cc
no_count false is = refl

told : {S : Type 0} (bus : BusMeaning S) (table : ClockTable) (p : CpuState) (s : S) (op : Operation) (i : Instr)
    → is_uncounted op i.form.row.clocks ≡ true
    → clocks_for (clocks_by (flow_by op (is_repeated i)) op i table) (outcome_in bus p s op i) ≡ clocks_in table i (outcome_in bus p s op i)
unfolding is_taken lacks_quotient has_fault has_no_quotient
told bus table p s (Strings op) i row = strings_told bus table p s op i (is_repeated i) refl
told bus table p s (Arithmetic op) i row = unvaried_told table (Arithmetic op) i _
told bus table p s (Shift op) i row = unvaried_told table (Shift op) i _
told bus table p s (Product products.Mul) i row = unvaried_told table (Product products.Mul) i _
told bus table p s (Product products.Imul) i row = unvaried_told table (Product products.Imul) i _
told bus table p s (Product products.Div) i row = divided table i _ _ (no_count _ row)
told bus table p s (Product products.Idiv) i row = divided table i _ _ (no_count _ row)
told bus table p s (Unary op) i row = unvaried_told table (Unary op) i _
told bus table p s (Jump op) i row = either table i _ _ (no_count _ row)
told bus table p s (Looping op) i row = either table i _ _ (no_count _ row)
told bus table p s (Adjust op) i row = unvaried_told table (Adjust op) i _
told bus table p s (Transfer op) i row = unvaried_told table (Transfer op) i _
told bus table p s (Control controls.Jmp) i row = unvaried_told table (Control controls.Jmp) i _
told bus table p s (Control controls.Call) i row = unvaried_told table (Control controls.Call) i _
told bus table p s (Control controls.Ret) i row = unvaried_told table (Control controls.Ret) i _
told bus table p s (Control controls.JmpFar) i row = unvaried_told table (Control controls.JmpFar) i _
told bus table p s (Control controls.CallFar) i row = unvaried_told table (Control controls.CallFar) i _
told bus table p s (Control controls.Retf) i row = unvaried_told table (Control controls.Retf) i _
told bus table p s (Control controls.Int3) i row = unvaried_told table (Control controls.Int3) i _
told bus table p s (Control controls.Int) i row = unvaried_told table (Control controls.Int) i _
told bus table p s (Control controls.Into) i row = either table i _ _ (no_count _ row)
told bus table p s (Control controls.Iret) i row = unvaried_told table (Control controls.Iret) i _
told bus table p s (Processor processors.Hlt) i row = unvaried_told table (Processor processors.Hlt) i _
told bus table p s (Processor op) i row = unvaried_told table (Processor op) i _

pub clocks_are_told : {S : Type 0} (bus : BusMeaning S) → ClocksAreTold bus
unfolding after_step after_found clocks_told flow_of
clocks_are_told bus table p s i size of_table =
    begun bus table (after_fetch p size) s (operation_of i.form.row) i
    ∙ sym
    (told bus table (after_fetch p size) s (operation_of i.form.row) i
    (each (λ (r : Row). is_uncounted r.operation r.clocks) rows i.form.row all_uncounted of_table.form.row))
