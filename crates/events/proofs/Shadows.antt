-- Whether requests are kept off makes no difference while IF is 0.
use Rattle.std.proofs.Common.{◌≡◌, ℕ, zero, suc, ◌+◌, ◌-◌, ◌==◌, ◌⊎◌, inl, inr, Bool, true, false, if◌then◌else◌, Option, None, Some}
use Rattle.std.proofs.Common.{refl, sym, ap, ◌∙◌, subst, arith}
use Rattle.std.specs.Prelude.{◌&&◌, IsTrue, is_some}
use Rattle.board_types.proofs.Iterate.{iterate_more, iterate_zero}
use Rattle.board_types.specs.declared.choice.ClockTable.{ClockTable}
use Rattle.bus.specs.Bus.{BusMeaning}
use Rattle.decode.specs.declared.decoding.Decoding.{Decoding as Decoded}
use Rattle.decode.specs.declared.decoding.Decoding.TheVariants.{Found, NoRow}
use Rattle.isa.specs.Clocks.{is_repeated}
use Rattle.isa.specs.Row.{operation_of}
use Rattle.isa.specs.declared.form.Instr.{Instr}
use Rattle.isa.specs.declared.operation.Operation.{Operation}
use Rattle.isa.specs.declared.operation.Operation.TheVariants as operations
use Rattle.isa.specs.declared.operation.Strings.{Strings}
use Rattle.isa.specs.declared.operation.Strings.TheVariants.{Movsb, Movsw, Cmpsb, Cmpsw, Stosb, Stosw, Lodsb, Lodsw, Scasb, Scasw}
use Rattle.isa.specs.declared.register.SegmentRegister.{SegmentRegister}
use Rattle.execute_machine.specs.Locations.{Machine, machine, with_value_at}
use Rattle.execute_machine.specs.RegisterFile.{Registers}
use Rattle.execute_machine.specs.Registers.{with_byte_register, with_word_register}
use Rattle.execute_machine.specs.Stack.{after_entry, after_vector}
use Rattle.execute_machine.specs.Sums.{with_difference}
use Rattle.execute_strings.specs.StringMeaning.{after_cmps, after_element, after_iteration, after_lods, after_movs, after_scas, after_stos, goes_on}
use Rattle.execute_meaning.specs.declared.boundary.Boundary.{Boundary}
use Rattle.execute_meaning.specs.declared.boundary.Boundary.TheVariants as boundaries
use Rattle.execute_meaning.specs.declared.boundary.Cause.{Cause}
use Rattle.execute_meaning.specs.declared.boundary.Cause.TheVariants as causes
use Rattle.execute_meaning.specs.declared.repeating.Repeating.{Repeating}
use Rattle.execute_meaning.specs.declared.shadow.Shadow.{Shadow}
use Rattle.execute_meaning.specs.declared.shadow.Shadow.TheVariants.{Nothing as NoShadow, Requests, Interrupts}
use Rattle.execute_meaning.specs.Boundaries.{after_enter, boundary_of, is_halted, is_jammed, lets_requests, lets_single_steps}
use Rattle.execute_meaning.specs.Cpu.{CpuState}
use Rattle.execute_meaning.specs.Meaning.{StepResult, after_again, after_again_of, after_begun, after_fetch, after_found, after_iterating, after_repeat}
use Rattle.execute_meaning.specs.Meaning.{after_step, after_whole, repeating_of, step_result, with_end, with_repeat}
use Rattle.pic8259.specs.Pic as pic
use Rattle.wiring.specs.Chips.{ChipsState}
use Rattle.wiring.specs.Ports.{chips_bus}
use Rattle.wiring.specs.Wires.{after_acknowledge}
use Rattle.board_plain.specs.declared.act.Act.{Act}
use Rattle.board_plain.specs.declared.act.Act.TheVariants.{Nothing, Request, SingleStep, Iteration, Instruction}
use Rattle.board_plain.specs.Plain.{Plain, act_at, after_act, after_clock, after_clocks, chips_after_clock, is_free, next_act}
use Rattle.events.specs.ShadowLaws.{DifferInRequests, ShadowsChangeNothing}

abbrev is_enabled : Registers → Bool
is_enabled r = r.flags.interrupt_enable

abbrev shadowed : CpuState → Shadow → CpuState
shadowed p a = record p { shadow = a }

-- two results that differ in the shadow alone, with IF 0
record OnlyShadow {S : Type 0} (a b : Shadow) (x y : StepResult S) : Type 0 where
  cpu : y.cpu ≡ shadowed x.cpu b
  has : x.cpu.shadow ≡ a
  bus : y.bus ≡ x.bus
  clocks : y.clocks ≡ x.clocks
  disabled : is_enabled x.cpu.registers ≡ false

abbrev Alike : {S : Type 0} → Shadow → Shadow → StepResult S → StepResult S → Type 0
Alike a b x y = (x ≡ y) ⊎ OnlyShadow a b x y

differ : {S : Type 0} (a b : Shadow) (p : CpuState) (s : S) (clocks : ℕ) → is_enabled p.registers ≡ false
    → Alike a b (step_result (shadowed p a) s clocks) (step_result (shadowed p b) s clocks)
differ a b p s clocks off = inr (record { cpu = refl; has = refl; bus = refl; clocks = refl; disabled = off })

-- an element of a string leaves IF

movs_leaves : {S : Type 0} (bus : BusMeaning S) (m : Machine S) (op : Strings) (from : SegmentRegister)
    → is_enabled (after_element bus m op from).registers ≡ is_enabled m.registers
unfolding after_element after_movs after_cmps after_stos after_lods after_scas with_value_at with_difference with_byte_register with_word_register
movs_leaves bus m Movsb from = refl
movs_leaves bus m Movsw from = refl
movs_leaves bus m Cmpsb from = refl
movs_leaves bus m Cmpsw from = refl
movs_leaves bus m Stosb from = refl
movs_leaves bus m Stosw from = refl
movs_leaves bus m Lodsb from = refl
movs_leaves bus m Lodsw from = refl
movs_leaves bus m Scasb from = refl
movs_leaves bus m Scasw from = refl

iteration_leaves : {S : Type 0} (bus : BusMeaning S) (m : Machine S) (op : Strings) (from : SegmentRegister)
    → is_enabled (after_iteration bus m op from).registers ≡ is_enabled m.registers
unfolding after_iteration
iteration_leaves bus m op from = movs_leaves bus m op from

-- an iteration, which another follows or none

iterating_by : {S : Type 0} (a b : Shadow) (p : CpuState) (r : Registers) (repeating : Repeating) (s : S) (clocks : ℕ) (on : Bool) → is_enabled r ≡ false
    → Alike a b (step_result (if on then with_repeat (shadowed p a) r repeating else with_end (shadowed p a) r p.state NoShadow) s clocks)
    (step_result (if on then with_repeat (shadowed p b) r repeating else with_end (shadowed p b) r p.state NoShadow) s clocks)
iterating_by a b p r repeating s clocks true off = inr (record { cpu = refl; has = refl; bus = refl; clocks = refl; disabled = off })
iterating_by a b p r repeating s clocks false off = inl refl

iterating_alike : {S : Type 0} (bus : BusMeaning S) (a b : Shadow) (p : CpuState) (s : S) (r : Repeating) (clocks : ℕ) → is_enabled p.registers ≡ false
    → Alike a b (after_iterating bus (shadowed p a) s r clocks) (after_iterating bus (shadowed p b) s r clocks)
unfolding after_iterating
iterating_alike bus a b p s r clocks off =
    let done : Machine _ = after_iteration bus (machine p.registers s) r.operation r.segment in
    iterating_by a b p done.registers r done.bus clocks (goes_on done.registers r.operation r.repeat)
    (iteration_leaves bus (machine p.registers s) r.operation r.segment ∙ off)

again_alike : {S : Type 0} (bus : BusMeaning S) (a b : Shadow) (p : CpuState) (s : S) (r : Option Repeating) → is_enabled p.registers ≡ false
    → Alike a b (after_again_of bus (shadowed p a) s r) (after_again_of bus (shadowed p b) s r)
again_alike bus a b p s None off = differ a b p s 0 off
again_alike bus a b p s (Some r) off = iterating_alike bus a b (after_fetch p r.size) s r r.clocks off

-- a step

repeat_by : {S : Type 0} (bus : BusMeaning S) (a b : Shadow) (p : CpuState) (s : S) (r : Repeating) (none first : ℕ) (empty : Bool)
    → is_enabled p.registers ≡ false
    → Alike a b (if empty then step_result (with_end (shadowed p a) p.registers p.state NoShadow) s none else after_iterating bus (shadowed p a) s r first)
    (if empty then step_result (with_end (shadowed p b) p.registers p.state NoShadow) s none else after_iterating bus (shadowed p b) s r first)
repeat_by bus a b p s r none first true off = inl refl
repeat_by bus a b p s r none first false off = iterating_alike bus a b p s r first off

strings_by : {S : Type 0} (bus : BusMeaning S) (table : ClockTable) (a b : Shadow) (p : CpuState) (s : S) (op : Strings) (i : Instr) (repeats : Bool)
    → is_enabled p.registers ≡ false
    → Alike a b (if repeats then after_repeat bus table (shadowed p a) s op i else after_whole bus table (shadowed p a) s (operations.Strings op) i)
    (if repeats then after_repeat bus table (shadowed p b) s op i else after_whole bus table (shadowed p b) s (operations.Strings op) i)
unfolding after_repeat after_whole
strings_by bus table a b p s op i true off = repeat_by bus a b p s (repeating_of table op i) _ _ (p.registers.cx == 0) off
strings_by bus table a b p s op i false off = inl refl

begun_alike : {S : Type 0} (bus : BusMeaning S) (table : ClockTable) (a b : Shadow) (p : CpuState) (s : S) (op : Operation) (i : Instr)
    → is_enabled p.registers ≡ false → Alike a b (after_begun bus table (shadowed p a) s op i) (after_begun bus table (shadowed p b) s op i)
unfolding after_whole
begun_alike bus table a b p s (operations.Strings op) i off = strings_by bus table a b p s op i (is_repeated i) off
begun_alike bus table a b p s (operations.Arithmetic op) i off = inl refl
begun_alike bus table a b p s (operations.Shift op) i off = inl refl
begun_alike bus table a b p s (operations.Product op) i off = inl refl
begun_alike bus table a b p s (operations.Unary op) i off = inl refl
begun_alike bus table a b p s (operations.Jump op) i off = inl refl
begun_alike bus table a b p s (operations.Looping op) i off = inl refl
begun_alike bus table a b p s (operations.Adjust op) i off = inl refl
begun_alike bus table a b p s (operations.Transfer op) i off = inl refl
begun_alike bus table a b p s (operations.Control op) i off = inl refl
begun_alike bus table a b p s (operations.Processor op) i off = inl refl

step_alike : {S : Type 0} (bus : BusMeaning S) (table : ClockTable) (a b : Shadow) (p : CpuState) (s : S) (decoded : Decoded)
    → is_enabled p.registers ≡ false → Alike a b (after_step bus table (shadowed p a) s decoded) (after_step bus table (shadowed p b) s decoded)
unfolding after_step after_found
step_alike bus table a b p s NoRow off = inr (record { cpu = refl; has = refl; bus = refl; clocks = refl; disabled = off })
step_alike bus table a b p s (Found i size) off = begun_alike bus table a b (after_fetch p size) s (operation_of i.form.row) i off

enter_alike : {S : Type 0} (bus : BusMeaning S) (table : ClockTable) (a b : Shadow) (p : CpuState) (s : S) (kind : ℕ) (cause : Cause)
    → Alike a b (after_enter bus table (shadowed p a) s kind cause) (after_enter bus table (shadowed p b) s kind cause)
unfolding after_enter after_entry after_vector
enter_alike bus table a b p s kind cause = inr (record { cpu = refl; has = refl; bus = refl; clocks = refl; disabled = refl })

act_alike : (table : ClockTable) (a b : Shadow) (p : CpuState) (busy : ℕ) (chips : ChipsState) (act : Act) → is_enabled p.registers ≡ false
    → Alike a b (after_act table (shadowed p a) busy chips act) (after_act table (shadowed p b) busy chips act)
unfolding after_again
act_alike table a b p busy chips Nothing off = differ a b p chips busy off
act_alike table a b p busy chips Request off = enter_alike chips_bus table a b p (after_acknowledge chips) (pic.vector chips.pic) causes.Request
act_alike table a b p busy chips SingleStep off = enter_alike chips_bus table a b p chips 1 causes.SingleStep
act_alike table a b p busy chips Iteration off = again_alike chips_bus a b p chips p.repeat off
act_alike table a b p busy chips (Instruction decoded) off = step_alike chips_bus table a b p chips decoded off

-- what a free processor does

single_let : (a : Shadow) → IsTrue (lets_single_steps a) → lets_single_steps a ≡ true
single_let NoShadow lets = refl
single_let Requests lets = refl
single_let Interrupts lets = lets

same_boundary : (p : CpuState) (a b : Shadow) (asked : Bool) → is_enabled p.registers ≡ false → IsTrue (lets_single_steps a) → IsTrue (lets_single_steps b)
    → boundary_of (shadowed p b) asked ≡ boundary_of (shadowed p a) asked
unfolding boundary_of
same_boundary p a b asked off one other =
    let taken : (asked && (is_enabled p.registers && lets_requests b)) ≡ (asked && (is_enabled p.registers && lets_requests a)) =
    ap (λ e. asked && (e && lets_requests b)) off ∙ sym (ap (λ e. asked && (e && lets_requests a)) off) in
    let single : (p.step_due && lets_single_steps b) ≡ (p.step_due && lets_single_steps a) =
    ap (λ l. p.step_due && l) (single_let b other ∙ sym (single_let a one)) in
    λ i. if is_jammed p.state then boundaries.Nothing else (if taken i then boundaries.Request else (if single i then boundaries.SingleStep else (
    if is_halted p.state then boundaries.Nothing else (if is_some p.repeat then boundaries.Iteration else boundaries.Instruction))))

same_act_at : (p : CpuState) (a b : Shadow) (chips : ChipsState) (at : Boundary) → act_at (shadowed p b) chips at ≡ act_at (shadowed p a) chips at
same_act_at p a b chips boundaries.Request = refl
same_act_at p a b chips boundaries.SingleStep = refl
same_act_at p a b chips boundaries.Nothing = refl
same_act_at p a b chips boundaries.Iteration = refl
same_act_at p a b chips boundaries.Instruction = refl

abbrev with_shadow : Plain → Shadow → Plain
with_shadow s a = record s { cpu = shadowed s.cpu a }

same_act : (s : Plain) (a b : Shadow) → is_enabled s.cpu.registers ≡ false → IsTrue (lets_single_steps a) → IsTrue (lets_single_steps b)
    → next_act (with_shadow s b) ≡ next_act (with_shadow s a)
unfolding next_act
same_act s a b off one other =
    let asked : Bool = pic.is_requesting s.chips.pic in
    ap (λ act. if is_free s then act else Nothing)
    (ap (act_at (shadowed s.cpu b) s.chips) (same_boundary s.cpu a b asked off one other)
    ∙ same_act_at s.cpu a b s.chips (boundary_of (shadowed s.cpu a) asked))

-- one clock, and n

abbrev Outcome : Plain → Plain → Type 0
Outcome s t = (t ≡ s) ⊎ DifferInRequests s t

abbrev later : Plain → StepResult ChipsState → Plain
later s acted = record {
  cpu = acted.cpu;
  busy = acted.clocks - 1;
  chips = chips_after_clock acted.bus s.keys;
  keys = s.keys;
  clocks = s.clocks;
}

still_alike : (s : Plain) (a b : Shadow) (x y : StepResult ChipsState) → IsTrue (lets_single_steps a) → IsTrue (lets_single_steps b) → Alike a b x y
    → Outcome (later s x) (later s y)
still_alike s a b x y one other (inl same) = inl (ap (later s) (sym same))
still_alike s a b x y one other (inr only) =
    let shadow : y.cpu.shadow ≡ b = ap (λ (p : CpuState). p.shadow) only.cpu in
    let cpu : y.cpu ≡ shadowed x.cpu y.cpu.shadow = only.cpu ∙ ap (shadowed x.cpu) (sym shadow) in
    inr (record {
      alone = λ i. record { cpu = cpu i; busy = only.clocks i - 1; chips = chips_after_clock (only.bus i) s.keys; keys = s.keys; clocks = s.clocks };
      disabled = only.disabled;
      one = subst (λ c. IsTrue (lets_single_steps c)) (sym only.has) one;
      other = subst (λ c. IsTrue (lets_single_steps c)) (sym shadow) other;
    })

one_clock : (s : Plain) (a b : Shadow) → is_enabled s.cpu.registers ≡ false → IsTrue (lets_single_steps a) → IsTrue (lets_single_steps b)
    → Outcome (after_clock (with_shadow s a)) (after_clock (with_shadow s b))
unfolding after_clock
one_clock s a b off one other =
    let x : StepResult ChipsState = after_act s.clocks (shadowed s.cpu a) s.busy s.chips (next_act (with_shadow s a)) in
    still_alike s a b x (after_act s.clocks (shadowed s.cpu b) s.busy s.chips (next_act (with_shadow s b))) one other
    (subst (λ act. Alike a b x (after_act s.clocks (shadowed s.cpu b) s.busy s.chips act)) (sym (same_act s a b off one other))
    (act_alike s.clocks a b s.cpu s.busy s.chips (next_act (with_shadow s a)) off))

clock_more : (s t : Plain) → Outcome s t → Outcome (after_clock s) (after_clock t)
clock_more s t (inl same) = inl (ap after_clock same)
clock_more s t (inr two) =
    subst (λ u. Outcome (after_clock s) (after_clock u)) (sym two.alone)
    (one_clock s s.cpu.shadow t.cpu.shadow two.disabled two.one two.other)

outcome_at : (s t u v : Plain) → u ≡ s → v ≡ t → Outcome s t → Outcome u v
outcome_at s t u v first second there = subst (λ w. Outcome u w) (sym second) (subst (λ w. Outcome w t) (sym first) there)

outcome_in : (s t : Plain) (n : ℕ) → DifferInRequests s t → Outcome (after_clocks s n) (after_clocks t n)
outcome_in s t zero two = outcome_at s t _ _ (iterate_zero after_clock s) (iterate_zero after_clock t) (inr two)
outcome_in s t (suc n) two =
    let more : suc n ≡ n + 1 = omega arith in
    outcome_at (after_clock (after_clocks s n)) (after_clock (after_clocks t n)) (after_clocks s (suc n)) (after_clocks t (suc n))
    (ap (after_clocks s) more ∙ iterate_more after_clock n s) (ap (after_clocks t) more ∙ iterate_more after_clock n t)
    (clock_more (after_clocks s n) (after_clocks t n) (outcome_in s t n two))

pub shadows_change_nothing : ShadowsChangeNothing
shadows_change_nothing s t n two = outcome_in s t n two
