-- PUSH, and then POP.
use Rattle.std.specs.Prelude.{unwrap_or}
use Rattle.std.proofs.Common.{◌≡◌, ◌<◌, ℕ, refl, ap, ◌∙◌, arith}
use Rattle.board_types.specs.Address.{offset_after}
use Rattle.isa.specs.declared.register.SegmentRegister.{SegmentRegister}
use Rattle.isa.specs.declared.register.SegmentRegister.TheVariants.{Es, Cs, Ss, Ds}
use Rattle.isa.specs.declared.row.Kind.{Kind}
use Rattle.isa.specs.declared.row.Kind.TheVariants as kinds
use Rattle.isa.specs.declared.form.Base.{Base as BaseType}
use Rattle.isa.specs.declared.form.Base.TheVariants.{BxSi, BxDi, BpSi, BpDi, Si, Di, Bp, Bx}
use Rattle.isa.specs.declared.form.Place.{Place}
use Rattle.isa.specs.declared.form.Place.TheVariants.{Absent, Register, Direct, Base, BaseByte, BaseWord}
use Rattle.isa.specs.declared.form.Instr.{Instr}
use Rattle.isa.specs.Prefixes.{chosen_segment}
use Rattle.isa.specs.Row.{first_of}
use Rattle.bus.specs.Bus.{BusMeaning}
use Rattle.bus.specs.BusPromises.{IsBus}
use Rattle.execute_machine.specs.RegisterFile.{Registers}
use Rattle.execute_machine.specs.Registers.{segment_register}
use Rattle.execute_machine.specs.declared.location.OperandLocation.{OperandLocation}
use Rattle.execute_machine.specs.declared.location.OperandLocation.TheVariants.{ByteAt, WordAt}
use Rattle.isa.specs.Encoding.{sign_extended}
use Rattle.execute_machine.specs.Locations.{Machine, base_offset, byte_place, location_of, machine}
use Rattle.execute_machine.specs.Locations.{place_offset, segment_for, usual_segment, with_value_at, word_place}
use Rattle.execute_machine.specs.Memory.{TakesWord}
use Rattle.execute_machine.specs.Stack.{after_pop, after_push, top_word}
use Rattle.execute_machine.proofs.Memory.{word_reads_back}
use Rattle.execute_transfer.specs.TransferMeaning.{after_pop_operand, after_push_operand, after_transfer, first_place, pushed_operand}
use Rattle.execute_transfer.specs.TransferLaws.{PopGivesBack, PushSpStoresTheLowered}

-- no address uses SP

abbrev with_sp : Registers → ℕ → Registers
with_sp r sp = record r { sp = sp }

base_without_sp : (r : Registers) (sp : ℕ) (base : BaseType) → base_offset (with_sp r sp) base ≡ base_offset r base
unfolding base_offset
base_without_sp r sp BxSi = refl
base_without_sp r sp BxDi = refl
base_without_sp r sp BpSi = refl
base_without_sp r sp BpDi = refl
base_without_sp r sp Si = refl
base_without_sp r sp Di = refl
base_without_sp r sp Bp = refl
base_without_sp r sp Bx = refl

offset_without_sp : (r : Registers) (sp : ℕ) (place : Place) (displacement : ℕ)
    → place_offset (with_sp r sp) place displacement ≡ place_offset r place displacement
unfolding place_offset
offset_without_sp r sp (Base base) displacement = base_without_sp r sp base
offset_without_sp r sp (BaseByte base) displacement = ap (λ o. offset_after o (sign_extended displacement)) (base_without_sp r sp base)
offset_without_sp r sp (BaseWord base) displacement = ap (λ o. offset_after o displacement) (base_without_sp r sp base)
offset_without_sp r sp _ displacement = refl

segment_without_sp : (r : Registers) (sp : ℕ) (segment : SegmentRegister) → segment_register (with_sp r sp) segment ≡ segment_register r segment
unfolding segment_register
segment_without_sp r sp Es = refl
segment_without_sp r sp Cs = refl
segment_without_sp r sp Ss = refl
segment_without_sp r sp Ds = refl

memory_without_sp : (at : ℕ → ℕ → OperandLocation) (r : Registers) (sp : ℕ) (i : Instr) (place : Place)
    → at (segment_for (with_sp r sp) i (usual_segment place)) (place_offset (with_sp r sp) place i.values.displacement)
    ≡ at (segment_for r i (usual_segment place)) (place_offset r place i.values.displacement)
memory_without_sp at r sp i place =
    ap (λ s. at s (place_offset (with_sp r sp) place i.values.displacement))
    (segment_without_sp r sp (unwrap_or (chosen_segment i.prefixes.items) (usual_segment place)))
    ∙ ap (λ o. at (segment_for r i (usual_segment place)) o) (offset_without_sp r sp place i.values.displacement)

byte_place_without_sp : (r : Registers) (sp : ℕ) (i : Instr) (place : Place) → byte_place (with_sp r sp) i place ≡ byte_place r i place
byte_place_without_sp r sp i Absent = memory_without_sp ByteAt r sp i Absent
byte_place_without_sp r sp i (Register number) = refl
byte_place_without_sp r sp i Direct = memory_without_sp ByteAt r sp i Direct
byte_place_without_sp r sp i (Base base) = memory_without_sp ByteAt r sp i (Base base)
byte_place_without_sp r sp i (BaseByte base) = memory_without_sp ByteAt r sp i (BaseByte base)
byte_place_without_sp r sp i (BaseWord base) = memory_without_sp ByteAt r sp i (BaseWord base)

word_place_without_sp : (r : Registers) (sp : ℕ) (i : Instr) (place : Place) → word_place (with_sp r sp) i place ≡ word_place r i place
word_place_without_sp r sp i Absent = memory_without_sp WordAt r sp i Absent
word_place_without_sp r sp i (Register number) = refl
word_place_without_sp r sp i Direct = memory_without_sp WordAt r sp i Direct
word_place_without_sp r sp i (Base base) = memory_without_sp WordAt r sp i (Base base)
word_place_without_sp r sp i (BaseByte base) = memory_without_sp WordAt r sp i (BaseByte base)
word_place_without_sp r sp i (BaseWord base) = memory_without_sp WordAt r sp i (BaseWord base)

place_without_sp : (r : Registers) (sp : ℕ) (i : Instr) (kind : Kind) → location_of (with_sp r sp) i kind ≡ location_of r i kind
unfolding location_of
place_without_sp r sp i kinds.Rm8 = byte_place_without_sp r sp i i.form.place
place_without_sp r sp i kinds.Rm16 = word_place_without_sp r sp i i.form.place
place_without_sp r sp i kinds.Memory = word_place_without_sp r sp i i.form.place
place_without_sp r sp i kinds.At8 = ap (λ s. ByteAt s i.values.number) (segment_without_sp r sp (unwrap_or (chosen_segment i.prefixes.items) Ds))
place_without_sp r sp i kinds.At16 = ap (λ s. WordAt s i.values.number) (segment_without_sp r sp (unwrap_or (chosen_segment i.prefixes.items) Ds))
place_without_sp r sp i _ = refl

-- what is pushed stands on top, and taking it off raises SP to what it was

lowered_fits : (sp : ℕ) → offset_after sp 65534 < 65536
lowered_fits sp = omega arith

raised : (sp : ℕ) → sp < 65536 → offset_after (offset_after sp 65534) 2 ≡ sp
raised sp fits = omega arith

pushed_on_top : {S : Type 0} (bus : BusMeaning S) → IsBus bus → (m : Machine S) (word : ℕ)
    → TakesWord bus m.bus m.registers.ss (offset_after m.registers.sp 65534) → top_word bus (after_push bus m word) ≡ word
unfolding top_word after_push
pushed_on_top bus laws m word takes =
    word_reads_back bus laws m.bus m.registers.ss (offset_after m.registers.sp 65534) word (lowered_fits m.registers.sp) takes

taken_off : {S : Type 0} (bus : BusMeaning S) (m : Machine S) (word : ℕ) → m.registers.sp < 65536
    → after_pop (after_push bus m word) 2 ≡ machine m.registers (after_push bus m word).bus
unfolding after_pop after_push
taken_off bus m word fits = ap (λ sp. machine (with_sp m.registers sp) (after_push bus m word).bus) (raised m.registers.sp fits)

place_after_push : {S : Type 0} (bus : BusMeaning S) (m : Machine S) (word : ℕ) (j : Instr)
    → first_place (after_push bus m word).registers j ≡ first_place m.registers j
unfolding after_push
place_after_push bus m word j = place_without_sp m.registers (offset_after m.registers.sp 65534) j (first_of j.form.row)

pub pop_gives_back : {S : Type 0} (bus : BusMeaning S) → IsBus bus → PopGivesBack bus
unfolding after_transfer after_push_operand after_pop_operand
pop_gives_back bus laws m i j fits takes =
    let word = pushed_operand bus m (first_place m.registers i) in
    let pushed = after_push bus m word in
    ap (λ t. with_value_at bus t (first_place pushed.registers j) (top_word bus pushed)) (taken_off bus m word fits)
    ∙ ap (λ l. with_value_at bus (machine m.registers pushed.bus) l (top_word bus pushed)) (place_after_push bus m word j)
    ∙ ap (λ v. with_value_at bus (machine m.registers pushed.bus) (first_place m.registers j) v) (pushed_on_top bus laws m word takes)

sp_after_push : {S : Type 0} (bus : BusMeaning S) (m : Machine S) (word : ℕ) → (after_push bus m word).registers.sp ≡ offset_after m.registers.sp 65534
unfolding after_push
sp_after_push bus m word = refl

pub push_sp_stores_the_lowered : {S : Type 0} (bus : BusMeaning S) → IsBus bus → PushSpStoresTheLowered bus
unfolding after_transfer after_push_operand
push_sp_stores_the_lowered bus laws m i is takes =
    let word = pushed_operand bus m (first_place m.registers i) in
    (sp_after_push bus m word, pushed_on_top bus laws m word takes ∙ ap (λ l. pushed_operand bus m l) is)
