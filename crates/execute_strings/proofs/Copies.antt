-- MOVS, iteration after iteration.
use Rattle.std.proofs.Common.{◌≡◌, ◌<◌, ◌+◌, ◌*◌, ◌-◌, ◌/◌, ◌%◌, ℕ, zero, suc, Bool, true, false, inl, inr, if◌then◌else◌, refl, sym, ap, ◌∙◌, subst, arith}
use Rattle.std.proofs.lemmas.Bool.{cases_eq}
use Rattle.board_types.specs.Address.{physical, offset_after}
use Rattle.board_types.specs.Iterate.{iterate}
use Rattle.board_types.proofs.Iterate.{iterate_more}
use Rattle.isa.specs.declared.register.SegmentRegister.{SegmentRegister}
use Rattle.isa.specs.declared.register.SegmentRegister.TheVariants.{Es, Cs, Ss, Ds}
use Rattle.isa.specs.declared.register.WordRegister.TheVariants.{Cx, Si, Di}
use Rattle.bus.specs.Bus.{BusMeaning, with_word_at}
use Rattle.bus.specs.BusPromises.{IsBus}
use Rattle.execute_machine.specs.declared.width.Width.{Width}
use Rattle.execute_machine.specs.declared.width.Width.TheVariants as widths
use Rattle.execute_machine.specs.RegisterFile.{Registers}
use Rattle.execute_machine.specs.Registers.{segment_register, string_offset_after, word_register}
use Rattle.execute_machine.specs.declared.location.OperandLocation.{OperandLocation}
use Rattle.execute_machine.specs.Locations.{Machine, value_at, with_value_at, word_at}
use Rattle.execute_machine.specs.Memory.{HoldsBytes, HoldsWords}
use Rattle.execute_machine.proofs.Memory.{word_fixed, word_leaves, word_reads_back}
use Rattle.execute_strings.specs.StringMeaning.{after_iteration, after_movs, after_element, destination, element_at, element_size, source}
use Rattle.execute_strings.specs.Elements.{movs_of}
use Rattle.execute_strings.specs.StringLaws.{CopiesInOrder, IsOutside, TakesElement, after_copies, destination_element, element_offset, source_element}

-- one iteration

abbrev with_copy : {S : Type 0} → BusMeaning S → Machine S → OperandLocation → OperandLocation → S
with_copy bus m to from = (with_value_at bus m to (value_at bus m from)).bus

moved : {S : Type 0} (bus : BusMeaning S) (m : Machine S) (width : Width) (chosen : SegmentRegister)
    → (after_iteration bus m (movs_of width) chosen).registers ≡ record m.registers {
      si = string_offset_after m.registers.flags m.registers.si (element_size width);
      di = string_offset_after m.registers.flags m.registers.di (element_size width);
      cx = offset_after m.registers.cx 65535;
    }
unfolding after_iteration after_element after_movs with_value_at
moved bus m widths.Byte chosen = refl
moved bus m widths.Word chosen = refl

copied : {S : Type 0} (bus : BusMeaning S) (m : Machine S) (width : Width) (chosen : SegmentRegister)
    → (after_iteration bus m (movs_of width) chosen).bus ≡ with_copy bus m (destination m.registers width) (source m.registers chosen width)
unfolding after_iteration after_element after_movs
copied bus m widths.Byte chosen = refl
copied bus m widths.Word chosen = refl

-- what an element's place takes

cut_fits : (byte : ℕ) → byte < 256 → byte % 256 ≡ byte
cut_fits byte fits = omega arith

value_stands : {S : Type 0} (bus : BusMeaning S) → IsBus bus → (m after : Machine S) (width : Width) (to_segment to_offset from_segment from_offset : ℕ)
    → after.bus ≡ with_copy bus m (element_at width to_segment to_offset) (element_at width from_segment from_offset)
    → to_offset < 65536 → HoldsBytes bus m.bus → TakesElement bus m.bus (element_at width to_segment to_offset)
    → value_at bus after (element_at width to_segment to_offset) ≡ value_at bus m (element_at width from_segment from_offset)
unfolding value_at with_value_at
value_stands bus laws m after widths.Byte to_segment to_offset from_segment from_offset is fits holds takes =
    let byte = bus.byte_at m.bus (physical from_segment from_offset) in
    ap (λ s. bus.byte_at s (physical to_segment to_offset)) is ∙ laws.written m.bus (physical to_segment to_offset) (byte % 256) takes ∙ cut_fits byte (holds _)
value_stands bus laws m after widths.Word to_segment to_offset from_segment from_offset is fits holds takes =
    ap (λ s. word_at bus s to_segment to_offset) is ∙ word_reads_back bus laws m.bus to_segment to_offset _ fits takes

others_stay : {S : Type 0} (bus : BusMeaning S) → IsBus bus
    → (m : Machine S) (width : Width) (segment offset : ℕ) (from : OperandLocation) (address : ℕ) → IsOutside address (element_at width segment offset)
    → bus.byte_at (with_copy bus m (element_at width segment offset) from) address ≡ bus.byte_at m.bus address
unfolding with_value_at
others_stay bus laws m widths.Byte segment offset from address outside = laws.others _ _ _ address outside
others_stay bus laws m widths.Word segment offset from address (not_low, not_high) = word_leaves bus laws m.bus segment offset _ address not_low not_high

fixed_by_copy : {S : Type 0} (bus : BusMeaning S) → IsBus bus → (m : Machine S) (width : Width) (segment offset : ℕ) (from : OperandLocation) (address : ℕ)
    → bus.is_writable (with_copy bus m (element_at width segment offset) from) address ≡ bus.is_writable m.bus address
unfolding with_value_at
fixed_by_copy bus laws m widths.Byte segment offset from address = laws.fixed _ _ _ address
fixed_by_copy bus laws m widths.Word segment offset from address = word_fixed bus laws m.bus segment offset _ address

-- memory goes on to hold bytes

byte_is_held : {S : Type 0} (bus : BusMeaning S) → IsBus bus → (s : S) (place byte : ℕ) (takes : Bool)
    → bus.is_writable s place ≡ takes → byte < 256 → HoldsBytes bus s → HoldsBytes bus (bus.after_write s place byte)
byte_is_held bus laws s place byte true is fits holds = λ address.
    let P : ℕ → Type 0 = λ a. bus.byte_at (bus.after_write s place byte) a < 256 in
    elim (cases_eq address place) as (λ _. P address) [
      | inl here ↦ subst P (sym here) (subst (λ v. v < 256) (sym (laws.written s place byte is)) fits)
      | inr other ↦ subst (λ v. v < 256) (sym (laws.others s place byte address other)) (holds address)
    ]
byte_is_held bus laws s place byte false is fits holds = λ address.
    let P : ℕ → Type 0 = λ a. bus.byte_at (bus.after_write s place byte) a < 256 in
    elim (cases_eq address place) as (λ _. P address) [
      | inl here ↦ subst P (sym here) (subst (λ v. v < 256) (sym (laws.refused s place byte is)) (holds place))
      | inr other ↦ subst (λ v. v < 256) (sym (laws.others s place byte address other)) (holds address)
    ]

held_after_write : {S : Type 0} (bus : BusMeaning S) → IsBus bus → (s : S) (place byte : ℕ) → byte < 256 → HoldsBytes bus s
    → HoldsBytes bus (bus.after_write s place byte)
held_after_write bus laws s place byte fits holds = byte_is_held bus laws s place byte (bus.is_writable s place) refl fits holds

cut_below : (value : ℕ) → value % 256 < 256
cut_below value = omega arith

held_after_word : {S : Type 0} (bus : BusMeaning S) → IsBus bus → (s : S) (segment offset word : ℕ) → word < 65536 → HoldsBytes bus s
    → HoldsBytes bus (with_word_at bus s segment offset word)
unfolding with_word_at
held_after_word bus laws s segment offset word fits holds =
    held_after_write bus laws _ _ (word / 256) (omega arith) (held_after_write bus laws s _ (word % 256) (cut_below word) holds)

word_fits : {S : Type 0} (bus : BusMeaning S) (s : S) (segment offset : ℕ) → HoldsBytes bus s → word_at bus s segment offset < 65536
unfolding word_at
word_fits bus s segment offset holds =
    let low = holds (physical segment offset) in
    let high = holds (physical segment (offset_after offset 1)) in
    omega arith

held_by_copy : {S : Type 0} (bus : BusMeaning S) → IsBus bus → (m : Machine S) (width : Width) (to_segment to_offset from_segment from_offset : ℕ)
    → HoldsBytes bus m.bus → HoldsBytes bus (with_copy bus m (element_at width to_segment to_offset) (element_at width from_segment from_offset))
unfolding value_at with_value_at
held_by_copy bus laws m widths.Byte to_segment to_offset from_segment from_offset holds = held_after_write bus laws _ _ _ (cut_below _) holds
held_by_copy bus laws m widths.Word to_segment to_offset from_segment from_offset holds =
    held_after_word bus laws _ _ _ _ (word_fits bus m.bus from_segment from_offset holds) holds

-- SI, DI and CX

first_element : (direction : Bool) (width : Width) (offset : ℕ) → offset < 65536 → element_offset direction offset (element_size width) 0 ≡ offset
first_element true widths.Byte offset fits = omega arith
first_element true widths.Word offset fits = omega arith
first_element false widths.Byte offset fits = omega arith
first_element false widths.Word offset fits = omega arith

next_element : (direction : Bool) (width : Width) (offset n : ℕ)
    → (if direction then offset_after (element_offset direction offset (element_size width) n) (65536 - element_size width)
    else offset_after (element_offset direction offset (element_size width) n) (element_size width))
    ≡ element_offset direction offset (element_size width) (suc n)
next_element true widths.Byte offset n = omega arith
next_element true widths.Word offset n = omega arith
next_element false widths.Byte offset n = omega arith
next_element false widths.Word offset n = omega arith

element_fits : (direction : Bool) (offset size n : ℕ) → element_offset direction offset size n < 65536
element_fits true offset size n = omega arith
element_fits false offset size n = omega arith

first_count : (cx : ℕ) → cx < 65536 → (cx + 65536 * 0 - 0) % 65536 ≡ cx
first_count cx fits = omega arith

next_count : (cx n : ℕ) → offset_after ((cx + 65536 * n - n) % 65536) 65535 ≡ (cx + 65536 * suc n - suc n) % 65536
next_count cx n = omega arith

-- the registers after n iterations
abbrev at_element : Registers → Width → ℕ → Registers
at_element r width n = record r {
  si = element_offset r.flags.direction r.si (element_size width) n;
  di = element_offset r.flags.direction r.di (element_size width) n;
  cx = (r.cx + 65536 * n - n) % 65536;
}

abbrev with_three : Registers → ℕ → ℕ → ℕ → Registers
with_three r si di cx = record r { si = si; di = di; cx = cx }

three_same : (r : Registers) (si di cx si' di' cx' : ℕ) → si ≡ si' → di ≡ di' → cx ≡ cx' → with_three r si di cx ≡ with_three r si' di' cx'
three_same r si di cx si' di' cx' e f g = ap (λ x. with_three r x di cx) e ∙ ap (λ x. with_three r si' x cx) f ∙ ap (λ x. with_three r si' di' x) g

registers_at : {S : Type 0} (bus : BusMeaning S) (m : Machine S) (width : Width) (chosen : SegmentRegister) (n : ℕ) → HoldsWords m.registers
    → (after_copies bus m width chosen n).registers ≡ at_element m.registers width n
unfolding iterate word_register
registers_at bus m width chosen zero words =
    let r = m.registers in
    sym (three_same r _ _ _ _ _ _ (first_element r.flags.direction width r.si (words Si))
    (first_element r.flags.direction width r.di (words Di)) (first_count r.cx (words Cx)))
registers_at bus m width chosen (suc n) words =
    let r = m.registers in
    let before = after_copies bus m width chosen n in
    moved bus before width chosen
    ∙ ap (λ q.
    with_three q (string_offset_after q.flags q.si (element_size width)) (string_offset_after q.flags q.di (element_size width)) (offset_after q.cx 65535))
    (registers_at bus m width chosen n words)
    ∙ three_same r _ _ _ _ _ _ (next_element r.flags.direction width r.si n) (next_element r.flags.direction width r.di n) (next_count r.cx n)

-- all iterations

segment_stays : (r : Registers) (si di cx : ℕ) (segment : SegmentRegister) → segment_register (with_three r si di cx) segment ≡ segment_register r segment
unfolding segment_register
segment_stays r si di cx Es = refl
segment_stays r si di cx Cs = refl
segment_stays r si di cx Ss = refl
segment_stays r si di cx Ds = refl

bus_after : {S : Type 0} (bus : BusMeaning S) (m : Machine S) (width : Width) (chosen : SegmentRegister) (n : ℕ) → HoldsWords m.registers
    → (after_copies bus m width chosen (n + 1)).bus
    ≡ with_copy bus (after_copies bus m width chosen n) (destination_element m.registers width n) (source_element m.registers width chosen n)
bus_after bus m width chosen n words =
    let before = after_copies bus m width chosen n in
    let r = m.registers in
    let at = registers_at bus m width chosen n words in
    let si = element_offset r.flags.direction r.si (element_size width) n in
    ap (λ t. t.bus) (iterate_more (λ t. after_iteration bus t (movs_of width) chosen) n m)
    ∙ copied bus before width chosen
    ∙ ap (λ q. with_copy bus before (destination q width) (source q chosen width)) at
    ∙ ap (λ segment. with_copy bus before (destination_element r width n) (element_at width segment si))
    (segment_stays r si (element_offset r.flags.direction r.di (element_size width) n)
    ((r.cx + 65536 * n - n) % 65536) chosen)

fixed_after : {S : Type 0} (bus : BusMeaning S) → IsBus bus → (m : Machine S) (width : Width) (chosen : SegmentRegister) (n address : ℕ)
    → bus.is_writable (after_copies bus m width chosen n).bus address ≡ bus.is_writable m.bus address
unfolding iterate
fixed_after bus laws m width chosen zero address = refl
fixed_after bus laws m width chosen (suc n) address =
    let before = after_copies bus m width chosen n in
    ap (λ s. bus.is_writable s address) (copied bus before width chosen)
    ∙ fixed_by_copy bus laws before width _ _ (source before.registers chosen width) address
    ∙ fixed_after bus laws m width chosen n address

held_after : {S : Type 0} (bus : BusMeaning S) → IsBus bus → (m : Machine S) (width : Width) (chosen : SegmentRegister) (n : ℕ) → HoldsBytes bus m.bus
    → HoldsBytes bus (after_copies bus m width chosen n).bus
unfolding iterate
held_after bus laws m width chosen zero holds = holds
held_after bus laws m width chosen (suc n) holds =
    let before = after_copies bus m width chosen n in
    subst (HoldsBytes bus) (sym (copied bus before width chosen)) (held_by_copy bus laws before width _ _ _ _ (held_after bus laws m width chosen n holds))

takes_after : {S : Type 0} (bus : BusMeaning S) (s t : S) (width : Width) (segment offset : ℕ)
    → ((address : ℕ) → bus.is_writable t address ≡ bus.is_writable s address) → TakesElement bus s (element_at width segment offset)
    → TakesElement bus t (element_at width segment offset)
takes_after bus s t widths.Byte segment offset fixed takes = fixed _ ∙ takes
takes_after bus s t widths.Word segment offset fixed takes = record { low = fixed _ ∙ takes.low; high = fixed _ ∙ takes.high }

element_copied : {S : Type 0} (bus : BusMeaning S) → IsBus bus → (m : Machine S) (width : Width) (chosen : SegmentRegister) (n : ℕ)
    → HoldsWords m.registers → HoldsBytes bus m.bus → TakesElement bus m.bus (destination_element m.registers width n)
    → value_at bus (after_copies bus m width chosen (n + 1)) (destination_element m.registers width n)
    ≡ value_at bus (after_copies bus m width chosen n) (source_element m.registers width chosen n)
element_copied bus laws m width chosen n words holds takes =
    let before = after_copies bus m width chosen n in
    let r = m.registers in
    value_stands bus laws before (after_copies bus m width chosen (n + 1)) width r.es (element_offset r.flags.direction r.di (element_size width) n)
    (segment_register r chosen) (element_offset r.flags.direction r.si (element_size width) n)
    (bus_after bus m width chosen n words)
    (element_fits r.flags.direction r.di (element_size width) n)
    (held_after bus laws m width chosen n holds)
    (takes_after bus m.bus before.bus width r.es _ (fixed_after bus laws m width chosen n) takes)

others_kept : {S : Type 0} (bus : BusMeaning S) → IsBus bus → (m : Machine S) (width : Width) (chosen : SegmentRegister) (n address : ℕ)
    → HoldsWords m.registers → IsOutside address (destination_element m.registers width n)
    → bus.byte_at (after_copies bus m width chosen (n + 1)).bus address ≡ bus.byte_at (after_copies bus m width chosen n).bus address
others_kept bus laws m width chosen n address words outside =
    ap (λ s. bus.byte_at s address) (bus_after bus m width chosen n words)
    ∙ others_stay bus laws (after_copies bus m width chosen n) width m.registers.es _ (source_element m.registers width chosen n) address outside

pub copies_in_order : {S : Type 0} (bus : BusMeaning S) → IsBus bus → CopiesInOrder bus
copies_in_order bus laws = record {
  element = element_copied bus laws;
  others = others_kept bus laws;
  registers = registers_at bus;
}
