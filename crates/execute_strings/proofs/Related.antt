-- Over two buses in states that are related, a string instruction does the same to the registers and leaves states that
-- are related.
use Rattle.std.proofs.Common.{refl, ap}
use Rattle.board_types.specs.Address.{offset_after}
use Rattle.isa.specs.declared.operation.Strings.{Strings}
use Rattle.isa.specs.declared.operation.Strings.TheVariants.{Movsb, Movsw, Cmpsb, Cmpsw, Stosb, Stosw, Lodsb, Lodsw, Scasb, Scasw}
use Rattle.isa.specs.declared.register.SegmentRegister.{SegmentRegister}
use Rattle.bus.specs.Bus.{BusMeaning}
use Rattle.execute_machine.specs.RegisterFile.{Registers}
use Rattle.execute_machine.specs.Flags.{forgetting}
use Rattle.execute_machine.specs.Sums.{with_difference}
use Rattle.execute_machine.specs.declared.width.Width.{Width}
use Rattle.execute_machine.specs.declared.width.Width.TheVariants.{Byte, Word}
use Rattle.execute_machine.specs.Locations.{machine}
use Rattle.execute_machine.proofs.Related.{Alike, Same, both, same_by_put, same_operand, same_value}
use Rattle.execute_strings.specs.StringMeaning.{accumulator, after_cmps, after_element, after_iteration, after_lods, after_movs}
use Rattle.execute_strings.specs.StringMeaning.{after_scas, after_stos, destination, source, with_next_destination, with_next_source}

same_by_movs : {S T : Type 0} (bus : BusMeaning S) (other : BusMeaning T) (R : S → T → Type 0)
    → Alike bus other R → (r : Registers) (s : S) (t : T) (width : Width) (chosen : SegmentRegister) → R s t
    → Same R (after_movs bus (machine r s) width chosen) (after_movs other (machine r t) width chosen)
unfolding after_movs
same_by_movs bus other R alike r s t width chosen related =
    let same = same_by_put bus other R alike (machine r s) (machine r t) (destination r width) _ _
    (same_value bus other R alike r s t (source r chosen width) related) (record { registers = refl; bus = related }) in
    record {
      registers = ap (λ (x : Registers). with_next_destination (with_next_source x width) width) same.registers;
      bus = same.bus;
    }

same_by_cmps : {S T : Type 0} (bus : BusMeaning S) (other : BusMeaning T) (R : S → T → Type 0)
    → Alike bus other R → (r : Registers) (s : S) (t : T) (width : Width) (chosen : SegmentRegister) → R s t
    → Same R (after_cmps bus (machine r s) width chosen) (after_cmps other (machine r t) width chosen)
unfolding after_cmps
same_by_cmps bus other R alike r s t width chosen related = record {
  registers =
      both (λ a b. with_next_destination (with_next_source (record r { flags = with_difference (forgetting r.flags) width a b 0 }) width) width) _ _ _ _
      (same_operand bus other R alike r s t (source r chosen width) width related) (same_operand bus other R alike r s t (destination r width) width related);
  bus = related;
}

same_by_stos : {S T : Type 0} (bus : BusMeaning S) (other : BusMeaning T) (R : S → T → Type 0) → Alike bus other R
    → (r : Registers) (s : S) (t : T) (width : Width) → R s t → Same R (after_stos bus (machine r s) width) (after_stos other (machine r t) width)
unfolding after_stos
same_by_stos bus other R alike r s t width related =
    let same = same_by_put bus other R alike (machine r s) (machine r t) (destination r width) _ _
    (same_value bus other R alike r s t (accumulator width) related) (record { registers = refl; bus = related }) in
    record {
      registers = ap (λ (x : Registers). with_next_destination x width) same.registers;
      bus = same.bus;
    }

same_by_lods : {S T : Type 0} (bus : BusMeaning S) (other : BusMeaning T) (R : S → T → Type 0)
    → Alike bus other R → (r : Registers) (s : S) (t : T) (width : Width) (chosen : SegmentRegister) → R s t
    → Same R (after_lods bus (machine r s) width chosen) (after_lods other (machine r t) width chosen)
unfolding after_lods
same_by_lods bus other R alike r s t width chosen related =
    let same = same_by_put bus other R alike (machine r s) (machine r t) (accumulator width) _ _
    (same_value bus other R alike r s t (source r chosen width) related) (record { registers = refl; bus = related }) in
    record {
      registers = ap (λ (x : Registers). with_next_source x width) same.registers;
      bus = same.bus;
    }

same_by_scas : {S T : Type 0} (bus : BusMeaning S) (other : BusMeaning T) (R : S → T → Type 0) → Alike bus other R
    → (r : Registers) (s : S) (t : T) (width : Width) → R s t → Same R (after_scas bus (machine r s) width) (after_scas other (machine r t) width)
unfolding after_scas
same_by_scas bus other R alike r s t width related = record {
  registers =
      both (λ a b. with_next_destination (record r { flags = with_difference (forgetting r.flags) width a b 0 }) width) _ _ _ _
      (same_operand bus other R alike r s t (accumulator width) width related) (same_operand bus other R alike r s t (destination r width) width related);
  bus = related;
}

pub same_by_element : {S T : Type 0} (bus : BusMeaning S) (other : BusMeaning T) (R : S → T → Type 0)
    → Alike bus other R → (r : Registers) (s : S) (t : T) (operation : Strings) (chosen : SegmentRegister) → R s t
    → Same R (after_element bus (machine r s) operation chosen) (after_element other (machine r t) operation chosen)
unfolding after_element
same_by_element bus other R alike r s t Movsb chosen related = same_by_movs bus other R alike r s t Byte chosen related
same_by_element bus other R alike r s t Movsw chosen related = same_by_movs bus other R alike r s t Word chosen related
same_by_element bus other R alike r s t Cmpsb chosen related = same_by_cmps bus other R alike r s t Byte chosen related
same_by_element bus other R alike r s t Cmpsw chosen related = same_by_cmps bus other R alike r s t Word chosen related
same_by_element bus other R alike r s t Stosb chosen related = same_by_stos bus other R alike r s t Byte related
same_by_element bus other R alike r s t Stosw chosen related = same_by_stos bus other R alike r s t Word related
same_by_element bus other R alike r s t Lodsb chosen related = same_by_lods bus other R alike r s t Byte chosen related
same_by_element bus other R alike r s t Lodsw chosen related = same_by_lods bus other R alike r s t Word chosen related
same_by_element bus other R alike r s t Scasb chosen related = same_by_scas bus other R alike r s t Byte related
same_by_element bus other R alike r s t Scasw chosen related = same_by_scas bus other R alike r s t Word related

pub same_by_iteration : {S T : Type 0} (bus : BusMeaning S) (other : BusMeaning T) (R : S → T → Type 0)
    → Alike bus other R → (r : Registers) (s : S) (t : T) (operation : Strings) (chosen : SegmentRegister) → R s t
    → Same R (after_iteration bus (machine r s) operation chosen) (after_iteration other (machine r t) operation chosen)
unfolding after_iteration
same_by_iteration bus other R alike r s t operation chosen related =
    let same = same_by_element bus other R alike r s t operation chosen related in record {
      registers = ap (λ (x : Registers). record x { cx = offset_after x.cx 65535 }) same.registers;
      bus = same.bus;
    }
