-- What memory writes and port reads keep, string instructions keep.
use Rattle.isa.specs.declared.operation.Strings.{Strings}
use Rattle.isa.specs.declared.operation.Strings.TheVariants.{Movsb, Movsw, Cmpsb, Cmpsw, Stosb, Stosw, Lodsb, Lodsw, Scasb, Scasw}
use Rattle.isa.specs.declared.register.SegmentRegister.{SegmentRegister}
use Rattle.bus.specs.Bus.{BusMeaning}
use Rattle.execute_machine.specs.declared.width.Width.{Width}
use Rattle.execute_machine.specs.declared.width.Width.TheVariants.{Byte, Word}
use Rattle.execute_machine.specs.Locations.{Machine}
use Rattle.execute_machine.proofs.Kept.{Kept, kept_by_put}
use Rattle.execute_strings.specs.StringMeaning.{after_cmps, after_iteration, after_lods, after_movs, after_scas, after_stos, after_element}

kept_by_movs : {S : Type 0} (bus : BusMeaning S) (P : S → Type 0)
    → Kept bus P → (m : Machine S) (width : Width) (chosen : SegmentRegister) → P m.bus → P (after_movs bus m width chosen).bus
unfolding after_movs
kept_by_movs bus P kept m width chosen holds = kept_by_put bus P kept m _ _ holds

kept_by_cmps : {S : Type 0} (bus : BusMeaning S) (P : S → Type 0) → (m : Machine S) (width : Width) (chosen : SegmentRegister)
    → P m.bus → P (after_cmps bus m width chosen).bus
unfolding after_cmps
kept_by_cmps bus P m width chosen holds = holds

kept_by_stos : {S : Type 0} (bus : BusMeaning S) (P : S → Type 0) → Kept bus P → (m : Machine S) (width : Width) → P m.bus → P (after_stos bus m width).bus
unfolding after_stos
kept_by_stos bus P kept m width holds = kept_by_put bus P kept m _ _ holds

kept_by_lods : {S : Type 0} (bus : BusMeaning S) (P : S → Type 0)
    → Kept bus P → (m : Machine S) (width : Width) (chosen : SegmentRegister) → P m.bus → P (after_lods bus m width chosen).bus
unfolding after_lods
kept_by_lods bus P kept m width chosen holds = kept_by_put bus P kept m _ _ holds

kept_by_scas : {S : Type 0} (bus : BusMeaning S) (P : S → Type 0) → (m : Machine S) (width : Width) → P m.bus → P (after_scas bus m width).bus
unfolding after_scas
kept_by_scas bus P m width holds = holds

pub kept_by_element : {S : Type 0} (bus : BusMeaning S) (P : S → Type 0)
    → Kept bus P → (m : Machine S) (operation : Strings) (chosen : SegmentRegister) → P m.bus → P (after_element bus m operation chosen).bus
unfolding after_element
kept_by_element bus P kept m Movsb chosen holds = kept_by_movs bus P kept m Byte chosen holds
kept_by_element bus P kept m Movsw chosen holds = kept_by_movs bus P kept m Word chosen holds
kept_by_element bus P kept m Cmpsb chosen holds = kept_by_cmps bus P m Byte chosen holds
kept_by_element bus P kept m Cmpsw chosen holds = kept_by_cmps bus P m Word chosen holds
kept_by_element bus P kept m Stosb chosen holds = kept_by_stos bus P kept m Byte holds
kept_by_element bus P kept m Stosw chosen holds = kept_by_stos bus P kept m Word holds
kept_by_element bus P kept m Lodsb chosen holds = kept_by_lods bus P kept m Byte chosen holds
kept_by_element bus P kept m Lodsw chosen holds = kept_by_lods bus P kept m Word chosen holds
kept_by_element bus P kept m Scasb chosen holds = kept_by_scas bus P m Byte holds
kept_by_element bus P kept m Scasw chosen holds = kept_by_scas bus P m Word holds

pub kept_by_iteration : {S : Type 0} (bus : BusMeaning S) (P : S → Type 0)
    → Kept bus P → (m : Machine S) (operation : Strings) (chosen : SegmentRegister) → P m.bus → P (after_iteration bus m operation chosen).bus
unfolding after_iteration
kept_by_iteration bus P kept m operation chosen holds = kept_by_element bus P kept m operation chosen holds
