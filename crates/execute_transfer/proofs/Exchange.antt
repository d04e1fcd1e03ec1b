-- XCHG of registers, and of memory and a register.
use Rattle.std.proofs.Common.{◌≡◌, ◌<◌, ◌%◌, ℕ, inl, inr, true, refl, sym, ap, ◌∙◌, subst, arith}
use Rattle.std.proofs.lemmas.Bool.{cases_eq}
use Rattle.board_types.specs.Address.{physical, offset_after}
use Rattle.isa.specs.declared.register.ByteRegister.{ByteRegister}
use Rattle.isa.specs.declared.register.ByteRegister.TheVariants.{Al, Cl, Dl, Bl, Ah, Ch, Dh, Bh}
use Rattle.isa.specs.declared.register.WordRegister.{WordRegister}
use Rattle.isa.specs.declared.register.WordRegister.TheVariants.{Ax, Cx, Dx, Bx, Sp, Bp, Si, Di}
use Rattle.isa.specs.declared.row.Kind.{Kind}
use Rattle.isa.specs.declared.row.Kind.TheVariants as kinds
use Rattle.isa.specs.declared.form.Place.{Place}
use Rattle.isa.specs.declared.form.Place.TheVariants.{Register}
use Rattle.isa.specs.declared.form.Instr.{Instr}
use Rattle.isa.specs.Row.{first_of, second_of}
use Rattle.bus.specs.Bus.{BusMeaning, with_word_at}
use Rattle.bus.specs.BusPromises.{IsBus}
use Rattle.execute_machine.specs.RegisterFile.{Registers}
use Rattle.execute_machine.specs.Registers.{byte_register, with_byte_register, word_register, with_word_register}
use Rattle.execute_machine.specs.declared.location.OperandLocation.{OperandLocation}
use Rattle.execute_machine.specs.declared.location.OperandLocation.TheVariants.{Byte, Word, ByteAt, WordAt}
use Rattle.execute_machine.specs.Locations.{Machine, machine, byte_place, location_of, value_at, with_value_at, word_at, word_place}
use Rattle.execute_machine.specs.Memory.{HoldsBytes, HoldsWords, TakesWord}
use Rattle.execute_machine.proofs.Memory.{high_of, high_reads_back, low_of, low_reads_back, word_fixed, word_leaves, word_reads_back}
use Rattle.execute_transfer.proofs.Halves.{byte_back, word_back}
use Rattle.execute_transfer.specs.TransferMeaning.{after_transfer, after_xchg, first_place, second_place}
use Rattle.execute_transfer.specs.TransferLaws.{AreRegisters, IsAsBefore, IsMemoryAndRegister, MemoryExchangesBack, RegistersExchangeBack}

abbrev exchanged : {S : Type 0} → BusMeaning S → Machine S → OperandLocation → OperandLocation → Machine S
exchanged bus m first second = with_value_at bus (with_value_at bus m first (value_at bus m second)) second (value_at bus m first)

-- a register's place is in no register

abbrev IsRegister : OperandLocation → Type 0
IsRegister (Byte _) = Unit {0}
IsRegister (Word _) = Unit {0}
IsRegister _ = ⊥

byte_place_stays : (r q : Registers) (i : Instr) (place : Place) → IsRegister (byte_place r i place) → byte_place q i place ≡ byte_place r i place
byte_place_stays r q i (Register number) is = refl
byte_place_stays r q i _ is = absurd is

word_place_stays : (r q : Registers) (i : Instr) (place : Place) → IsRegister (word_place r i place) → word_place q i place ≡ word_place r i place
word_place_stays r q i (Register number) is = refl
word_place_stays r q i _ is = absurd is

place_stays : (r q : Registers) (i : Instr) (kind : Kind) → IsRegister (location_of r i kind) → location_of q i kind ≡ location_of r i kind
unfolding location_of
place_stays r q i kinds.Rm8 is = byte_place_stays r q i i.form.place is
place_stays r q i kinds.Rm16 is = word_place_stays r q i i.form.place is
place_stays r q i kinds.Memory is = word_place_stays r q i i.form.place is
place_stays r q i kinds.At8 is = absurd is
place_stays r q i kinds.At16 is = absurd is
place_stays r q i _ is = refl

-- an instruction that exchanges these places again
again : {S : Type 0} (bus : BusMeaning S) (m : Machine S) (i : Instr)
    → first_place (after_xchg bus m i).registers i ≡ first_place m.registers i → second_place (after_xchg bus m i).registers i ≡ second_place m.registers i
    → after_xchg bus (after_xchg bus m i) i
    ≡ exchanged bus (exchanged bus m (first_place m.registers i) (second_place m.registers i)) (first_place m.registers i) (second_place m.registers i)
unfolding after_xchg
again bus m i first second =
    let once = exchanged bus m (first_place m.registers i) (second_place m.registers i) in
    ap (λ l. exchanged bus once l (second_place once.registers i)) first ∙ ap (λ l. exchanged bus once (first_place m.registers i) l) second

-- registers

abbrev swapped_words : Registers → WordRegister → WordRegister → Registers
swapped_words r v w = with_word_register (with_word_register r v (word_register r w)) w (word_register r v)

words_back : (r : Registers) (v w : WordRegister) → swapped_words (swapped_words r v w) v w ≡ r
unfolding word_register with_word_register
words_back r Ax Ax = refl
words_back r Ax _ = refl
words_back r Cx Cx = refl
words_back r Cx _ = refl
words_back r Dx Dx = refl
words_back r Dx _ = refl
words_back r Bx Bx = refl
words_back r Bx _ = refl
words_back r Sp Sp = refl
words_back r Sp _ = refl
words_back r Bp Bp = refl
words_back r Bp _ = refl
words_back r Si Si = refl
words_back r Si _ = refl
words_back r Di Di = refl
words_back r Di _ = refl

with_halves : (r : Registers) (a c d b : ℕ) → a ≡ r.ax → c ≡ r.cx → d ≡ r.dx → b ≡ r.bx → record r { ax = a; cx = c; dx = d; bx = b } ≡ r
with_halves r a c d b same_a same_c same_d same_b =
    ap (λ x. record r { ax = x; cx = c; dx = d; bx = b }) same_a ∙ ap (λ x. record r { cx = x; dx = d; bx = b }) same_c
    ∙ ap (λ x. record r { dx = x; bx = b }) same_d ∙ ap (λ x. record r { bx = x }) same_b

abbrev swapped_bytes : Registers → ByteRegister → ByteRegister → Registers
swapped_bytes r v w = with_byte_register (with_byte_register r v (byte_register r w % 256)) w (byte_register r v % 256)

swapped_back : (r : Registers) (v w : ByteRegister) → r.ax < 65536 → r.cx < 65536 → r.dx < 65536 → r.bx < 65536 → swapped_bytes (swapped_bytes r v w) v w ≡ r
unfolding byte_register with_byte_register
swapped_back r Al Al ax cx dx bx = with_halves r _ _ _ _ (omega arith) (omega arith) (omega arith) (omega arith)
swapped_back r Al _ ax cx dx bx = with_halves r _ _ _ _ (omega arith) (omega arith) (omega arith) (omega arith)
swapped_back r Cl Cl ax cx dx bx = with_halves r _ _ _ _ (omega arith) (omega arith) (omega arith) (omega arith)
swapped_back r Cl _ ax cx dx bx = with_halves r _ _ _ _ (omega arith) (omega arith) (omega arith) (omega arith)
swapped_back r Dl Dl ax cx dx bx = with_halves r _ _ _ _ (omega arith) (omega arith) (omega arith) (omega arith)
swapped_back r Dl _ ax cx dx bx = with_halves r _ _ _ _ (omega arith) (omega arith) (omega arith) (omega arith)
swapped_back r Bl Bl ax cx dx bx = with_halves r _ _ _ _ (omega arith) (omega arith) (omega arith) (omega arith)
swapped_back r Bl _ ax cx dx bx = with_halves r _ _ _ _ (omega arith) (omega arith) (omega arith) (omega arith)
swapped_back r Ah Ah ax cx dx bx = with_halves r _ _ _ _ (omega arith) (omega arith) (omega arith) (omega arith)
swapped_back r Ah _ ax cx dx bx = with_halves r _ _ _ _ (omega arith) (omega arith) (omega arith) (omega arith)
swapped_back r Ch Ch ax cx dx bx = with_halves r _ _ _ _ (omega arith) (omega arith) (omega arith) (omega arith)
swapped_back r Ch _ ax cx dx bx = with_halves r _ _ _ _ (omega arith) (omega arith) (omega arith) (omega arith)
swapped_back r Dh Dh ax cx dx bx = with_halves r _ _ _ _ (omega arith) (omega arith) (omega arith) (omega arith)
swapped_back r Dh _ ax cx dx bx = with_halves r _ _ _ _ (omega arith) (omega arith) (omega arith) (omega arith)
swapped_back r Bh Bh ax cx dx bx = with_halves r _ _ _ _ (omega arith) (omega arith) (omega arith) (omega arith)
swapped_back r Bh _ ax cx dx bx = with_halves r _ _ _ _ (omega arith) (omega arith) (omega arith) (omega arith)

bytes_back : (r : Registers) (v w : ByteRegister) → HoldsWords r → swapped_bytes (swapped_bytes r v w) v w ≡ r
unfolding word_register
bytes_back r v w holds = swapped_back r v w (holds Ax) (holds Cx) (holds Dx) (holds Bx)

registers_back_at : {S : Type 0} (bus : BusMeaning S) (m : Machine S) (first second : OperandLocation)
    → HoldsWords m.registers → AreRegisters first second → exchanged bus (exchanged bus m first second) first second ≡ m
unfolding with_value_at value_at
registers_back_at bus m (Byte v) (Byte w) holds are = ap (λ r. machine r m.bus) (bytes_back m.registers v w holds)
registers_back_at bus m (Word v) (Word w) holds are = ap (λ r. machine r m.bus) (words_back m.registers v w)
registers_back_at bus m _ _ holds are = absurd are

first_is_register : (first second : OperandLocation) → AreRegisters first second → IsRegister first
first_is_register (Byte v) (Byte w) are = tt
first_is_register (Word v) (Word w) are = tt
first_is_register _ _ are = absurd are

second_is_register : (first second : OperandLocation) → AreRegisters first second → IsRegister second
second_is_register (Byte v) (Byte w) are = tt
second_is_register (Word v) (Word w) are = tt
second_is_register _ _ are = absurd are

pub registers_exchange_back : {S : Type 0} (bus : BusMeaning S) → RegistersExchangeBack bus
unfolding after_transfer
registers_exchange_back bus m i holds are =
    let once = after_xchg bus m i in
    again bus m i
    (place_stays m.registers once.registers i (first_of i.form.row) (first_is_register _ _ are))
    (place_stays m.registers once.registers i (second_of i.form.row) (second_is_register _ _ are))
    ∙ registers_back_at bus m (first_place m.registers i) (second_place m.registers i) holds are

-- memory and a register

byte_there_and_back : (r : Registers) (b : ByteRegister) (byte : ℕ) → HoldsWords r
    → with_byte_register (with_byte_register r b (byte % 256)) b (byte_register r b % 256 % 256) ≡ r
unfolding byte_register with_byte_register word_register
byte_there_and_back r Al byte holds = let ax = holds Ax in ap (λ w. record r { ax = w }) (omega arith)
byte_there_and_back r Cl byte holds = let cx = holds Cx in ap (λ w. record r { cx = w }) (omega arith)
byte_there_and_back r Dl byte holds = let dx = holds Dx in ap (λ w. record r { dx = w }) (omega arith)
byte_there_and_back r Bl byte holds = let bx = holds Bx in ap (λ w. record r { bx = w }) (omega arith)
byte_there_and_back r Ah byte holds = let ax = holds Ax in ap (λ w. record r { ax = w }) (omega arith)
byte_there_and_back r Ch byte holds = let cx = holds Cx in ap (λ w. record r { cx = w }) (omega arith)
byte_there_and_back r Dh byte holds = let dx = holds Dx in ap (λ w. record r { dx = w }) (omega arith)
byte_there_and_back r Bh byte holds = let bx = holds Bx in ap (λ w. record r { bx = w }) (omega arith)

word_there_and_back : (r : Registers) (w : WordRegister) (word : ℕ) → with_word_register (with_word_register r w word) w (word_register r w) ≡ r
unfolding word_register with_word_register
word_there_and_back r Ax word = refl
word_there_and_back r Cx word = refl
word_there_and_back r Dx word = refl
word_there_and_back r Bx word = refl
word_there_and_back r Sp word = refl
word_there_and_back r Bp word = refl
word_there_and_back r Si word = refl
word_there_and_back r Di word = refl

cut_fits : (byte : ℕ) → byte < 256 → byte % 256 ≡ byte
cut_fits byte fits = omega arith

byte_kept : (r : Registers) (b : ByteRegister) (byte : ℕ) → byte < 256 → byte_register (with_byte_register r b (byte % 256)) b % 256 ≡ byte
byte_kept r b byte fits =
    ap (λ v. byte_register (with_byte_register r b v) b % 256) (cut_fits byte fits) ∙ ap (λ v. v % 256) (byte_back r b byte fits) ∙ cut_fits byte fits

-- another byte at an address, and then the first one again
byte_restored : {S : Type 0} (bus : BusMeaning S) → IsBus bus → (s : S) (place between byte address : ℕ) → bus.is_writable s place ≡ true
    → bus.byte_at s place ≡ byte → bus.byte_at (bus.after_write (bus.after_write s place between) place byte) address ≡ bus.byte_at s address
byte_restored bus laws s place between byte address takes was =
    let once = bus.after_write s place between in
    let P : ℕ → Type 0 = λ a. bus.byte_at (bus.after_write once place byte) a ≡ bus.byte_at s a in
    elim (cases_eq address place) as (λ _. P address) [
      | inl here ↦ subst P (sym here) (laws.written once place byte (laws.fixed s place between place ∙ takes) ∙ sym was)
      | inr other ↦ laws.others once place byte address other ∙ laws.others s place between address other
    ]

-- another word at an offset, and then the first one again
word_restored : {S : Type 0} (bus : BusMeaning S) → IsBus bus → (s : S) (segment offset between word address : ℕ)
    → offset < 65536 → TakesWord bus s segment offset → HoldsBytes bus s → word_at bus s segment offset ≡ word
    → bus.byte_at (with_word_at bus (with_word_at bus s segment offset between) segment offset word) address ≡ bus.byte_at s address
word_restored bus laws s segment offset between word address fits takes holds was =
    let once = with_word_at bus s segment offset between in
    let still : TakesWord bus once segment offset = record {
      low = word_fixed bus laws s segment offset between (physical segment offset) ∙ takes.low;
      high = word_fixed bus laws s segment offset between (physical segment (offset_after offset 1)) ∙ takes.high;
    } in
    let P : ℕ → Type 0 = λ a. bus.byte_at (with_word_at bus once segment offset word) a ≡ bus.byte_at s a in
    elim (cases_eq address (physical segment offset)) as (λ _. P address) [
      | inl low ↦ subst P (sym low) (low_reads_back bus laws once segment offset word fits still ∙ low_of bus s segment offset word holds was)
      | inr not_low ↦ elim (cases_eq address (physical segment (offset_after offset 1))) as (λ _. P address) [
        | inl high ↦ subst P (sym high) (high_reads_back bus laws once segment offset word still ∙ high_of bus s segment offset word holds was)
        | inr not_high ↦
            word_leaves bus laws once segment offset word address not_low not_high
            ∙ word_leaves bus laws s segment offset between address not_low not_high
      ]
    ]

memory_back_at : {S : Type 0} (bus : BusMeaning S) → IsBus bus → (m : Machine S) (first second : OperandLocation) → HoldsWords m.registers
    → HoldsBytes bus m.bus → IsMemoryAndRegister bus m.bus first second → IsAsBefore bus m (exchanged bus (exchanged bus m first second) first second)
unfolding with_value_at value_at
memory_back_at bus laws m (ByteAt segment offset) (Byte b) words bytes takes =
    let place = physical segment offset in
    let byte = bus.byte_at m.bus place in
    let mine = byte_register m.registers b in
    let once = bus.after_write m.bus place (mine % 256) in
    record {
      registers =
          ap (λ v. with_byte_register (with_byte_register m.registers b (byte % 256)) b (v % 256)) (laws.written m.bus place (mine % 256) takes)
          ∙ byte_there_and_back m.registers b byte words;
      bytes = λ address.
          ap (λ v. bus.byte_at (bus.after_write once place v) address) (byte_kept m.registers b byte (bytes place))
          ∙ byte_restored bus laws m.bus place (mine % 256) byte address takes refl;
    }
memory_back_at bus laws m (WordAt segment offset) (Word w) words bytes (fits, takes) =
    let word = word_at bus m.bus segment offset in
    let mine = word_register m.registers w in
    let once = with_word_at bus m.bus segment offset mine in
    record {
      registers =
          ap (λ v. with_word_register (with_word_register m.registers w word) w v) (word_reads_back bus laws m.bus segment offset mine fits takes)
          ∙ word_there_and_back m.registers w word;
      bytes = λ address.
          ap (λ v. bus.byte_at (with_word_at bus once segment offset v) address) (word_back m.registers w word)
          ∙ word_restored bus laws m.bus segment offset mine word address fits takes bytes refl;
    }
memory_back_at bus laws m _ _ words bytes is = absurd is

register_is_second : {S : Type 0} (bus : BusMeaning S) (s : S) (first second : OperandLocation) → IsMemoryAndRegister bus s first second → IsRegister second
register_is_second bus s (ByteAt segment offset) (Byte b) is = tt
register_is_second bus s (WordAt segment offset) (Word w) is = tt
register_is_second bus s _ _ is = absurd is

pub memory_exchanges_back : {S : Type 0} (bus : BusMeaning S) → IsBus bus → MemoryExchangesBack bus
unfolding after_transfer
memory_exchanges_back bus laws m i words bytes are stays =
    let once = after_xchg bus m i in
    subst (λ t. IsAsBefore bus m t)
    (sym (again bus m i stays (place_stays m.registers once.registers i (second_of i.form.row) (register_is_second bus m.bus _ _ are))))
    (memory_back_at bus laws m (first_place m.registers i) (second_place m.registers i) words bytes are)
