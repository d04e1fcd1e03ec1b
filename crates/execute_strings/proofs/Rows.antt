-- The definitions on worked values: what a comparison of strings leaves, and when a repeat goes on (8086 Family User's
-- Manual, "String Instructions").
use Rattle.std.proofs.Common.{◌≡◌, ◌%◌, Bool, true, false, refl}
use Rattle.std.specs.Prelude.{⊤}
use Rattle.isa.specs.declared.register.SegmentRegister.{SegmentRegister}
use Rattle.isa.specs.declared.register.SegmentRegister.TheVariants.{Ds}
use Rattle.isa.specs.declared.form.Repeat.TheVariants.{Repne, Rep}
use Rattle.bus.specs.Bus.{BusMeaning}
use Rattle.execute_machine.specs.RegisterFile.{Registers}
use Rattle.execute_machine.specs.declared.width.Width.TheVariants.{Byte, Word}
use Rattle.execute_machine.specs.Locations.{Machine, machine, value_at, word_at}
use Rattle.execute_machine.specs.Registers.{byte_register, segment_register, word_register}
use Rattle.execute_machine.specs.Sums.{with_difference}
use Rattle.execute_strings.specs.StringMeaning.{after_cmps, after_scas, allows}

-- REPE goes on while the elements are equal, REPNE while they differ, and MOVS, LODS and STOS under either
repe_equal : allows Rep true true ≡ true
repe_equal = refl

repe_unequal : allows Rep true false ≡ false
repe_unequal = refl

repne_equal : allows Repne true true ≡ false
repne_equal = refl

repne_unequal : allows Repne true false ≡ true
repne_unequal = refl

rep_moves : allows Rep false false ≡ true
rep_moves = refl

repne_moves : allows Repne false true ≡ true
repne_moves = refl

-- a memory whose bytes are the low bytes of their addresses
numbered : BusMeaning ⊤
numbered = record {
  byte_at = λ s address. address % 256;
  after_write = λ s address byte. s;
  is_writable = λ s address. false;
  input = λ s port. 0xFF;
  after_input = λ s port. s;
  after_output = λ s port byte. s;
}

-- what a row unfolds
unfoldable on_strings : ⊤
unfolding numbered after_cmps after_scas value_at word_at with_difference byte_register word_register segment_register
on_strings = tt

-- SI at 5, DI at 7, AL 5, AX 0605h
abbrev before : Registers → Bool → Machine ⊤
before r down = machine (record r { ax = 0x0605; ds = 0; es = 0; si = 5; di = 7; flags = record r.flags { direction = down } }) tt

-- CMPS takes the destination from the source: 5 - 7
cmps_below : (r : Registers) → (after_cmps numbered (before r false) Byte Ds).registers.flags.carry ≡ true
unfolding on_strings
cmps_below r = refl

cmps_sign : (r : Registers) → (after_cmps numbered (before r false) Byte Ds).registers.flags.sign ≡ true
unfolding on_strings
cmps_sign r = refl

cmps_up : (r : Registers) (chosen : SegmentRegister) → (after_cmps numbered (before r false) Word chosen).registers.si ≡ 7
unfolding on_strings
cmps_up r chosen = refl

cmps_down : (r : Registers) (chosen : SegmentRegister) → (after_cmps numbered (before r true) Word chosen).registers.di ≡ 5
unfolding on_strings
cmps_down r chosen = refl

-- SCAS takes the destination from AL or AX, and SI stays: 5 - 7, and 0605h - 0807h
scas_below : (r : Registers) → (after_scas numbered (before r false) Byte).registers.flags.carry ≡ true
unfolding on_strings
scas_below r = refl

scas_word_below : (r : Registers) → (after_scas numbered (before r false) Word).registers.flags.carry ≡ true
unfolding on_strings
scas_word_below r = refl

scas_unequal : (r : Registers) → (after_scas numbered (before r false) Byte).registers.flags.zero ≡ false
unfolding on_strings
scas_unequal r = refl

scas_down : (r : Registers) → (after_scas numbered (before r true) Byte).registers.di ≡ 6
unfolding on_strings
scas_down r = refl

scas_leaves_si : (r : Registers) → (after_scas numbered (before r false) Word).registers.si ≡ 5
unfolding on_strings
scas_leaves_si r = refl
