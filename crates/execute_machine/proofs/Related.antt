-- Take a relation between the states of two buses in which memory has the same bytes, and which a write to both keeps.
-- An instruction that reaches memory alone does the same to the registers over both, and what it leaves stays related:
-- each family shows it of its own operations by these lemmas. The two may be one bus, in two states.
use Rattle.std.proofs.Common.{◌≡◌, ℕ, ◌+◌, ◌*◌, ◌%◌, refl, sym, ap, ◌∙◌, subst}
use Rattle.board_types.specs.Address.{physical, offset_after}
use Rattle.isa.specs.declared.form.Instr.{Instr}
use Rattle.bus.specs.Bus.{BusMeaning, with_word_at}
use Rattle.execute_machine.specs.RegisterFile.{Registers}
use Rattle.execute_machine.specs.declared.location.OperandLocation.{OperandLocation}
use Rattle.execute_machine.specs.declared.location.OperandLocation.TheVariants.{Nothing, Byte, Word, Segment, ByteAt, WordAt, Number}
use Rattle.execute_machine.specs.declared.width.Width.{Width}
use Rattle.execute_machine.specs.Widths.{size_of}
use Rattle.execute_machine.specs.Locations.{Machine, machine, far_segment, operand_at, value_at, with_value_at, word_at}
use Rattle.execute_machine.specs.Stack.{after_push, after_entry_pushes, after_vector, after_entry, top_word}

-- memory has the same bytes in states that are related, and a write keeps them so
pub record Alike {S T : Type 0} (bus : BusMeaning S) (other : BusMeaning T) (R : S → T → Type 0) : Type 0 where
  pub byte : (s : S) (t : T) (address : ℕ) → R s t → other.byte_at t address ≡ bus.byte_at s address
  pub write : (s : S) (t : T) (address byte : ℕ) → R s t → R (bus.after_write s address byte) (other.after_write t address byte)

-- two machines have the same registers, and states that are related
pub record Same {S T : Type 0} (R : S → T → Type 0) (m : Machine S) (n : Machine T) : Type 0 where
  pub registers : n.registers ≡ m.registers
  pub bus : R m.bus n.bus

-- what is so from any registers on, is so from two register files that are equal
pub from_same : {S T : Type 0} (R : S → T → Type 0) (f : Machine S → Machine S) (g : Machine T → Machine T)
    → ((r : Registers) (s : S) (t : T) → R s t → Same R (f (machine r s)) (g (machine r t))) → (m : Machine S) (n : Machine T) → Same R m n → Same R (f m) (g n)
from_same R f g each m n same =
    subst (λ (r : Registers). Same R (f m) (g (machine r n.bus))) (sym same.registers) (each m.registers m.bus n.bus same.bus)

-- two numbers in one term
pub both : {A : Type 0} (f : ℕ → ℕ → A) (a b c d : ℕ) → a ≡ c → b ≡ d → f a b ≡ f c d
both f a b c d first second = ap (λ n. f n b) first ∙ ap (λ n. f c n) second

-- what is read

pub same_word : {S T : Type 0} (bus : BusMeaning S) (other : BusMeaning T) (R : S → T → Type 0)
    → Alike bus other R → (s : S) (t : T) (segment offset : ℕ) → R s t → word_at other t segment offset ≡ word_at bus s segment offset
unfolding word_at
same_word bus other R alike s t segment offset related =
    both (λ low high. low + 256 * high) _ _ _ _ (alike.byte s t (physical segment offset) related)
    (alike.byte s t (physical segment (offset_after offset 1)) related)

pub same_value : {S T : Type 0} (bus : BusMeaning S) (other : BusMeaning T) (R : S → T → Type 0)
    → Alike bus other R → (r : Registers) (s : S) (t : T) (l : OperandLocation) → R s t → value_at other (machine r t) l ≡ value_at bus (machine r s) l
unfolding value_at
same_value bus other R alike r s t Nothing related = refl
same_value bus other R alike r s t (Byte _) related = refl
same_value bus other R alike r s t (Word _) related = refl
same_value bus other R alike r s t (Segment _) related = refl
same_value bus other R alike r s t (ByteAt segment offset) related = alike.byte s t (physical segment offset) related
same_value bus other R alike r s t (WordAt segment offset) related = same_word bus other R alike s t segment offset related
same_value bus other R alike r s t (Number _) related = refl

pub same_operand : {S T : Type 0} (bus : BusMeaning S) (other : BusMeaning T) (R : S → T → Type 0)
    → Alike bus other R → (r : Registers) (s : S) (t : T) (l : OperandLocation) (width : Width) → R s t
    → operand_at other (machine r t) l width ≡ operand_at bus (machine r s) l width
same_operand bus other R alike r s t l width related = ap (λ n. n % size_of width) (same_value bus other R alike r s t l related)

pub same_far_segment : {S T : Type 0} (bus : BusMeaning S) (other : BusMeaning T) (R : S → T → Type 0)
    → Alike bus other R → (s : S) (t : T) (l : OperandLocation) (i : Instr) → R s t → far_segment other t l i ≡ far_segment bus s l i
unfolding far_segment
same_far_segment bus other R alike s t (WordAt segment offset) i related = same_word bus other R alike s t segment (offset_after offset 2) related
same_far_segment bus other R alike s t _ i related = refl

pub same_top : {S T : Type 0} (bus : BusMeaning S) (other : BusMeaning T) (R : S → T → Type 0)
    → Alike bus other R → (r : Registers) (s : S) (t : T) → R s t → top_word other (machine r t) ≡ top_word bus (machine r s)
unfolding top_word
same_top bus other R alike r s t related = same_word bus other R alike s t r.ss r.sp related

-- what is written

related_by_word : {S T : Type 0} (bus : BusMeaning S) (other : BusMeaning T) (R : S → T → Type 0) → Alike bus other R
    → (s : S) (t : T) (segment offset word : ℕ) → R s t → R (with_word_at bus s segment offset word) (with_word_at other t segment offset word)
unfolding with_word_at
related_by_word bus other R alike s t segment offset word related = alike.write _ _ _ _ (alike.write _ _ _ _ related)

put_at : {S T : Type 0} (bus : BusMeaning S) (other : BusMeaning T) (R : S → T → Type 0)
    → Alike bus other R → (r : Registers) (s : S) (t : T) (l : OperandLocation) (value : ℕ) → R s t
    → Same R (with_value_at bus (machine r s) l value) (with_value_at other (machine r t) l value)
unfolding with_value_at
put_at bus other R alike r s t Nothing value related = record { registers = refl; bus = related }
put_at bus other R alike r s t (Byte _) value related = record { registers = refl; bus = related }
put_at bus other R alike r s t (Word _) value related = record { registers = refl; bus = related }
put_at bus other R alike r s t (Segment _) value related = record { registers = refl; bus = related }
put_at bus other R alike r s t (ByteAt segment offset) value related = record { registers = refl; bus = alike.write _ _ _ _ related }
put_at bus other R alike r s t (WordAt segment offset) value related =
    record { registers = refl; bus = related_by_word bus other R alike s t segment offset value related }
put_at bus other R alike r s t (Number _) value related = record { registers = refl; bus = related }

pub same_by_put : {S T : Type 0} (bus : BusMeaning S) (other : BusMeaning T) (R : S → T → Type 0) → Alike bus other R
    → (m : Machine S) (n : Machine T) (l : OperandLocation) (v w : ℕ) → w ≡ v → Same R m n → Same R (with_value_at bus m l v) (with_value_at other n l w)
same_by_put bus other R alike m n l v w equal same =
    subst (λ (x : ℕ). Same R (with_value_at bus m l v) (with_value_at other n l x)) (sym equal)
    (from_same R (λ o. with_value_at bus o l v) (λ o. with_value_at other o l v) (λ r s t related. put_at bus other R alike r s t l v related) m n same)

push_at : {S T : Type 0} (bus : BusMeaning S) (other : BusMeaning T) (R : S → T → Type 0)
    → Alike bus other R → (r : Registers) (s : S) (t : T) (word : ℕ) → R s t → Same R (after_push bus (machine r s) word) (after_push other (machine r t) word)
unfolding after_push
push_at bus other R alike r s t word related = record { registers = refl; bus = related_by_word bus other R alike s t _ _ word related }

pub same_by_push : {S T : Type 0} (bus : BusMeaning S) (other : BusMeaning T) (R : S → T → Type 0)
    → Alike bus other R → (m : Machine S) (n : Machine T) (v w : ℕ) → w ≡ v → Same R m n → Same R (after_push bus m v) (after_push other n w)
same_by_push bus other R alike m n v w equal same =
    subst (λ (x : ℕ). Same R (after_push bus m v) (after_push other n x)) (sym equal)
    (from_same R (λ o. after_push bus o v) (λ o. after_push other o v) (λ r s t related. push_at bus other R alike r s t v related) m n same)

-- an interrupt that is entered

entry_pushes_at : {S T : Type 0} (bus : BusMeaning S) (other : BusMeaning T) (R : S → T → Type 0)
    → Alike bus other R → (r : Registers) (s : S) (t : T) → R s t → Same R (after_entry_pushes bus (machine r s)) (after_entry_pushes other (machine r t))
unfolding after_entry_pushes
entry_pushes_at bus other R alike r s t related =
    same_by_push bus other R alike _ _ _ _ refl
    (same_by_push bus other R alike _ _ _ _ refl
    (same_by_push bus other R alike (machine r s) (machine r t) _ _ refl (record { registers = refl; bus = related })))

vector_at : {S T : Type 0} (bus : BusMeaning S) (other : BusMeaning T) (R : S → T → Type 0) → Alike bus other R
    → (r : Registers) (s : S) (t : T) (kind : ℕ) → R s t → Same R (after_vector bus (machine r s) kind) (after_vector other (machine r t) kind)
unfolding after_vector
vector_at bus other R alike r s t kind related = record {
  registers =
      let ip = same_word bus other R alike s t 0 (4 * kind) related in
      let cs = same_word bus other R alike s t 0 (4 * kind + 2) related in
      cc (ip, cs);
  bus = related;
}

pub same_by_entry : {S T : Type 0} (bus : BusMeaning S) (other : BusMeaning T) (R : S → T → Type 0)
    → Alike bus other R → (m : Machine S) (n : Machine T) (kind k : ℕ) → k ≡ kind → Same R m n → Same R (after_entry bus m kind) (after_entry other n k)
unfolding after_entry
same_by_entry bus other R alike m n kind k equal same =
    subst (λ (x : ℕ). Same R (after_vector bus (after_entry_pushes bus m) kind) (after_vector other (after_entry_pushes other n) x)) (sym equal)
    (from_same R (λ o. after_vector bus o kind) (λ o. after_vector other o kind) (λ r s t related. vector_at bus other R alike r s t kind related) _ _
    (from_same R (λ o. after_entry_pushes bus o) (λ o. after_entry_pushes other o) (λ r s t related. entry_pushes_at bus other R alike r s t related) m n same))
