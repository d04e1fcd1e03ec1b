-- The operands of a form that takes what is asked are by value what is asked.
use Rattle.std.proofs.Common.{◌≡◌, ◌∙◌, ℕ, zero, suc, ◌+◌, ◌-◌, ◌*◌, ◌/◌, ◌%◌, ◌<◌, ◌≤◌, refl, sym, ap, subst, arith}
use Rattle.std.proofs.Common.{inl, inr, Bool, true, false, ◌&&◌, ◌||◌, nat_lt, nat_le, if◌then◌else◌, Option, None, Some}
use Rattle.std.specs.Prelude.{ℤ, pos, negsuc, ◌-ℤ◌, ◌⊎◌, IsTrue}
use Rattle.std.proofs.lemmas.Bool.{and_parts}
use Rattle.std.proofs.lemmas.Bool.Decides.{nat_tests}
use Rattle.isa.specs.declared.operation.Operation.{Operation}
use Rattle.isa.specs.declared.operation.Operation.TheVariants.{Control}
use Rattle.isa.specs.declared.operation.Control.TheVariants as control
use Rattle.isa.specs.declared.register.ByteRegister.{ByteRegister}
use Rattle.isa.specs.declared.register.ByteRegister.TheVariants as byte_registers
use Rattle.isa.specs.declared.register.WordRegister.{WordRegister}
use Rattle.isa.specs.declared.register.WordRegister.TheVariants as word_registers
use Rattle.isa.specs.declared.register.SegmentRegister.{SegmentRegister}
use Rattle.isa.specs.declared.register.SegmentRegister.TheVariants as segment_registers
use Rattle.isa.specs.declared.form.Base.{Base as BaseType}
use Rattle.isa.specs.declared.form.Base.TheVariants as bases
use Rattle.isa.specs.declared.form.Place.{Place}
use Rattle.isa.specs.declared.form.Place.TheVariants.{BaseByte, BaseWord}
use Rattle.isa.specs.declared.form.Form.{Form}
use Rattle.isa.specs.declared.form.Values.{Values}
use Rattle.isa.specs.declared.row.Kind.{Kind}
use Rattle.isa.specs.declared.row.Kind.TheVariants as kinds
use Rattle.isa.specs.Row.{operation_of}
use Rattle.isa.specs.RegisterNumbers.{byte_register_number, byte_register_of, segment_register_number}
use Rattle.isa.specs.RegisterNumbers.{segment_register_of, word_register_number, word_register_of}
use Rattle.isa.specs.Encoding.{displacement_field, sign_extended}
use Rattle.dialect.specs.declared.register.Register.TheVariants as registers
use Rattle.dialect.specs.declared.size.Size.{Size}
use Rattle.dialect.specs.declared.size.Size.TheVariants as sizes
use Rattle.assembler_form.specs.declared.operand.Number.TheVariants.{Constant}
use Rattle.assembler_form.specs.declared.operand.KnownMemory.{KnownMemory}
use Rattle.assembler_form.specs.declared.operand.KnownOperand.{KnownOperand}
use Rattle.assembler_form.specs.declared.operand.KnownOperand.TheVariants as known
use Rattle.assembler_form.specs.declared.fields.Numbers.{Numbers}
use Rattle.assembler_form.specs.Asked.{is_far_size}
use Rattle.assembler_form.specs.Kinds.{is_al, is_ax, is_byte_memory, is_byte_register, is_cl, is_direct, is_dx, is_far_memory}
use Rattle.assembler_form.specs.Kinds.{is_far_target, is_near, is_no_base, is_nothing, is_of, is_one, is_pointer}
use Rattle.assembler_form.specs.Kinds.{is_segment_not_cs, is_segment_register, is_short, is_word_memory, is_word_register}
use Rattle.assembler_form.specs.Takes.{is_byte_size, is_constant_within, is_number, is_within, is_word_size}
use Rattle.assembler_form.specs.Fields.{byte_of, displacement_in, modulo, number_in, segment_in, signed_byte_of, word_of}
use Rattle.assembler_form.specs.OperandBytes.{escape_number, place_at, place_of, place_without, register_number}
use Rattle.assembler_laws.specs.SameMeaning.{a_number, a_register, asked_meant, count, size_of, byte_meant, far_away, in_memory}
use Rattle.assembler_laws.specs.SameMeaning.{memory_meant, nothing, operand_meant, pointer_size, word_meant, AreOf, IsWord}

-- ---- registers
byte_back : (r : ByteRegister) → byte_register_of (byte_register_number r) ≡ r
byte_back byte_registers.Al = refl
byte_back byte_registers.Cl = refl
byte_back byte_registers.Dl = refl
byte_back byte_registers.Bl = refl
byte_back byte_registers.Ah = refl
byte_back byte_registers.Ch = refl
byte_back byte_registers.Dh = refl
byte_back byte_registers.Bh = refl

word_back : (r : WordRegister) → word_register_of (word_register_number r) ≡ r
word_back word_registers.Ax = refl
word_back word_registers.Cx = refl
word_back word_registers.Dx = refl
word_back word_registers.Bx = refl
word_back word_registers.Sp = refl
word_back word_registers.Bp = refl
word_back word_registers.Si = refl
word_back word_registers.Di = refl

segment_back : (r : SegmentRegister) → segment_register_of (segment_register_number r) ≡ r
segment_back segment_registers.Es = refl
segment_back segment_registers.Cs = refl
segment_back segment_registers.Ss = refl
segment_back segment_registers.Ds = refl

-- what an operand of a kind puts into a form and its numbers
abbrev pub Puts : Form → Values → ℤ → Numbers → Kind → KnownOperand → Type 0
Puts f v next n kinds.Code8 x = f.code ≡ register_number x
Puts f v next n kinds.Code16 x = f.code ≡ register_number x
Puts f v next n kinds.CodeSegment x = f.code ≡ register_number x
Puts f v next n kinds.CodeSegmentNotCs x = f.code ≡ register_number x
Puts f v next n kinds.EscNumber x = (f.code ≡ escape_number x / 8) × (f.reg ≡ escape_number x % 8)
Puts f v next n kinds.Reg8 x = f.reg ≡ register_number x
Puts f v next n kinds.Reg16 x = f.reg ≡ register_number x
Puts f v next n kinds.Segment x = f.reg ≡ register_number x
Puts f v next n kinds.SegmentNotCs x = f.reg ≡ register_number x
Puts f v next n kinds.Rm8 x = (f.place ≡ place_of x) × (displacement_in (displacement_field f.place) n.displacement ≡ Some v.displacement)
Puts f v next n kinds.Rm16 x = (f.place ≡ place_of x) × (displacement_in (displacement_field f.place) n.displacement ≡ Some v.displacement)
Puts f v next n kinds.Memory x = (f.place ≡ place_of x) × (displacement_in (displacement_field f.place) n.displacement ≡ Some v.displacement)
Puts f v next n kinds.Imm8 x = number_in kinds.Imm8 next n ≡ Some v.number
Puts f v next n kinds.Imm16 x = number_in kinds.Imm16 next n ≡ Some v.number
Puts f v next n kinds.Signed8 x = number_in kinds.Signed8 next n ≡ Some v.number
Puts f v next n kinds.Rel8 x = number_in kinds.Rel8 next n ≡ Some v.number
Puts f v next n kinds.Rel16 x = number_in kinds.Rel16 next n ≡ Some v.number
Puts f v next n kinds.At8 x = number_in kinds.At8 next n ≡ Some v.number
Puts f v next n kinds.At16 x = number_in kinds.At16 next n ≡ Some v.number
Puts f v next n kinds.Far x = (number_in kinds.Far next n ≡ Some v.number) × (segment_in kinds.Far n.segment ≡ Some v.segment)
Puts f v next n _ x = Unit {0}

-- ---- numbers in their fields
when_fits : (b : Bool) (m v : ℕ) → (if b then Some m else None) ≡ Some v → (b ≡ true) × (v ≡ m)
when_fits true m v e = (refl, let same : m ≡ v = cc in sym same)
when_fits false m v e = absurd (let never : None ≡ Some v = e in cc)

byte_value : (x v : ℕ) → byte_of (pos x) ≡ Some v → v % 256 ≡ x
byte_value x v e =
    let fits = when_fits (is_within (negsuc 127) (pos 255) (pos x)) (modulo 256 (pos x)) v e in
    let low : nat_le x 255 ≡ true = fits.0 in
    let is : v ≡ x % 256 = fits.1 in
    let below : x ≤ 255 = grind (arith, nat_tests) in
    omega (arith, is, below)

word_value : (x v : ℕ) → x < 65536 → word_of (pos x) ≡ Some v → v ≡ x
word_value x v small e =
    let fits = when_fits (is_within (negsuc 32767) (pos 65535) (pos x)) (modulo 65536 (pos x)) v e in
    let is : v ≡ x % 65536 = fits.1 in
    omega (arith, is, small)

small_sign : (v : ℕ) → v ≤ 127 → sign_extended v ≡ v
small_sign v low = let yes' : nat_lt v 128 ≡ true = grind (arith, nat_tests) in rw yes' refl

signed_value : (x v : ℕ) → signed_byte_of (pos x) ≡ Some v → sign_extended v ≡ x
signed_value x v e =
    let fits = when_fits (is_within (negsuc 127) (pos 127) (pos x)) (modulo 256 (pos x)) v e in
    let low : nat_le x 127 ≡ true = fits.0 in
    let below : x ≤ 127 = grind (arith, nat_tests) in
    let is : v ≡ x % 256 = fits.1 in
    let same : v ≡ x = omega (arith, is, below) in
    subst (λ (y : ℕ). sign_extended y ≡ x) (sym same) (small_sign x below)

-- a distance to a target, added to the offset that it is counted from
below_by : (x n : ℕ) (b : Bool) → nat_lt x (suc n) ≡ b
    → (if b then negsuc (suc n - suc x) else pos (x - suc n)) ≡ (if nat_lt x (suc n) then negsuc (suc n - suc x) else pos (x - suc n))
below_by x n b e = ap (λ (c : Bool). if c then negsuc (suc n - suc x) else pos (x - suc n)) (sym e)

difference : (x next : ℕ) → ((x < next) × (pos x -ℤ pos next ≡ negsuc (next - suc x))) ⊎ ((next ≤ x) × (pos x -ℤ pos next ≡ pos (x - next)))
difference x zero = inr (omega arith, ap pos (omega arith))
difference x (suc n) = by (nat_lt x (suc n)) refl
  where
    by : (b : Bool) → nat_lt x (suc n) ≡ b
        → ((x < suc n) × (pos x -ℤ pos (suc n) ≡ negsuc (suc n - suc x))) ⊎ ((suc n ≤ x) × (pos x -ℤ pos (suc n) ≡ pos (x - suc n)))
    by true e = inl (grind (arith, nat_tests), sym (below_by x n true e))
    by false e = inr (grind (arith, nat_tests), sym (below_by x n false e))

sum_back : (x next w : ℕ) → x < 65536 → w ≡ modulo 65536 (pos x -ℤ pos next) → (next % 65536 + w) % 65536 ≡ x
sum_back x next w small is = by (difference x next)
  where
    by : ((x < next) × (pos x -ℤ pos next ≡ negsuc (next - suc x))) ⊎ ((next ≤ x) × (pos x -ℤ pos next ≡ pos (x - next))) → (next % 65536 + w) % 65536 ≡ x
    by (inl under) =
        let value : w ≡ 65536 - 1 - (next - suc x) % 65536 = is ∙ ap (modulo 65536) under.1 in
        let less : x < next = under.0 in
        omega (arith, value, less, small)
    by (inr over) =
        let value : w ≡ (x - next) % 65536 = is ∙ ap (modulo 65536) over.1 in
        let more : next ≤ x = over.0 in
        omega (arith, value, more, small)

large_sign : (w : ℕ) → 128 ≤ w → w < 256 → sign_extended w ≡ w + 65280
large_sign w high low =
    let not_small : nat_lt w 128 ≡ false = grind (arith, nat_tests) in
    let whole : (w + 65280) % 65536 ≡ w + 65280 = omega arith in
    rw not_small whole

near_below : (k : ℕ) → (nat_le k 127 && true) ≡ true → k ≤ 127
near_below k e = grind (arith, nat_tests)

near_above : (k : ℕ) → nat_le k 127 ≡ true → k ≤ 127
near_above k e = grind (arith, nat_tests)

wraps : (x next k w : ℕ) → x < next → k ≡ next - suc x → k ≤ 127 → w ≡ 256 - 1 - k % 256 → x < 65536 → (next % 65536 + (w + 65280)) % 65536 ≡ x
wraps x next k w less far near value small = omega (arith, less, far, near, value, small)

adds : (x next k w : ℕ) → next ≤ x → k ≡ x - next → k ≤ 127 → w ≡ k % 256 → x < 65536 → (next % 65536 + w) % 65536 ≡ x
adds x next k w more far near value small = omega (arith, more, far, near, value, small)

near_back : (x next w : ℕ) → x < 65536 → signed_byte_of (pos x -ℤ pos next) ≡ Some w → (next % 65536 + sign_extended w) % 65536 ≡ x
near_back x next w small e = by (difference x next)
  where
    by : ((x < next) × (pos x -ℤ pos next ≡ negsuc (next - suc x))) ⊎ ((next ≤ x) × (pos x -ℤ pos next ≡ pos (x - next)))
        → (next % 65536 + sign_extended w) % 65536 ≡ x
    by (inl under) =
        let k : ℕ = next - suc x in
        let fits = when_fits (is_within (negsuc 127) (pos 127) (negsuc k)) (modulo 256 (negsuc k)) w (subst (λ (z : ℤ). signed_byte_of z ≡ Some w) under.1 e) in
        let bound : (nat_le k 127 && true) ≡ true = fits.0 in
        let value : w ≡ 256 - 1 - k % 256 = fits.1 in
        let near : k ≤ 127 = near_below k bound in
        let sign : sign_extended w ≡ w + 65280 = large_sign w (omega (arith, value, near)) (omega (arith, value, near)) in
        let less : x < next = under.0 in
        let far : k ≡ next - suc x = refl in
        rw sign (wraps x next k w less far near value small)
    by (inr over) =
        let k : ℕ = x - next in
        let fits = when_fits (is_within (negsuc 127) (pos 127) (pos k)) (modulo 256 (pos k)) w (subst (λ (z : ℤ). signed_byte_of z ≡ Some w) over.1 e) in
        let bound : nat_le k 127 ≡ true = fits.0 in
        let value : w ≡ k % 256 = fits.1 in
        let near : k ≤ 127 = near_above k bound in
        let sign : sign_extended w ≡ w = small_sign w (omega (arith, value, near)) in
        let more : next ≤ x = over.0 in
        rw sign (adds x next k w more refl near value small)

-- ---- places in memory
zero_place : (size : Size) (b : BaseType) (d w : ℕ) → d ≡ 0 → displacement_in (displacement_field (place_without b)) (pos d) ≡ Some w
    → memory_meant size (place_without b) w ≡ in_memory size (Some b) d
zero_place size bases.Bp d w is e = ap (in_memory size (Some bases.Bp)) (signed_value d w e)
zero_place size bases.BxSi d w is e = ap (in_memory size (Some bases.BxSi)) (sym is)
zero_place size bases.BxDi d w is e = ap (in_memory size (Some bases.BxDi)) (sym is)
zero_place size bases.BpSi d w is e = ap (in_memory size (Some bases.BpSi)) (sym is)
zero_place size bases.BpDi d w is e = ap (in_memory size (Some bases.BpDi)) (sym is)
zero_place size bases.Si d w is e = ap (in_memory size (Some bases.Si)) (sym is)
zero_place size bases.Di d w is e = ap (in_memory size (Some bases.Di)) (sym is)
zero_place size bases.Bx d w is e = ap (in_memory size (Some bases.Bx)) (sym is)

based_place : (size : Size) (b : BaseType) (d w : ℕ) → d < 65536 → (none near : Bool) → nat_lt d 1 ≡ none → is_within (negsuc 127) (pos 127) (pos d) ≡ near
    → displacement_in (displacement_field (if none then place_without b else (if near then BaseByte b else BaseWord b))) (pos d) ≡ Some w
    → memory_meant size (if none then place_without b else (if near then BaseByte b else BaseWord b)) w ≡ in_memory size (Some b) d
based_place size b d w small true near none_is near_is e = let zero_is : d ≡ 0 = grind (arith, nat_tests) in zero_place size b d w zero_is e
based_place size b d w small false true none_is near_is e = ap (in_memory size (Some b)) (signed_value d w e)
based_place size b d w small false false none_is near_is e = ap (in_memory size (Some b)) (word_value d w small e)

place_value : (size : Size) (base : Option BaseType) (d w : ℕ) → d < 65536
    → displacement_in (displacement_field (place_at base (Constant (pos d)))) (pos d) ≡ Some w
    → memory_meant size (place_at base (Constant (pos d))) w ≡ in_memory size base d
place_value size None d w small e = ap (in_memory size None) (word_value d w small e)
place_value size (Some b) d w small e = based_place size b d w small (nat_lt d 1) (is_within (negsuc 127) (pos 127) (pos d)) refl refl e

-- no place in memory is a register
not_named : (size : Size) (b : BaseType) (none near : Bool) (w : ℕ)
    → (byte_meant (if none then place_without b else (if near then BaseByte b else BaseWord b)) w
    ≡ memory_meant sizes.Byte (if none then place_without b else (if near then BaseByte b else BaseWord b)) w)
    × (word_meant size (if none then place_without b else (if near then BaseByte b else BaseWord b)) w
    ≡ memory_meant size (if none then place_without b else (if near then BaseByte b else BaseWord b)) w)
not_named size bases.Bp true near w = (refl, refl)
not_named size bases.BxSi true near w = (refl, refl)
not_named size bases.BxDi true near w = (refl, refl)
not_named size bases.BpSi true near w = (refl, refl)
not_named size bases.BpDi true near w = (refl, refl)
not_named size bases.Si true near w = (refl, refl)
not_named size bases.Di true near w = (refl, refl)
not_named size bases.Bx true near w = (refl, refl)
not_named size b false true w = (refl, refl)
not_named size b false false w = (refl, refl)

at_not_named : (size : Size) (base : Option BaseType) (d w : ℕ)
    → (byte_meant (place_at base (Constant (pos d))) w ≡ memory_meant sizes.Byte (place_at base (Constant (pos d))) w)
    × (word_meant size (place_at base (Constant (pos d))) w ≡ memory_meant size (place_at base (Constant (pos d))) w)
at_not_named size None d w = (refl, refl)
at_not_named size (Some b) d w = not_named size b (nat_lt d 1) (is_within (negsuc 127) (pos 127) (pos d)) w

-- ---- what is one of a kind is by value what is asked
byte_named : (x : KnownOperand) (n : Numbers) (m : ℕ) → IsTrue (is_byte_register x) → m ≡ register_number x
    → a_register (registers.Byte (byte_register_of m)) ≡ asked_meant x n
byte_named (known.Register (registers.Byte r)) n m is e =
    ap (λ (k : ℕ). a_register (registers.Byte (byte_register_of k))) e ∙ ap (λ b. a_register (registers.Byte b)) (byte_back r)
byte_named _ n m is e = cc

word_named : (x : KnownOperand) (n : Numbers) (m : ℕ) → IsTrue (is_word_register x) → m ≡ register_number x
    → a_register (registers.Word (word_register_of m)) ≡ asked_meant x n
word_named (known.Register (registers.Word r)) n m is e =
    ap (λ (k : ℕ). a_register (registers.Word (word_register_of k))) e ∙ ap (λ b. a_register (registers.Word b)) (word_back r)
word_named _ n m is e = cc

segment_named : (x : KnownOperand) (n : Numbers) (m : ℕ) → IsTrue (is_segment_register x) → m ≡ register_number x
    → a_register (registers.Segment (segment_register_of m)) ≡ asked_meant x n
segment_named (known.Register (registers.Segment r)) n m is e =
    ap (λ (k : ℕ). a_register (registers.Segment (segment_register_of k))) e ∙ ap (λ b. a_register (registers.Segment b)) (segment_back r)
segment_named _ n m is e = cc

not_cs_named : (x : KnownOperand) → IsTrue (is_segment_not_cs x) → IsTrue (is_segment_register x)
not_cs_named (known.Register (registers.Segment segment_registers.Es)) is = refl
not_cs_named (known.Register (registers.Segment segment_registers.Cs)) is = refl
not_cs_named (known.Register (registers.Segment segment_registers.Ss)) is = refl
not_cs_named (known.Register (registers.Segment segment_registers.Ds)) is = refl
not_cs_named _ is = cc

nothing_named : (x : KnownOperand) (n : Numbers) → IsTrue (is_nothing x) → nothing ≡ asked_meant x n
nothing_named known.Nothing n is = refl
nothing_named _ n is = cc

al_named : (x : KnownOperand) (n : Numbers) → IsTrue (is_al x) → a_register (registers.Byte byte_registers.Al) ≡ asked_meant x n
al_named (known.Register (registers.Byte byte_registers.Al)) n is = refl
al_named _ n is = cc

cl_named : (x : KnownOperand) (n : Numbers) → IsTrue (is_cl x) → a_register (registers.Byte byte_registers.Cl) ≡ asked_meant x n
cl_named (known.Register (registers.Byte byte_registers.Cl)) n is = refl
cl_named _ n is = cc

ax_named : (x : KnownOperand) (n : Numbers) → IsTrue (is_ax x) → a_register (registers.Word word_registers.Ax) ≡ asked_meant x n
ax_named (known.Register (registers.Word word_registers.Ax)) n is = refl
ax_named _ n is = cc

dx_named : (x : KnownOperand) (n : Numbers) → IsTrue (is_dx x) → a_register (registers.Word word_registers.Dx) ≡ asked_meant x n
dx_named (known.Register (registers.Word word_registers.Dx)) n is = refl
dx_named _ n is = cc

one_named : (x : KnownOperand) (n : Numbers) → IsTrue (is_one x) → AreOf x n → a_number 1 ≡ asked_meant x n
one_named known.One n is of = ap (λ (z : ℤ). a_number (count z)) (sym of)
one_named _ n is of = cc

-- a number that is asked is a word
pub a_word : (x : KnownOperand) (n : Numbers) → IsTrue (is_number x) → AreOf x n → IsWord n.number × (asked_meant x n ≡ a_number (count n.number))
a_word known.One n is of = (record { value = 1; is = of; small = omega arith }, refl)
a_word (known.Number c) n is of = (of.0, refl)
a_word _ n is of = cc

-- what a field has of a number that is asked is the number's value
fielded : (x : KnownOperand) (n : Numbers) (m : ℕ) → IsTrue (is_number x) → AreOf x n
    → ((value : ℕ) → value < 65536 → n.number ≡ pos value → m ≡ value) → a_number m ≡ asked_meant x n
fielded x n m is of same =
    let word = a_word x n is of in
    ap a_number (same word.0.value word.0.small word.0.is) ∙ (ap (λ (z : ℤ). a_number (count z)) (sym word.0.is) ∙ sym word.1)

constant_is_number : (least greatest : ℤ) (x : KnownOperand) → IsTrue (is_constant_within least greatest x) → IsTrue (is_number x)
constant_is_number least greatest known.One is = refl
constant_is_number least greatest (known.Number (Constant c)) is = refl
constant_is_number least greatest _ is = cc

escape_named : (x : KnownOperand) (n : Numbers) (code reg : ℕ) → IsTrue (is_constant_within (pos 0) (pos 63) x)
    → AreOf x n → code ≡ escape_number x / 8 → reg ≡ escape_number x % 8 → a_number ((8 * code + reg) % 256) ≡ asked_meant x n
escape_named known.One n code reg is of code_is reg_is = rw (code_is, reg_is, of) refl
escape_named (known.Number (Constant (pos c))) n code reg is of code_is reg_is =
    let same : pos c ≡ n.number = let e : Constant (pos c) ≡ Constant n.number = of.1 in cc in
    let low : nat_le c 63 ≡ true = (and_parts (nat_le 0 c) (nat_le c 63) is).1 in
    let below : nat_lt c 64 ≡ true = grind (arith, nat_tests) in
    let escape : escape_number (known.Number (Constant (pos c))) ≡ c = rw below refl in
    let number : (8 * code + reg) % 256 ≡ c = value c code reg low (code_is ∙ ap (λ (k : ℕ). k / 8) escape) (reg_is ∙ ap (λ (k : ℕ). k % 8) escape) in
    ap a_number number ∙ ap (λ (z : ℤ). a_number (count z)) same
  where
    value : (c code reg : ℕ) → nat_le c 63 ≡ true → code ≡ c / 8 → reg ≡ c % 8 → (8 * code + reg) % 256 ≡ c
    value c code reg low p q = let small : c ≤ 63 = grind (arith, nat_tests) in omega (arith, p, q, small)
escape_named _ n code reg is of code_is reg_is = cc

target_named : (x : KnownOperand) (n : Numbers) (m : ℕ) → IsTrue (is_short x) → AreOf x n
    → ((value : ℕ) → value < 65536 → n.number ≡ pos value → m ≡ value) → a_number m ≡ asked_meant x n
target_named known.Short n m is of same = ap a_number (same of.value of.small of.is) ∙ ap (λ (z : ℤ). a_number (count z)) (sym of.is)
target_named _ n m is of same = cc

near_named : (o : Operation) (x : KnownOperand) (n : Numbers) (m : ℕ)
    → IsTrue (is_near o x) → AreOf x n → ((value : ℕ) → value < 65536 → n.number ≡ pos value → m ≡ value) → a_number m ≡ asked_meant x n
near_named (Control control.Jmp) x n m is of same = target_named x n m is of same
near_named _ x n m is of same = fielded x n m is of same

far_named : (x : KnownOperand) (n : Numbers) (s m : ℕ) → IsTrue (is_far_target x) → AreOf x n
    → word_of n.segment ≡ Some s → word_of n.number ≡ Some m → far_away s m ≡ asked_meant x n
far_named known.Far n s m is of s_is m_is =
    let one : s ≡ of.0.value = word_value of.0.value s of.0.small (subst (λ (z : ℤ). word_of z ≡ Some s) of.0.is s_is) in
    let two : m ≡ of.1.value = word_value of.1.value m of.1.small (subst (λ (z : ℤ). word_of z ≡ Some m) of.1.is m_is) in
    rw (one, two, of.0.is, of.1.is) refl
far_named _ n s m is of s_is m_is = cc

-- memory
placed : (m : KnownMemory) (n : Numbers) (size : Size) (place : Place) (w : ℕ) → size_of m.size ≡ size → AreOf (known.Memory m) n
    → place ≡ place_at m.base m.displacement → displacement_in (displacement_field place) n.displacement ≡ Some w
    → (memory_meant size place w ≡ asked_meant (known.Memory m) n)
    × (byte_meant place w ≡ memory_meant sizes.Byte place w) × (word_meant size place w ≡ memory_meant size place w)
placed m n size place w size_is of place_is e =
    let d : ℕ = of.0.value in
    let is : place ≡ place_at m.base (Constant (pos d)) = place_is ∙ ap (place_at m.base) (of.1 ∙ ap Constant of.0.is) in
    let field : displacement_in (displacement_field (place_at m.base (Constant (pos d)))) (pos d) ≡ Some w =
    subst (λ (p : Place). displacement_in (displacement_field p) (pos d) ≡ Some w) is
    (subst (λ (z : ℤ). displacement_in (displacement_field place) z ≡ Some w) of.0.is e) in
    let named = at_not_named size m.base d w in (
      ap (λ (p : Place). memory_meant size p w) is
          ∙ (place_value size m.base d w of.0.small field
          ∙ (ap (λ (s : Size). in_memory s m.base d) (sym size_is) ∙ ap (λ (z : ℤ). in_memory (size_of m.size) m.base (count z)) (sym of.0.is))),
      subst (λ (p : Place). byte_meant p w ≡ memory_meant sizes.Byte p w) (sym is) named.0,
      subst (λ (p : Place). word_meant size p w ≡ memory_meant size p w) (sym is) named.1,
    )

byte_size : (s : Option Size) → IsTrue (is_byte_size s) → size_of s ≡ sizes.Byte
byte_size (Some sizes.Byte) is = refl
byte_size _ is = cc

word_size : (s : Option Size) → IsTrue (is_word_size s) → size_of s ≡ sizes.Word
word_size (Some sizes.Word) is = refl
word_size _ is = cc

far_size : (s : Option Size) → IsTrue (is_far_size s) → size_of s ≡ sizes.Far
far_size (Some sizes.Far) is = refl
far_size _ is = cc

byte_placed : (x : KnownOperand) (n : Numbers) (place : Place) (w : ℕ) → IsTrue (is_byte_register x || is_byte_memory x) → AreOf x n → place ≡ place_of x
    → displacement_in (displacement_field place) n.displacement ≡ Some w → byte_meant place w ≡ asked_meant x n
byte_placed (known.Register (registers.Byte r)) n place w is of place_is e =
    ap (λ (p : Place). byte_meant p w) place_is ∙ ap (λ b. a_register (registers.Byte b)) (byte_back r)
byte_placed (known.Memory m) n place w is of place_is e =
    let are = placed m n sizes.Byte place w (byte_size m.size is) of place_is e in are.1 ∙ are.0
byte_placed _ n place w is of place_is e = cc

word_placed : (x : KnownOperand) (n : Numbers) (place : Place) (w : ℕ) → IsTrue (is_word_register x || is_word_memory x) → AreOf x n → place ≡ place_of x
    → displacement_in (displacement_field place) n.displacement ≡ Some w → word_meant sizes.Word place w ≡ asked_meant x n
word_placed (known.Register (registers.Word r)) n place w is of place_is e =
    ap (λ (p : Place). word_meant sizes.Word p w) place_is ∙ ap (λ b. a_register (registers.Word b)) (word_back r)
word_placed (known.Memory m) n place w is of place_is e =
    let are = placed m n sizes.Word place w (word_size m.size is) of place_is e in are.2 ∙ are.0
word_placed _ n place w is of place_is e = cc

far_placed : (x : KnownOperand) (n : Numbers) (place : Place) (w : ℕ) → IsTrue (is_far_memory x) → AreOf x n → place ≡ place_of x
    → displacement_in (displacement_field place) n.displacement ≡ Some w → word_meant sizes.Far place w ≡ asked_meant x n
far_placed (known.Memory m) n place w is of place_is e =
    let are = placed m n sizes.Far place w (far_size m.size is) of place_is e in are.2 ∙ are.0
far_placed _ n place w is of place_is e = cc

only_word_placed : (x : KnownOperand) (n : Numbers) (place : Place) (w : ℕ) → IsTrue (is_word_memory x) → AreOf x n → place ≡ place_of x
    → displacement_in (displacement_field place) n.displacement ≡ Some w → word_meant sizes.Word place w ≡ asked_meant x n
only_word_placed (known.Memory m) n place w is of place_is e =
    let are = placed m n sizes.Word place w (word_size m.size is) of place_is e in are.2 ∙ are.0
only_word_placed _ n place w is of place_is e = cc

pointer_placed : (o : Operation) (x : KnownOperand) (n : Numbers) (place : Place) (w : ℕ) → IsTrue (is_pointer o x) → AreOf x n → place ≡ place_of x
    → displacement_in (displacement_field place) n.displacement ≡ Some w → word_meant (pointer_size o) place w ≡ asked_meant x n
pointer_placed (Control c) x n place w is of place_is e = far_placed x n place w is of place_is e
pointer_placed _ x n place w is of place_is e = only_word_placed x n place w is of place_is e

byte_direct : (x : KnownOperand) (n : Numbers) (w : ℕ) → IsTrue (is_direct x) → IsTrue (is_byte_memory x)
    → AreOf x n → word_of n.displacement ≡ Some w → in_memory sizes.Byte None w ≡ asked_meant x n
byte_direct (known.Memory m) n w direct is of e =
    let value : w ≡ of.0.value = word_value of.0.value w of.0.small (subst (λ (z : ℤ). word_of z ≡ Some w) of.0.is e) in
    rw (value, of.0.is, byte_size m.size is, no_base m.base direct) refl
  where
    no_base : (b : Option BaseType) → IsTrue (is_no_base b) → b ≡ None
    no_base None is = refl
    no_base (Some b) is = cc
byte_direct _ n w direct is of e = cc

word_direct : (x : KnownOperand) (n : Numbers) (w : ℕ) → IsTrue (is_direct x) → IsTrue (is_word_memory x)
    → AreOf x n → word_of n.displacement ≡ Some w → in_memory sizes.Word None w ≡ asked_meant x n
word_direct (known.Memory m) n w direct is of e =
    let value : w ≡ of.0.value = word_value of.0.value w of.0.small (subst (λ (z : ℤ). word_of z ≡ Some w) of.0.is e) in
    rw (value, of.0.is, word_size m.size is, no_base m.base direct) refl
  where
    no_base : (b : Option BaseType) → IsTrue (is_no_base b) → b ≡ None
    no_base None is = refl
    no_base (Some b) is = cc
word_direct _ n w direct is of e = cc

-- an operand of a kind
pub kind_means : (f : Form) (v : Values) (next : ℕ) (n : Numbers) (k : Kind) (x : KnownOperand)
    → IsTrue (is_of (operation_of f.row) k x) → AreOf x n → Puts f v (pos next) n k x → operand_meant f v (next % 65536) k ≡ asked_meant x n
unfolding operand_meant
kind_means f v next n kinds.Nothing x is of puts = nothing_named x n is
kind_means f v next n kinds.Ten x is of puts = nothing_named x n is
kind_means f v next n kinds.Al x is of puts = al_named x n is
kind_means f v next n kinds.Ax x is of puts = ax_named x n is
kind_means f v next n kinds.Cl x is of puts = cl_named x n is
kind_means f v next n kinds.Dx x is of puts = dx_named x n is
kind_means f v next n kinds.One x is of puts = one_named x n is of
kind_means f v next n kinds.Code8 x is of puts = byte_named x n f.code is puts
kind_means f v next n kinds.Code16 x is of puts = word_named x n f.code is puts
kind_means f v next n kinds.CodeSegment x is of puts = segment_named x n f.code is puts
kind_means f v next n kinds.CodeSegmentNotCs x is of puts = segment_named x n f.code (not_cs_named x is) puts
kind_means f v next n kinds.EscNumber x is of puts = escape_named x n f.code f.reg is of puts.0 puts.1
kind_means f v next n kinds.Reg8 x is of puts = byte_named x n f.reg is puts
kind_means f v next n kinds.Reg16 x is of puts = word_named x n f.reg is puts
kind_means f v next n kinds.Segment x is of puts = segment_named x n f.reg is puts
kind_means f v next n kinds.SegmentNotCs x is of puts = segment_named x n f.reg (not_cs_named x is) puts
kind_means f v next n kinds.Rm8 x is of puts = byte_placed x n f.place v.displacement is of puts.0 puts.1
kind_means f v next n kinds.Rm16 x is of puts = word_placed x n f.place v.displacement is of puts.0 puts.1
kind_means f v next n kinds.Memory x is of puts = pointer_placed (operation_of f.row) x n f.place v.displacement is of puts.0 puts.1
kind_means f v next n kinds.Imm8 x is of puts =
    fielded x n (v.number % 256) is of (λ value small same. byte_value value v.number (subst (λ (z : ℤ). byte_of z ≡ Some v.number) same puts))
kind_means f v next n kinds.Imm16 x is of puts =
    fielded x n v.number is of (λ value small same. word_value value v.number small (subst (λ (z : ℤ). word_of z ≡ Some v.number) same puts))
kind_means f v next n kinds.Signed8 x is of puts =
    fielded x n (sign_extended v.number) (constant_is_number (negsuc 127) (pos 127) x is) of
    (λ value small same. signed_value value v.number (subst (λ (z : ℤ). signed_byte_of z ≡ Some v.number) same puts))
kind_means f v next n kinds.Rel8 x is of puts =
    near_named (operation_of f.row) x n ((next % 65536 + sign_extended v.number) % 65536) is of
    (λ value small same. near_back value next v.number small (subst (λ (z : ℤ). signed_byte_of (z -ℤ pos next) ≡ Some v.number) same puts))
kind_means f v next n kinds.Rel16 x is of puts =
    fielded x n ((next % 65536 + v.number) % 65536) is of
    (λ value small same.
    sum_back value next v.number small (some_same v.number (modulo 65536 (n.number -ℤ pos next)) puts ∙ ap (λ (z : ℤ). modulo 65536 (z -ℤ pos next)) same))
  where
    some_same : (a b : ℕ) → Some b ≡ Some a → a ≡ b
    some_same a b e = let same : b ≡ a = cc in sym same
kind_means f v next n kinds.At8 x is of puts =
    let are = and_parts (is_direct x) (is_byte_memory x) is in byte_direct x n v.number are.0 are.1 of puts
kind_means f v next n kinds.At16 x is of puts =
    let are = and_parts (is_direct x) (is_word_memory x) is in word_direct x n v.number are.0 are.1 of puts
kind_means f v next n kinds.Far x is of puts = far_named x n v.segment v.number is of puts.1 puts.0
