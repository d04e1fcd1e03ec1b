-- The numbers of the registers in an instruction (8086 Family User's Manual, "REG field encoding").
-- To be believed: the headline rests on it.
use Rattle.std.specs.Prelude.{ℕ, ◌==◌, cond}
use Rattle.isa.specs.declared.register.ByteRegister.{ByteRegister}
use Rattle.isa.specs.declared.register.ByteRegister.TheVariants.{Al, Cl, Dl, Bl, Ah, Ch, Dh, Bh}
use Rattle.isa.specs.declared.register.WordRegister.{WordRegister}
use Rattle.isa.specs.declared.register.WordRegister.TheVariants.{Ax, Cx, Dx, Bx, Sp, Bp, Si, Di}
use Rattle.isa.specs.declared.register.SegmentRegister.{SegmentRegister}
use Rattle.isa.specs.declared.register.SegmentRegister.TheVariants.{Es, Cs, Ss, Ds}

abbrev pub byte_register_number : ByteRegister → ℕ
byte_register_number Al = 0
byte_register_number Cl = 1
byte_register_number Dl = 2
byte_register_number Bl = 3
byte_register_number Ah = 4
byte_register_number Ch = 5
byte_register_number Dh = 6
byte_register_number Bh = 7

abbrev pub word_register_number : WordRegister → ℕ
word_register_number Ax = 0
word_register_number Cx = 1
word_register_number Dx = 2
word_register_number Bx = 3
word_register_number Sp = 4
word_register_number Bp = 5
word_register_number Si = 6
word_register_number Di = 7

abbrev pub segment_register_number : SegmentRegister → ℕ
segment_register_number Es = 0
segment_register_number Cs = 1
segment_register_number Ss = 2
segment_register_number Ds = 3

-- the register with a number; for a number above the last one's, the last register
abbrev pub byte_register_of : ℕ → ByteRegister
byte_register_of n =
    cond (n == 0) Al (cond (n == 1) Cl (cond (n == 2) Dl (cond (n == 3) Bl
    (cond (n == 4) Ah (cond (n == 5) Ch (cond (n == 6) Dh Bh))))))

abbrev pub word_register_of : ℕ → WordRegister
word_register_of n =
    cond (n == 0) Ax (cond (n == 1) Cx (cond (n == 2) Dx (cond (n == 3) Bx
    (cond (n == 4) Sp (cond (n == 5) Bp (cond (n == 6) Si Di))))))

abbrev pub segment_register_of : ℕ → SegmentRegister
segment_register_of n =
    cond (n == 0) Es (cond (n == 1) Cs (cond (n == 2) Ss Ds))
