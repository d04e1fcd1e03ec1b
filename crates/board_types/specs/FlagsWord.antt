-- The flags word (8086 Family User's Manual, "Flags"): CF is bit 0, PF 2, AF 4, ZF 6, SF 7, TF 8, IF 9,
-- DF 10 and OF 11. Of the other bits 15 to 12 and 1 read 1, 5 and 3
-- read 0 (this board's choice).
-- To be believed: the headline rests on it.
use Rattle.std.specs.Prelude.{ℕ, ◌+◌, ◌^◌, Bool, if◌then◌else◌}
use Rattle.board_types.specs.declared.regs.Flags.{Flags}

abbrev pub flag_bit : Bool → ℕ → ℕ
flag_bit flag value = if flag then value else 0

abbrev pub flags_word : Flags → ℕ
flags_word f =
    0xF002 + flag_bit f.carry 1 + flag_bit f.parity (2 ^ 2) + flag_bit f.auxiliary_carry (2 ^ 4)
    + flag_bit f.zero (2 ^ 6) + flag_bit f.sign (2 ^ 7) + flag_bit f.trap (2 ^ 8)
    + flag_bit f.interrupt_enable (2 ^ 9) + flag_bit f.direction (2 ^ 10) + flag_bit f.overflow (2 ^ 11)
