-- One shift by one place (8086 Family User's Manual, "Shift Instructions", "Rotate Instructions"), on an operand, CF
-- and OF.
-- To be believed: the headline rests on it.
use Rattle.execute_machine.specs.Flags.{differ}
use Rattle.std.specs.Prelude.{ℕ, ◌+◌, ◌*◌, ◌/◌, ◌%◌, ◌==◌, nat_le, Bool, false}
use Rattle.board_types.specs.FlagsWord.{flag_bit}
use Rattle.isa.specs.declared.operation.Shift.{Shift}
use Rattle.isa.specs.declared.operation.Shift.TheVariants.{Rol, Ror, Rcl, Rcr, Shl, Shr, Sar}
use Rattle.execute_machine.specs.declared.width.Width.{Width}
use Rattle.execute_machine.specs.Widths.{size_of, half_size, is_negative}
use Rattle.execute_arith.specs.declared.single.Shifted.{Shifted}

-- the bit below the top one
abbrev pub second_bit : Width → ℕ → Bool
second_bit width value = nat_le (half_size width) (2 * value % size_of width)

-- the bit that leaves to the right
abbrev pub is_odd : ℕ → Bool
is_odd value = value % 2 == 1

-- one place to the right: the bottom bit leaves, and a bit enters at the top
abbrev pub right_value : Width → ℕ → Bool → ℕ
right_value width value entering = value / 2 + flag_bit entering (half_size width)

-- one place to the left: CF is the top bit, which leaves, and a bit enters at the bottom; OF says whether the new top
-- bit differs from CF
unfoldable pub after_left : Width → Shifted → Bool → Shifted
after_left width s entering =
    let value = 2 * s.value % size_of width + flag_bit entering 1 in
    let leaving = is_negative width s.value in
    record { value = value; carry = leaving; overflow = differ (is_negative width value) leaving }

unfoldable pub after_right : Width → Shifted → Bool → Bool → Shifted
after_right width s entering overflow =
    record { value = right_value width s.value entering; carry = is_odd s.value; overflow = overflow }

-- a rotation to the right: OF says whether the two new top bits differ
unfoldable pub after_right_rotation : Width → Shifted → Bool → Shifted
after_right_rotation width s entering =
    let value = right_value width s.value entering in
    after_right width s entering (differ (is_negative width value) (second_bit width value))

unfoldable pub after_single : Shift → Width → Shifted → Shifted
after_single Rol width s = after_left width s (is_negative width s.value)
after_single Ror width s = after_right_rotation width s (is_odd s.value)
after_single Rcl width s = after_left width s s.carry
after_single Rcr width s = after_right_rotation width s s.carry
after_single Shl width s = after_left width s false
after_single Shr width s = after_right width s false (is_negative width s.value)
after_single Sar width s = after_right width s (is_negative width s.value) false
