-- What a shift by several places leaves of a value.
-- For proofs alone: no public contract rests on it.
use Rattle.std.specs.Prelude.{ℕ, suc, ◌-◌, ◌/◌, ◌^◌, false, if◌then◌else◌}
use Rattle.execute_machine.specs.declared.width.Width.{Width}
use Rattle.execute_machine.specs.Widths.{size_of, is_negative}
use Rattle.execute_arith.specs.declared.single.Shifted.{Shifted}

-- what a value lacks to -1
abbrev pub lack : Width → ℕ → ℕ
lack width value = size_of width - suc value

-- a shift to the right by several places, at each of which the top bit enters
abbrev pub signed_right : Width → ℕ → ℕ → ℕ
signed_right width value places =
    if is_negative width value then lack width (lack width value / 2 ^ places) else value / 2 ^ places

-- an operand of a shift that reads neither CF nor OF
abbrev pub alone : ℕ → Shifted
alone value = record { value = value; carry = false; overflow = false }
