-- Rotates are turns: of the operand, or of CF and the operand.
use Rattle.std.proofs.Common.{◌≡◌, ℕ, ◌+◌, ◌*◌, ◌^◌, ◌<◌, Bool, true, false, refl, ◌∙◌, arith}
use Rattle.std.proofs.lemmas.Bool.Decides.{nat_tests}
use Rattle.board_types.specs.Iterate.{iterate}
use Rattle.board_types.specs.FlagsWord.{flag_bit}
use Rattle.isa.specs.declared.operation.Shift.TheVariants.{Rol, Ror, Rcl, Rcr}
use Rattle.execute_machine.specs.declared.width.Width.{Width}
use Rattle.execute_machine.specs.declared.width.Width.TheVariants.{Byte, Word}
use Rattle.execute_machine.specs.Widths.{size_of, half_size}
use Rattle.execute_arith.specs.declared.single.Shifted.{Shifted}
use Rattle.execute_arith.specs.Single.{after_single, after_left, after_right, after_right_rotation}
use Rattle.execute_arith.specs.Shifts.{after_shifts}
use Rattle.execute_arith.specs.ShiftLaws.{RotatesTurnRound, RotatesThroughCarryTurnRound, SameWithCarry, bits_of}
use Rattle.execute_arith.proofs.Runs.{Simulates, run_seen, kept_by_run}
use Rattle.execute_arith.proofs.Turns.{turn, turn_back, turned_round, turned_back_round}

Fits : Width → Shifted → Type 0
Fits width s = s.value < size_of width

value_of : Shifted → ℕ
value_of s = s.value

rol_once : (width : Width) → Simulates (after_single Rol width) (turn (half_size width)) value_of (Fits width)
unfolding after_single after_left Fits value_of
rol_once Byte = record { seen = λ s fits. grind (arith, nat_tests); kept = λ s fits. grind (arith, nat_tests) }
rol_once Word = record { seen = λ s fits. grind (arith, nat_tests); kept = λ s fits. grind (arith, nat_tests) }

ror_once : (width : Width) → Simulates (after_single Ror width) (turn_back (half_size width)) value_of (Fits width)
unfolding after_single after_right after_right_rotation Fits value_of
ror_once Byte = record { seen = λ s fits. grind (arith, nat_tests); kept = λ s fits. grind (arith, nat_tests) }
ror_once Word = record { seen = λ s fits. grind (arith, nat_tests); kept = λ s fits. grind (arith, nat_tests) }

-- CF stands above the operand
through : Width → Shifted → ℕ
through width s = flag_bit s.carry (size_of width) + s.value

rcl_once : (width : Width) → Simulates (after_single Rcl width) (turn (size_of width)) (through width) (Fits width)
unfolding after_single after_left Fits through
rcl_once Byte = record { seen = λ s fits. grind (arith, nat_tests); kept = λ s fits. grind (arith, nat_tests) }
rcl_once Word = record { seen = λ s fits. grind (arith, nat_tests); kept = λ s fits. grind (arith, nat_tests) }

rcr_once : (width : Width) → Simulates (after_single Rcr width) (turn_back (size_of width)) (through width) (Fits width)
unfolding after_single after_right after_right_rotation Fits through
rcr_once Byte = record { seen = λ s fits. grind (arith, nat_tests); kept = λ s fits. grind (arith, nat_tests) }
rcr_once Word = record { seen = λ s fits. grind (arith, nat_tests); kept = λ s fits. grind (arith, nat_tests) }

places : (width : Width) → 2 * half_size width ≡ 2 ^ bits_of width
places Byte = refl
places Word = refl

places_through : (width : Width) → 2 * size_of width ≡ 2 ^ (bits_of width + 1)
places_through Byte = refl
places_through Word = refl

fits_turn : (width : Width) (v : ℕ) → v < size_of width → v < 2 * half_size width
fits_turn Byte v fits = fits
fits_turn Word v fits = fits

rol_round : (width : Width) (s : Shifted) → s.value < size_of width → (after_shifts Rol width s (bits_of width)).value ≡ s.value
unfolding after_shifts Fits value_of
rol_round width s fits =
    run_seen (after_single Rol width) (turn (half_size width)) value_of (Fits width) (rol_once width) (bits_of width) s fits
    ∙ turned_round (half_size width) (bits_of width) s.value (places width) (fits_turn width s.value fits)

ror_round : (width : Width) (s : Shifted) → s.value < size_of width → (after_shifts Ror width s (bits_of width)).value ≡ s.value
unfolding after_shifts Fits value_of
ror_round width s fits =
    run_seen (after_single Ror width) (turn_back (half_size width)) value_of (Fits width) (ror_once width) (bits_of width) s fits
    ∙ turned_back_round (half_size width) (bits_of width) s.value (places width) (fits_turn width s.value fits)

pub rotates_turn_round : RotatesTurnRound
rotates_turn_round = record { rol = rol_round; ror = ror_round }

flag_fits : (n : ℕ) (c : Bool) (v : ℕ) → v < n → flag_bit c n + v < 2 * n
flag_fits n true v fits = omega arith
flag_fits n false v fits = omega arith

fits_through : (width : Width) (s : Shifted) → s.value < size_of width → through width s < 2 * size_of width
unfolding through
fits_through width s fits = flag_fits (size_of width) s.carry s.value fits

apart : (n : ℕ) (c d : Bool) (v w : ℕ) → v < n → w < n → flag_bit d n + w ≡ flag_bit c n + v → (w ≡ v) × (d ≡ c)
apart n true true v w p q e = (omega arith, refl)
apart n true false v w p q e = absurd (omega arith)
apart n false true v w p q e = absurd (omega arith)
apart n false false v w p q e = (omega arith, refl)

same : (width : Width) (s t : Shifted) → s.value < size_of width → t.value < size_of width → through width t ≡ through width s → SameWithCarry s t
unfolding through
same width s t p q e =
    let both = apart (size_of width) s.carry t.carry s.value t.value p q e in record { value = both.0; carry = both.1 }

rcl_round : (width : Width) (s : Shifted) → s.value < size_of width → SameWithCarry s (after_shifts Rcl width s (bits_of width + 1))
unfolding after_shifts Fits
rcl_round width s fits =
    let step = after_single Rcl width in
    let n = bits_of width + 1 in
    same width s (iterate step n s) fits
    (kept_by_run step (turn (size_of width)) (through width) (Fits width) (rcl_once width) n s fits)
    (run_seen step (turn (size_of width)) (through width) (Fits width) (rcl_once width) n s fits
    ∙ turned_round (size_of width) n (through width s) (places_through width) (fits_through width s fits))

rcr_round : (width : Width) (s : Shifted) → s.value < size_of width → SameWithCarry s (after_shifts Rcr width s (bits_of width + 1))
unfolding after_shifts Fits
rcr_round width s fits =
    let step = after_single Rcr width in
    let n = bits_of width + 1 in
    same width s (iterate step n s) fits
    (kept_by_run step (turn_back (size_of width)) (through width) (Fits width) (rcr_once width) n s fits)
    (run_seen step (turn_back (size_of width)) (through width) (Fits width) (rcr_once width) n s fits
    ∙ turned_back_round (size_of width) n (through width s) (places_through width) (fits_through width s fits))

pub rotates_through_carry_turn_round : RotatesThroughCarryTurnRound
rotates_through_carry_turn_round = record { rcl = rcl_round; rcr = rcr_round }
