-- The definitions on worked values: single shifts and rotates of an operand, with CF before, worked out by hand from
-- the manual ("Shift Instructions", "Rotate Instructions").
use Rattle.std.proofs.Common.{◌≡◌, true, false, refl}
use Rattle.std.specs.Prelude.{⊤}
use Rattle.board_types.specs.Iterate.{iterate}
use Rattle.isa.specs.declared.operation.Shift.TheVariants.{Rol, Ror, Rcl, Rcr, Shl, Shr, Sar}
use Rattle.execute_machine.specs.FlagState.{FlagState}
use Rattle.execute_machine.specs.declared.width.Width.TheVariants.{Byte, Word}
use Rattle.execute_arith.specs.declared.single.Shifted.{Shifted}
use Rattle.execute_arith.specs.Shifts.{after_shifts, with_shifted}
use Rattle.execute_arith.specs.Single.{after_left, after_right, after_right_rotation, after_single}

-- what a row unfolds
unfoldable on_shifts : ⊤
unfolding iterate after_single after_left after_right after_right_rotation after_shifts with_shifted
on_shifts = tt

-- "ROL": the top bit enters at the bottom and is CF; OF says whether the new top bit differs from CF
rol_81 : after_single Rol Byte (record { value = 0x81; carry = false; overflow = false })
    ≡ record { value = 0x03; carry = true; overflow = true }
unfolding on_shifts
rol_81 = refl

rol_40_carry : after_single Rol Byte (record { value = 0x40; carry = true; overflow = false })
    ≡ record { value = 0x80; carry = false; overflow = true }
unfolding on_shifts
rol_40_carry = refl

rol_C0 : after_single Rol Byte (record { value = 0xC0; carry = false; overflow = true })
    ≡ record { value = 0x81; carry = true; overflow = false }
unfolding on_shifts
rol_C0 = refl

rol_8000 : after_single Rol Word (record { value = 0x8000; carry = false; overflow = false })
    ≡ record { value = 0x0001; carry = true; overflow = true }
unfolding on_shifts
rol_8000 = refl

-- "ROR": the bottom bit enters at the top and is CF; OF says whether the two top bits differ
ror_81 : after_single Ror Byte (record { value = 0x81; carry = false; overflow = true })
    ≡ record { value = 0xC0; carry = true; overflow = false }
unfolding on_shifts
ror_81 = refl

ror_02_carry : after_single Ror Byte (record { value = 0x02; carry = true; overflow = true })
    ≡ record { value = 0x01; carry = false; overflow = false }
unfolding on_shifts
ror_02_carry = refl

ror_80_carry : after_single Ror Byte (record { value = 0x80; carry = true; overflow = false })
    ≡ record { value = 0x40; carry = false; overflow = true }
unfolding on_shifts
ror_80_carry = refl

ror_0001 : after_single Ror Word (record { value = 0x0001; carry = false; overflow = false })
    ≡ record { value = 0x8000; carry = true; overflow = true }
unfolding on_shifts
ror_0001 = refl

-- "RCL": CF enters at the bottom, and the top bit is CF then
rcl_80_carry : after_single Rcl Byte (record { value = 0x80; carry = true; overflow = false })
    ≡ record { value = 0x01; carry = true; overflow = true }
unfolding on_shifts
rcl_80_carry = refl

rcl_40 : after_single Rcl Byte (record { value = 0x40; carry = false; overflow = false })
    ≡ record { value = 0x80; carry = false; overflow = true }
unfolding on_shifts
rcl_40 = refl

rcl_C0 : after_single Rcl Byte (record { value = 0xC0; carry = false; overflow = true })
    ≡ record { value = 0x80; carry = true; overflow = false }
unfolding on_shifts
rcl_C0 = refl

rcl_01_carry : after_single Rcl Byte (record { value = 0x01; carry = true; overflow = true })
    ≡ record { value = 0x03; carry = false; overflow = false }
unfolding on_shifts
rcl_01_carry = refl

rcl_8000 : after_single Rcl Word (record { value = 0x8000; carry = false; overflow = false })
    ≡ record { value = 0x0000; carry = true; overflow = true }
unfolding on_shifts
rcl_8000 = refl

-- "RCR": CF enters at the top, and the bottom bit is CF then
rcr_01_carry : after_single Rcr Byte (record { value = 0x01; carry = true; overflow = false })
    ≡ record { value = 0x80; carry = true; overflow = true }
unfolding on_shifts
rcr_01_carry = refl

rcr_80_carry : after_single Rcr Byte (record { value = 0x80; carry = true; overflow = true })
    ≡ record { value = 0xC0; carry = false; overflow = false }
unfolding on_shifts
rcr_80_carry = refl

rcr_80 : after_single Rcr Byte (record { value = 0x80; carry = false; overflow = false })
    ≡ record { value = 0x40; carry = false; overflow = true }
unfolding on_shifts
rcr_80 = refl

rcr_01 : after_single Rcr Byte (record { value = 0x01; carry = false; overflow = true })
    ≡ record { value = 0x00; carry = true; overflow = false }
unfolding on_shifts
rcr_01 = refl

rcr_0001_carry : after_single Rcr Word (record { value = 0x0001; carry = true; overflow = false })
    ≡ record { value = 0x8000; carry = true; overflow = true }
unfolding on_shifts
rcr_0001_carry = refl

-- "SHL": 0 enters at the bottom
shl_C0 : after_single Shl Byte (record { value = 0xC0; carry = false; overflow = true })
    ≡ record { value = 0x80; carry = true; overflow = false }
unfolding on_shifts
shl_C0 = refl

shl_40_carry : after_single Shl Byte (record { value = 0x40; carry = true; overflow = false })
    ≡ record { value = 0x80; carry = false; overflow = true }
unfolding on_shifts
shl_40_carry = refl

shl_8001_carry : after_single Shl Word (record { value = 0x8001; carry = true; overflow = false })
    ≡ record { value = 0x0002; carry = true; overflow = true }
unfolding on_shifts
shl_8001_carry = refl

-- "SHR": 0 enters at the top; OF is the old top bit
shr_81 : after_single Shr Byte (record { value = 0x81; carry = false; overflow = false })
    ≡ record { value = 0x40; carry = true; overflow = true }
unfolding on_shifts
shr_81 = refl

shr_01 : after_single Shr Byte (record { value = 0x01; carry = false; overflow = true })
    ≡ record { value = 0x00; carry = true; overflow = false }
unfolding on_shifts
shr_01 = refl

shr_80_carry : after_single Shr Byte (record { value = 0x80; carry = true; overflow = false })
    ≡ record { value = 0x40; carry = false; overflow = true }
unfolding on_shifts
shr_80_carry = refl

shr_8000 : after_single Shr Word (record { value = 0x8000; carry = false; overflow = false })
    ≡ record { value = 0x4000; carry = false; overflow = true }
unfolding on_shifts
shr_8000 = refl

-- "SAR": the top bit stays; OF is 0
sar_81 : after_single Sar Byte (record { value = 0x81; carry = false; overflow = true })
    ≡ record { value = 0xC0; carry = true; overflow = false }
unfolding on_shifts
sar_81 = refl

sar_7F : after_single Sar Byte (record { value = 0x7F; carry = false; overflow = true })
    ≡ record { value = 0x3F; carry = true; overflow = false }
unfolding on_shifts
sar_7F = refl

sar_FE_carry : after_single Sar Byte (record { value = 0xFE; carry = true; overflow = true })
    ≡ record { value = 0xFF; carry = false; overflow = false }
unfolding on_shifts
sar_FE_carry = refl

sar_8001 : after_single Sar Word (record { value = 0x8001; carry = false; overflow = true })
    ≡ record { value = 0xC000; carry = true; overflow = false }
unfolding on_shifts
sar_8001 = refl

-- a count of 0 sets no flag
no_count : (f : FlagState) (s : Shifted) → with_shifted f Shl Byte 0 s ≡ f
unfolding on_shifts
no_count f s = refl

-- ROR by 4 turns a byte's halves round, and CF is the last bit that left
ror_by_4 : (after_shifts Ror Byte (record { value = 0x1E; carry = false; overflow = false }) 4).value ≡ 0xE1
unfolding on_shifts
ror_by_4 = refl

ror_by_4_carry : (after_shifts Ror Byte (record { value = 0x1E; carry = false; overflow = false }) 4).carry ≡ true
unfolding on_shifts
ror_by_4_carry = refl

-- shifts show their result in ZF, SF and PF, and rotates leave these
shl_tells : (f : FlagState) → (with_shifted (record f { zero = false }) Shl Byte 1 (record { value = 0; carry = true; overflow = true })).zero ≡ true
unfolding on_shifts
shl_tells f = refl

rcl_leaves : (f : FlagState) → (with_shifted (record f { zero = false }) Rcl Byte 1 (record { value = 0; carry = true; overflow = true })).zero ≡ false
unfolding on_shifts
rcl_leaves f = refl
