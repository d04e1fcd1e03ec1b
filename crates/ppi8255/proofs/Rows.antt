-- The definitions on worked values.
use Rattle.std.proofs.Common.{◌≡◌, ℕ, Some, [], ◌∷◌, refl}
use Rattle.board_types.specs.declared.line.Line.TheVariants.{High}
use Rattle.ppi8255.specs.declared.ppi.Inputs.{Inputs}
use Rattle.ppi8255.specs.Ppi.{PpiState, power_on, lines_b, byte_at, after_write}
use Rattle.ppi8255.specs.PpiLaws.{after_writes}

abbrev key_and_tone : Inputs
key_and_tone = record { latch = Some 0x1E; out2 = High }

-- A and C inputs, B an output with the given lines
started : ℕ → PpiState
started lines = after_writes (power_on 0x6D 0x1A) ((3, 0x99) ∷ (1, lines) ∷ [])

reads_the_key : byte_at (started 0x48) 0 key_and_tone ≡ 0x1E
unfolding started after_writes after_write byte_at
reads_the_key = refl

reads_sw1 : byte_at (started 0xC8) 0 key_and_tone ≡ 0x6D
unfolding started after_writes after_write byte_at
reads_sw1 = refl

reads_four_switches : byte_at (started 0x04) 2 key_and_tone ≡ 0x2A
unfolding started after_writes after_write byte_at
reads_four_switches = refl

reads_the_fifth_switch : byte_at (started 0x00) 2 key_and_tone ≡ 0x21
unfolding started after_writes after_write byte_at
reads_the_fifth_switch = refl

drives_its_lines : lines_b (started 0x4B) ≡ 0x4B
unfolding started after_writes after_write
drives_its_lines = refl

-- port C's halves, the upper an output and the lower an input
reads_both_halves : byte_at (after_writes (power_on 0x6D 0x1A) ((3, 0x91) ∷ (2, 0x5A) ∷ (3, 0x0F) ∷ [])) 2 key_and_tone ≡ 0xD1
unfolding after_writes after_write byte_at
reads_both_halves = refl
