-- The waves of the six modes as a program sets them up.
use Rattle.std.proofs.Common.{◌≡◌, ◌≢◌, ℕ, ◌+◌, ◌*◌, ◌<◌, refl, ap, ◌∙◌, arith}
use Rattle.board_types.proofs.Iterate.{iterate_add, iterate_zero, iterate_more}
use Rattle.board_types.specs.declared.line.Line.{Line}
use Rattle.board_types.specs.declared.line.Line.TheVariants.{Low, High}
use Rattle.pit8253.specs.declared.program.Radix.TheVariants.{Binary}
use Rattle.pit8253.specs.Counter.{CounterState, after_load, after_square_load, after_tick, after_ticks, after_control_word, after_write, after_gate}
use Rattle.pit8253.specs.PitLaws.{after_setup, after_trigger, ticks_of, CountsOutAsTold, ShootsAsTriggered}
use Rattle.pit8253.specs.PitLaws.{DividesAsTold, MakesSquaresAsTold, StrobesAsTold, StrobesAsTriggered}
use Rattle.pit8253.proofs.Counts.{length_some}
use Rattle.pit8253.proofs.Waves.{mode_0, mode_1, mode_2, mode_3, mode_4, mode_5}

one_tick : (c : CounterState) → after_ticks c 1 ≡ after_tick c
one_tick c = iterate_more after_tick 0 c ∙ ap after_tick (iterate_zero after_tick c)

-- a tick that loads, and then n ticks
load_first : (d s : CounterState) (n : ℕ) → after_tick s ≡ d → after_ticks s (1 + n) ≡ after_ticks d n
load_first d s n loads = iterate_add after_tick 1 n s ∙ ap (λ t. after_ticks t n) (one_tick s ∙ loads)

-- a count whose length isn't 1 is not 1 itself
not_one : (low high : ℕ) → ticks_of low high ≢ 1 → low + 256 * high ≢ 1
not_one low high other one = other (length_some Binary (low + 256 * high) (omega arith) ∙ one)

fits : (low high : ℕ) → low < 256 → high < 256 → low + 256 * high < 65536
fits low high low_byte high_byte = omega arith

pub counts_out_as_told : CountsOutAsTold
unfolding after_tick after_control_word after_write
counts_out_as_told c gate low high low_byte high_byte n =
    ap (λ s. s.out) (load_first (after_load (after_setup c 0x30 low high) Low) (after_setup c 0x30 low high) n refl)
    ∙ mode_0 (after_setup c 0x30 low high) refl gate refl (fits low high low_byte high_byte) n

pub divides_as_told : DividesAsTold
unfolding after_tick after_control_word after_write
divides_as_told c gate low high low_byte high_byte other n =
    ap (λ s. s.out) (load_first (after_load (after_setup c 0x34 low high) High) (after_setup c 0x34 low high) n refl)
    ∙ mode_2 (after_setup c 0x34 low high) refl gate (fits low high low_byte high_byte) (not_one low high other) n

pub makes_squares_as_told : MakesSquaresAsTold
unfolding after_tick after_control_word after_write
makes_squares_as_told c gate low high low_byte high_byte other n =
    ap (λ s. s.out) (load_first (after_square_load (after_setup c 0x36 low high) High) (after_setup c 0x36 low high) n refl)
    ∙ mode_3 (after_setup c 0x36 low high) refl gate (fits low high low_byte high_byte) (not_one low high other) n

pub strobes_as_told : StrobesAsTold
unfolding after_tick after_control_word after_write
strobes_as_told c gate low high low_byte high_byte n =
    ap (λ s. s.out) (load_first (after_load (after_setup c 0x38 low high) High) (after_setup c 0x38 low high) n refl)
    ∙ mode_4 (after_setup c 0x38 low high) refl gate (fits low high low_byte high_byte) n

-- a trigger loads, whatever the gate was

one_shot_loads : (gate : Line) (low high : ℕ) (c : CounterState)
    → after_tick (after_trigger (record c { gate = gate }) 0x32 low high) ≡ after_load (after_trigger (record c { gate = gate }) 0x32 low high) Low
unfolding after_tick after_control_word after_write after_gate
one_shot_loads Low low high c = refl
one_shot_loads High low high c = refl

strobe_loads : (gate : Line) (low high : ℕ) (c : CounterState)
    → after_tick (after_trigger (record c { gate = gate }) 0x3A low high) ≡ after_load (after_trigger (record c { gate = gate }) 0x3A low high) High
unfolding after_tick after_control_word after_write after_gate
strobe_loads Low low high c = refl
strobe_loads High low high c = refl

pub shoots_as_triggered : ShootsAsTriggered
unfolding after_control_word after_write after_gate
shoots_as_triggered c low high low_byte high_byte n =
    ap (λ s. s.out) (load_first (after_load (after_trigger c 0x32 low high) Low) (after_trigger c 0x32 low high) n (one_shot_loads c.gate low high c))
    ∙ mode_1 (after_trigger c 0x32 low high) refl (fits low high low_byte high_byte) n

pub strobes_as_triggered : StrobesAsTriggered
unfolding after_control_word after_write after_gate
strobes_as_triggered c low high low_byte high_byte n =
    ap (λ s. s.out) (load_first (after_load (after_trigger c 0x3A low high) High) (after_trigger c 0x3A low high) n (strobe_loads c.gate low high c))
    ∙ mode_5 (after_trigger c 0x3A low high) refl (fits low high low_byte high_byte) n
