-- The next tick of a counter loads its newest count if it would clear a null count, mode by mode.
use Rattle.std.proofs.Common.{◌≡◌, ℕ, ◌==◌, Bool, true, false, if◌then◌else◌, ◌&&◌, refl, ap, ◌∙◌}
use Rattle.std.specs.Prelude.{not, is_none}
use Rattle.board_types.specs.Iterate.{iterate}
use Rattle.board_types.specs.LineLevel.{is_high, opposite}
use Rattle.board_types.specs.declared.line.Line.{Line}
use Rattle.board_types.specs.declared.line.Line.TheVariants.{Low, High}
use Rattle.pit8253.specs.declared.program.Mode.{Mode}
use Rattle.pit8253.specs.declared.program.Mode.TheVariants.{TerminalCount, OneShot, RateGenerator, SquareWave, SoftwareStrobe, HardwareStrobe}
use Rattle.pit8253.specs.Counter.{CounterState, after_count, after_decrement, after_due_load, after_load, after_rate_count, after_rest}
use Rattle.pit8253.specs.Counter.{after_square_count, after_square_load, after_strobe_count, after_tick, after_ticks, half_step, is_loaded}
use Rattle.pit8253.specs.declared.image.CounterImage.{CounterImage}
use Rattle.pit8253.specs.PitNumbers.{counter_of, flag_of}
use Rattle.pit8253.specs.Program.{count_minus}
use Rattle.probe_texts.specs.ChipLaws.{LoadsAsTold, counted_to, loaded_in}
use Rattle.probe_texts.specs.CounterText.{loads_next}

-- a counter with a null count
abbrev null_of : CounterState → CounterState
null_of c = record c { is_null = true }

-- what a counter becomes in this mode, beside what it would become with a null count
record Told (mode : Mode) (c t n : CounterState) : Type 0 where
  is : t ≡ (if not n.is_null then loaded_in mode c t.out else counted_to c t)

choose : (b : Bool) (mode : Mode) (c t n u m : CounterState)
    → Told mode c t n → Told mode c u m → Told mode c (if b then t else u) (if b then n else m)
choose true mode c t n u m first second = first
choose false mode c t n u m first second = second

due : (mode : Mode) (c : CounterState) → Told mode c (after_due_load c mode) (after_due_load (null_of c) mode)
due TerminalCount c = record { is = refl }
due OneShot c = record { is = refl }
due RateGenerator c = record { is = refl }
due SquareWave c = record { is = refl }
due SoftwareStrobe c = record { is = refl }
due HardwareStrobe c = record { is = refl }

-- mode 2 loads at 1
rate : (c : CounterState) → Told RateGenerator c (after_rate_count c) (after_rate_count (null_of c))
rate c =
    let count : ℕ = count_minus c.count_radix c.count 1 in
    let falls : CounterState = record c { count = count; out = (if count == 1 then Low else c.out) } in
    let n : CounterState = null_of c in
    choose (c.count == 1) RateGenerator c (after_load c High) (after_load n High) falls
    (record falls { is_null = true }) (record { is = refl }) (record { is = refl })

-- mode 3 loads at 1, at a fall to 0, and a tick after a 0 that is kept
square : (c : CounterState) → Told SquareWave c (after_square_count c) (after_square_count (null_of c))
square c =
    let count : ℕ = count_minus c.count_radix c.count (half_step c.count c.out) in
    let ends : Bool = (if c.keeps_zero then c.count else count) == 0 in
    let turned : Line = (if c.newest == 1 then High else opposite c.out) in
    let falls : CounterState = record c { count = count } in
    let n : CounterState = null_of c in
    choose (c.count == 1) SquareWave c (after_square_load c High) (after_square_load n High)
    (if ends then after_square_load c turned else falls) (if ends then after_square_load n turned else record falls { is_null = true })
    (record { is = refl })
    (choose ends SquareWave c (after_square_load c turned) (after_square_load n turned) falls
    (record falls { is_null = true }) (record { is = refl }) (record { is = refl }))

count : (mode : Mode) (c : CounterState) → Told mode c (after_count c mode) (after_count (null_of c) mode)
count TerminalCount c =
    let n : CounterState = null_of c in
    choose (is_loaded c.progress && is_high c.gate && is_none c.first_byte) TerminalCount c
    (after_decrement c) (after_decrement n) c n (record { is = refl }) (record { is = refl })
count OneShot c =
    let n : CounterState = null_of c in
    choose (is_loaded c.progress) OneShot c (after_decrement c) (after_decrement n) c n (record { is = refl }) (record { is = refl })
count RateGenerator c =
    let n : CounterState = null_of c in
    choose (is_loaded c.progress && is_high c.gate) RateGenerator c (after_rate_count c) (after_rate_count n) c n (rate c) (record { is = refl })
count SquareWave c =
    let n : CounterState = null_of c in
    choose (is_loaded c.progress && is_high c.gate) SquareWave c (after_square_count c) (after_square_count n) c n (square c) (record { is = refl })
count SoftwareStrobe c =
    let n : CounterState = null_of c in
    choose (is_loaded c.progress && is_high c.gate) SoftwareStrobe c (after_strobe_count c)
    (after_strobe_count n) (after_rest c) (after_rest n) (record { is = refl }) (record { is = refl })
count HardwareStrobe c =
    let n : CounterState = null_of c in
    choose (is_loaded c.progress) HardwareStrobe c (after_strobe_count c) (after_strobe_count n)
    (after_rest c) (after_rest n) (record { is = refl }) (record { is = refl })

tick : (c : CounterState) → Told c.mode c (after_tick c) (after_tick (null_of c))
unfolding after_tick
tick c =
    let n : CounterState = null_of c in
    choose c.load_due c.mode c (after_due_load c c.mode) (after_due_load n c.mode) (after_count c c.mode) (after_count n c.mode) (due c.mode c) (count c.mode c)

pub loads_as_told : LoadsAsTold
loads_as_told c = (tick c).is

-- of an image: a tick of it with a null count clears that
pub loads_of : (i : CounterImage) (n : ℕ) (t : CounterState)
    → flag_of n ≡ t.is_null → t ≡ after_ticks (null_of (counter_of i)) 1 → (n == 0) ≡ loads_next (counter_of i)
unfolding iterate
loads_of i n t flag is = of_test (n == 0) ∙ ap not (flag ∙ ap (λ (s : CounterState). s.is_null) is)
  where
    of_test : (b : Bool) → b ≡ not (if b then false else true)
    of_test true = refl
    of_test false = refl
