-- What one tick makes of a counter that counts, in each mode.
use Rattle.std.proofs.Common.{◌≡◌, ◌≢◌, ℕ, Bool, true, false, if◌then◌else◌, not, ◌&&◌, refl, ap, ◌∙◌, None}
use Rattle.std.specs.Prelude.{◌==◌, is_none}
use Rattle.board_types.specs.LineLevel.{is_high, opposite}
use Rattle.board_types.specs.declared.line.Line.{Line}
use Rattle.board_types.specs.declared.line.Line.TheVariants.{Low, High}
use Rattle.pit8253.specs.declared.program.Mode.TheVariants.{TerminalCount, OneShot, RateGenerator, SquareWave, SoftwareStrobe, HardwareStrobe}
use Rattle.pit8253.specs.Program.{count_minus}
use Rattle.pit8253.specs.Counter.{CounterState, after_load, after_square_load, after_due_load, is_loaded, after_count, after_decrement}
use Rattle.pit8253.specs.Counter.{after_rate_count, half_step, after_square_count, after_strobe_count, after_rest, after_tick}
use Rattle.pit8253.specs.PitLaws.{Runs}
use Rattle.pit8253.proofs.Counts.{differs}
use Rattle.pit8253.proofs.Falls.{if_yes, if_no}

-- a counter at another count, with its strobe due or not, at a level of OUT
abbrev pub with_count : CounterState → ℕ → Bool → Line → CounterState
with_count c count due out = record c { count = count; strobe_due = due; out = out }

-- a tick that loads nothing
pub tick_counts : (c d : CounterState) → c.load_due ≡ false → d.load_due ≡ c.load_due → after_tick d ≡ after_count d d.mode
unfolding after_tick
tick_counts c d none same = ap (λ b. if b then after_due_load d d.mode else after_count d d.mode) (same ∙ none)

-- which rule a tick follows, by the mode

pub tick_terminal_count : (c : CounterState) → Runs c → c.mode ≡ TerminalCount → c.gate ≡ High → c.first_byte ≡ None → (n : ℕ) (due : Bool) (out : Line)
    → after_tick (with_count c n due out) ≡ after_decrement (with_count c n due out)
tick_terminal_count c runs mode gate first n due out =
    let d : CounterState = with_count c n due out in
    tick_counts c d runs.none_due refl ∙ ap (λ m. after_count d m) mode
    ∙ ap (λ p. if is_loaded p && is_high c.gate && is_none c.first_byte then after_decrement d else d) runs.loaded
    ∙ ap (λ g. if is_high g && is_none c.first_byte then after_decrement d else d) gate
    ∙ ap (λ f. if is_none f then after_decrement d else d) first

pub tick_one_shot : (c : CounterState) → Runs c → c.mode ≡ OneShot → (n : ℕ) (due : Bool) (out : Line)
    → after_tick (with_count c n due out) ≡ after_decrement (with_count c n due out)
tick_one_shot c runs mode n due out =
    let d : CounterState = with_count c n due out in
    tick_counts c d runs.none_due refl ∙ ap (λ m. after_count d m) mode
    ∙ ap (λ p. if is_loaded p then after_decrement d else d) runs.loaded

pub tick_rate : (c : CounterState) → Runs c → c.mode ≡ RateGenerator → c.gate ≡ High → (n : ℕ) (due : Bool) (out : Line)
    → after_tick (with_count c n due out) ≡ after_rate_count (with_count c n due out)
tick_rate c runs mode gate n due out =
    let d : CounterState = with_count c n due out in
    tick_counts c d runs.none_due refl ∙ ap (λ m. after_count d m) mode
    ∙ ap (λ p. if is_loaded p && is_high c.gate then after_rate_count d else d) runs.loaded
    ∙ ap (λ g. if is_high g then after_rate_count d else d) gate

pub tick_square : (c : CounterState) → Runs c → c.mode ≡ SquareWave → c.gate ≡ High → (n : ℕ) (due : Bool) (out : Line)
    → after_tick (with_count c n due out) ≡ after_square_count (with_count c n due out)
tick_square c runs mode gate n due out =
    let d : CounterState = with_count c n due out in
    tick_counts c d runs.none_due refl ∙ ap (λ m. after_count d m) mode
    ∙ ap (λ p. if is_loaded p && is_high c.gate then after_square_count d else d) runs.loaded
    ∙ ap (λ g. if is_high g then after_square_count d else d) gate

pub tick_software_strobe : (c : CounterState) → Runs c → c.mode ≡ SoftwareStrobe → c.gate ≡ High → (n : ℕ) (due : Bool) (out : Line)
    → after_tick (with_count c n due out) ≡ after_strobe_count (with_count c n due out)
tick_software_strobe c runs mode gate n due out =
    let d : CounterState = with_count c n due out in
    tick_counts c d runs.none_due refl ∙ ap (λ m. after_count d m) mode
    ∙ ap (λ p. if is_loaded p && is_high c.gate then after_strobe_count d else after_rest d) runs.loaded
    ∙ ap (λ g. if is_high g then after_strobe_count d else after_rest d) gate

pub tick_hardware_strobe : (c : CounterState) → Runs c → c.mode ≡ HardwareStrobe → (n : ℕ) (due : Bool) (out : Line)
    → after_tick (with_count c n due out) ≡ after_strobe_count (with_count c n due out)
tick_hardware_strobe c runs mode n due out =
    let d : CounterState = with_count c n due out in
    tick_counts c d runs.none_due refl ∙ ap (λ m. after_count d m) mode
    ∙ ap (λ p. if is_loaded p then after_strobe_count d else after_rest d) runs.loaded

-- what the rules make of a counter whose count falls to m

pub decrement : (c : CounterState) (n m : ℕ) (due : Bool) (out : Line) → count_minus c.count_radix n 1 ≡ m
    → after_decrement (with_count c n due out) ≡ with_count c m due (if m == 0 then High else out)
decrement c n m due out is = ap (λ k. with_count c k due (if k == 0 then High else out)) is

pub rate_falls : (c : CounterState) (n m : ℕ) (due : Bool) (out : Line) → n ≢ 1 → count_minus c.count_radix n 1 ≡ m
    → after_rate_count (with_count c n due out) ≡ with_count c m due (if m == 1 then Low else out)
rate_falls c n m due out other is =
    if_no (n == 1) (after_load c High)
    (with_count c (count_minus c.count_radix n 1) due (if count_minus c.count_radix n 1 == 1 then Low else out)) (differs n 1 other)
    ∙ ap (λ k. with_count c k due (if k == 1 then Low else out)) is

pub rate_reloads : (c : CounterState) (n : ℕ) (due : Bool) (out : Line) → n ≡ 1 → after_rate_count (with_count c n due out) ≡ after_load c High
rate_reloads c n due out one = ap (λ k. after_rate_count (with_count c k due out)) one

-- mode 3: whether a tick from a count to another loads
abbrev pub ends_at : Bool → ℕ → ℕ → Bool
ends_at keeps n m = (if keeps then n else m) == 0

square_case : CounterState → ℕ → ℕ → Bool → Line → CounterState
square_case c n m due out =
    if n == 1 then after_square_load c High else (
    if ends_at c.keeps_zero n m then after_square_load c (if c.newest == 1 then High else opposite out) else with_count c m due out)

square_is : (c : CounterState) (n m : ℕ) (due : Bool) (out : Line) → n ≢ 1 → count_minus c.count_radix n (half_step n out) ≡ m
    → after_square_count (with_count c n due out)
    ≡ (if ends_at c.keeps_zero n m then after_square_load c (if c.newest == 1 then High else opposite out) else with_count c m due out)
unfolding square_case
square_is c n m due out other is =
    let direct : after_square_count (with_count c n due out) ≡ square_case c n (count_minus c.count_radix n (half_step n out)) due out = refl in
    direct ∙ ap (λ k. square_case c n k due out) is
    ∙ ap (λ b. if b then after_square_load c High
    else (if ends_at c.keeps_zero n m then after_square_load c (if c.newest == 1 then High else opposite out) else with_count c m due out))
    (differs n 1 other)

pub square_falls : (c : CounterState) (n m : ℕ) (due : Bool) (out : Line) → n ≢ 1 → count_minus c.count_radix n (half_step n out) ≡ m
    → ends_at c.keeps_zero n m ≡ false → after_square_count (with_count c n due out) ≡ with_count c m due out
square_falls c n m due out other is goes_on =
    square_is c n m due out other is
    ∙ if_no (ends_at c.keeps_zero n m) (after_square_load c (if c.newest == 1 then High else opposite out)) (with_count c m due out) goes_on

pub square_turns : (c : CounterState) (n m : ℕ) (due : Bool) (out : Line) → n ≢ 1 → count_minus c.count_radix n (half_step n out) ≡ m
    → ends_at c.keeps_zero n m ≡ true → after_square_count (with_count c n due out) ≡ after_square_load c (if c.newest == 1 then High else opposite out)
square_turns c n m due out other is ends =
    square_is c n m due out other is
    ∙ if_yes (ends_at c.keeps_zero n m) (after_square_load c (if c.newest == 1 then High else opposite out)) (with_count c m due out) ends

pub strobe_count : (c : CounterState) (n m : ℕ) (due : Bool) (out : Line) → count_minus c.count_radix n 1 ≡ m
    → after_strobe_count (with_count c n due out) ≡ with_count c m (due && not ((m == 0) && due)) (if (m == 0) && due then Low else High)
strobe_count c n m due out is = ap (λ k. with_count c k (due && not ((k == 0) && due)) (if (k == 0) && due then Low else High)) is
