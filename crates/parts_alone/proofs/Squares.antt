-- The square wave of counter 2, from the law of the timer, and the ticks at which a level changes.
use denote.Enum.Bare.{sameb}
use Rattle.std.specs.Bool.{beq}
use Rattle.std.proofs.Common.{◌≡◌, ℕ, Bool, not, [], ◌∷◌, ◌++◌, zero, suc, ◌+◌, ◌*◌, ◌/◌, ◌%◌, ◌<◌, nat_lt, if◌then◌else◌, refl, ap, ◌∙◌, sym, arith}
use Rattle.board_types.specs.Iterate.{iterate}
use Rattle.board_types.specs.LineLevel.{is_high}
use Rattle.board_types.specs.contracts.line.Line.{the_type}
use Rattle.board_types.specs.declared.choice.TimerKind.TheVariants.{I8253}
use Rattle.board_types.specs.declared.line.Line.{Line}
use Rattle.board_types.specs.declared.line.Line.TheVariants.{Low, High}
use Rattle.pit8253.specs.declared.program.Radix.TheVariants.{Binary}
use Rattle.pit8253.specs.Counter as one
use Rattle.pit8253.specs.Counter.{CounterState}
use Rattle.pit8253.specs.Pit.{PitState, power_on, after_gate, after_write, after_ticks}
use Rattle.pit8253.specs.PitLaws.{after_setup, ticks_of}
use Rattle.pit8253.proofs.Counts.{length_some}
use Rattle.pit8253.proofs.PitTicks.{each_counter}
use Rattle.pit8253.proofs.Told.{makes_squares_as_told}
use Rattle.parts_alone.specs.Timer.{changes, level_after, square}

-- counter 2 with its gate high
abbrev gated : CounterState
gated = one.after_gate (one.power_on I8253 Low) High

-- the timer after the words of its programming
abbrev pub programmed : ℕ → ℕ → PitState
programmed low high = after_write (after_write (after_write (after_gate (power_on I8253) 2 High) 3 0xB6) 2 low) 2 high

is_set_up : (low high : ℕ) → (programmed low high).counter_2 ≡ after_setup gated 0x36 low high
unfolding power_on after_gate after_write one.after_gate one.after_write one.after_control_word
is_set_up low high = refl

starts_high : (low high : ℕ) → level_after (programmed low high) 0 ≡ High
unfolding power_on after_gate after_write one.after_gate one.after_write one.after_control_word iterate
starts_high low high = refl

gate_is_high : gated.gate ≡ High
unfolding one.after_gate
gate_is_high = refl

-- the bytes of a count stand for it
bytes_of : (count : ℕ) → 1 < count → ticks_of (count % 256) (count / 256) ≡ count
bytes_of count more =
    let whole : count % 256 + 256 * (count / 256) ≡ count = omega arith in
    length_some Binary (count % 256 + 256 * (count / 256)) (omega arith) ∙ whole

ticked : (n : ℕ) (p : PitState) → (after_ticks p n).counter_2 ≡ one.after_ticks p.counter_2 n
ticked n p = ap (λ (q : PitState). q.counter_2) (each_counter n p)

pub makes_square : (count : ℕ) → 1 < count → count < 65536 → (n : ℕ) → level_after (programmed (count % 256) (count / 256)) n ≡ square count n
makes_square count more fits zero = starts_high (count % 256) (count / 256)
makes_square count more fits (suc n) =
    let low : ℕ = count % 256 in
    let high : ℕ = count / 256 in
    let next : suc n ≡ 1 + n = omega arith in
    let told = makes_squares_as_told gated gate_is_high low high (omega arith) (omega arith) (λ is. absurd (omega (arith, is, bytes_of count more, more))) n in
    ap (λ (c : CounterState). c.out) (ticked (suc n) (programmed low high))
    ∙ ap (λ (c : CounterState). (one.after_ticks c (suc n)).out) (is_set_up low high)
    ∙ ap (λ k. (one.after_ticks (after_setup gated 0x36 low high) k).out) next
    ∙ told
    ∙ ap (λ size. if nat_lt (n % size) ((size + 1) / 2) then High else Low) (bytes_of count more)

-- one more tick, by a test whether the levels before and after it differ
change : (before after : Line) (tick : ℕ)
    → (if beq (is_high before) (is_high after) then [] else tick ∷ []) ≡ (if not (sameb the_type after before) then tick ∷ [] else [])
change Low Low tick = refl
change Low High tick = refl
change High Low tick = refl
change High High tick = refl

pub changes_more : (level : ℕ → Line) (n : ℕ) (before after : Line) (differ : Bool) → before ≡ level n → after ≡ level (n + 1)
    → differ ≡ not (sameb the_type after before) → changes level (n + 1) ≡ changes level n ++ (if differ then (n + 1) ∷ [] else [])
changes_more level n before after differ was is tested =
    let next : n + 1 ≡ suc n = omega arith in
    ap (changes level) next
    ∙ ap (λ tick. changes level n ++ (if beq (is_high (level n)) (is_high (level tick)) then [] else tick ∷ [])) (sym next)
    ∙ ap (λ l. changes level n ++ (if beq (is_high l) (is_high (level (n + 1))) then [] else (n + 1) ∷ [])) (sym was)
    ∙ ap (λ l. changes level n ++ (if beq (is_high before) (is_high l) then [] else (n + 1) ∷ [])) (sym is)
    ∙ ap (λ ticks. changes level n ++ ticks) (change before after (n + 1))
    ∙ ap (λ d. changes level n ++ (if d then (n + 1) ∷ [] else [])) (sym tested)
