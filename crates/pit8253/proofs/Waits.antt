-- Ticks that count nothing.
use Rattle.std.proofs.Common.{◌≡◌, ℕ, Bool, true, false, if◌then◌else◌, not, ◌&&◌, inl, inr, ◌≢◌, refl, sym, ap, ◌∙◌, subst}
use Rattle.std.specs.Prelude.{◌==◌, ◌||◌, is_none}
use Rattle.board_types.proofs.Iterate.{iterate_fixed}
use Rattle.board_types.specs.declared.line.Line.{Line}
use Rattle.board_types.specs.declared.line.Line.TheVariants.{Low, High}
use Rattle.pit8253.specs.declared.program.Mode.{Mode}
use Rattle.pit8253.specs.declared.program.Mode.TheVariants.{TerminalCount, OneShot, RateGenerator, SquareWave, SoftwareStrobe, HardwareStrobe}
use Rattle.pit8253.specs.declared.program.Progress.TheVariants.{Loaded}
use Rattle.board_types.specs.LineLevel.{is_high, opposite}
use Rattle.pit8253.specs.Program.{count_minus}
use Rattle.pit8253.specs.Counter.{CounterState, after_load, after_square_load, after_due_load, is_loaded, after_count}
use Rattle.pit8253.specs.Counter.{after_decrement, after_rate_count, half_step, after_square_count, after_strobe_count, after_rest}
use Rattle.pit8253.specs.Counter.{after_tick, reading, after_full_count, is_awaited, rises, is_triggered, out_at_gate, after_gate}
use Rattle.pit8253.specs.PitLaws.{GateStops, GateSetsHigh, RiseReloads, GateStopsStrobe, FirstByteStops, ends_half, NewCountWaits, WaitsForLoad}
use Rattle.pit8253.proofs.Falls.{keeping, if_no}
use Rattle.pit8253.proofs.Counts.{differs}

no_load : (c : CounterState) → c.load_due ≡ false → after_tick c ≡ after_count c c.mode
unfolding after_tick
no_load c none = ap (λ b. if b then after_due_load c c.mode else after_count c c.mode) none

stopped : (b : Bool) → b && false ≡ false
stopped true = refl
stopped false = refl

pub gate_stops : GateStops
gate_stops c none low (inl terminal) n =
    iterate_fixed after_tick n c
    (no_load c none ∙ ap (λ m. after_count c m) terminal
    ∙ ap (λ g. if is_loaded c.progress && is_high g && is_none c.first_byte then after_decrement c else c) low
    ∙ ap (λ b. if b && is_none c.first_byte then after_decrement c else c) (stopped (is_loaded c.progress)))
gate_stops c none low (inr (inl rate)) n =
    iterate_fixed after_tick n c
    (no_load c none ∙ ap (λ m. after_count c m) rate
    ∙ ap (λ g. if is_loaded c.progress && is_high g then after_rate_count c else c) low
    ∙ ap (λ b. if b then after_rate_count c else c) (stopped (is_loaded c.progress)))
gate_stops c none low (inr (inr square)) n =
    iterate_fixed after_tick n c
    (no_load c none ∙ ap (λ m. after_count c m) square
    ∙ ap (λ g. if is_loaded c.progress && is_high g then after_square_count c else c) low
    ∙ ap (λ b. if b then after_square_count c else c) (stopped (is_loaded c.progress)))

pub first_byte_stops : FirstByteStops
first_byte_stops c byte none terminal first n =
    iterate_fixed after_tick n c
    (no_load c none ∙ ap (λ m. after_count c m) terminal
    ∙ ap (λ f. if is_loaded c.progress && is_high c.gate && is_none f then after_decrement c else c) first
    ∙ ap (λ b. if b then after_decrement c else c) (stopped (is_loaded c.progress && is_high c.gate)))

-- what a strobe counter with a low gate keeps
record Stands (c d : CounterState) : Type 0 where
  none : d.load_due ≡ false
  low : d.gate ≡ Low
  mode : d.mode ≡ SoftwareStrobe
  same : d.count ≡ c.count

rests : (d : CounterState) → d.load_due ≡ false → d.gate ≡ Low → d.mode ≡ SoftwareStrobe → after_tick d ≡ after_rest d
rests d none low mode =
    no_load d none ∙ ap (λ m. after_count d m) mode
    ∙ ap (λ g. if is_loaded d.progress && is_high g then after_strobe_count d else after_rest d) low
    ∙ ap (λ b. if b then after_strobe_count d else after_rest d) (stopped (is_loaded d.progress))

still_stands : (c d : CounterState) → Stands c d → Stands c (after_tick d)
still_stands c d stands =
    rw (rests d stands.none stands.low stands.mode) (record { none = stands.none; low = stands.low; mode = stands.mode; same = stands.same })

pub gate_stops_strobe : GateStopsStrobe
gate_stops_strobe c none low mode n =
    let stands : Stands c c = record { none = none; low = low; mode = mode; same = refl } in
    (keeping after_tick (λ d. Stands c d) (still_stands c) n c stands).same

-- a new count in the middle of a period, or of a half

rate_waits : (gate : Line) (c : CounterState) (word : ℕ) → c.count ≢ 1
    → after_tick (after_full_count (record c { gate = gate; load_due = false; progress = Loaded; mode = RateGenerator }) word)
    ≡ after_full_count (after_tick (record c { gate = gate; load_due = false; progress = Loaded; mode = RateGenerator })) word
unfolding after_tick
rate_waits Low c word other = refl
rate_waits High c word other =
    let d : CounterState = record c { gate = High; load_due = false; progress = Loaded; mode = RateGenerator } in
    let count : ℕ = count_minus c.count_radix c.count 1 in
    let out : Line = (if count == 1 then Low else c.out) in
    if_no (c.count == 1) (after_load (after_full_count d word) High) (record (after_full_count d word) { count = count; out = out }) (differs c.count 1 other)
    ∙ sym (ap (λ s. after_full_count s word) (if_no (c.count == 1) (after_load d High) (record d { count = count; out = out }) (differs c.count 1 other)))

neither : (a b : Bool) → (a || b) ≡ false → (a ≡ false) × (b ≡ false)
neither true b none = cc
neither false b none = (refl, none)

square_waits : (gate : Line) (c : CounterState) (word : ℕ) → ends_half c ≡ false
    → after_tick (after_full_count (record c { gate = gate; load_due = false; progress = Loaded; mode = SquareWave }) word)
    ≡ after_full_count (after_tick (record c { gate = gate; load_due = false; progress = Loaded; mode = SquareWave })) word
unfolding after_tick
square_waits Low c word goes_on = refl
square_waits High c word goes_on =
    let d : CounterState = record c { gate = High; load_due = false; progress = Loaded; mode = SquareWave } in
    let e : CounterState = after_full_count d word in
    let count : ℕ = count_minus c.count_radix c.count (half_step c.count c.out) in
    let ends : Bool = (if c.keeps_zero then c.count else count) == 0 in
    let facts = neither (c.count == 1) ends goes_on in
    if_no (c.count == 1) (after_square_load e High)
    (if ends then after_square_load e (if e.newest == 1 then High else opposite c.out) else record e { count = count }) facts.0
    ∙ if_no ends (after_square_load e (if e.newest == 1 then High else opposite c.out)) (record e { count = count }) facts.1
    ∙ sym (ap (λ s. after_full_count s word)
    (if_no (c.count == 1) (after_square_load d High)
    (if ends then after_square_load d (if d.newest == 1 then High else opposite c.out) else record d { count = count }) facts.0
    ∙ if_no ends (after_square_load d (if d.newest == 1 then High else opposite c.out)) (record d { count = count }) facts.1))

-- the state with its known parts written out
written_out : (c : CounterState) (mode : Mode) → c.load_due ≡ false → c.progress ≡ Loaded → c.mode ≡ mode
    → record c { load_due = false; progress = Loaded; mode = mode } ≡ c
written_out c mode none loaded_once is =
    sym
    (ap (λ b. record c { load_due = b }) none ∙ ap (λ p. record c { load_due = false; progress = p }) loaded_once
    ∙ ap (λ m. record c { load_due = false; progress = Loaded; mode = m }) is)

pub new_count_waits : NewCountWaits
new_count_waits c word none loaded_once (inl rate) =
    subst (λ d. after_tick (after_full_count d word) ≡ after_full_count (after_tick d) word)
    (written_out c RateGenerator none loaded_once rate.0) (rate_waits c.gate c word rate.1)
new_count_waits c word none loaded_once (inr square) =
    subst (λ d. after_tick (after_full_count d word) ≡ after_full_count (after_tick d) word)
    (written_out c SquareWave none loaded_once square.0) (square_waits c.gate c word square.1)

-- what a counter that waits for its first load keeps
record Waits (c d : CounterState) : Type 0 where
  none : d.load_due ≡ false
  unloaded : is_loaded d.progress ≡ false
  same : reading d ≡ reading c

-- a tick of a waiting counter, by its mode
idle : Mode → CounterState → CounterState
idle TerminalCount c = c
idle OneShot c = c
idle RateGenerator c = c
idle SquareWave c = c
idle SoftwareStrobe c = after_rest c
idle HardwareStrobe c = after_rest c

idle_is : (mode : Mode) (c : CounterState) → is_loaded c.progress ≡ false → after_count c mode ≡ idle mode c
unfolding idle
idle_is TerminalCount c unloaded = ap (λ b. if b && is_high c.gate && is_none c.first_byte then after_decrement c else c) unloaded
idle_is OneShot c unloaded = ap (λ b. if b then after_decrement c else c) unloaded
idle_is RateGenerator c unloaded = ap (λ b. if b && is_high c.gate then after_rate_count c else c) unloaded
idle_is SquareWave c unloaded = ap (λ b. if b && is_high c.gate then after_square_count c else c) unloaded
idle_is SoftwareStrobe c unloaded = ap (λ b. if b && is_high c.gate then after_strobe_count c else after_rest c) unloaded
idle_is HardwareStrobe c unloaded = ap (λ b. if b then after_strobe_count c else after_rest c) unloaded

idle_waits : (mode : Mode) (c d : CounterState) → Waits c d → Waits c (idle mode d)
unfolding idle
idle_waits TerminalCount c d waits = waits
idle_waits OneShot c d waits = waits
idle_waits RateGenerator c d waits = waits
idle_waits SquareWave c d waits = waits
idle_waits SoftwareStrobe c d waits = record { none = waits.none; unloaded = waits.unloaded; same = waits.same }
idle_waits HardwareStrobe c d waits = record { none = waits.none; unloaded = waits.unloaded; same = waits.same }

still_waits : (c d : CounterState) → Waits c d → Waits c (after_tick d)
still_waits c d waits =
    rw (no_load d waits.none, idle_is d.mode d waits.unloaded) (idle_waits d.mode c d waits)

pub waits_for_load : WaitsForLoad
waits_for_load c none unloaded n =
    let waits : Waits c c = record { none = none; unloaded = unloaded; same = refl } in
    (keeping after_tick (λ d. Waits c d) (still_waits c) n c waits).same

-- the gate of modes 2 and 3

no_rise : (gate : Line) (due t u : Bool) → (due || (rises gate Low && t && u)) ≡ due
no_rise Low true t u = refl
no_rise Low false t u = refl
no_rise High true t u = refl
no_rise High false t u = refl

pub gate_sets_high : GateSetsHigh
unfolding after_gate
gate_sets_high c (inl rate) =
    ap (λ b. record c { gate = Low; load_due = b; out = out_at_gate c.mode Low c.out })
    (no_rise c.gate c.load_due (is_triggered c.mode) (not (is_awaited c.progress)))
    ∙ ap (λ m. record c { gate = Low; out = out_at_gate m Low c.out }) rate
gate_sets_high c (inr square) =
    ap (λ b. record c { gate = Low; load_due = b; out = out_at_gate c.mode Low c.out })
    (no_rise c.gate c.load_due (is_triggered c.mode) (not (is_awaited c.progress)))
    ∙ ap (λ m. record c { gate = Low; out = out_at_gate m Low c.out }) square

or_true : (b : Bool) → (b || true) ≡ true
or_true true = refl
or_true false = refl

reloads : (c : CounterState) → is_triggered c.mode ≡ true → c.gate ≡ Low → is_awaited c.progress ≡ false
    → after_tick (after_gate c High) ≡ after_due_load (after_gate c High) c.mode
unfolding after_gate after_tick
reloads c triggers low full =
    let d : CounterState = after_gate c High in
    let due : (c.load_due || (rises c.gate High && is_triggered c.mode && not (is_awaited c.progress))) ≡ true =
    ap (λ g. c.load_due || (rises g High && is_triggered c.mode && not (is_awaited c.progress))) low
    ∙ ap (λ t. c.load_due || (t && not (is_awaited c.progress))) triggers
    ∙ ap (λ a. c.load_due || not a) full ∙ or_true c.load_due in
    ap (λ b. if b then after_due_load d d.mode else after_count d d.mode) due

pub rise_reloads : RiseReloads
unfolding after_gate
rise_reloads c low full = (
  λ rate. reloads c (ap is_triggered rate) low full ∙ ap (λ m. after_due_load (after_gate c High) m) rate,
  λ square. reloads c (ap is_triggered square) low full ∙ ap (λ m. after_due_load (after_gate c High) m) square,
)
