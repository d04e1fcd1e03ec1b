-- Mode 3 of the 8254 beside that of the 8253: other counts, and the same wave.
use Rattle.std.proofs.Common.{◌≡◌, ◌≢◌, ℕ, zero, suc, ◌+◌, ◌-◌, ◌*◌, ◌/◌, ◌%◌, ◌<◌, Bool, true, false, not}
use Rattle.std.proofs.Common.{if◌then◌else◌, ◌&&◌, refl, sym, ap, ◌∙◌, subst, arith, inl, inr, nat_lt}
use Rattle.std.specs.Prelude.{◌==◌}
use Rattle.board_types.proofs.Iterate.{iterate_zero, iterate_fixed}
use Rattle.board_types.specs.LineLevel.{is_high}
use Rattle.board_types.specs.declared.choice.TimerKind.{TimerKind}
use Rattle.board_types.specs.declared.choice.TimerKind.TheVariants.{I8253, I8254}
use Rattle.board_types.specs.declared.line.Line.{Line}
use Rattle.board_types.specs.declared.line.Line.TheVariants.{Low, High}
use Rattle.pit8253.specs.declared.program.Mode.{Mode}
use Rattle.pit8253.specs.declared.program.Mode.TheVariants.{TerminalCount, OneShot, RateGenerator, SquareWave, SoftwareStrobe, HardwareStrobe}
use Rattle.pit8253.specs.Program.{modulus}
use Rattle.pit8253.specs.Counter.{CounterState, is_8254, loads_less, after_square_load, after_due_load}
use Rattle.pit8253.specs.Counter.{after_count, after_square_count, after_tick, after_ticks}
use Rattle.pit8253.specs.PitLaws.{size, ticks_left, length_of, falls_left, half_left}
use Rattle.pit8253.specs.Laws8254.{CountsEven, MakesTheSameWave}
use Rattle.pit8253.specs.Ahead.{is_counting, after_counting, after_rests, after_rate}
use Rattle.pit8253.proofs.Counts.{differs, same, length_some}
use Rattle.pit8253.proofs.Falls.{if_no}
use Rattle.pit8253.proofs.Ticking.{tick_counts}
use Rattle.pit8253.proofs.Waves.{square_form, SquareLoad, square_loads, square_load_of_one, counts_half, mode_3, a_count_of_1}
use Rattle.pit8253.proofs.Ahead.{Sound, DueLoad, due_loaded, one_or_other, by_mode, a_tick_first}

-- other counts

pub counts_even : CountsEven
counts_even c kind mode gate within odd other out k before = by_out out before
  where
    less : loads_less c ≡ true
    less =
        ap (λ t. is_8254 t && (c.newest % 2 == 1) && not (c.newest == 1)) kind
        ∙ ap (λ b. b && not (c.newest == 1)) (same (c.newest % 2) 1 odd) ∙ ap (λ b. not b) (differs c.newest 1 other)

    length : size c ≡ c.newest
    length = length_some c.radix c.newest (omega (arith, odd))

    length_less : length_of c.radix (c.newest - 1) ≡ c.newest - 1
    length_less = length_some c.radix (c.newest - 1) (omega (arith, odd, other))

    -- the count k ticks into the half, from what is loaded
    start : (n f k : ℕ) → n % 2 ≡ 1 → 2 * f ≡ n - 1 → (if k == 0 then n - 1 else 2 * (f - k)) ≡ n - 1 - 2 * k
    start n f zero odd falls = omega arith
    start n f (suc k) odd falls = if_no (suc k == 0) (n - 1) (2 * (f - suc k)) (differs (suc k) 0 (omega arith)) ∙ omega (arith, falls)

    by_out : (out : Line) → k < (if is_high out then (c.newest + 1) / 2 else c.newest / 2)
        → (after_ticks (after_square_load c out) k).count ≡ c.newest - 1 - 2 * k
    by_out High before =
        let load : SquareLoad c High = square_loads c High within other in
        let is : after_square_load c High ≡ square_form c true High = ap (λ b. square_form c b High) less in
        let half : half_left (after_square_load c High) ≡ (c.newest + 1) / 2 = load.half ∙ ap (λ n. (n + 1) / 2) length in
        let falls = counts_half (after_square_load c High) load.runs mode gate load.other in
        ap (λ s. s.count) (falls.0 k (subst (λ n. k < n) (sym half) before))
        ∙ ap (λ s. if k == 0 then s.count else 2 * (falls_left s - k)) is
        ∙ start c.newest ((c.newest - 1 + 1) / 2) k odd (omega (arith, odd))
    by_out Low before =
        let load : SquareLoad c Low = square_loads c Low within other in
        let is : after_square_load c Low ≡ square_form c true Low = ap (λ b. square_form c b Low) less in
        let half : half_left (after_square_load c Low) ≡ c.newest / 2 = load.half ∙ ap (λ n. n / 2) length in
        let falls = counts_half (after_square_load c Low) load.runs mode gate load.other in
        ap (λ s. s.count) (falls.0 k (subst (λ n. k < n) (sym half) before))
        ∙ ap (λ s. if k == 0 then s.count else 2 * (falls_left s - k)) is
        ∙ start c.newest (length_of c.radix (c.newest - 1) / 2) k odd (omega (arith, odd, length_less))

-- both kinds make the same wave

abbrev of_kind : TimerKind → CounterState → CounterState
of_kind kind c = record c { kind = kind }

alike : (b : Bool) (x y u v : CounterState) → x.out ≡ u.out → y.out ≡ v.out → (if b then x else y).out ≡ (if b then u else v).out
alike true x y u v first second = first
alike false x y u v first second = second

-- a run of another mode than 3 doesn't ask for the kind
run_alike : (k j : TimerKind) (mode : Mode) (d : CounterState) (n : ℕ) → mode ≢ SquareWave
    → (if is_counting (of_kind k d) mode then after_counting (of_kind k d) mode n else after_rests (of_kind k d) mode n).out
    ≡ (if is_counting (of_kind j d) mode then after_counting (of_kind j d) mode n else after_rests (of_kind j d) mode n).out
unfolding after_rate
run_alike k j TerminalCount d n other = alike (is_counting d TerminalCount) _ _ _ _ refl refl
run_alike k j OneShot d n other = alike (is_counting d OneShot) _ _ _ _ refl refl
run_alike k j RateGenerator d n other = alike (is_counting d RateGenerator) _ _ _ _ (alike (nat_lt n (ticks_left d)) _ _ _ _ refl refl) refl
run_alike k j SquareWave d n other = absurd (other refl)
run_alike k j SoftwareStrobe d n other = alike (is_counting d SoftwareStrobe) _ _ _ _ refl (alike (n == 0) _ _ _ _ refl refl)
run_alike k j HardwareStrobe d n other = alike (is_counting d HardwareStrobe) _ _ _ _ refl (alike (n == 0) _ _ _ _ refl refl)

-- mode 3 from a load on: the level by the newest count and the gate alone
square_level : CounterState → Line → ℕ → Line
square_level c Low n = High
square_level c High n = if c.newest == 1 then High else (if nat_lt (n % size c) ((size c + 1) / 2) then High else Low)

square_wave : (c : CounterState) → c.mode ≡ SquareWave → c.newest < modulus c.radix → (gate : Line) → c.gate ≡ gate → (n : ℕ)
    → (after_ticks (after_square_load c High) n).out ≡ square_level c gate n
unfolding square_level
square_wave c mode within Low gate n =
    let d : CounterState = after_square_load c High in
    ap (λ s. s.out) (iterate_fixed after_tick n d
    (tick_counts d d refl refl ∙ ap (λ m. after_count d m) mode ∙ ap (λ g. if is_high g then after_square_count d else d) gate))
square_wave c mode within High gate n = elim (one_or_other c.newest) [
  | inl one ↦
      ap (λ s. (after_ticks s n).out) (square_load_of_one c High one) ∙ ap (λ s. s.out) (a_count_of_1 c (inr mode) one n)
      ∙ sym (ap (λ b. if b then High else (if nat_lt (n % size c) ((size c + 1) / 2) then High else Low)) (same c.newest 1 one))
  | inr other ↦
      mode_3 c mode gate within other n
      ∙ sym (ap (λ b. if b then High else (if nat_lt (n % size c) ((size c + 1) / 2) then High else Low)) (differs c.newest 1 other))
]

-- any mode, from the load on

due_mode : (c : CounterState) (mode : Mode) → (after_due_load c mode).mode ≡ c.mode
due_mode c TerminalCount = refl
due_mode c OneShot = refl
due_mode c RateGenerator = refl
due_mode c SquareWave = refl
due_mode c SoftwareStrobe = refl
due_mode c HardwareStrobe = refl

of_other : (c : CounterState) → Sound c → (mode : Mode) → c.mode ≡ mode → (n : ℕ) → mode ≢ SquareWave
    → ((k : TimerKind) → after_due_load (of_kind k c) mode ≡ of_kind k (after_due_load c mode)) → (k j : TimerKind)
    → (after_ticks (after_due_load (of_kind k c) mode) n).out ≡ (after_ticks (after_due_load (of_kind j c) mode) n).out
of_other c sound mode is n other kinds k j =
    let d : CounterState = after_due_load c mode in
    let load : DueLoad c d = due_loaded c sound mode in
    let run : (i : TimerKind) → after_ticks (after_due_load (of_kind i c) mode) n
    ≡ (if is_counting (of_kind i d) mode then after_counting (of_kind i d) mode n else after_rests (of_kind i d) mode n) =
    λ i. ap (λ s. after_ticks s n) (kinds i)
    ∙ by_mode (of_kind i d) (record { newest = load.sound.newest; count = load.sound.count }) load.none n mode (due_mode c mode ∙ is) in
    ap (λ s. s.out) (run k) ∙ run_alike k j mode d n other ∙ sym (ap (λ s. s.out) (run j))

loaded_alike : (c : CounterState) → Sound c → (mode : Mode) → c.mode ≡ mode → (n : ℕ) (k j : TimerKind)
    → (after_ticks (after_due_load (of_kind k c) mode) n).out ≡ (after_ticks (after_due_load (of_kind j c) mode) n).out
unfolding square_level
loaded_alike c sound SquareWave is n k j =
    level_alike c c.gate n k j (square_wave (of_kind k c) is sound.newest c.gate refl n) (square_wave (of_kind j c) is sound.newest c.gate refl n)
  where
    level_alike : (c : CounterState) (gate : Line) (n : ℕ) (k j : TimerKind) {x y : Line}
        → x ≡ square_level (of_kind k c) gate n → y ≡ square_level (of_kind j c) gate n → x ≡ y
    level_alike c High n k j first second = first ∙ sym second
    level_alike c Low n k j first second = first ∙ sym second
loaded_alike c sound TerminalCount is n k j = of_other c sound TerminalCount is n (λ e. cc) (λ i. refl) k j
loaded_alike c sound OneShot is n k j = of_other c sound OneShot is n (λ e. cc) (λ i. refl) k j
loaded_alike c sound RateGenerator is n k j = of_other c sound RateGenerator is n (λ e. cc) (λ i. refl) k j
loaded_alike c sound SoftwareStrobe is n k j = of_other c sound SoftwareStrobe is n (λ e. cc) (λ i. refl) k j
loaded_alike c sound HardwareStrobe is n k j = of_other c sound HardwareStrobe is n (λ e. cc) (λ i. refl) k j

pub makes_the_same_wave : MakesTheSameWave
makes_the_same_wave c due newest count zero =
    ap (λ s. s.out) (iterate_zero after_tick (of_kind I8254 c)) ∙ sym (ap (λ s. s.out) (iterate_zero after_tick (of_kind I8253 c)))
makes_the_same_wave c due newest count (suc n) =
    let more : suc n ≡ 1 + n = omega arith in
    let sound : Sound c = record { newest = newest; count = count } in
    ap (λ i. (after_ticks (of_kind I8254 c) i).out) more ∙ ap (λ s. s.out) (a_tick_first (of_kind I8254 c) n due)
    ∙ loaded_alike c sound c.mode refl n I8254 I8253
    ∙ sym (ap (λ i. (after_ticks (of_kind I8253 c) i).out) more ∙ ap (λ s. s.out) (a_tick_first (of_kind I8253 c) n due))
