-- The gates of counters 0 and 1, through every operation of the timer.
use Rattle.std.proofs.Common.{◌≡◌, ℕ, ◌/◌, ◌%◌, Bool, true, false, if◌then◌else◌, Option, None, Some, refl, ap, ◌∙◌}
use Rattle.std.specs.Prelude.{◌==◌, ◌&&◌, is_none, is_some}
use Rattle.board_types.specs.LineLevel.{is_high}
use Rattle.board_types.specs.declared.line.Line.{Line}
use Rattle.pit8253.specs.declared.program.Mode.{Mode}
use Rattle.pit8253.specs.declared.program.Mode.TheVariants.{TerminalCount, OneShot, RateGenerator, SquareWave, SoftwareStrobe, HardwareStrobe}
use Rattle.pit8253.specs.declared.program.Access.{Access}
use Rattle.pit8253.specs.declared.program.Access.TheVariants.{LowByte, HighByte, LowThenHigh}
use Rattle.pit8253.specs.Program.{count_minus}
use Rattle.pit8253.specs.Counter as one
use Rattle.pit8253.specs.Counter.{CounterState, is_8254, is_loaded, after_count, after_rate_count, half_step, after_square_count}
use Rattle.pit8253.specs.Counter.{after_due_load, after_latch, after_status_latch, after_byte_of_two, after_write_by, after_read_by}
use Rattle.pit8253.specs.Pit as pit
use Rattle.pit8253.specs.Pit.{PitState, counter, with_counter}

-- a counter's mode and its gate
abbrev pub setup : CounterState → Mode × Line
setup c = (c.mode, c.gate)

choose_setup : (b : Bool) (was : Mode × Line) (c d : CounterState) → setup c ≡ was → setup d ≡ was → setup (if b then c else d) ≡ was
choose_setup true was c d first second = first
choose_setup false was c d first second = second

rate_setup : (c : CounterState) → setup (after_rate_count c) ≡ setup c
rate_setup c = choose_setup (c.count == 1) (setup c) _ _ refl refl

square_setup : (c : CounterState) → setup (after_square_count c) ≡ setup c
square_setup c =
    choose_setup (c.count == 1) (setup c) _ _ refl
    (choose_setup ((if c.keeps_zero then c.count else count_minus c.count_radix c.count (half_step c.count c.out)) == 0) (setup c) _ _ refl refl)

count_setup : (c : CounterState) (mode : Mode) → setup (after_count c mode) ≡ setup c
count_setup c TerminalCount = choose_setup (is_loaded c.progress && is_high c.gate && is_none c.first_byte) (setup c) _ _ refl refl
count_setup c OneShot = choose_setup (is_loaded c.progress) (setup c) _ _ refl refl
count_setup c RateGenerator = choose_setup (is_loaded c.progress && is_high c.gate) (setup c) _ _ (rate_setup c) refl
count_setup c SquareWave = choose_setup (is_loaded c.progress && is_high c.gate) (setup c) _ _ (square_setup c) refl
count_setup c SoftwareStrobe = choose_setup (is_loaded c.progress && is_high c.gate) (setup c) _ _ refl refl
count_setup c HardwareStrobe = choose_setup (is_loaded c.progress) (setup c) _ _ refl refl

due_setup : (c : CounterState) (mode : Mode) → setup (after_due_load c mode) ≡ setup c
due_setup c TerminalCount = refl
due_setup c OneShot = refl
due_setup c RateGenerator = refl
due_setup c SquareWave = refl
due_setup c SoftwareStrobe = refl
due_setup c HardwareStrobe = refl

-- a tick leaves a counter's mode and its gate
pub tick_setup : (c : CounterState) → setup (one.after_tick c) ≡ setup c
unfolding one.after_tick
tick_setup c = choose_setup c.load_due (setup c) _ _ (due_setup c c.mode) (count_setup c c.mode)

pub tick_gate : (c : CounterState) → (one.after_tick c).gate ≡ c.gate
tick_gate c = ap (λ (s : Mode × Line). s.1) (tick_setup c)

choose : (b : Bool) (gate : Line) (c d : CounterState) → c.gate ≡ gate → d.gate ≡ gate → (if b then c else d).gate ≡ gate
choose true gate c d first second = first
choose false gate c d first second = second

control_gate : (word : ℕ) (c : CounterState) → (one.after_control_word c word).gate ≡ c.gate
unfolding one.after_control_word after_latch
control_gate word c = choose (word / 16 % 4 == 0) c.gate _ _ refl refl

two_gate : (c : CounterState) (first : Option ℕ) (byte : ℕ) → (after_byte_of_two c first byte).gate ≡ c.gate
two_gate c None byte = refl
two_gate c (Some low) byte = refl

by_access_gate : (c : CounterState) (access : Access) (byte : ℕ) → (after_write_by c access byte).gate ≡ c.gate
by_access_gate c LowByte byte = refl
by_access_gate c HighByte byte = refl
by_access_gate c LowThenHigh byte = two_gate c c.first_byte byte

write_gate : (byte : ℕ) (c : CounterState) → (one.after_write c byte).gate ≡ c.gate
unfolding one.after_write
write_gate byte c = by_access_gate c c.access byte

by_read_gate : (c : CounterState) (access : Access) → (after_read_by c access).gate ≡ c.gate
by_read_gate c LowByte = refl
by_read_gate c HighByte = refl
by_read_gate c LowThenHigh = choose c.high_next c.gate _ _ refl refl

read_gate : (c : CounterState) → (one.after_read c).gate ≡ c.gate
unfolding one.after_read
read_gate c = choose (is_some c.status) c.gate _ _ refl (by_read_gate c c.access)

-- a read-back leaves a counter's gate
counted_gate : (b : Bool) (c : CounterState) → (if b then after_latch c else c).gate ≡ c.gate
unfolding after_latch
counted_gate true c = refl
counted_gate false c = refl

told_gate : (c : CounterState) → (after_status_latch c).gate ≡ c.gate
unfolding after_status_latch
told_gate c = refl

back_gate : (word : ℕ) (c : CounterState) → (one.after_read_back c word).gate ≡ c.gate
unfolding one.after_read_back
back_gate word c =
    let d : CounterState = (if word / 32 % 2 == 0 then after_latch c else c) in
    let same : d.gate ≡ c.gate = counted_gate (word / 32 % 2 == 0) c in
    choose (is_8254 c.kind) c.gate (if word / 16 % 2 == 0 then after_status_latch d else d) c
    (choose (word / 16 % 2 == 0) c.gate (after_status_latch d) d (told_gate d ∙ same) same) refl

back_where_gate : (c : CounterState) (bit word : ℕ) → (if bit == 1 then one.after_read_back c word else c).gate ≡ c.gate
back_where_gate c bit word = choose (bit == 1) c.gate _ _ (back_gate word c) refl

-- gates 0 and 1 of one state are those of another
pub record SameGates (p q : PitState) : Type 0 where
  pub gate_0 : p.counter_0.gate ≡ q.counter_0.gate
  pub gate_1 : p.counter_1.gate ≡ q.counter_1.gate

one_of : (b : Bool) (p q r : PitState) → SameGates p r → SameGates q r → SameGates (if b then p else q) r
one_of true p q r first second = first
one_of false p q r first second = second

-- the timer, of which the counter that these conditions pick changes by a rule
abbrev pub changed_at : Bool → Bool → Bool → (CounterState → CounterState) → PitState → PitState
changed_at zeroth first second rule p =
    let c : CounterState = rule (if zeroth then p.counter_0 else (if first then p.counter_1 else p.counter_2)) in
    if zeroth then record p { counter_0 = c } else (if first then record p { counter_1 = c } else (if second then record p { counter_2 = c } else p))

-- a timer of which one counter changes by a rule that leaves its gate keeps gates 0 and 1
changed_by : (zeroth first second : Bool) (rule : CounterState → CounterState) (p : PitState)
    → ((c : CounterState) → (rule c).gate ≡ c.gate) → SameGates (changed_at zeroth first second rule p) p
changed_by true first second rule p keeps = record { gate_0 = keeps p.counter_0; gate_1 = refl }
changed_by false true second rule p keeps = record { gate_0 = refl; gate_1 = keeps p.counter_1 }
changed_by false false true rule p keeps = record { gate_0 = refl; gate_1 = refl }
changed_by false false false rule p keeps = record { gate_0 = refl; gate_1 = refl }

changed : (n : ℕ) (rule : CounterState → CounterState) (p : PitState) → ((c : CounterState) → (rule c).gate ≡ c.gate)
    → SameGates (with_counter p n (rule (counter p n))) p
changed n rule p keeps = changed_by (n == 0) (n == 1) (n == 2) rule p keeps

pub write_gates : (p : PitState) (n byte : ℕ) → SameGates (pit.after_write p n byte) p
unfolding pit.after_write
write_gates p n byte =
    one_of (n == 3) _ _ p
    (one_of (byte / 64 == 3) (pit.after_read_back p byte) _ p
    (record { gate_0 = back_where_gate p.counter_0 (byte / 2 % 2) byte; gate_1 = back_where_gate p.counter_1 (byte / 4 % 2) byte })
    (changed (byte / 64) (λ c. one.after_control_word c byte) p (control_gate byte)))
    (changed n (λ c. one.after_write c byte) p (write_gate byte))

pub read_gates : (p : PitState) (n : ℕ) → SameGates (pit.after_read p n) p
unfolding pit.after_read
read_gates p n = changed n one.after_read p read_gate

pub tick_gates : (p : PitState) → SameGates (pit.after_tick p) p
unfolding pit.after_tick
tick_gates p = record { gate_0 = tick_gate p.counter_0; gate_1 = tick_gate p.counter_1 }

pub gate_gates : (p : PitState) (line : Line) → SameGates (pit.after_gate p 2 line) p
unfolding pit.after_gate
gate_gates p line = record { gate_0 = refl; gate_1 = refl }
