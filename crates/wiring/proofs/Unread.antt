-- What a counter does beside what its reads change: the latches of its count and its status, and the byte that is next
-- to be read.
use Rattle.std.proofs.Common.{◌≡◌, ℕ, ◌/◌, ◌%◌, Bool, true, false, if◌then◌else◌, Option, None, Some, refl, sym, ap, ◌∙◌}
use Rattle.std.specs.Prelude.{◌==◌, ◌&&◌, is_none, is_some}
use Rattle.board_types.specs.LineLevel.{is_high}
use Rattle.board_types.specs.declared.line.Line.{Line}
use Rattle.pit8253.specs.declared.program.Mode.{Mode}
use Rattle.pit8253.specs.declared.program.Mode.TheVariants.{TerminalCount, OneShot, RateGenerator, SquareWave, SoftwareStrobe, HardwareStrobe}
use Rattle.pit8253.specs.declared.program.Access.{Access}
use Rattle.pit8253.specs.declared.program.Access.TheVariants.{LowByte, HighByte, LowThenHigh}
use Rattle.pit8253.specs.Program.{count_minus}
use Rattle.pit8253.specs.Counter.{CounterState, is_8254, is_loaded, after_due_load, after_status_latch, after_read_back, after_count}
use Rattle.pit8253.specs.Counter.{after_rate_count, half_step, after_square_count, after_tick, after_latch, after_control_word}
use Rattle.pit8253.specs.Counter.{after_byte_of_two, after_write_by, after_write, after_read_by, after_read, after_gate}

-- the counter with nothing latched, the low byte next
abbrev pub unread : CounterState → CounterState
unread c = record c { latch = None; status = None; high_next = false }

-- a rule whose result, apart from what reads change, depends only on the rest
abbrev pub IsUnread : (CounterState → CounterState) → Type 0
IsUnread rule = (c : CounterState) → unread (rule c) ≡ unread (rule (unread c))

choose : (b : Bool) (c d x y : CounterState) → unread c ≡ unread x → unread d ≡ unread y → unread (if b then c else d) ≡ unread (if b then x else y)
choose true c d x y first second = first
choose false c d x y first second = second

rate_unread : IsUnread after_rate_count
rate_unread c = choose (c.count == 1) _ _ _ _ refl refl

square_unread : IsUnread after_square_count
square_unread c =
    choose (c.count == 1) _ _ _ _ refl
    (choose ((if c.keeps_zero then c.count else count_minus c.count_radix c.count (half_step c.count c.out)) == 0) _ _ _ _ refl refl)

count_unread : (mode : Mode) → IsUnread (λ c. after_count c mode)
count_unread TerminalCount c = choose (is_loaded c.progress && is_high c.gate && is_none c.first_byte) _ _ _ _ refl refl
count_unread OneShot c = choose (is_loaded c.progress) _ _ _ _ refl refl
count_unread RateGenerator c = choose (is_loaded c.progress && is_high c.gate) _ _ _ _ (rate_unread c) refl
count_unread SquareWave c = choose (is_loaded c.progress && is_high c.gate) _ _ _ _ (square_unread c) refl
count_unread SoftwareStrobe c = choose (is_loaded c.progress && is_high c.gate) _ _ _ _ refl refl
count_unread HardwareStrobe c = choose (is_loaded c.progress) _ _ _ _ refl refl

due_unread : (mode : Mode) → IsUnread (λ c. after_due_load c mode)
due_unread TerminalCount c = refl
due_unread OneShot c = refl
due_unread RateGenerator c = refl
due_unread SquareWave c = refl
due_unread SoftwareStrobe c = refl
due_unread HardwareStrobe c = refl

pub tick_unread : IsUnread after_tick
unfolding after_tick
tick_unread c = choose c.load_due _ _ _ _ (due_unread c.mode c) (count_unread c.mode c)

pub control_unread : (word : ℕ) → IsUnread (λ c. after_control_word c word)
unfolding after_control_word after_latch
control_unread word c = choose (word / 16 % 4 == 0) _ _ _ _ refl refl

two_unread : (first : Option ℕ) (byte : ℕ) → IsUnread (λ c. after_byte_of_two c first byte)
two_unread None byte c = refl
two_unread (Some low) byte c = refl

by_access_unread : (access : Access) (byte : ℕ) → IsUnread (λ c. after_write_by c access byte)
by_access_unread LowByte byte c = refl
by_access_unread HighByte byte c = refl
by_access_unread LowThenHigh byte c = two_unread c.first_byte byte c

pub write_unread : (byte : ℕ) → IsUnread (λ c. after_write c byte)
unfolding after_write
write_unread byte c = by_access_unread c.access byte c

pub gate_unread : (gate : Line) → IsUnread (λ c. after_gate c gate)
unfolding after_gate
gate_unread gate c = refl

read_branch : (b : Bool) (c x y : CounterState) → unread x ≡ unread c → unread y ≡ unread c → unread (if b then x else y) ≡ unread c
read_branch true c x y first second = first
read_branch false c x y first second = second

by_read : (c : CounterState) (access : Access) → unread (after_read_by c access) ≡ unread c
by_read c LowByte = refl
by_read c HighByte = refl
by_read c LowThenHigh = read_branch c.high_next c _ _ refl refl

-- a read leaves the rest
pub read_leaves : (c : CounterState) → unread (after_read c) ≡ unread c
unfolding after_read
read_leaves c = read_branch (is_some c.status) c _ _ refl (by_read c c.access)

-- a read-back leaves the rest, too
counted_leaves : (b : Bool) (c : CounterState) → unread (if b then after_latch c else c) ≡ unread c
unfolding after_latch
counted_leaves true c = refl
counted_leaves false c = refl

told_leaves : (c : CounterState) → unread (after_status_latch c) ≡ unread c
unfolding after_status_latch
told_leaves c = refl

back_leaves : (word : ℕ) (c : CounterState) → unread (after_read_back c word) ≡ unread c
unfolding after_read_back
back_leaves word c =
    let d : CounterState = (if word / 32 % 2 == 0 then after_latch c else c) in
    let same : unread d ≡ unread c = counted_leaves (word / 32 % 2 == 0) c in
    read_branch (is_8254 c.kind) c (if word / 16 % 2 == 0 then after_status_latch d else d) c
    (read_branch (word / 16 % 2 == 0) c (after_status_latch d) d (told_leaves d ∙ same) same) refl

pub back_where_leaves : (c : CounterState) (bit word : ℕ) → unread (if bit == 1 then after_read_back c word else c) ≡ unread c
back_where_leaves c bit word = read_branch (bit == 1) c _ _ (back_leaves word c) refl

-- if two counters differ only in what reads change, a rule leaves them so
pub same_rest : (rule : CounterState → CounterState) → IsUnread rule → (c d : CounterState) → unread c ≡ unread d → unread (rule c) ≡ unread (rule d)
same_rest rule is_unread c d same = is_unread c ∙ ap (λ (x : CounterState). unread (rule x)) same ∙ sym (is_unread d)
