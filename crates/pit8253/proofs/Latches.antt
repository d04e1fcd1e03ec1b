-- What a latch shows while the counter ticks on, and how decimal digits count.
use Rattle.std.proofs.Common.{◌≡◌, ℕ, ◌+◌, ◌*◌, ◌/◌, ◌%◌, Bool, true, false, if◌then◌else◌, ◌&&◌, refl, sym, ap, ◌∙◌, arith, None, Some, unwrap_or}
use Rattle.std.specs.Prelude.{◌==◌, is_none, is_some}
use Rattle.board_types.specs.declared.line.Line.{Line}
use Rattle.board_types.specs.declared.line.Line.TheVariants.{Low, High}
use Rattle.pit8253.specs.declared.program.Mode.{Mode}
use Rattle.pit8253.specs.declared.program.Mode.TheVariants.{TerminalCount, OneShot, RateGenerator, SquareWave, SoftwareStrobe, HardwareStrobe}
use Rattle.pit8253.specs.declared.program.Access.{Access}
use Rattle.pit8253.specs.declared.program.Access.TheVariants.{LowThenHigh}
use Rattle.board_types.specs.LineLevel.{is_high, opposite}
use Rattle.pit8253.specs.Program.{digits_of, count_minus}
use Rattle.pit8253.specs.Counter.{CounterState, after_load, after_square_load, after_due_load, is_loaded, after_count}
use Rattle.pit8253.specs.Counter.{after_decrement, after_rate_count, half_step, after_square_count, after_strobe_count, after_rest}
use Rattle.pit8253.specs.Counter.{after_tick, after_ticks, reading, after_latch, reads_high, next_byte, after_read_by, after_read}
use Rattle.pit8253.specs.PitLaws.{LatchHolds, LatchHoldsBoth, LatchIsHeld, ReadsBoth, CountsInDecimal}
use Rattle.pit8253.proofs.Falls.{keeping}

-- what ticks leave alone
pub record Kept (c d : CounterState) : Type 0 where
  pub kind : d.kind ≡ c.kind
  pub latch : d.latch ≡ c.latch
  pub status : d.status ≡ c.status
  pub access : d.access ≡ c.access
  pub high_next : d.high_next ≡ c.high_next

choose : (b : Bool) (c x y : CounterState) → Kept c x → Kept c y → Kept c (if b then x else y)
choose true c x y first second = first
choose false c x y first second = second

none_changed : (c : CounterState) → Kept c c
none_changed c = record { kind = refl; latch = refl; status = refl; access = refl; high_next = refl }

loaded_keeps : (out : Line) (c : CounterState) → Kept c (after_load c out)
loaded_keeps out c = record { kind = refl; latch = refl; status = refl; access = refl; high_next = refl }

-- a state with another count, strobe and OUT
moved_keeps : (c : CounterState) (count : ℕ) (due : Bool) (out : Line) → Kept c (record c { count = count; strobe_due = due; out = out })
moved_keeps c count due out = record { kind = refl; latch = refl; status = refl; access = refl; high_next = refl }

rate_keeps : (c : CounterState) → Kept c (after_rate_count c)
rate_keeps c =
    let count : ℕ = count_minus c.count_radix c.count 1 in
    let out : Line = (if count == 1 then Low else c.out) in
    choose (c.count == 1) c (after_load c High) (record c { count = count; out = out }) (loaded_keeps High c) (moved_keeps c count c.strobe_due out)

square_loaded_keeps : (out : Line) (c : CounterState) → Kept c (after_square_load c out)
square_loaded_keeps out c = record { kind = refl; latch = refl; status = refl; access = refl; high_next = refl }

due_loaded_keeps : (mode : Mode) (c : CounterState) → Kept c (after_due_load c mode)
due_loaded_keeps TerminalCount c = loaded_keeps c.out c
due_loaded_keeps OneShot c = loaded_keeps Low c
due_loaded_keeps RateGenerator c = loaded_keeps High c
due_loaded_keeps SquareWave c = square_loaded_keeps High c
due_loaded_keeps SoftwareStrobe c = loaded_keeps High c
due_loaded_keeps HardwareStrobe c = loaded_keeps High c

square_keeps : (c : CounterState) → Kept c (after_square_count c)
square_keeps c =
    let count : ℕ = count_minus c.count_radix c.count (half_step c.count c.out) in
    let ends : Bool = (if c.keeps_zero then c.count else count) == 0 in
    let turn : Line = (if c.newest == 1 then High else opposite c.out) in
    choose (c.count == 1) c (after_square_load c High) (if ends then after_square_load c turn else record c { count = count }) (square_loaded_keeps High c)
    (choose ends c (after_square_load c turn) (record c { count = count }) (square_loaded_keeps turn c) (moved_keeps c count c.strobe_due c.out))

out_keeps : (c : CounterState) → Kept c (after_decrement c)
out_keeps c = record { kind = refl; latch = refl; status = refl; access = refl; high_next = refl }

strobed_keeps : (c : CounterState) → Kept c (after_strobe_count c)
strobed_keeps c = record { kind = refl; latch = refl; status = refl; access = refl; high_next = refl }

rested_keeps : (c : CounterState) → Kept c (after_rest c)
rested_keeps c = record { kind = refl; latch = refl; status = refl; access = refl; high_next = refl }

counted_keeps : (mode : Mode) (c : CounterState) → Kept c (after_count c mode)
counted_keeps TerminalCount c = choose (is_loaded c.progress && is_high c.gate && is_none c.first_byte) c (after_decrement c) c (out_keeps c) (none_changed c)
counted_keeps OneShot c = choose (is_loaded c.progress) c (after_decrement c) c (out_keeps c) (none_changed c)
counted_keeps RateGenerator c = choose (is_loaded c.progress && is_high c.gate) c (after_rate_count c) c (rate_keeps c) (none_changed c)
counted_keeps SquareWave c = choose (is_loaded c.progress && is_high c.gate) c (after_square_count c) c (square_keeps c) (none_changed c)
counted_keeps SoftwareStrobe c = choose (is_loaded c.progress && is_high c.gate) c (after_strobe_count c) (after_rest c) (strobed_keeps c) (rested_keeps c)
counted_keeps HardwareStrobe c = choose (is_loaded c.progress) c (after_strobe_count c) (after_rest c) (strobed_keeps c) (rested_keeps c)

tick_keeps : (c : CounterState) → Kept c (after_tick c)
unfolding after_tick
tick_keeps c = choose c.load_due c (after_due_load c c.mode) (after_count c c.mode) (due_loaded_keeps c.mode c) (counted_keeps c.mode c)

more_kept : (c d : CounterState) → Kept c d → Kept c (after_tick d)
more_kept c d kept = record {
  kind = (tick_keeps d).kind ∙ kept.kind;
  latch = (tick_keeps d).latch ∙ kept.latch;
  status = (tick_keeps d).status ∙ kept.status;
  access = (tick_keeps d).access ∙ kept.access;
  high_next = (tick_keeps d).high_next ∙ kept.high_next;
}

pub ticks_keep : (c : CounterState) (n : ℕ) → Kept c (after_ticks c n)
ticks_keep c n = keeping after_tick (λ d. Kept c d) (more_kept c) n c (none_changed c)

-- a latched counter shows what it showed
shown_held : (c : CounterState) (k : ℕ) → reading (after_ticks (after_latch c) k) ≡ reading c
unfolding after_latch
shown_held c k =
    ap (λ o. unwrap_or o (digits_of (after_ticks (after_latch c) k).count_radix (after_ticks (after_latch c) k).count)) (ticks_keep (after_latch c) k).latch

unfoldable pub byte_of : Access → Bool → ℕ → ℕ
byte_of access high_next word = if reads_high access high_next then word / 256 else word % 256

pub read_is : (c : CounterState) → next_byte c ≡ unwrap_or c.status (byte_of c.access c.high_next (reading c))
unfolding next_byte byte_of
read_is c = refl

-- with no status latched
pub read_counts : (c : CounterState) → c.status ≡ None → next_byte c ≡ byte_of c.access c.high_next (reading c)
read_counts c free = read_is c ∙ ap (λ o. unwrap_or o (byte_of c.access c.high_next (reading c))) free

latched_access : (c : CounterState) → (after_latch c).access ≡ c.access
unfolding after_latch
latched_access c = refl

latched_high_next : (c : CounterState) → (after_latch c).high_next ≡ c.high_next
unfolding after_latch
latched_high_next c = refl

latched_status : (c : CounterState) → (after_latch c).status ≡ c.status
unfolding after_latch
latched_status c = refl

held_byte : (c : CounterState) (k : ℕ) → next_byte (after_ticks (after_latch c) k) ≡ unwrap_or c.status (byte_of c.access c.high_next (reading c))
held_byte c k =
    let kept = ticks_keep (after_latch c) k in
    let later : CounterState = after_ticks (after_latch c) k in
    read_is later
    ∙ ap (λ o. unwrap_or o (byte_of later.access later.high_next (reading later))) (kept.status ∙ latched_status c)
    ∙ ap (λ a. unwrap_or c.status (byte_of a later.high_next (reading later))) (kept.access ∙ latched_access c)
    ∙ ap (λ h. unwrap_or c.status (byte_of c.access h (reading later))) (kept.high_next ∙ latched_high_next c)
    ∙ ap (λ w. unwrap_or c.status (byte_of c.access c.high_next w)) (shown_held c k)

pub latch_holds : LatchHolds
latch_holds c k = held_byte c k ∙ sym (read_is c)

pub latch_is_held : LatchIsHeld
unfolding after_latch
latch_is_held c k =
    let held : (after_ticks (after_latch c) k).latch ≡ Some (reading c) = (ticks_keep (after_latch c) k).latch in
    let same : Some (reading (after_ticks (after_latch c) k)) ≡ (after_ticks (after_latch c) k).latch = ap (λ w. Some w) (shown_held c k) ∙ sym held in
    ap (λ o. record (after_ticks (after_latch c) k) { latch = o }) same

-- the first of two reads, and the second
count_read : (c : CounterState) → c.status ≡ None → after_read c ≡ after_read_by c c.access
unfolding after_read
count_read c free = ap (λ o. if is_some o then record c { status = None } else after_read_by c c.access) free

pub first_read : (c : CounterState) → c.status ≡ None → c.access ≡ LowThenHigh → c.high_next ≡ false → after_read c ≡ record c { high_next = true }
first_read c free access low =
    count_read c free ∙ ap (λ a. after_read_by c a) access
    ∙ ap (λ h. if h then record c { latch = None; high_next = false } else record c { high_next = true }) low

pub second_read : (c : CounterState) → c.status ≡ None → c.access ≡ LowThenHigh → c.high_next ≡ true
    → after_read c ≡ record c { latch = None; high_next = false }
second_read c free access high =
    count_read c free ∙ ap (λ a. after_read_by c a) access
    ∙ ap (λ h. if h then record c { latch = None; high_next = false } else record c { high_next = true }) high

pub latch_holds_both : LatchHoldsBoth
unfolding byte_of after_latch
latch_holds_both c access low free none k m =
    let word : reading c ≡ digits_of c.count_radix c.count = ap (λ o. unwrap_or o (digits_of c.count_radix c.count)) free in
    let one : CounterState = after_ticks (after_latch c) k in
    let kept : Kept (after_latch c) one = ticks_keep (after_latch c) k in
    let read : after_read one ≡ record one { high_next = true } = first_read one (kept.status ∙ none) (kept.access ∙ access) (kept.high_next ∙ low) in
    let two : CounterState = after_ticks (after_read one) m in
    let again : Kept (after_read one) two = ticks_keep (after_read one) m in
    let two_status : two.status ≡ None = again.status ∙ ap (λ s. s.status) read ∙ kept.status ∙ none in
    let two_access : two.access ≡ LowThenHigh = again.access ∙ ap (λ s. s.access) read ∙ kept.access ∙ access in
    let two_high : two.high_next ≡ true = again.high_next ∙ ap (λ s. s.high_next) read in
    let two_latch : two.latch ≡ Some (reading c) = again.latch ∙ ap (λ s. s.latch) read ∙ kept.latch in
    let two_shown : reading two ≡ digits_of c.count_radix c.count = ap (λ o. unwrap_or o (digits_of two.count_radix two.count)) two_latch ∙ word in (
      held_byte c k ∙ ap (λ o. unwrap_or o (byte_of c.access c.high_next (reading c))) none
          ∙ ap (λ a. byte_of a c.high_next (reading c)) access ∙ ap (λ h. byte_of LowThenHigh h (reading c)) low ∙ ap (λ w. w % 256) word,
      read_counts two two_status ∙ ap (λ a. byte_of a two.high_next (reading two)) two_access
          ∙ ap (λ h. byte_of LowThenHigh h (reading two)) two_high ∙ ap (λ w. w / 256) two_shown,
      ap (λ s. s.latch) (second_read two two_status two_access two_high),
    )

-- two reads of a running count
pub reads_both : ReadsBoth
unfolding byte_of
reads_both c access low free none =
    let word : reading c ≡ digits_of c.count_radix c.count = ap (λ o. unwrap_or o (digits_of c.count_radix c.count)) free in
    let first : after_read c ≡ record c { high_next = true } = first_read c none access low in (
      read_counts c none ∙ ap (λ a. byte_of a c.high_next (reading c)) access ∙ ap (λ h. byte_of LowThenHigh h (reading c)) low ∙ ap (λ w. w % 256) word,
      ap next_byte first ∙ read_counts (record c { high_next = true }) none ∙ ap (λ a. byte_of a true (reading c)) access ∙ ap (λ w. w / 256) word,
      ap after_read first ∙ second_read (record c { high_next = true }) none access refl
          ∙ ap (λ o. record c { latch = o; high_next = false }) (sym free) ∙ ap (λ h. record c { high_next = h }) (sym low),
    )

pub counts_in_decimal : CountsInDecimal
counts_in_decimal a b c d a_digit b_digit c_digit d_digit =
    let word : ℕ = 4096 * a + 256 * b + 16 * c + d in
    let top : (4096 * a + 256 * b + 16 * c + d) / 4096 ≡ a = omega arith in
    let second : (4096 * a + 256 * b + 16 * c + d) / 256 % 16 ≡ b = omega arith in
    let third : (4096 * a + 256 * b + 16 * c + d) / 16 % 16 ≡ c = omega arith in
    let last : (4096 * a + 256 * b + 16 * c + d) % 16 ≡ d = omega arith in
    let thousands : (1000 * a + 100 * b + 10 * c + d) / 1000 % 10 ≡ a = omega arith in
    let hundreds : (1000 * a + 100 * b + 10 * c + d) / 100 % 10 ≡ b = omega arith in
    let tens : (1000 * a + 100 * b + 10 * c + d) / 10 % 10 ≡ c = omega arith in
    let ones : (1000 * a + 100 * b + 10 * c + d) % 10 ≡ d = omega arith in
    (omega arith, omega arith)
