-- What an 8254 shows when it is read back.
use Rattle.std.proofs.Common.{◌≡◌, ◌≢◌, ℕ, ◌/◌, ◌%◌, Bool, true, false, not, if◌then◌else◌, ◌&&◌}
use Rattle.std.proofs.Common.{◌||◌, refl, sym, ap, ◌∙◌, subst, arith, Option, None, Some, unwrap_or}
use Rattle.std.specs.Prelude.{◌==◌, is_none, is_some}
use Rattle.board_types.specs.LineLevel.{is_high, opposite}
use Rattle.board_types.specs.declared.choice.TimerKind.{TimerKind}
use Rattle.board_types.specs.declared.choice.TimerKind.TheVariants.{I8253, I8254}
use Rattle.board_types.specs.declared.line.Line.TheVariants.{Low, High}
use Rattle.pit8253.specs.declared.program.Mode.{Mode}
use Rattle.pit8253.specs.declared.program.Mode.TheVariants.{TerminalCount, OneShot, RateGenerator, SquareWave, SoftwareStrobe, HardwareStrobe}
use Rattle.pit8253.specs.declared.program.Access.TheVariants.{LowThenHigh}
use Rattle.pit8253.specs.Program.{mode_of, access_of, radix_of, digits_of, count_minus}
use Rattle.pit8253.specs.Counter.{CounterState, is_8254, is_loaded, after_load, after_square_load, after_due_load, after_count}
use Rattle.pit8253.specs.Counter.{after_decrement, after_rate_count, half_step, after_square_count, after_strobe_count}
use Rattle.pit8253.specs.Counter.{after_rest, after_tick, after_ticks, reading, after_latch, after_program, after_control_word}
use Rattle.pit8253.specs.Counter.{next_byte, after_read_by, after_read, status_of, after_status_latch, after_read_back}
use Rattle.pit8253.specs.PitLaws.{ends_half}
use Rattle.pit8253.specs.Laws8254.{ReadsBack, StatusComesFirst, ProgramEndsLatches, ReadBackIsHeld, ends_in, loads_next, NullTillLoaded, KnowsNoReadBack}
use Rattle.pit8253.specs.Pit as pit
use Rattle.pit8253.specs.Pit.{PitState}
use Rattle.pit8253.proofs.Counts.{differs, same}
use Rattle.pit8253.proofs.Falls.{if_no, if_yes}
use Rattle.pit8253.proofs.Latches.{Kept, ticks_keep, byte_of, read_is, read_counts, first_read, second_read}

-- what a read-back makes, by its two bits
back_form : CounterState → TimerKind → Bool → Bool → CounterState
back_form c kind counts tells =
    let counted : CounterState = if counts then after_latch c else c in
    if is_8254 kind then (if tells then after_status_latch counted else counted) else c

back_is : (c : CounterState) (word : ℕ) → after_read_back c word ≡ back_form c c.kind (word / 32 % 2 == 0) (word / 16 % 2 == 0)
unfolding after_read_back back_form
back_is c word = refl

both : (c : CounterState) (word : ℕ) → c.kind ≡ I8254 → word / 32 % 2 ≡ 0 → word / 16 % 2 ≡ 0 → after_read_back c word ≡ after_status_latch (after_latch c)
unfolding back_form
both c word kind counts tells =
    back_is c word ∙ ap (λ k. back_form c k (word / 32 % 2 == 0) (word / 16 % 2 == 0)) kind
    ∙ ap (λ b. back_form c I8254 b (word / 16 % 2 == 0)) (same (word / 32 % 2) 0 counts)
    ∙ ap (λ b. back_form c I8254 true b) (same (word / 16 % 2) 0 tells)

-- a read of a status that is there leaves the rest
rest_of : (c : CounterState) (status : ℕ) → c.status ≡ Some status → after_read c ≡ record c { status = None }
unfolding after_read
rest_of c status held = ap (λ o. if is_some o then record c { status = None } else after_read_by c c.access) held

record StatusRead (c d : CounterState) : Type 0 where
  shows : next_byte c ≡ status_of d
  rest : after_read c ≡ record c { status = None }

status_read : (c d : CounterState) → c.status ≡ Some (status_of d) → StatusRead c d
status_read c d held = record {
  shows = read_is c ∙ ap (λ o. unwrap_or o (byte_of c.access c.high_next (reading c))) held;
  rest = rest_of c (status_of d) held;
}

pub reads_back : ReadsBack
unfolding after_latch after_status_latch byte_of
reads_back c kind access low free none word counts tells k l m =
    let back : CounterState = after_read_back c word in
    let is : back ≡ after_status_latch (after_latch c) = both c word kind counts tells in
    let first : CounterState = after_ticks back k in
    let kept : Kept back first = ticks_keep back k in
    let status : first.status ≡ Some (status_of c) =
    kept.status ∙ ap (λ s. s.status) is ∙ ap (λ o. Some (unwrap_or o (status_of c))) none in
    let read : StatusRead first c = status_read first c status in
    let second : CounterState = after_ticks (after_read first) l in
    let again : Kept (after_read first) second = ticks_keep (after_read first) l in
    let latch : first.latch ≡ Some (digits_of c.count_radix c.count) =
    kept.latch ∙ ap (λ s. s.latch) is ∙ ap (λ o. Some (unwrap_or o (digits_of c.count_radix c.count))) free in
    let second_status : second.status ≡ None = again.status ∙ ap (λ s. s.status) read.rest in
    let second_access : second.access ≡ LowThenHigh = again.access ∙ ap (λ s. s.access) read.rest ∙ kept.access ∙ ap (λ s. s.access) is ∙ access in
    let second_low : second.high_next ≡ false = again.high_next ∙ ap (λ s. s.high_next) read.rest ∙ kept.high_next ∙ ap (λ s. s.high_next) is ∙ low in
    let second_latch : second.latch ≡ Some (digits_of c.count_radix c.count) = again.latch ∙ ap (λ s. s.latch) read.rest ∙ latch in
    let second_shown : reading second ≡ digits_of c.count_radix c.count = ap (λ o. unwrap_or o (digits_of second.count_radix second.count)) second_latch in
    let then_ : after_read second ≡ record second { high_next = true } = first_read second second_status second_access second_low in
    let third : CounterState = after_ticks (after_read second) m in
    let last : Kept (after_read second) third = ticks_keep (after_read second) m in
    let third_status : third.status ≡ None = last.status ∙ ap (λ s. s.status) then_ ∙ second_status in
    let third_access : third.access ≡ LowThenHigh = last.access ∙ ap (λ s. s.access) then_ ∙ second_access in
    let third_high : third.high_next ≡ true = last.high_next ∙ ap (λ s. s.high_next) then_ in
    let third_latch : third.latch ≡ Some (digits_of c.count_radix c.count) = last.latch ∙ ap (λ s. s.latch) then_ ∙ second_latch in
    let third_shown : reading third ≡ digits_of c.count_radix c.count = ap (λ o. unwrap_or o (digits_of third.count_radix third.count)) third_latch in
    let end : after_read third ≡ record third { latch = None; high_next = false } = second_read third third_status third_access third_high in (
      read.shows,
      read_counts second second_status ∙ ap (λ a. byte_of a second.high_next (reading second)) second_access
          ∙ ap (λ h. byte_of LowThenHigh h (reading second)) second_low ∙ ap (λ w. w % 256) second_shown,
      read_counts third third_status ∙ ap (λ a. byte_of a third.high_next (reading third)) third_access
          ∙ ap (λ h. byte_of LowThenHigh h (reading third)) third_high ∙ ap (λ w. w / 256) third_shown,
      ap (λ s. s.status) end ∙ third_status,
      ap (λ s. s.latch) end,
    )

told_status : (c : CounterState) (counts : Bool) → (back_form c I8254 counts true).status ≡ Some (unwrap_or c.status (status_of c))
unfolding back_form after_latch after_status_latch
told_status c true = refl
told_status c false = refl

without_status : (c : CounterState) (counts : Bool)
    → record (back_form c I8254 counts true) { status = None } ≡ record (if counts then after_latch c else c) { status = None }
unfolding back_form after_status_latch
without_status c true = refl
without_status c false = refl

pub status_comes_first : StatusComesFirst
status_comes_first c kind word tells =
    let counts : Bool = word / 32 % 2 == 0 in
    let back : CounterState = back_form c I8254 counts true in
    let is : after_read_back c word ≡ back =
    back_is c word ∙ ap (λ k. back_form c k counts (word / 16 % 2 == 0)) kind ∙ ap (λ b. back_form c I8254 counts b) (same (word / 16 % 2) 0 tells) in (
      ap next_byte is ∙ read_is back ∙ ap (λ o. unwrap_or o (byte_of back.access back.high_next (reading back))) (told_status c counts),
      ap after_read is ∙ rest_of back (unwrap_or c.status (status_of c)) (told_status c counts) ∙ without_status c counts,
    )

programs : (c : CounterState) (word : ℕ) → word / 16 % 4 ≢ 0
    → after_control_word c word ≡ after_program c (mode_of (word / 2 % 8)) (access_of (word / 16 % 4)) (radix_of (word % 2))
unfolding after_control_word
programs c word other = if_no (word / 16 % 4 == 0) _ _ (differs (word / 16 % 4) 0 other)

pub program_ends_latches : ProgramEndsLatches
program_ends_latches c word other =
    let is = programs c word other in (ap (λ s. s.latch) is, ap (λ s. s.status) is, ap (λ s. s.is_null) is)

-- a read-back of what is latched already, by its bits
record Latched (c : CounterState) (kind : TimerKind) (counts tells : Bool) : Type 0 where
  latch : (is_8254 kind && counts) ≡ true → is_some c.latch ≡ true
  status : (is_8254 kind && tells) ≡ true → is_some c.status ≡ true

some_stays : {A : Type 0} (o : Option A) (x : A) → is_some o ≡ true → Some (unwrap_or o x) ≡ o
some_stays None x some = cc
some_stays (Some y) x some = refl

latch_again : (c : CounterState) → is_some c.latch ≡ true → after_latch c ≡ c
unfolding after_latch
latch_again c some = ap (λ o. record c { latch = o }) (some_stays c.latch (digits_of c.count_radix c.count) some)

status_again : (c : CounterState) → is_some c.status ≡ true → after_status_latch c ≡ c
unfolding after_status_latch
status_again c some = ap (λ o. record c { status = o }) (some_stays c.status (status_of c) some)

back_again : (c : CounterState) (kind : TimerKind) (counts tells : Bool) → Latched c kind counts tells → back_form c kind counts tells ≡ c
unfolding back_form
back_again c I8253 counts tells latched = refl
back_again c I8254 true true latched = ap after_status_latch (latch_again c (latched.latch refl)) ∙ status_again c (latched.status refl)
back_again c I8254 true false latched = latch_again c (latched.latch refl)
back_again c I8254 false true latched = status_again c (latched.status refl)
back_again c I8254 false false latched = refl

back_latches : (c : CounterState) (kind : TimerKind) (counts tells : Bool) → Latched (back_form c kind counts tells) kind counts tells
unfolding back_form after_latch after_status_latch
back_latches c I8253 counts tells = record { latch = λ b. cc; status = λ b. cc }
back_latches c I8254 true true = record { latch = λ b. refl; status = λ b. refl }
back_latches c I8254 true false = record { latch = λ b. refl; status = λ b. cc }
back_latches c I8254 false true = record { latch = λ b. cc; status = λ b. refl }
back_latches c I8254 false false = record { latch = λ b. cc; status = λ b. cc }

back_kind : (c : CounterState) (kind : TimerKind) (counts tells : Bool) → (back_form c kind counts tells).kind ≡ c.kind
unfolding back_form after_latch after_status_latch
back_kind c I8253 counts tells = refl
back_kind c I8254 true true = refl
back_kind c I8254 true false = refl
back_kind c I8254 false true = refl
back_kind c I8254 false false = refl

pub read_back_is_held : ReadBackIsHeld
read_back_is_held c word k =
    let counts : Bool = word / 32 % 2 == 0 in
    let tells : Bool = word / 16 % 2 == 0 in
    let back : CounterState = after_read_back c word in
    let later : CounterState = after_ticks back k in
    let kept : Kept back later = ticks_keep back k in
    let kind : later.kind ≡ c.kind = kept.kind ∙ ap (λ s. s.kind) (back_is c word) ∙ back_kind c c.kind counts tells in
    let made : Latched back c.kind counts tells = subst (λ s. Latched s c.kind counts tells) (sym (back_is c word)) (back_latches c c.kind counts tells) in
    let held : Latched later c.kind counts tells = record {
      latch = λ b. ap (λ o. is_some o) kept.latch ∙ made.latch b;
      status = λ b. ap (λ o. is_some o) kept.status ∙ made.status b;
    } in
    back_is later word ∙ ap (λ t. back_form later t counts tells) kind ∙ back_again later c.kind counts tells held

-- the null count

null_if : (b : Bool) (x y : CounterState) (n : Bool) → x.is_null ≡ false → y.is_null ≡ n → (if b then x else y).is_null ≡ (n && not b)
null_if true x y true loaded kept = loaded
null_if true x y false loaded kept = loaded
null_if false x y true loaded kept = kept
null_if false x y false loaded kept = kept

null_kept : (b : Bool) (x y : CounterState) (n : Bool) → x.is_null ≡ n → y.is_null ≡ n → (if b then x else y).is_null ≡ n
null_kept true x y n first second = first
null_kept false x y n first second = second

due_cleared : (c : CounterState) (mode : Mode) → (after_due_load c mode).is_null ≡ false
due_cleared c TerminalCount = refl
due_cleared c OneShot = refl
due_cleared c RateGenerator = refl
due_cleared c SquareWave = refl
due_cleared c SoftwareStrobe = refl
due_cleared c HardwareStrobe = refl

rate_null : (c : CounterState) → (after_rate_count c).is_null ≡ (c.is_null && not (c.count == 1))
rate_null c =
    let count : ℕ = count_minus c.count_radix c.count 1 in
    null_if (c.count == 1) (after_load c High) (record c { count = count; out = (if count == 1 then Low else c.out) }) c.is_null refl refl

square_null : (c : CounterState) → (after_square_count c).is_null ≡ (c.is_null && not (ends_half c))
square_null c =
    let count : ℕ = count_minus c.count_radix c.count (half_step c.count c.out) in
    let ends : Bool = (if c.keeps_zero then c.count else count) == 0 in
    by_tests (c.count == 1) ends (after_square_load c High)
    (after_square_load c (if c.newest == 1 then High else opposite c.out)) (record c { count = count }) c.is_null refl refl refl
  where
    by_tests : (a b : Bool) (x y z : CounterState) (n : Bool) → x.is_null ≡ false → y.is_null ≡ false → z.is_null ≡ n
        → (if a then x else (if b then y else z)).is_null ≡ (n && not (a || b))
    by_tests true b x y z true first second third = first
    by_tests true b x y z false first second third = first
    by_tests false b x y z n first second third = null_if b y z n second third

no_load_null : (n b : Bool) → n ≡ (n && not (b && false))
no_load_null true true = refl
no_load_null true false = refl
no_load_null false b = refl

counted_null : (b : Bool) (x y : CounterState) (n e : Bool) → x.is_null ≡ (n && not e) → y.is_null ≡ n → (if b then x else y).is_null ≡ (n && not (b && e))
counted_null true x y n e counted rest = counted
counted_null false x y true e counted rest = rest
counted_null false x y false e counted rest = rest

count_null : (c : CounterState) (mode : Mode) → (after_count c mode).is_null ≡ (c.is_null && not (is_loaded c.progress && is_high c.gate && ends_in c mode))
count_null c TerminalCount =
    null_kept (is_loaded c.progress && is_high c.gate && is_none c.first_byte) (after_decrement c) c c.is_null refl refl
    ∙ no_load_null c.is_null (is_loaded c.progress && is_high c.gate)
count_null c OneShot =
    null_kept (is_loaded c.progress) (after_decrement c) c c.is_null refl refl ∙ no_load_null c.is_null (is_loaded c.progress && is_high c.gate)
count_null c RateGenerator = counted_null (is_loaded c.progress && is_high c.gate) (after_rate_count c) c c.is_null (c.count == 1) (rate_null c) refl
count_null c SquareWave = counted_null (is_loaded c.progress && is_high c.gate) (after_square_count c) c c.is_null (ends_half c) (square_null c) refl
count_null c SoftwareStrobe =
    null_kept (is_loaded c.progress && is_high c.gate) (after_strobe_count c) (after_rest c) c.is_null refl refl
    ∙ no_load_null c.is_null (is_loaded c.progress && is_high c.gate)
count_null c HardwareStrobe =
    null_kept (is_loaded c.progress) (after_strobe_count c) (after_rest c) c.is_null refl refl
    ∙ no_load_null c.is_null (is_loaded c.progress && is_high c.gate)

tick_null : (c : CounterState) → (after_tick c).is_null ≡ (c.is_null && not (loads_next c))
unfolding after_tick
tick_null c =
    let ends : Bool = is_loaded c.progress && is_high c.gate && ends_in c c.mode in
    by_due c.load_due (after_due_load c c.mode) (after_count c c.mode) c.is_null ends (due_cleared c c.mode) (count_null c c.mode)
  where
    by_due : (b : Bool) (x y : CounterState) (n e : Bool) → x.is_null ≡ false → y.is_null ≡ (n && not e) → (if b then x else y).is_null ≡ (n && not (b || e))
    by_due true x y true e loaded counted = loaded
    by_due true x y false e loaded counted = loaded
    by_due false x y n e loaded counted = counted

pub null_till_loaded : NullTillLoaded
null_till_loaded c word = (refl, tick_null c)

-- an 8253

no_read_back : (c : CounterState) (word : ℕ) → c.kind ≡ I8253 → after_read_back c word ≡ c
unfolding back_form
no_read_back c word kind = back_is c word ∙ ap (λ k. back_form c k (word / 32 % 2 == 0) (word / 16 % 2 == 0)) kind

unnamed : (c d : CounterState) (b : Bool) → d ≡ c → (if b then d else c) ≡ c
unnamed c d true is = is
unnamed c d false is = refl

pub knows_no_read_back : KnowsNoReadBack
unfolding pit.after_write
knows_no_read_back p first second third word above within =
    let three : word / 64 ≡ 3 = omega arith in
    if_yes (word / 64 == 3) (pit.after_read_back p word) _ (same (word / 64) 3 three)
    ∙ ap (λ c. record (pit.after_read_back p word) { counter_0 = c })
    (unnamed p.counter_0 (after_read_back p.counter_0 word) (word / 2 % 2 == 1) (no_read_back p.counter_0 word first))
    ∙ ap (λ c. record (pit.after_read_back p word) { counter_0 = p.counter_0; counter_1 = c })
    (unnamed p.counter_1 (after_read_back p.counter_1 word) (word / 4 % 2 == 1) (no_read_back p.counter_1 word second))
    ∙ ap (λ c. record p { counter_2 = c }) (unnamed p.counter_2 (after_read_back p.counter_2 word) (word / 8 % 2 == 1) (no_read_back p.counter_2 word third))
