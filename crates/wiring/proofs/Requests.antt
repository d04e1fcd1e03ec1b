-- The two request lines that the board drives, settled twice to the same levels.
use Rattle.std.proofs.Common.{◌≡◌, ◌≢◌, ℕ, Bool, true, false, if◌then◌else◌, length, get_or, slice_set, refl, sym, ap, ◌∙◌, inl, inr, arith}
use Rattle.std.proofs.lemmas.Bool.{cases_lt}
use Rattle.std.proofs.lemmas.List.{get_or_past, get_or-set_same, get_or-set_other, set-get_or, set-set, set_comm, length-set}
use Rattle.board_types.specs.LineLevel.{is_high}
use Rattle.board_types.specs.declared.line.Line.{Line}
use Rattle.board_types.specs.declared.line.Line.TheVariants.{Low, High}
use Rattle.pic8259.specs.Levels.{Levels, contains, with_level, without_level}
use Rattle.pic8259.specs.Pic.{PicState, after_line}

-- a place that is written holds what was written, and one past the end shows what is asked for
shows_written : (set : Levels) (level : ℕ) (b : Bool) → get_or (slice_set set level b) level b ≡ b
shows_written set level b =
    elim (cases_lt level (length set)) [
      | inl within ↦ get_or-set_same set level b b within
      | inr past ↦ let size = length-set set level b in get_or_past (slice_set set level b) level b (omega arith)
    ]

written_twice : (set : Levels) (level : ℕ) (b : Bool) → slice_set (slice_set set level b) level b ≡ slice_set set level b
written_twice set level b =
    ap (λ c. slice_set (slice_set set level b) level c) (sym (shows_written set level b)) ∙ set-get_or (slice_set set level b) level b

-- the levels that have risen, once a line has gone high
abbrev pub risen_by : Bool → ℕ → Levels → Levels
risen_by was_high level risen = if was_high then risen else with_level risen level

risen_twice : (was_high now_high : Bool) (level : ℕ) (risen : Levels) → (was_high ≡ true → now_high ≡ true)
    → risen_by now_high level (risen_by was_high level risen) ≡ risen_by was_high level risen
risen_twice true now_high level risen stays = ap (λ b. risen_by b level risen) (stays refl)
risen_twice false true level risen stays = refl
risen_twice false false level risen stays = written_twice risen level true

still_high : (set : Levels) (level : ℕ) → contains set level ≡ true → contains (with_level set level) level ≡ true
still_high set level is_in =
    elim (cases_lt level (length set)) [
      | inl within ↦ get_or-set_same set level true false within
      | inr past ↦ let out : contains set level ≡ false = get_or_past set level false past in absurd (cc)
    ]

-- a line that takes the same level again
pub line_twice : (s : PicState) (level : ℕ) (line : Line) → after_line (after_line s level line) level line ≡ after_line s level line
unfolding after_line
line_twice s level Low = ap (λ high. record s { high = high }) (written_twice s.high level false)
line_twice s level High =
    let risen : Levels = risen_by (contains s.high level) level s.risen in
    ap (λ high. record s { high = high; risen = risen_by (contains (with_level s.high level) level) level risen }) (written_twice s.high level true)
    ∙ ap (λ risen. record s { high = with_level s.high level; risen = risen })
    (risen_twice (contains s.high level) (contains (with_level s.high level) level) level s.risen (still_high s.high level))

risen_either : (a b : Bool) (n m : ℕ) (risen : Levels) → n ≢ m → risen_by a n (risen_by b m risen) ≡ risen_by b m (risen_by a n risen)
risen_either true b n m risen differ = refl
risen_either false true n m risen differ = refl
risen_either false false n m risen differ = sym (set_comm risen n m true true differ)

-- two lines in either order
pub lines_either : (s : PicState) (n m : ℕ) (a b : Line) → n ≢ m → m ≢ n → after_line (after_line s m b) n a ≡ after_line (after_line s n a) m b
unfolding after_line
lines_either s n m Low Low differ back = ap (λ high. record s { high = high }) (sym (set_comm s.high n m false false differ))
lines_either s n m Low High differ back =
    ap (λ high. record s { high = high; risen = risen_by (contains s.high m) m s.risen }) (sym (set_comm s.high n m false true differ))
    ∙ ap (λ b. record s { high = with_level (without_level s.high n) m; risen = risen_by b m s.risen }) (sym (get_or-set_other s.high n m false false back))
lines_either s n m High Low differ back =
    ap (λ high. record s { high = high; risen = risen_by (contains (without_level s.high m) n) n s.risen }) (sym (set_comm s.high n m true false differ))
    ∙ ap (λ b. record s { high = without_level (with_level s.high n) m; risen = risen_by b n s.risen }) (get_or-set_other s.high m n false false differ)
lines_either s n m High High differ back =
    ap (λ high. record s { high = high; risen = risen_by (contains (with_level s.high m) n) n (risen_by (contains s.high m) m s.risen) })
    (sym (set_comm s.high n m true true differ))
    ∙ ap (λ b. record s { high = with_level (with_level s.high n) m; risen = risen_by b n (risen_by (contains s.high m) m s.risen) })
    (get_or-set_other s.high m n true false differ)
    ∙ ap (λ risen. record s { high = with_level (with_level s.high n) m; risen = risen })
    (risen_either (contains s.high n) (contains s.high m) n m s.risen differ)
    ∙ ap (λ b. record s { high = with_level (with_level s.high n) m; risen = risen_by b m (risen_by (contains s.high n) n s.risen) })
    (sym (get_or-set_other s.high n m true false back))

pub both_lines_twice : (s : PicState) (n m : ℕ) (a b : Line) → n ≢ m → m ≢ n
    → after_line (after_line (after_line (after_line s m b) n a) m b) n a ≡ after_line (after_line s m b) n a
both_lines_twice s n m a b differ back =
    ap (λ t. after_line t n a) (lines_either (after_line s m b) m n b a back differ)
    ∙ line_twice (after_line (after_line s m b) m b) n a
    ∙ ap (λ t. after_line t n a) (line_twice s m b)

-- once a level has risen, its line leaves no trace but whether it is high

risen_stays : (was_high : Bool) (level : ℕ) (risen : Levels) → contains risen level ≡ true → risen_by was_high level risen ≡ risen
risen_stays true level risen is_in = refl
risen_stays false level risen is_in = ap (λ b. slice_set risen level b) (sym is_in) ∙ set-get_or risen level false

line_of_risen : (s : PicState) (level : ℕ) (line : Line) → contains s.risen level ≡ true
    → after_line s level line ≡ record s { high = slice_set s.high level (is_high line) }
unfolding after_line
line_of_risen s level Low is_in = refl
line_of_risen s level High is_in =
    ap (λ risen. record s { high = with_level s.high level; risen = risen }) (risen_stays (contains s.high level) level s.risen is_in)

line_again : (s : PicState) (level : ℕ) (a b : Line) → contains s.risen level ≡ true → after_line (after_line s level a) level b ≡ after_line s level b
line_again s level a b is_in =
    ap (λ t. after_line t level b) (line_of_risen s level a is_in)
    ∙ line_of_risen (record s { high = slice_set s.high level (is_high a) }) level b is_in
    ∙ ap (λ high. record s { high = high }) (set-set s.high level (is_high a) (is_high b))
    ∙ sym (line_of_risen s level b is_in)

-- once a level has risen, its line leaves no trace either if another line takes one level before and after
pub risen_line : (s : PicState) (n m : ℕ) (a b k : Line) → n ≢ m → m ≢ n → contains s.risen n ≡ true
    → after_line (after_line (after_line (after_line s n a) m k) n b) m k ≡ after_line (after_line s n b) m k
risen_line s n m a b k differ back is_in =
    ap (λ t. after_line t m k) (lines_either (after_line s n a) n m b k differ back)
    ∙ line_twice (after_line (after_line s n a) n b) m k
    ∙ ap (λ t. after_line t m k) (line_again s n a b is_in)

-- a line that keeps its level changes nothing
pub same_line : (s : PicState) (level : ℕ) (line : Line) → contains s.high level ≡ is_high line → after_line s level line ≡ s
unfolding after_line
same_line s level Low is =
    ap (λ b. record s { high = slice_set s.high level b }) (sym is) ∙ ap (λ high. record s { high = high }) (set-get_or s.high level false)
same_line s level High is =
    ap (λ b. record s { high = slice_set s.high level true; risen = risen_by b level s.risen }) is
    ∙ ap (λ b. record s { high = slice_set s.high level b }) (sym is) ∙ ap (λ high. record s { high = high }) (set-get_or s.high level false)
