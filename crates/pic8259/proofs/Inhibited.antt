-- A level that is inhibited requests nothing, whatever its line does.
use Rattle.std.proofs.Common.{◌≡◌, ◌≢◌, ℕ, ◌<◌, Bool, true, false, not, ◌&&◌, ◌||◌, if◌then◌else◌, length, find, None, refl, sym, ap, ◌∙◌, inl, inr}
use Rattle.std.specs.List.{list_any}
use Rattle.std.proofs.Math.Bool.{and-false}
use Rattle.std.proofs.lemmas.Bool.{cases_eq}
use Rattle.std.proofs.lemmas.List.{get_or-set_other}
use Rattle.board_types.specs.declared.line.Line.{Line}
use Rattle.board_types.specs.declared.line.Line.TheVariants.{Low, High}
use Rattle.pic8259.specs.Levels.{contains, with_level, up_to}
use Rattle.pic8259.specs.Pic.{PicState, asks, blocks, is_ready, may_be_taken, level_to_take, after_line}
use Rattle.pic8259.specs.Inhibited.{is_inhibited, InhibitedRequestNothing, IsTakenInTurn}
use Rattle.pic8259.proofs.Edges.{asks_once_a_rise}

neither : (asking masked blocked : Bool) → (masked || blocked) ≡ true → ((asking && not masked) && not blocked) ≡ false
neither asking true blocked is = ap (λ b. b && not blocked) (and-false asking)
neither asking false true is = and-false (asking && true)
neither asking false false is = absurd (cc)

is_not : (ready held may : Bool) → (not ready || held) ≡ true → (held ≡ true → may ≡ false) → (ready && may) ≡ false
is_not false held may is none = refl
is_not true held may is none = none is

never_taken : (s : PicState) (level : ℕ) → is_inhibited s level ≡ true → (is_ready s && may_be_taken s level) ≡ false
never_taken s level is = is_not (is_ready s) (contains s.masked level || list_any (blocks s) (up_to s.order level)) (may_be_taken s level) is
    (neither (asks s level) (contains s.masked level) (list_any (blocks s) (up_to s.order level)))

-- no line changes what is inhibited
pub stays_inhibited : (s : PicState) (level line_of : ℕ) (line : Line) → is_inhibited (after_line s line_of line) level ≡ is_inhibited s level
unfolding after_line
stays_inhibited s level line_of Low = refl
stays_inhibited s level line_of High = refl

-- a line changes nothing of other levels

rises_alone : (was_high : Bool) (s : PicState) (level other : ℕ) → other ≢ level
    → contains (if was_high then s.risen else with_level s.risen level) other ≡ contains s.risen other
rises_alone true s level other differ = refl
rises_alone false s level other differ = get_or-set_other s.risen level other true false differ

others_ask : (s : PicState) (level other : ℕ) (line : Line) → other ≢ level → asks (after_line s level line) other ≡ asks s other
unfolding after_line
others_ask s level other Low differ =
    ap (λ b. b && (s.is_level_triggered || contains s.risen other)) (get_or-set_other s.high level other false false differ)
others_ask s level other High differ =
    ap (λ b. b && (s.is_level_triggered || contains (if contains s.high level then s.risen else with_level s.risen level) other))
    (get_or-set_other s.high level other true false differ)
    ∙ ap (λ b. contains s.high other && (s.is_level_triggered || b)) (rises_alone (contains s.high level) s level other differ)

others_taken : (s : PicState) (level other : ℕ) (line : Line) → other ≢ level → may_be_taken (after_line s level line) other ≡ may_be_taken s other
unfolding after_line
others_taken s level other Low differ =
    ap (λ b. (b && not (contains s.masked other)) && not (list_any (blocks s) (up_to s.order other))) (others_ask s level other Low differ)
others_taken s level other High differ =
    ap (λ b. (b && not (contains s.masked other)) && not (list_any (blocks s) (up_to s.order other))) (others_ask s level other High differ)

-- a controller that isn't ready takes none; one that is ready takes the same as before
takes : (s t : PicState) (level : ℕ) → is_ready t ≡ is_ready s → t.order ≡ s.order
    → (is_ready s && may_be_taken s level) ≡ false → (is_ready t && may_be_taken t level) ≡ false
    → ((other : ℕ) → other ≢ level → may_be_taken t other ≡ may_be_taken s other) → level_to_take t ≡ level_to_take s
unfolding level_to_take
takes s t level ready order none none_later others =
    ap (λ b. if b then find (may_be_taken t) t.order else None) ready
    ∙ ap (λ xs. if is_ready s then find (may_be_taken t) xs else None) order
    ∙ by_readiness (is_ready s) refl
  where
    by_readiness : (b : Bool) → is_ready s ≡ b → (if b then find (may_be_taken t) s.order else None) ≡ (if b then find (may_be_taken s) s.order else None)
    by_readiness false is = refl
    by_readiness true is =
        let here : may_be_taken s level ≡ false = ap (λ b. b && may_be_taken s level) (sym is) ∙ none in
        let later : may_be_taken t level ≡ false = ap (λ b. b && may_be_taken t level) (sym (ready ∙ is)) ∙ none_later in
        λ k. find (λ other. elim (cases_eq other level) as (λ _. may_be_taken t other ≡ may_be_taken s other) [
          | inl same ↦ ap (may_be_taken t) same ∙ later ∙ sym here ∙ ap (may_be_taken s) (sym same)
          | inr differ ↦ others other differ
        ] k) s.order

pub unheard : (s : PicState) (level : ℕ) (line : Line) → is_inhibited s level ≡ true → level_to_take (after_line s level line) ≡ level_to_take s
unfolding after_line
unheard s level Low is =
    takes s (after_line s level Low) level refl refl (never_taken s level is)
    (never_taken (after_line s level Low) level is) (λ other differ. others_taken s level other Low differ)
unheard s level High is =
    takes s (after_line s level High) level refl refl (never_taken s level is)
    (never_taken (after_line s level High) level is) (λ other differ. others_taken s level other High differ)

-- a level that isn't inhibited may be taken once its line has risen

unhindered : (masked blocked : Bool) → (masked || blocked) ≡ false → (not masked && not blocked) ≡ true
unhindered true blocked is = absurd (cc)
unhindered false true is = absurd (cc)
unhindered false false is = refl

ready_and : (ready held : Bool) → (not ready || held) ≡ false → (ready ≡ true) × (held ≡ false)
ready_and true held is = (refl, is)
ready_and false held is = absurd (let never : true ≡ false = is in cc)

rises : (s : PicState) (level : ℕ) → is_inhibited s level ≡ false → level < length s.high → level < length s.risen
    → IsTakenInTurn (after_line (after_line s level Low) level High) level
unfolding after_line
rises s level is high risen =
    let parts = ready_and (is_ready s) (contains s.masked level || list_any (blocks s) (up_to s.order level)) is in
    record {
      ready = parts.0;
      may =
          ap (λ b. (b && not (contains s.masked level)) && not (list_any (blocks s) (up_to s.order level))) ((asks_once_a_rise s level).again high risen)
          ∙ unhindered (contains s.masked level) (list_any (blocks s) (up_to s.order level)) parts.1;
    }

pub inhibited_request_nothing : InhibitedRequestNothing
inhibited_request_nothing s level = record {
  inhibited = λ is. record { never = never_taken s level is; unheard = λ line. unheard s level line is };
  other = rises s level;
  stays = stays_inhibited s level;
}
