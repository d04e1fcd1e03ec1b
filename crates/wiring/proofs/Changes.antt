-- What a settling changes, and that it changes nothing else.
use Rattle.std.proofs.Common.{◌≡◌, ◌≢◌, ◌<◌, ℕ, zero, suc, Bool, true, false, if◌then◌else◌, length, None, refl, sym, ap, ◌∙◌, arith}
use Rattle.std.specs.Prelude.{not, ◌&&◌, ◌||◌, is_some}
use Rattle.std.proofs.lemmas.List.{get_or-set_same, get_or-set_other, length-set}
use Rattle.board_types.specs.Bits.{has_bit}
use Rattle.board_types.specs.LineLevel.{from_bool, is_high}
use Rattle.board_types.specs.declared.line.Line.{Line}
use Rattle.board_types.specs.declared.line.Line.TheVariants.{Low, High}
use Rattle.keyboard.specs.Keyboard.{KeyboardState, after_clearing}
use Rattle.pic8259.specs.Levels.{Levels, contains, with_level}
use Rattle.pic8259.specs.Pic.{PicState, after_line}
use Rattle.pit8253.specs.Pit as pit
use Rattle.pit8253.specs.Pit.{PitState}
use Rattle.ppi8255.specs.Ppi.{lines_b}
use Rattle.wiring.specs.Wires.{after_settling}
use Rattle.wiring.specs.EachWire.{after_latch_wire, after_gate_wire, after_request_wires}
use Rattle.wiring.specs.WiringLaws.{SettlingChangesAlone}
use Rattle.wiring.proofs.Agreement.{high_after_line, high_after_requests}
use Rattle.wiring.proofs.FixedWires.{above, other_line}

latch_alone : (b : Bool) (k : KeyboardState) → (if b then after_clearing k else k) ≡ record k { latch = (if b then after_clearing k else k).latch }
latch_alone true k = refl
latch_alone false k = refl

latch_by : (b : Bool) (k : KeyboardState) → (if b then after_clearing k else k).latch ≡ (if b then None else k.latch)
latch_by true k = refl
latch_by false k = refl

-- a line changes which lines are high and which have risen
line_alone : (s : PicState) (level : ℕ) (line : Line)
    → after_line s level line ≡ record s { high = (after_line s level line).high; risen = (after_line s level line).risen }
unfolding after_line
line_alone s level Low = refl
line_alone s level High = refl

requests_alone : (s : PicState) (a b : Line) → (let t : PicState = after_line (after_line s 0 a) 1 b in t ≡ record s { high = t.high; risen = t.risen })
requests_alone s a b =
    let t : PicState = after_line (after_line s 0 a) 1 b in
    line_alone (after_line s 0 a) 1 b ∙ ap (λ (x : PicState). record x { high = t.high; risen = t.risen }) (line_alone s 0 a)

-- the rises of a line

risen_by : (was_high : Bool) (risen : Levels) (n level : ℕ) → level ≢ n → contains (if was_high then risen else with_level risen n) level ≡ contains risen level
risen_by true risen n level differ = refl
risen_by false risen n level differ = get_or-set_other risen n level true false differ

-- the rises of other lines stay
risen_other : (s : PicState) (n : ℕ) (line : Line) (level : ℕ) → level ≢ n → contains (after_line s n line).risen level ≡ contains s.risen level
unfolding after_line
risen_other s n Low level differ = refl
risen_other s n High level differ = risen_by (contains s.high n) s.risen n level differ

high_other : (s : PicState) (n : ℕ) (line : Line) (level : ℕ) → level ≢ n → contains (after_line s n line).high level ≡ contains s.high level
high_other s n line level differ =
    ap (λ (high : Levels). contains high level) (high_after_line s n line) ∙ get_or-set_other s.high n level (is_high line) false differ

or_neither : (a b : Bool) → a ≡ (a || (b && false))
or_neither true b = refl
or_neither false true = refl
or_neither false false = refl

or_true : (a : Bool) → true ≡ (a || true)
or_true true = refl
or_true false = refl

-- a line that goes high has risen, and no other
own_rise : (was_high : Bool) (risen : Levels) (n : ℕ) → n < length risen
    → contains (if was_high then risen else with_level risen n) n ≡ (contains risen n || (not was_high && true))
own_rise true risen n within = or_neither (contains risen n) true
own_rise false risen n within = get_or-set_same risen n true false within ∙ or_true (contains risen n)

risen_own : (s : PicState) (n : ℕ) (line : Line) → n < length s.high → n < length s.risen
    → contains (after_line s n line).risen n ≡ (contains s.risen n || (not (contains s.high n) && contains (after_line s n line).high n))
unfolding after_line
risen_own s n Low within known =
    or_neither (contains s.risen n) (not (contains s.high n))
    ∙ ap (λ b. contains s.risen n || (not (contains s.high n) && b)) (sym (get_or-set_same s.high n false false within))
risen_own s n High within known =
    own_rise (contains s.high n) s.risen n known
    ∙ ap (λ b. contains s.risen n || (not (contains s.high n) && b)) (sym (get_or-set_same s.high n true false within))

differ : (n m : ℕ) → n < m → n ≢ m
differ n m less same = omega arith

length_by : (was_high : Bool) (risen : Levels) (n : ℕ) → length (if was_high then risen else with_level risen n) ≡ length risen
length_by true risen n = refl
length_by false risen n = length-set risen n true

length_risen : (s : PicState) (n : ℕ) (line : Line) → length (after_line s n line).risen ≡ length s.risen
unfolding after_line
length_risen s n Low = refl
length_risen s n High = length_by (contains s.high n) s.risen n

-- the rises of the two lines that the board drives
two_rises : (s : PicState) (a b : Line) (level : ℕ) → level < 2 → length s.high ≡ 8 → length s.risen ≡ 8
    → (let t : PicState = after_line (after_line s 0 a) 1 b in
    contains t.risen level ≡ (contains s.risen level || (not (contains s.high level) && contains t.high level)))
two_rises s a b zero below high risen =
    let other : 0 ≢ 1 = differ 0 1 (omega arith) in
    risen_other (after_line s 0 a) 1 b 0 other
    ∙ risen_own s 0 a (omega (arith, high)) (omega (arith, risen))
    ∙ ap (λ c. contains s.risen 0 || (not (contains s.high 0) && c)) (sym (high_other (after_line s 0 a) 1 b 0 other))
two_rises s a b (suc zero) below high risen =
    let other : 1 ≢ 0 = above 0 1 (omega arith) in
    let eight : length (after_line s 0 a).high ≡ 8 = ap length (high_after_line s 0 a) ∙ length-set s.high 0 (is_high a) ∙ high in
    let known : length (after_line s 0 a).risen ≡ 8 = length_risen s 0 a ∙ risen in
    risen_own (after_line s 0 a) 1 b (omega (arith, eight)) (omega (arith, known))
    ∙ ap (λ c. c || (not (contains (after_line s 0 a).high 1) && contains (after_line (after_line s 0 a) 1 b).high 1)) (risen_other s 0 a 1 other)
    ∙ ap (λ c. contains s.risen 1 || (not c && contains (after_line (after_line s 0 a) 1 b).high 1)) (high_other s 0 a 1 other)
two_rises s a b (suc (suc level)) below high risen = absurd (omega arith)

pub settling_changes_alone : SettlingChangesAlone
unfolding after_settling pit.after_gate
settling_changes_alone s high risen =
    let keyboard : KeyboardState = after_latch_wire s.keyboard s.ppi in
    let timer : PitState = after_gate_wire s.pit s.ppi in
    let full : Line = from_bool (is_some keyboard.latch) in
    let pic : PicState = after_request_wires s.pic timer keyboard in
    record {
      nothing_else =
          ap (λ (k : KeyboardState). record s { keyboard = k; pit = timer; pic = pic }) (latch_alone (has_bit (lines_b s.ppi) 7) s.keyboard)
          ∙ ap (λ (c : PicState). record s { keyboard = record s.keyboard { latch = keyboard.latch }; pit = timer; pic = c })
          (requests_alone s.pic timer.counter_0.out full);
      latch = latch_by (has_bit (lines_b s.ppi) 7) s.keyboard;
      counter_2 = refl;
      other_lines = λ level from. ap (λ (lines : Levels). contains lines level) (high_after_requests s.pic timer keyboard)
          ∙ other_line s.pic.high (is_high timer.counter_0.out) (is_high full) level from;
      other_rises = λ level from.
          risen_other (after_line s.pic 0 timer.counter_0.out) 1 full level (above 1 level (omega arith))
          ∙ risen_other s.pic 0 timer.counter_0.out level (above 0 level (omega arith));
      rises = λ level below. two_rises s.pic timer.counter_0.out full level below high risen;
    }
