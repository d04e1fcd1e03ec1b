-- Settled wires are as the board draws them.
use Rattle.std.proofs.Common.{◌≡◌, ◌≢◌, ◌<◌, ℕ, Bool, true, false, if◌then◌else◌, length, slice_set, None, refl, ap, ◌∙◌, arith}
use Rattle.std.specs.Prelude.{is_some}
use Rattle.std.proofs.lemmas.List.{get_or-set_same, get_or-set_other, length-set}
use Rattle.board_types.specs.Bits.{has_bit}
use Rattle.board_types.specs.LineLevel.{from_bool, is_high}
use Rattle.board_types.specs.declared.line.Line.{Line}
use Rattle.board_types.specs.declared.line.Line.TheVariants.{Low, High}
use Rattle.keyboard.specs.Keyboard.{KeyboardState, after_clearing}
use Rattle.pic8259.specs.Levels.{Levels, contains}
use Rattle.pic8259.specs.Pic.{PicState, after_line}
use Rattle.pit8253.specs.Counter as counter
use Rattle.pit8253.specs.Pit as pit
use Rattle.pit8253.specs.Pit.{PitState}
use Rattle.ppi8255.specs.Ppi.{lines_b}
use Rattle.wiring.specs.Wires.{after_settling}
use Rattle.wiring.specs.EachWire.{after_latch_wire, after_gate_wire, after_request_wires}
use Rattle.wiring.specs.WiringLaws.{SettledAgree}

-- which lines are high, once a line has taken a level
pub high_after_line : (s : PicState) (level : ℕ) (line : Line) → (after_line s level line).high ≡ slice_set s.high level (is_high line)
unfolding after_line
high_after_line s level Low = refl
high_after_line s level High = refl

-- which lines are high, once the two lines that the board drives have taken their levels
pub high_after_requests : (pic : PicState) (timer : PitState) (keyboard : KeyboardState) → (after_request_wires pic timer keyboard).high
    ≡ slice_set (slice_set pic.high 0 (is_high timer.counter_0.out)) 1 (is_high (from_bool (is_some keyboard.latch)))
high_after_requests pic timer keyboard =
    high_after_line (after_line pic 0 timer.counter_0.out) 1 (from_bool (is_some keyboard.latch))
    ∙ ap (λ (high : Levels). slice_set high 1 (is_high (from_bool (is_some keyboard.latch)))) (high_after_line pic 0 timer.counter_0.out)

level_of_line : (b : Bool) → is_high (from_bool b) ≡ b
level_of_line true = refl
level_of_line false = refl

pub second_line : (high : Levels) (zeroth first : Bool) → length high ≡ 8 → contains (slice_set (slice_set high 0 zeroth) 1 first) 1 ≡ first
second_line high zeroth first eight =
    let size = length-set high 0 zeroth in get_or-set_same (slice_set high 0 zeroth) 1 first false (omega arith)

below : (n m : ℕ) → n < m → n ≢ m
below n m less same = omega arith

pub first_line : (high : Levels) (zeroth first : Bool) → length high ≡ 8 → contains (slice_set (slice_set high 0 zeroth) 1 first) 0 ≡ zeroth
first_line high zeroth first eight =
    get_or-set_other (slice_set high 0 zeroth) 1 0 first false (below 0 1 (omega arith)) ∙ get_or-set_same high 0 zeroth false (omega arith)

emptied_by : (b : Bool) (k : KeyboardState) → b ≡ true → (if b then after_clearing k else k).latch ≡ None
emptied_by b k is = ap (λ c. (if c then after_clearing k else k).latch) is

pub settled_agree : SettledAgree
unfolding after_settling pit.after_gate counter.after_gate
settled_agree s eight =
    let keyboard : KeyboardState = after_latch_wire s.keyboard s.ppi in
    let timer : PitState = after_gate_wire s.pit s.ppi in
    let is_full : Bool = is_some keyboard.latch in
    record {
      gate_2 = refl;
      ir0 = ap (λ (high : Levels). contains high 0) (high_after_requests s.pic timer keyboard)
          ∙ first_line s.pic.high (is_high timer.counter_0.out) (is_high (from_bool is_full)) eight;
      ir1 = ap (λ (high : Levels). contains high 1) (high_after_requests s.pic timer keyboard)
          ∙ second_line s.pic.high (is_high timer.counter_0.out) (is_high (from_bool is_full)) eight
          ∙ level_of_line is_full;
      emptied = emptied_by (has_bit (lines_b s.ppi) 7) s.keyboard;
    }
