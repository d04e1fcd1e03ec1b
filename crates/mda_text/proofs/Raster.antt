-- The raster after many clocks.
use Rattle.std.proofs.Common.{◌≡◌, ℕ, zero, suc, ◌+◌, ◌-◌, ◌%◌, ◌<◌, ◌≤◌, Bool, true, false, if◌then◌else◌, nat_le, refl, sym, ap, ◌∙◌, arith}
use Rattle.std.proofs.lemmas.Bool.Decides.{nat_tests}
use Rattle.board_types.specs.Bits.{has_bit}
use Rattle.board_types.specs.Iterate.{iterate}
use Rattle.board_types.specs.LineLevel.{from_bool}
use Rattle.board_types.specs.Timed.{TurnsFirst}
use Rattle.board_types.specs.declared.line.Line.{Line}
use Rattle.board_types.specs.declared.line.Line.TheVariants.{Low, High}
use Rattle.board_types.proofs.Iterate.{iterate_zero, iterate_more}
use Rattle.mda_text.specs.Mda.{MdaState, after_clock, after_clocks, retrace}

with_raster : (m : MdaState) (r : ℕ) → r ≡ m.raster → record m { raster = r } ≡ m
with_raster m r same = ap (λ k. record m { raster = k }) same

pub clocks_in_closed_form : (m : MdaState) (n : ℕ) → m.raster < 259 → after_clocks m n ≡ record m { raster = (m.raster + n) % 259 }
clocks_in_closed_form m zero within =
    iterate_zero after_clock m ∙ sym (with_raster m ((m.raster + 0) % 259) (omega arith))
clocks_in_closed_form m (suc n) within =
    ap (λ k. iterate after_clock k m) (omega arith) ∙ iterate_more after_clock n m ∙ ap after_clock (clocks_in_closed_form m n within)
    ∙ ap (λ r. record m { raster = r }) (omega arith)

-- the raster after many clocks, if clocks are counted on past the raster's end
pub clocks_are_counted : (m : MdaState) (beam n : ℕ) → m.raster ≡ beam % 259 → after_clocks m n ≡ record m { raster = (beam + n) % 259 }
clocks_are_counted m beam n is =
    clocks_in_closed_form m n (omega arith) ∙ ap (λ r. record m { raster = r }) (omega arith)

pub clocks_come_round : (m : MdaState) (beam n : ℕ) → m.raster ≡ beam % 259 → after_clocks m n ≡ record m { raster = (beam % 259 + n % 259) % 259 }
clocks_come_round m beam n is =
    clocks_in_closed_form m n (omega arith) ∙ ap (λ r. record m { raster = r }) (omega arith)

-- clocks move the beam and nothing else
pub clocks_move_beam : (m : MdaState) (n : ℕ) → after_clocks m n ≡ record m { raster = (after_clocks m n).raster }
clocks_move_beam m zero =
    let none : after_clocks m 0 ≡ m = iterate_zero after_clock m in
    none ∙ sym (with_raster m (after_clocks m 0).raster (ap (λ s. s.raster) none))
clocks_move_beam m (suc n) =
    let next : after_clocks m (suc n) ≡ after_clock (after_clocks m n) = ap (λ k. iterate after_clock k m) (omega arith) ∙ iterate_more after_clock n m in
    next ∙ ap after_clock (clocks_move_beam m n) ∙ sym (ap (λ r. record m { raster = r }) (ap (λ s. s.raster) next))

-- where the beam stands, from any count
pub raster_after : (m : MdaState) (n : ℕ) → (after_clocks m n).raster % 259 ≡ (m.raster + n) % 259
raster_after m zero = ap (λ s. s.raster % 259) (iterate_zero after_clock m) ∙ omega arith
raster_after m (suc n) =
    let next : after_clocks m (suc n) ≡ after_clock (after_clocks m n) = ap (λ k. iterate after_clock k m) (omega arith) ∙ iterate_more after_clock n m in
    let before = raster_after m n in
    ap (λ s. s.raster % 259) next ∙ omega arith

-- the level of the status port's bit 0, and how long it stays

level : ℕ → Line
level r = if nat_le 219 r then High else Low

is_high_at : (r : ℕ) → 219 ≤ r → level r ≡ High
unfolding level
is_high_at r high = grind (arith, nat_tests)

is_low_at : (r : ℕ) → r < 219 → level r ≡ Low
unfolding level
is_low_at r low = grind (arith, nat_tests)

retrace_is : (m : MdaState) → retrace m ≡ level (m.raster % 259)
unfolding level
retrace_is m = bit (nat_le 219 (m.raster % 259))
  where
    bit : (back : Bool) → from_bool (has_bit (if back then 0xF1 else 0xF0) 0) ≡ (if back then High else Low)
    bit true = refl
    bit false = refl

retrace_after : (m : MdaState) (n : ℕ) → retrace (after_clocks m n) ≡ level ((m.raster + n) % 259)
retrace_after m n = retrace_is (after_clocks m n) ∙ ap level (raster_after m n)

pub turns_high : (m : MdaState) (n : ℕ) → m.raster < 219 → n ≡ 219 - m.raster → TurnsFirst after_clocks retrace m n
turns_high m n low is =
    let now : retrace m ≡ Low = retrace_is m ∙ is_low_at (m.raster % 259) (omega arith) in
    record {
      some = omega arith;
      before = λ k soon. retrace_after m k ∙ is_low_at ((m.raster + k) % 259) (omega arith) ∙ sym now;
      turns = λ same.
          let there : retrace (after_clocks m n) ≡ High = retrace_after m n ∙ is_high_at ((m.raster + n) % 259) (omega arith) in
          cc;
    }

pub turns_low : (m : MdaState) (n : ℕ) → 219 ≤ m.raster → m.raster < 259 → n ≡ 259 - m.raster → TurnsFirst after_clocks retrace m n
turns_low m n high within is =
    let now : retrace m ≡ High = retrace_is m ∙ is_high_at (m.raster % 259) (omega arith) in
    record {
      some = omega arith;
      before = λ k soon. retrace_after m k ∙ is_high_at ((m.raster + k) % 259) (omega arith) ∙ sym now;
      turns = λ same.
          let there : retrace (after_clocks m n) ≡ Low = retrace_after m n ∙ is_low_at ((m.raster + n) % 259) (omega arith) in
          cc;
    }
