-- A LOOP runs as often as CX says.
use Rattle.std.proofs.Common.{◌≡◌, ℕ, zero, suc, ◌+◌, ◌-◌, ◌%◌, ◌<◌, ◌≤◌, ◌==◌, Bool, true, false, not, nat_lt, refl, ap, ◌∙◌, arith}
use Rattle.std.proofs.lemmas.Bool.Decides.{nat_tests}
use Rattle.board_types.specs.Address.{offset_after}
use Rattle.board_types.specs.Iterate.{iterate}
use Rattle.isa.specs.declared.operation.Looping.TheVariants.{Loop}
use Rattle.isa.specs.declared.form.Instr.{Instr}
use Rattle.execute_machine.specs.RegisterFile.{Registers}
use Rattle.execute_control.specs.ControlMeaning.{after_looping, is_loop_taken, lowered_cx, with_target, relative_target}
use Rattle.execute_control.specs.ControlLaws.{loop_rounds, after_round, LoopRunsCxTimes}

-- a jump leaves CX, taken or not
cx_stays : (r : Registers) (taken : Bool) (target : ℕ) → (with_target r taken target).cx ≡ r.cx
cx_stays r true target = refl
cx_stays r false target = refl

cx_after_loop : (r : Registers) (i : Instr) → (after_looping r Loop i).cx ≡ offset_after r.cx 65535
unfolding after_looping
cx_after_loop r i = cx_stays (record r { cx = lowered_cx r }) (is_loop_taken r Loop) (relative_target r i)

-- after k rounds CX is k lower
lowered_once_more : (cx k : ℕ) → k < 65536 → ((cx + 65536 - k) % 65536 + 65535) % 65536 ≡ (cx + 65536 - suc k) % 65536
lowered_once_more cx k below = omega arith

cx_after_rounds : (body : Registers → Registers) → ((r : Registers) → (body r).cx ≡ r.cx) → (i : Instr) (r : Registers) → r.cx < 65536 → (k : ℕ) → k ≤ 65536
    → (iterate (after_round body i) k r).cx ≡ (r.cx + 65536 - k) % 65536
unfolding iterate
cx_after_rounds body keeps i r small zero within = omega arith
cx_after_rounds body keeps i r small (suc k) within =
    cx_after_loop (body (iterate (after_round body i) k r)) i
    ∙ ap (λ cx. offset_after cx 65535) (keeps (iterate (after_round body i) k r) ∙ cx_after_rounds body keeps i r small k (omega arith))
    ∙ lowered_once_more r.cx k (omega arith)

-- what a LOOP leaves in CX is the number of rounds to come
rounds_left : (cx k rounds : ℕ) → cx < 65536 → (cx ≡ 0 → rounds ≡ 65536) → (0 < cx → rounds ≡ cx) → k < rounds
    → ((cx + 65536 - k) % 65536 + 65535) % 65536 + (k + 1) ≡ rounds
rounds_left zero k rounds small none some below = let e : rounds ≡ 65536 = none refl in omega arith
rounds_left (suc n) k rounds small none some below = let e : rounds ≡ suc n = some (omega arith) in omega arith

jump_test : (left k rounds : ℕ) → left + (k + 1) ≡ rounds → not (left == 0) ≡ nat_lt (k + 1) rounds
jump_test left k rounds sum = grind (arith, nat_tests)

rounds_of_none : (cx : ℕ) → cx ≡ 0 → loop_rounds cx ≡ 65536
rounds_of_none cx none = ap loop_rounds none

rounds_of_some : (cx : ℕ) → 0 < cx → loop_rounds cx ≡ cx
rounds_of_some cx some = grind (arith, nat_tests)

rounds_bound : (cx : ℕ) → cx < 65536 → loop_rounds cx ≤ 65536
rounds_bound cx small = grind (arith, nat_tests)

last_round : (cx rounds : ℕ) → cx < 65536 → (cx ≡ 0 → rounds ≡ 65536) → (0 < cx → rounds ≡ cx) → (cx + 65536 - rounds) % 65536 ≡ 0
last_round zero rounds small none some = let e : rounds ≡ 65536 = none refl in omega arith
last_round (suc n) rounds small none some = let e : rounds ≡ suc n = some (omega arith) in omega arith

pub loop_runs : LoopRunsCxTimes
loop_runs body keeps i r small =
    let bound : loop_rounds r.cx ≤ 65536 = rounds_bound r.cx small in
    record {
      jumps = λ k below.
          let lowered : offset_after (body (iterate (after_round body i) k r)).cx 65535 ≡ ((r.cx + 65536 - k) % 65536 + 65535) % 65536 =
          ap (λ cx. offset_after cx 65535)
          (keeps (iterate (after_round body i) k r) ∙ cx_after_rounds body keeps i r small k (omega arith))
          in
          ap (λ left. not (left == 0)) lowered
          ∙ jump_test _ k (loop_rounds r.cx) (rounds_left r.cx k (loop_rounds r.cx) small (rounds_of_none r.cx) (rounds_of_some r.cx) below);
      ends =
          cx_after_rounds body keeps i r small (loop_rounds r.cx) bound
          ∙ last_round r.cx (loop_rounds r.cx) small (rounds_of_none r.cx) (rounds_of_some r.cx);
    }
