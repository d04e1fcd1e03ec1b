use Rattle.pic8259.specs.AskingLevels.{is_pending}
use Rattle.std.proofs.Common.{◌≡◌, ◌+◌, ◌<◌, true, false, not, ◌&&◌, ◌||◌, length, take, find, slice_index_or, sym, ap, ◌∙◌, arith}
use Rattle.std.proofs.Math.Bool.{and-false}
use Rattle.std.specs.List.{list_any}
use Rattle.pic8259.specs.Pic.{blocks, may_be_taken}
use Rattle.pic8259.proofs.Walk.{none_more, found_next, may_be_taken_at, blocked_more}
use Rattle.pic8259.proofs.controller.Pic.first_to_take.Goals as goal
use Rattle.pic8259.proofs.controller.Pic.first_to_take.Goals.{else-not-is_blocked-via-then-not-is_blocked+else-is_pending}
use Rattle.pic8259.proofs.controller.Pic.first_to_take.Goals.{else-not-is_blocked-via-else-not-is_blocked}

pub returns-then-is_pending-clause-level : goal.returns-then-is_pending-clause-level
returns-then-is_pending-clause-level c =
    let s = c.args.self.now in
    let xs = c.order-level-items.result in
    let i = c.loop-level.level-index in
    let within : i < length xs = omega arith in
    let is_blocked = c.loop-level.is_blocked || c.blocks-is_blocked.result in
    let blocked : is_blocked ≡ list_any (blocks s) (take (i + 1) xs) =
    blocked_more s xs i _ _ within c.loop-level.invariant.blocked c.blocks-is_blocked.ensures in
    let may : may_be_taken s (slice_index_or xs i 0) ≡ (is_pending s (slice_index_or xs i 0) && not is_blocked) =
    may_be_taken_at s xs i is_blocked c.order-level-items.ensures.order (c.order-level-items.ensures.places i c.loop-level-test.true) blocked in
    let pending : is_pending s (slice_index_or xs i 0) ≡ true = sym c.is_pending.ensures ∙ c.if-is_pending.true in
    let taken : may_be_taken s (slice_index_or xs i 0) ≡ true =
    may ∙ ap (λ b. b && not is_blocked) pending ∙ ap (λ b. not b) c.if-not-is_blocked.true in
    sym (found_next (may_be_taken s) xs i 0 within c.loop-level.invariant.none_yet taken)
    ∙ ap (find (may_be_taken s)) c.order-level-items.ensures.order

pub loop-level-preserved : goal.loop-level-preserved
loop-level-preserved c =
    let s = c.args.self.now in
    let xs = c.order-level-items.result in
    let i = c.loop-level.level-index in
    let within : i < length xs = omega arith in
    let is_blocked = c.loop-level.is_blocked || c.blocks-is_blocked.result in
    let blocked : is_blocked ≡ list_any (blocks s) (take (i + 1) xs) =
    blocked_more s xs i _ _ within c.loop-level.invariant.blocked c.blocks-is_blocked.ensures in
    let may : may_be_taken s (slice_index_or xs i 0) ≡ (is_pending s (slice_index_or xs i 0) && not is_blocked) =
    may_be_taken_at s xs i is_blocked c.order-level-items.ensures.order (c.order-level-items.ensures.places i c.loop-level-test.true) blocked in
    let passed : (is_pending s (slice_index_or xs i 0) && not is_blocked) ≡ false =
    elim c.else-not-is_blocked.branch [
      | else-not-is_blocked-via-then-not-is_blocked+else-is_pending w ↦
          ap (λ b. b && not is_blocked) (sym w.is_pending.ensures ∙ w.if-is_pending.false)
      | else-not-is_blocked-via-else-not-is_blocked w ↦
          ap (λ b. is_pending s (slice_index_or xs i 0) && not b) w.if-not-is_blocked.false ∙ and-false (is_pending s (slice_index_or xs i 0))
    ]
    in
    record {
      none_yet = none_more (may_be_taken s) xs i 0 within c.loop-level.invariant.none_yet (may ∙ passed);
      blocked = blocked;
    }
