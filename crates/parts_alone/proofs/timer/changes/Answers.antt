use Rattle.std.proofs.Common.{◌≡◌, ◌+◌, ◌++◌, ◌∷◌, [], if◌then◌else◌, sym, ap, append-nil, ◌∙◌}
use Rattle.board_types.proofs.Iterate.{iterate_add, iterate_zero}
use Rattle.pit8253.specs.Pit.{PitState, after_tick, after_ticks}
use Rattle.parts_alone.specs.Timer.{changes, level_after}
use Rattle.parts_alone.proofs.Squares.{changes_more}
use Rattle.parts_alone.proofs.timer.changes.Goals as goal
use Rattle.parts_alone.proofs.timer.changes.Goals.{then-ne+in_ok-push, else-ne}

pub loop-tick-init : goal.loop-tick-init
loop-tick-init c =
    let none : c.args.pit.now ≡ after_ticks c.args.pit.now 0 = sym (iterate_zero after_tick c.args.pit.now) in
    record {
      pit = none;
      level = c.out-level.ensures ∙ ap (λ (p : PitState). p.counter_2.out) none;
      found = c.new-found.ensures.items;
    }

pub loop-tick-preserved : goal.loop-tick-preserved
loop-tick-preserved c =
    let tick = c.loop-tick.tick in
    let before = c.loop-tick.invariant in
    let pit : c.advance.new.self ≡ after_ticks c.args.pit.now (tick + 1) =
    c.advance.ensures ∙ ap (λ (p : PitState). after_ticks p 1) before.pit ∙ sym (iterate_add after_tick tick 1 c.args.pit.now) in
    let level : c.out-next.result ≡ level_after c.args.pit.now (tick + 1) = c.out-next.ensures ∙ ap (λ (p : PitState). p.counter_2.out) pit in
    let more = changes_more (level_after c.args.pit.now) tick c.loop-tick.level c.out-next.result c.ne.result before.level level c.ne.ensures in
    record {
      pit = pit;
      level = level;
      found = elim c.if-ne.branch [
        | then-ne+in_ok-push w ↦ ap (λ v. v.items) w.found-is ∙ w.in_ok-push.ensures.items
            ∙ ap (λ ticks. ticks ++ (tick + 1) ∷ []) before.found
            ∙ sym (more ∙ ap (λ d. changes (level_after c.args.pit.now) tick ++ (if d then (tick + 1) ∷ [] else [])) w.if-ne.true)
        | else-ne w ↦ ap (λ v. v.items) w.found-is ∙ before.found
            ∙ sym (more ∙ ap (λ d. changes (level_after c.args.pit.now) tick ++ (if d then (tick + 1) ∷ [] else [])) w.if-ne.false
            ∙ append-nil (changes (level_after c.args.pit.now) tick))
      ];
    }
