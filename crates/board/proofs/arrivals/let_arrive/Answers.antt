use Rattle.std.proofs.Common.{◌≡◌, ℕ, ◌+◌, ◌-◌, ◌<◌, ◌≤◌, ◌∙◌, List, [], sym, ap, subst, arith}
use Rattle.std.specs.Prelude.{◌⊎◌, All}
use Rattle.wiring.specs.Wires.{after_arrivals}
use Rattle.board_types.specs.declared.keys.StampedKey.{StampedKey}
use Rattle.board.specs.Arrivals.{HaveArrived}
use Rattle.board.specs.UneventfulClocks.{ComesAfter}
use Rattle.board_plain.specs.Plain.{codes_at}
use Rattle.board.specs.declared.arrivals.Arrived.{Arrived}
use Rattle.board.proofs.KeyOrder.{no_key_by}
use Rattle.board.proofs.KeyOrder.{have_later, next_of}
use Rattle.board_plain.proofs.Quiet.{none_comes}
use Rattle.board.proofs.arrivals.let_arrive.Goals as goal

-- no stamp is that of the clock
none : (a : Arrived) (clock : ℕ) (keys : List StampedKey) → 1 ≤ clock → HaveArrived a clock keys → ComesAfter clock a.next
    → All (λ k. (k.stamp ≤ clock - 1) ⊎ (clock - 1 + 1 < k.stamp)) keys
none a clock keys some have later =
    let whole : clock ≡ clock - 1 + 1 = omega (arith, some) in
    no_key_by (clock - 1) 1 keys a.next (next_of a (clock - 1) keys (subst (λ n. HaveArrived a n keys) whole have))
    (subst (λ n. ComesAfter n a.next) whole later)

pub returns-then-comes_after-clause-chips : goal.returns-then-comes_after-clause-chips
returns-then-comes_after-clause-chips c =
    let some = c.requires.some in
    let none_due = none c.args.arrived.now c.args.clock c.args.keys.now some c.requires.arrived (c.comes_after.ensures c.if-comes_after.true) in
    let no_codes : codes_at c.args.keys.now c.args.clock ≡ [] =
    ap (codes_at c.args.keys.now) (omega (arith, some)) ∙ none_comes c.args.keys.now (c.args.clock - 1) 1 0 (omega arith) none_due in
    ap (after_arrivals c.args.chips.now) (sym no_codes)

pub returns-then-comes_after-clause-arrived : goal.returns-then-comes_after-clause-arrived
returns-then-comes_after-clause-arrived c =
    let some = c.requires.some in
    let whole : c.args.clock ≡ c.args.clock - 1 + 1 = omega (arith, some) in
    have_later c.args.arrived.now (c.args.clock - 1) 1 c.args.clock c.args.keys.now
    (subst (λ n. HaveArrived c.args.arrived.now n c.args.keys.now) whole c.requires.arrived)
    (none c.args.arrived.now c.args.clock c.args.keys.now some c.requires.arrived (c.comes_after.ensures c.if-comes_after.true)) whole

pub returns-clause-arrived : goal.returns-clause-arrived
returns-clause-arrived c = c.so_far.ensures c.args.clock c.arrive_at-count.ensures.awaits
