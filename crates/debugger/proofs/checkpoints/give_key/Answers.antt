use Rattle.std.proofs.Common.{◌≡◌, ℕ, ◌+◌, ◌-◌, set, refl, subst, arith}
use Rattle.std.specs.Bool.{IsTrue}
use Rattle.debugger.proofs.Adding.{Adds, added_all, adds_less, adds_more, adds_none}
use Rattle.debugger.proofs.checkpoints.give_key.Goals as goal

pub loop-index-init : goal.loop-index-init
loop-index-init g c = adds_none c.args.key.now c.args.boards.now.items c.len-index.result (omega (arith, c.len-index.ensures, c.args.boards.now.ok.0))

pub loop-index-preserved-then-takes_key : goal.loop-index-preserved-then-takes_key
loop-index-preserved-then-takes_key g c =
    let key = c.args.key.now in
    let now = c.loop-index.boards.items in
    let taken : IsTrue c.takes_key.result = c.if-takes_key.true in
    let at : c.loop-index.index ≡ c.loop-index.index - 1 + 1 = omega (arith, c.loop-index-test.true) in
    adds_more key c.args.boards.now.items now (set now (c.loop-index.index - 1) c.takes_key.new.board)
    (c.loop-index.index - 1) c.index_mut.result.now c.takes_key.new.board c.index_mut.ensures.value (c.takes_key.ensures.early taken)
    (c.takes_key.ensures.key taken) refl (subst (λ (n : ℕ). Adds key c.args.boards.now.items n now) at c.loop-index.invariant)

pub loop-index-preserved : goal.loop-index-preserved
loop-index-preserved g c =
    let key = c.args.key.now in
    let now = c.loop-index.boards.items in
    let at : c.loop-index.index ≡ c.loop-index.index - 1 + 1 = omega (arith, c.loop-index-test.true) in
    adds_less key c.args.boards.now.items now (set now (c.loop-index.index - 1) c.takes_key.new.board) c.remove.new.self.items (c.loop-index.index - 1)
    c.takes_key.new.board refl c.remove.ensures.by_index.2 (subst (λ (n : ℕ). Adds key c.args.boards.now.items n now) at c.loop-index.invariant)

pub returns-clause-have : goal.returns-clause-have
returns-clause-have g c =
    added_all c.args.key.now c.args.boards.now.items c.loop-index.boards.items c.loop-index.index
    (omega (arith, c.loop-index-test.false)) c.loop-index.invariant
