-- No load is due, OUT turns at the load, or after it.
use Rattle.std.proofs.Common.{◌≡◌, ◌∙◌, sym, ap, subst, true, false}
use Rattle.pit8253.specs.Counter.{after_due_load}
use Rattle.pit8253.specs.Ahead.{until_turn, differ}
use Rattle.pit8253.proofs.Ahead.{Sound, DueLoad, due_loaded}
use Rattle.pit8253.proofs.Until.{Turns, turns_first, turns_at_load, turns_later}
use Rattle.pit8253.proofs.counter.CounterTimed.until_change.Goals as goal

pub returns-then-not-self-clause-turn : goal.returns-then-not-self-clause-turn
returns-then-not-self-clause-turn c =
    let sound : Sound c.args.self.now = subst Sound c.self.view_is (record { newest = c.self.invariant.0; count = c.self.invariant.1 }) in
    let due : c.args.self.now.load_due ≡ false = ap (λ s. s.load_due) (sym c.self.view_is) ∙ c.if-not-self.true in
    subst (λ turn. Turns c.args.self.now turn) (sym c.until_turn.ensures.turn) (turns_first c.args.self.now sound due)

pub returns-then-differ-clause-turn : goal.returns-then-differ-clause-turn
returns-then-differ-clause-turn c =
    let due : c.args.self.now.load_due ≡ true = ap (λ s. s.load_due) (sym c.self.view_is) ∙ c.if-not-self.false in
    let before : c.self.inside.out ≡ c.args.self.now.out = ap (λ s. s.out) c.self.view_is in
    let after : c.loaded.inside.out ≡ (after_due_load c.args.self.now c.args.self.now.mode).out =
    ap (λ s. s.out) (c.loaded.view_is ∙ c.load_due_count.ensures ∙ ap (λ s. after_due_load s s.mode) c.self.view_is) in
    turns_at_load c.args.self.now due
    (ap (λ o. differ o (after_due_load c.args.self.now c.args.self.now.mode).out) (sym before) ∙ ap (λ o. differ c.self.inside.out o) (sym after)
    ∙ sym c.differ.ensures ∙ c.if-differ.true)

pub returns-clause-turn : goal.returns-clause-turn
returns-clause-turn c =
    let sound : Sound c.args.self.now = subst Sound c.self.view_is (record { newest = c.self.invariant.0; count = c.self.invariant.1 }) in
    let due : c.args.self.now.load_due ≡ true = ap (λ s. s.load_due) (sym c.self.view_is) ∙ c.if-not-self.false in
    let before : c.self.inside.out ≡ c.args.self.now.out = ap (λ s. s.out) c.self.view_is in
    let load : c.load_due_count.new.self ≡ after_due_load c.args.self.now c.args.self.now.mode =
    c.load_due_count.ensures ∙ ap (λ s. after_due_load s s.mode) c.self.view_is in
    let after : c.loaded.inside.out ≡ (after_due_load c.args.self.now c.args.self.now.mode).out = ap (λ s. s.out) (c.loaded.view_is ∙ load) in
    let same : differ c.args.self.now.out (after_due_load c.args.self.now c.args.self.now.mode).out ≡ false =
    ap (λ o. differ o (after_due_load c.args.self.now c.args.self.now.mode).out) (sym before) ∙ ap (λ o. differ c.self.inside.out o) (sym after)
    ∙ sym c.differ.ensures ∙ c.if-differ.false in
    let loads : DueLoad c.args.self.now (after_due_load c.args.self.now c.args.self.now.mode) = due_loaded c.args.self.now sound c.args.self.now.mode in
    let turn : c.until_turn-2.result ≡ until_turn (after_due_load c.args.self.now c.args.self.now.mode) = c.until_turn-2.ensures.turn ∙ ap until_turn load in
    subst (λ t. Turns c.args.self.now t) (sym c.a_tick_later.ensures.later)
    (turns_later c.args.self.now c.until_turn-2.result due same
    (subst (λ t. Turns (after_due_load c.args.self.now c.args.self.now.mode) t) (sym turn)
    (turns_first (after_due_load c.args.self.now c.args.self.now.mode) loads.sound loads.none)))
