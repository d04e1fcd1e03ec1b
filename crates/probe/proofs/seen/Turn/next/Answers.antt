use Rattle.std.proofs.Common.{◌≡◌, ◌≤◌, length, refl, ap, sym, ◌∙◌, subst, arith, Option, Some}
use Rattle.board_plain.specs.Plain.{Plain}
use Rattle.keyboard.specs.Keyboard.{KeyboardState}
use Rattle.probe.specs.declared.seen.Turn.{Turn}
use Rattle.probe.specs.Seen.{levels_seen, next_turn, waiting_seen}
use Rattle.probe_texts.specs.declared.telling.Levels.{Levels}
use Rattle.probe.proofs.Turns.{levels_not_asked, next_is, waiting_not_asked}
use Rattle.probe.proofs.seen.Turn.next.Goals as goal
use Rattle.probe.proofs.seen.Turn.next.Goals.{then-self, else-self}

-- a turn whose wires have been looked at
abbrev wired : Turn → Option Levels → Turn
wired turn levels = record {
  asked = turn.asked;
  before = record { clock = turn.before.clock; state = turn.before.state; waiting = turn.before.waiting; levels = turn.after.levels };
  begun = turn.begun;
  after = record { clock = turn.after.clock; state = turn.after.state; waiting = turn.after.waiting; levels = levels };
}

pub returns-then-self-2-clause-turn : goal.returns-then-self-2-clause-turn
returns-then-self-2-clause-turn c =
    let old : Turn = c.args.self.now in
    let b : Plain = c.args.board.now.plain in
    let clock = c.get-self.ensures.value ∙ c.clock.ensures in
    elim c.if-self.branch [
      | then-self w ↦
          let asked = ap (λ (t : Turn). t.asked.wires) (sym w.self-is) ∙ c.if-self-2.true in
          subst (λ (m : Turn). wired m (Some c.levels_of.result) ≡ next_turn old c.args.begun b) (sym w.self-is)
          (next_is old c.args.begun b c.get-self.result c.state-self.result old.after.waiting w.waiting_of-self.result old.after.levels
          (Some c.levels_of.result)
          clock c.state-self.ensures refl
          (w.waiting_of-self.ensures.count ∙ ap (λ (k : KeyboardState). length k.waiting) w.keyboard.ensures ∙ ap (λ k. waiting_seen k b) (sym w.if-self.true))
          refl (ap Some c.levels_of.ensures ∙ ap (λ k. levels_seen k b) (sym asked)))
      | else-self w ↦
          let asked = ap (λ (t : Turn). t.asked.wires) (sym w.self-is) ∙ c.if-self-2.true in
          let was = waiting_not_asked old.asked old.before c.requires.0 b c.requires.2 w.if-self.false in
          let is = waiting_not_asked old.asked old.after c.requires.1 b c.requires.3 w.if-self.false in
          subst (λ (m : Turn). wired m (Some c.levels_of.result) ≡ next_turn old c.args.begun b) (sym w.self-is)
          (next_is old c.args.begun b c.get-self.result c.state-self.result old.before.waiting old.after.waiting old.after.levels (Some c.levels_of.result)
          clock c.state-self.ensures (was ∙ sym is) is refl (ap Some c.levels_of.ensures ∙ ap (λ k. levels_seen k b) (sym asked)))
    ]

pub returns-then-self-2-clause-room : goal.returns-then-self-2-clause-room
returns-then-self-2-clause-room c =
    elim c.if-self.branch [
      | then-self w ↦ subst (λ (m : Turn). m.after.waiting ≤ 16) (sym w.self-is) w.waiting_of-self.ensures.few
      | else-self w ↦
          let none = waiting_not_asked c.args.self.now.asked c.args.self.now.after c.requires.1 c.requires.1 c.requires.3 w.if-self.false
          ∙ ap (λ k. waiting_seen k c.requires.1) w.if-self.false in
          subst (λ (m : Turn). m.after.waiting ≤ 16) (sym w.self-is) (omega (arith, none))
    ]

pub returns-else-self-2-clause-turn : goal.returns-else-self-2-clause-turn
returns-else-self-2-clause-turn c =
    let old : Turn = c.args.self.now in
    let b : Plain = c.args.board.now.plain in
    let clock = c.get-self.ensures.value ∙ c.clock.ensures in
    elim c.if-self.branch [
      | then-self w ↦
          let is_not = ap (λ (t : Turn). t.asked.wires) (sym w.self-is) ∙ c.if-self-2.false in
          let was = levels_not_asked old.asked old.before c.requires.0 b c.requires.2 is_not in
          let is = levels_not_asked old.asked old.after c.requires.1 b c.requires.3 is_not in
          subst (λ (m : Turn). m ≡ next_turn old c.args.begun b) (sym w.self-is)
          (next_is old c.args.begun b c.get-self.result c.state-self.result old.after.waiting w.waiting_of-self.result old.before.levels old.after.levels
          clock c.state-self.ensures refl
          (w.waiting_of-self.ensures.count ∙ ap (λ (k : KeyboardState). length k.waiting) w.keyboard.ensures ∙ ap (λ k. waiting_seen k b) (sym w.if-self.true))
          (was ∙ sym is) is)
      | else-self w ↦
          let is_not = ap (λ (t : Turn). t.asked.wires) (sym w.self-is) ∙ c.if-self-2.false in
          let left = levels_not_asked old.asked old.before c.requires.0 b c.requires.2 is_not in
          let got = levels_not_asked old.asked old.after c.requires.1 b c.requires.3 is_not in
          let was = waiting_not_asked old.asked old.before c.requires.0 b c.requires.2 w.if-self.false in
          let is = waiting_not_asked old.asked old.after c.requires.1 b c.requires.3 w.if-self.false in
          subst (λ (m : Turn). m ≡ next_turn old c.args.begun b) (sym w.self-is)
          (next_is old c.args.begun b c.get-self.result c.state-self.result old.before.waiting old.after.waiting old.before.levels old.after.levels
          clock c.state-self.ensures (was ∙ sym is) is (left ∙ sym got) got)
    ]

pub returns-else-self-2-clause-room : goal.returns-else-self-2-clause-room
returns-else-self-2-clause-room c =
    elim c.if-self.branch [
      | then-self w ↦ subst (λ (m : Turn). m.after.waiting ≤ 16) (sym w.self-is) w.waiting_of-self.ensures.few
      | else-self w ↦
          let none = waiting_not_asked c.args.self.now.asked c.args.self.now.after c.requires.1 c.requires.1 c.requires.3 w.if-self.false
          ∙ ap (λ k. waiting_seen k c.requires.1) w.if-self.false in
          subst (λ (m : Turn). m.after.waiting ≤ 16) (sym w.self-is) (omega (arith, none))
    ]
