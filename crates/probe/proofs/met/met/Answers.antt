use Rattle.std.proofs.Common.{[], List, ap, sym, ◌∙◌}
use Rattle.probe.specs.declared.watched.Watched.{Watched}
use Rattle.probe.specs.Met.{earlier, heard}
use Rattle.probe.specs.Seen.{asked_in}
use Rattle.probe.proofs.Hearing.{all_met, none_heard}
use Rattle.probe.proofs.Lines.{never_fails}
use Rattle.probe.proofs.met.met.Goals as goal

pub returns : goal.returns
returns c = λ old made noted.
    let events = asked_in c.args.turn.now.asked old.plain made.one.passed in
    let number =
    never_fails c.tell_turn-told.result _ c.tell_turn-told.ensures.fault c.tell_turn-told.ensures.told old [] made (λ all. noted)
    (none_heard c.args.watches.now)
    ∙ ap (λ (ws : List Watched). heard ws events) c.tell_turn-told.ensures.manner in
    c.earlier.ensures ∙ (λ i. earlier (number i) (c.met_here.ensures i)) ∙ sym (all_met c.args.watches.now events c.args.accesses.now c.args.board.now.plain)
