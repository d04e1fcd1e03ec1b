use Rattle.std.proofs.Common.{◌≡◌, ◌++◌, ap, sym, ◌∙◌}
use Rattle.std.specs.String.{string_bytes}
use Rattle.events.specs.Events.{events_in}
use Rattle.probe.specs.Seen.{asked_in}
use Rattle.probe_texts.specs.Asked.{asked_with, nothing_asked}
use Rattle.probe_texts.specs.Listed.{listed_lines}
use Rattle.probe_texts.proofs.Hearing.{on_ok_then}
use Rattle.probe.proofs.Lines.{lines_on}
use Rattle.probe.proofs.event_lines.EventLinesVisitorAccesses.see.Goals as goal

pub returns-clause-saw : goal.returns-clause-saw
returns-clause-saw c =
    let kinds = c.tell_turn.new.listener.kinds.now in
    let asked : c.args.turn.now.asked ≡ asked_with nothing_asked kinds =
    c.requires.asked ∙ ap (asked_with nothing_asked) (sym c.tell_turn.ensures.manner) in
    on_ok_then c.tell_turn.result (λ told s n old after noted so_far.
    lines_on kinds s old.plain n after.made.one.passed (string_bytes c.tell_turn.new.listener.text) after.plain
    (told old (events_in s n) after.made (λ all. c.as_slice.ensures.value ∙ noted) so_far
    ∙ ap (λ a. listed_lines kinds (events_in s n ++ asked_in a old.plain after.made.one.passed)) asked)) c.tell_turn.ensures.told
