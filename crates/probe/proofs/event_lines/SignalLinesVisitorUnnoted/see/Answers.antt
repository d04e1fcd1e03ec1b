use Rattle.std.proofs.Common.{◌≡◌, ◌++◌, false, true, ap, sym, ◌∙◌}
use Rattle.std.specs.List.{flat_map}
use Rattle.std.specs.String.{string_bytes}
use Rattle.events.specs.Events.{events_in}
use Rattle.probe.specs.Seen.{asked_in}
use Rattle.probe_texts.specs.declared.asked.Asked.{Asked}
use Rattle.probe_texts.specs.Signals.{signal_line}
use Rattle.probe_texts.proofs.Hearing.{on_ok_then}
use Rattle.probe.proofs.Lines.{signals_on}
use Rattle.probe.proofs.event_lines.SignalLinesVisitorUnnoted.see.Goals as goal

pub returns-clause-saw : goal.returns-clause-saw
returns-clause-saw c =
    on_ok_then c.tell_turn.result (λ told s n old after noted so_far.
    signals_on s old.plain n after.made.one.passed (string_bytes c.tell_turn.new.listener.text) after.plain
    (told old (events_in s n) after.made
    (λ all. let never : false ≡ true = sym (ap (λ (a : Asked). a.accesses) c.requires.asked) ∙ all in absurd (cc)) so_far
    ∙ ap (λ a. flat_map signal_line (events_in s n ++ asked_in a old.plain after.made.one.passed)) c.requires.asked)) c.tell_turn.ensures.told
