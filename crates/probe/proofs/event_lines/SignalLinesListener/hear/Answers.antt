use Rattle.probe_texts.proofs.Hearing.{on_ok_then}
use Rattle.probe.proofs.Lines.{signal_heard}
use Rattle.probe.proofs.event_lines.SignalLinesListener.hear.Goals as goal

pub returns-clause-heard : goal.returns-clause-heard
returns-clause-heard c =
    on_ok_then c.push_signal.result (λ told events so_far. signal_heard c.args.event.now events _ _ told so_far) c.push_signal.ensures
