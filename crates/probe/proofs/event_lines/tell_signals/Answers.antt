use Rattle.std.proofs.Common.{◌++◌, ◌∙◌}
use Rattle.std.specs.Prelude.{codes}
use Rattle.std.specs.Fmt.{decimal}
use Rattle.debugger_meaning.specs.Stands.{SessionState}
use Rattle.probe_texts.specs.Signals.{signals_text}
use Rattle.probe.proofs.Lines.{if_ok_then, no_signals}
use Rattle.probe.proofs.Made.{shows_made}
use Rattle.probe.proofs.event_lines.tell_signals.Goals as goal

pub make-requires : goal.make-requires
make-requires c = c.new.ensures.bytes ∙ no_signals c.args.session.now.board.plain

pub returns : goal.returns
unfolding signals_text
returns c =
    let s : SessionState = c.args.session.now in
    let t : SessionState = c.make.new.session in
    let made = c.in_ok-end.ensures.made in
    let end = made.0.end_is in
    shows_made c.args.count c.in_ok-end.end s t (signals_text s.board.plain c.args.count) c.shown.result made.0
    (c.shown.ensures (signals_text s.board.plain c.args.count) (if_ok_then c.with_clock.result (λ whole is.
    is ∙ (λ i. (c.as_str.ensures.value ∙ made.1) i
    ++ (codes "clock " ++ (decimal (end i) ++ codes "\n")))) c.with_clock.ensures))
