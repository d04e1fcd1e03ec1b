use Rattle.std.proofs.Common.{◌++◌, ap, ◌∙◌}
use Rattle.std.specs.Prelude.{codes}
use Rattle.std.specs.Fmt.{decimal}
use Rattle.debugger_meaning.specs.Stands.{SessionState}
use Rattle.events.specs.Events.{events_in}
use Rattle.probe_texts.specs.Listed.{events_text, listed_lines}
use Rattle.probe.proofs.Lines.{if_ok_then, no_lines}
use Rattle.probe.proofs.Made.{shows_made}
use Rattle.probe.proofs.event_lines.tell_events.Goals as goal

pub make-requires : goal.make-requires
make-requires c = c.new.ensures.bytes ∙ no_lines c.args.kinds.now c.args.session.now.board.plain

pub returns : goal.returns
unfolding events_text
returns c =
    let s : SessionState = c.args.session.now in
    let t : SessionState = c.make.new.session in
    let made = c.in_ok-end.ensures.made in
    let end = made.0.end_is in
    shows_made c.args.count c.in_ok-end.end s t (events_text c.args.kinds.now s.board.plain c.args.count) c.shown.result made.0
    (c.shown.ensures (events_text c.args.kinds.now s.board.plain c.args.count) (if_ok_then c.with_clock.result (λ whole is.
    is ∙ (λ i. (c.as_str.ensures.value ∙ made.1 ∙ ap (λ ks. listed_lines ks (events_in s.board.plain c.args.count)) c.in_ok-end.ensures.manner) i
    ++ (codes "clock " ++ (decimal (end i) ++ codes "\n")))) c.with_clock.ensures))
