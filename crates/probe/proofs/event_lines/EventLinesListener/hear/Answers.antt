use Rattle.std.proofs.Common.{◌≡◌, false, true, refl}
use Rattle.probe_texts.specs.Listed.{is_listed}
use Rattle.probe_texts.proofs.Hearing.{on_ok_then}
use Rattle.probe.proofs.Lines.{line_heard, line_unheard}
use Rattle.probe.proofs.event_lines.EventLinesListener.hear.Goals as goal

pub returns-then-not-is_listed-clause-heard : goal.returns-then-not-is_listed-clause-heard
returns-then-not-is_listed-clause-heard c = λ events so_far.
    let kinds = c.args.self.now.kinds.now in
    let no : is_listed kinds c.args.event.now ≡ false = (let is = c.is_listed.ensures in let unlisted = c.if-not-is_listed.true in cc) in
    line_unheard kinds c.args.event.now events _ _ no refl so_far

pub returns-clause-heard : goal.returns-clause-heard
returns-clause-heard c =
    let kinds = c.args.self.now.kinds.now in
    let so : is_listed kinds c.args.event.now ≡ true = (let is = c.is_listed.ensures in let listed = c.if-not-is_listed.false in cc) in
    on_ok_then c.push_event.result (λ told events so_far. line_heard kinds c.args.event.now events _ _ so told so_far) c.push_event.ensures
