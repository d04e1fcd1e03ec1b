use Rattle.std.proofs.Common.{◌≡◌, false, true, ap, ◌∙◌}
use Rattle.std.specs.Option.{option_to_list}
use Rattle.probe_texts.specs.Told.{begun_seen, type_asked}
use Rattle.probe_texts.proofs.Hearing.{none_heard, on_ok_then, same_heard}
use Rattle.probe.proofs.Turns.{last_seen, no_last, none_begun, one_seen}
use Rattle.probe.proofs.telling.tell_begun.Goals as goal

pub returns-in_default-clause-told : goal.returns-in_default-clause-told
returns-in_default-clause-told g c = λ before entries events are ends heard.
    none_heard (g.L.Listener.has) _ events _ (ap (begun_seen c.args.asked) (none_begun entries (are ∙ ap option_to_list c.in_default.is))) heard

pub returns-then-not-type_asked-clause-told : goal.returns-then-not-type_asked-clause-told
returns-then-not-type_asked-clause-told g c = λ before entries events are ends heard.
    let no : type_asked c.args.asked c.in-Some.begun.entered ≡ false =
    (let is = c.type_asked.ensures in let never_asked = c.if-not-type_asked.true in cc) in
    none_heard (g.L.Listener.has) _ events _ (one_seen c.args.asked entries c.in-Some.begun false no (are ∙ ap option_to_list c.in-Some.is)) heard

pub returns-in-Some-last_entry-clause-told : goal.returns-in-Some-last_entry-clause-told
returns-in-Some-last_entry-clause-told g c =
    let asked : type_asked c.args.asked c.in-Some.begun.entered ≡ true =
    (let is = c.type_asked.ensures in let one = c.if-not-type_asked.false in cc) in
    on_ok_then c.hear.result (λ told before entries events are ends heard.
    same_heard (g.L.Listener.has) _ events _ _ (last_seen c.args.asked before entries c.in-Some.begun c.args.board.now.trail c.last_entry.result
    c.in-Some-last_entry.entry asked c.last_entry.ensures c.in-Some-last_entry.is (are ∙ ap option_to_list c.in-Some.is) ends) (told events heard))
    c.hear.ensures.heard

pub returns-in-None-clause-told : goal.returns-in-None-clause-told
returns-in-None-clause-told g c = λ before entries events are ends heard.
    no_last before entries c.in-Some.begun c.args.board.now.trail c.last_entry.result c.last_entry.ensures c.in-None.is
    (are ∙ ap option_to_list c.in-Some.is) ends _
