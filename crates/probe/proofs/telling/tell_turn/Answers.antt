use Rattle.std.proofs.Common.{◌≡◌, ◌+◌}
use Rattle.board_plain.specs.Trail.{trail_in}
use Rattle.probe_texts.proofs.Hearing.{five_heard, on_ok_then, same_heard}
use Rattle.probe.proofs.Counting.{number_of}
use Rattle.probe.proofs.Turns.{turn_is}
use Rattle.probe.proofs.telling.tell_turn.Goals as goal

pub returns-clause-told : goal.returns-clause-told
returns-clause-told g c =
    let turn = c.args.turn.now in
    let here : c.unwrap-clock.result ≡ turn.before.clock =
    number_of c.new.result c.unwrap-clock.result turn.before.clock _ c.new.ensures c.unwrap-clock.ensures in
    let next : c.unwrap-next.result ≡ turn.before.clock + 1 =
    number_of c.new-2.result c.unwrap-next.result (turn.before.clock + 1) _ c.new-2.ensures c.unwrap-next.ensures in
    on_ok_then c.tell_wires.result (λ told old events made noted heard.
    same_heard (g.L.Listener.has) _ events _ _
    (turn_is turn old c.args.board.now c.args.accesses.now c.unwrap-clock.result c.unwrap-next.result made noted here next)
    (five_heard (g.L.Listener.has) _ events _ _ _ _ _ (told _
    (c.in_ok-tell_keys.ensures.told _ (c.in_ok-tell_state.ensures.told _ (c.in_ok-tell_accesses.ensures.told _
    (c.in_ok-tell_begun.ensures.told old.trail (trail_in old.plain made.one.passed) events made.one.begins made.one.ran.trail heard)))))))
    c.tell_wires.ensures.told
