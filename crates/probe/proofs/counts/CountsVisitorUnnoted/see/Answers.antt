use Rattle.probe.proofs.Counting.{begins_after, more_counted}
use Rattle.probe.proofs.Lines.{on_ok_three}
use Rattle.probe.proofs.counts.CountsVisitorUnnoted.see.Goals as goal

pub note-requires : goal.note-requires
note-requires c =
    let so_far = c.requires.so_far in
    let after = so_far.4 in
    begins_after after.made.within after.made.end so_far.1 so_far.0 so_far.2 c.args._board.now c.args.self.now c.args.turn.now.begun
    so_far.3 after.clock after.made.one

pub returns-clause-saw : goal.returns-clause-saw
returns-clause-saw c = on_ok_three c.note.result (λ notes before starts s n old after noted counted.
    more_counted after.made.within after.made.end n s old c.args._board.now c.args.self.now c.note.new.self c.args.turn.now.begun
    counted after.plain after.clock after.made.one notes before starts) c.note.ensures.noted c.note.ensures.before c.note.ensures.started
