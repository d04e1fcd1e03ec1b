use Rattle.probe.proofs.Labs.{change_begins, labs_stand, no_way_back_before, undo_goes_back}
use Rattle.probe.proofs.laws.changes_begin_anew.Goals as goal

pub returns-clause-undo : goal.returns-clause-undo
returns-clause-undo c = undo_goes_back

pub returns-clause-begins : goal.returns-clause-begins
returns-clause-begins c = change_begins

pub returns-clause-back : goal.returns-clause-back
returns-clause-back c = no_way_back_before

pub returns-clause-stand : goal.returns-clause-stand
returns-clause-stand c = labs_stand
