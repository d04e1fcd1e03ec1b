use Rattle.board_plain.proofs.Changing.{changes_leave_wired, clocks_leave_wired}
use Rattle.board_plain.proofs.laws.changed_boards_stay_wired.Goals as goal

pub returns-clause-clocks : goal.returns-clause-clocks
returns-clause-clocks c = clocks_leave_wired

pub returns-clause-changes : goal.returns-clause-changes
returns-clause-changes c = changes_leave_wired
