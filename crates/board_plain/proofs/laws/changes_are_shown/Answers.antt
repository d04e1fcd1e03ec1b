use Rattle.board_plain.proofs.Changing.{byte_is_shown, registers_shown, running_on_keeps, same_byte_stays}
use Rattle.board_plain.proofs.laws.changes_are_shown.Goals as goal

pub returns-clause-registers : goal.returns-clause-registers
returns-clause-registers c = registers_shown

pub returns-clause-running_on : goal.returns-clause-running_on
returns-clause-running_on c = running_on_keeps

pub returns-clause-byte : goal.returns-clause-byte
returns-clause-byte c = byte_is_shown

pub returns-clause-same_byte : goal.returns-clause-same_byte
returns-clause-same_byte c = same_byte_stays
