use Rattle.board_plain.proofs.Writable.{memory_takes_bytes}
use Rattle.board_plain.proofs.laws.memory_takes_bytes.Goals as goal

pub returns : goal.returns
returns c = memory_takes_bytes
