use Rattle.wiring.specs.BusLaws.{chips_keep_bytes, nothing_written}
use Rattle.wiring.proofs.laws.write_changes_one_byte.Goals as goal

pub returns : goal.returns
returns c = λ s address byte. (chips_keep_bytes.written s address byte, nothing_written s address byte, chips_keep_bytes.others s address byte)
