use Rattle.pcboard_texts.proofs.Reading.{read_all_of}
use Rattle.pcboard_texts.proofs.input.read_whole.Goals as goal

pub returns-clause-all : goal.returns-clause-all
returns-clause-all g c =
    read_all_of (g.I.ByteInput.ended c.read_front.new.input) c.in_ok-bytes.bytes.items c.in_ok-bytes.bytes.len c.in_ok-bytes.bytes.cap
    c.in_ok-bytes.ensures.all c.in_ok-bytes.bytes.ok.0 c.in_ok-bytes.bytes.ok.1 c.in_ok-bytes.bytes.small
