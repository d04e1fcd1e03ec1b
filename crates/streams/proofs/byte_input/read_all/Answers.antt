use Rattle.streams.specs.InTurn.{gave_end}
use Rattle.streams.proofs.byte_input.read_all.Goals as goal

pub returns-then-count-eq0-clause-bytes : goal.returns-then-count-eq0-clause-bytes
returns-then-count-eq0-clause-bytes g c =
    gave_end g.I.ByteInput.gave g.met.I.ByteInput.gave_on c.args.input.now c.pieces.input c.read.new.self c.pieces.bytes.items c.read.new.buf
    c.in_ok-count.count c.pieces.invariant.0 c.in_ok-count.ensures.bytes c.if-count-eq0.true
