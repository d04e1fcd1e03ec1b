use Rattle.std.proofs.Common.{length}
use Rattle.assembler.specs.FirstPass.{HasRead}
use Rattle.assembler.proofs.reading.read_source.Given as goal

abbrev pub invariant-loop-text : goal.invariant-loop-text
invariant-loop-text l = HasRead l.fn.source l.rest l.number l.state l.located_lines.items

abbrev pub decreases-loop-text : goal.decreases-loop-text
decreases-loop-text l = length l.rest
