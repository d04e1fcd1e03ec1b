use Rattle.masm_reading.specs.Frames.{IsSound}
use Rattle.masm_reading.proofs.reading.read.Given as goal

abbrev pub invariant-loop : goal.invariant-loop
invariant-loop l = IsSound l.texts l.progress
