use Rattle.masm.specs.Layouts.{AreMade}
use Rattle.masm.proofs.writing.write.Given as goal

abbrev pub invariant-loop-line : goal.invariant-loop-line
invariant-loop-line l = AreMade l.texts l.made
