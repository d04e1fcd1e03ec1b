use Rattle.masm.specs.Layouts.{IsLaid}
use Rattle.masm.proofs.layout.Layout.segment.Given as goal

abbrev pub invariant-loop-one : goal.invariant-loop-one
invariant-loop-one l = IsLaid l.texts l.self
