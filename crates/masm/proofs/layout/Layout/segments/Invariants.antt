use Rattle.masm.specs.Layouts.{IsLaid}
use Rattle.masm.proofs.layout.Layout.segments.Given as goal

abbrev pub invariant-loop-number : goal.invariant-loop-number
invariant-loop-number l = IsLaid l.texts l.self
