use Rattle.std.proofs.Common.{◌≡◌, ◌+◌, length, vec_len}
use Rattle.masm.specs.Layouts.{AreMade}
use Rattle.masm.proofs.writing.push_all.Given as goal

abbrev pub invariant-loop-text : goal.invariant-loop-text
invariant-loop-text l =
    AreMade l.texts l.made × (vec_len l.made.placed ≡ vec_len l.initial.made.placed + length l.yielded)
