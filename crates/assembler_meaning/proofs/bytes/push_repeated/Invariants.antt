use Rattle.std.proofs.Common.{◌≡◌, ◌++◌}
use Rattle.assembler_meaning.specs.Data.{repeated}
use Rattle.assembler_meaning.proofs.bytes.push_repeated.Given as goal

abbrev pub invariant-loop : goal.invariant-loop
invariant-loop l = l.bytes.items ≡ l.fn.bytes.items ++ repeated l.counter l.once
