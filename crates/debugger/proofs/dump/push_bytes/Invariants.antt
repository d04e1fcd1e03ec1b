use Rattle.std.proofs.Common.{◌≡◌, ◌++◌}
use Rattle.std.specs.String.{string_bytes}
use Rattle.std.specs.List.{flat_map}
use Rattle.debugger_meaning.specs.Dump.{spaced_byte, bytes_from}
use Rattle.debugger.proofs.dump.push_bytes.Given as goal

abbrev pub invariant-loop-passed : goal.invariant-loop-passed
invariant-loop-passed l = string_bytes l.text ≡ string_bytes l.initial.text ++ flat_map spaced_byte (bytes_from l.board.plain l.first l.passed)
