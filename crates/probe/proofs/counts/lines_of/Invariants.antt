use Rattle.std.proofs.Common.{◌≡◌, map}
use Rattle.std.specs.List.{flat_map}
use Rattle.std.specs.Map.Iter.{deref_pair}
use Rattle.std.specs.String.{string_bytes}
use Rattle.probe.specs.Tallied.{tally_line}
use Rattle.probe.proofs.counts.lines_of.Given as goal

abbrev pub invariant-loop-number : goal.invariant-loop-number
invariant-loop-number l = string_bytes l.text ≡ flat_map tally_line (map deref_pair l.yielded)
