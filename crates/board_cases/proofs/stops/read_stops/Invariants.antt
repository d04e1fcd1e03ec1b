use Rattle.std.proofs.Common.{All}
use Rattle.board_plain.specs.Stops.{HasAddress}
use Rattle.board_cases.proofs.stops.read_stops.Given as goal

abbrev pub invariant-loop-number : goal.invariant-loop-number
invariant-loop-number l = All HasAddress l.stops.items
