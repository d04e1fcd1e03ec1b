-- The key was tried at each clock so far; without it no stop was met up to the clock before the last of them.
use Rattle.std.proofs.Common.{◌≤◌, length}
use Rattle.probe.specs.Tried.{Tried}
use Rattle.probe.specs.Watched.{stops_of}
use Rattle.probe.proofs.moments.try_key.Given as goal

abbrev pub invariant-stamps : goal.invariant-stamps
invariant-stamps l =
    Tried (stops_of l.fn.watches) l.board.plain l.bare.plain l.trial l.end l.stamp l.ranges.items l.watches × (length l.bare.trail ≤ 32)
