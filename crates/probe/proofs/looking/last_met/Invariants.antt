-- What has been met last is known, and what is to be seen before the next turn.
use Rattle.std.proofs.Common.{◌≡◌, ◌≤◌, ◌-◌}
use Rattle.board_plain.specs.Plain.{Plain, clock_of}
use Rattle.probe.specs.Met.{asked_by}
use Rattle.probe.specs.Seen.{seen_of}
use Rattle.probe.specs.Watched.{stops_of}
use Rattle.probe.proofs.Searching.{LastSoFar}
use Rattle.probe.proofs.looking.last_met.Given as goal

abbrev pub invariant-turns : goal.invariant-turns
invariant-turns l = record {
  so_far : LastSoFar (stops_of l.fn.watches) l.is_first l.to l.fn.board l.board l.watches l.here l.last;
  asked : l.turn.asked ≡ asked_by (stops_of l.fn.watches);
  before : (r : Plain) × (l.turn.before ≡ seen_of l.turn.asked r);
  after : l.turn.after ≡ seen_of l.turn.asked l.board.plain;
  clock : l.turn.after.clock ≡ clock_of l.board.plain;
  room : l.turn.after.waiting ≤ 16;
}

abbrev pub decreases-turns : goal.decreases-turns
decreases-turns l = l.to - clock_of l.board.plain
