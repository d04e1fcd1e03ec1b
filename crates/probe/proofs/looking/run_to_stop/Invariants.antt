-- No stop has been met, and what is to be seen before the next turn is known.
use Rattle.std.proofs.Common.{◌≡◌, ◌≤◌, ◌-◌}
use Rattle.board_plain.specs.Plain.{Plain, clock_of}
use Rattle.probe.specs.Met.{asked_by}
use Rattle.probe.specs.Seen.{seen_of}
use Rattle.probe.specs.Watched.{stops_of}
use Rattle.probe.proofs.Meeting.{Met}
use Rattle.probe.proofs.looking.run_to_stop.Given as goal

abbrev pub invariant-turns : goal.invariant-turns
invariant-turns g l = record {
  met : Met (stops_of l.fn.watches) l.end (g.R.Running.state l.fn.run) (g.R.Running.state l.run) l.watches;
  asked : l.turn.asked ≡ asked_by (stops_of l.fn.watches);
  before : (r : Plain) × (l.turn.before ≡ seen_of l.turn.asked r);
  after : l.turn.after ≡ seen_of l.turn.asked (g.R.Running.state l.run).plain;
  clock : l.turn.after.clock ≡ clock_of (g.R.Running.state l.run).plain;
  room : l.turn.after.waiting ≤ 16;
  rest : g.R.Running.rest l.run ≡ g.R.Running.rest l.fn.run;
}

abbrev pub decreases-turns : goal.decreases-turns
decreases-turns g l = l.end - clock_of (g.R.Running.state l.run).plain
