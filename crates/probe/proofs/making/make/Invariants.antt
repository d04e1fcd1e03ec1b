-- The clocks so far are seen, and what is to be seen before the next turn is known.
use Rattle.std.proofs.Common.{◌≡◌, ◌≤◌, ◌-◌}
use Rattle.board_plain.specs.Plain.{Plain, clock_of}
use Rattle.probe.specs.Seen.{seen_of}
use Rattle.probe.proofs.Made.{Making}
use Rattle.probe.proofs.making.make.Given as goal

abbrev pub invariant-turns : goal.invariant-turns
invariant-turns g l = record {
  so_far : Making (λ n. g.V.Visitor.saw l.visitor l.fn.session.board.plain n) l.end l.fn.session l.session;
  asked : l.turn.asked ≡ g.V.Visitor.asks (g.V.Visitor.manner l.visitor);
  before : (r : Plain) × (l.turn.before ≡ seen_of l.turn.asked r);
  after : l.turn.after ≡ seen_of l.turn.asked l.session.board.plain;
  room : l.turn.after.waiting ≤ 16;
  manner : g.V.Visitor.manner l.visitor ≡ g.V.Visitor.manner l.fn.visitor;
}

abbrev pub decreases-turns : goal.decreases-turns
decreases-turns g l = l.end - clock_of l.session.board.plain
