use Rattle.board.proofs.Rooms.{no_stamp, stamp_told}
use Rattle.board.proofs.arrivals.so_far.Goals as goal

pub returns-in-Some : goal.returns-in-Some
returns-in-Some c = λ clock awaits. record {
  awaits = awaits;
  next = λ before earlier.
      stamp_told before c.args.count c.args.keys.now c.in-Some.key.now c.requires earlier c.in-Some.ensures.lookup.3.0 c.in-Some.ensures.lookup.1;
}

pub returns-in-None : goal.returns-in-None
returns-in-None c = λ clock awaits. record {
  awaits = awaits;
  next = λ before earlier. no_stamp before c.args.count c.args.keys.now earlier c.in-None.ensures.lookup.3;
}
