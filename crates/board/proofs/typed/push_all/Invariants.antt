use Rattle.std.proofs.Common.{◌≡◌, ◌++◌, take}
use Rattle.board.proofs.typed.push_all.Given as goal

abbrev pub invariant-loop-key : goal.invariant-loop-key
invariant-loop-key l = l.keys ≡ l.initial.keys ++ take l.key-index l.more
