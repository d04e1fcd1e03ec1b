use Rattle.std.proofs.Common.{◌≡◌, ◌≤◌, ◌-◌, ◌^◌, drop}
use Rattle.board_types.specs.Digits.{spelled}
use Rattle.debugger_meaning.specs.CommandWords.{at_most_greatest}
use Rattle.debugger_meaning.proofs.word.number_to.Given as goal

abbrev pub invariant-loop-byte : goal.invariant-loop-byte
invariant-loop-byte l = record {
  rest : at_most_greatest (spelled l.base l.number (drop l.byte-index l.digits)) ≡ at_most_greatest (spelled l.base 0 l.digits);
  small : l.number ≤ 2 ^ 64 - 1;
}
