use Rattle.std.proofs.Common.{◌≡◌, ◌<◌, drop}
use Rattle.board_types.specs.Digits.{spelled}
use Rattle.assembler_lexeme.proofs.number.number_to.Given as goal

abbrev pub invariant-loop-byte : goal.invariant-loop-byte
invariant-loop-byte l = record { rest : spelled l.base l.number (drop l.byte-index l.digits) ≡ spelled l.base 0 l.digits; small : l.number < 4294967296 }
