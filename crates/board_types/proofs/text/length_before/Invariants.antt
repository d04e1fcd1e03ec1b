use Rattle.std.proofs.Common.{◌≡◌, ◌+◌, length}
use Rattle.board_types.specs.TextLines.{size_before}
use Rattle.board_types.proofs.text.length_before.Given as goal

abbrev pub invariant-loop-rest : goal.invariant-loop-rest
invariant-loop-rest l =
    record { rest : l.length + size_before l.delimiter l.rest ≡ size_before l.delimiter l.fn.text; all : l.length + length l.rest ≡ length l.fn.text }

abbrev pub decreases-loop-rest : goal.decreases-loop-rest
decreases-loop-rest l = length l.rest
