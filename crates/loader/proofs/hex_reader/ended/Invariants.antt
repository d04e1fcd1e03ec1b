use Rattle.std.proofs.Common.{◌≡◌, ◌+◌, ◌<◌, ◌^◌, length}
use Rattle.board_types.specs.TextLines.{text_lines}
use Rattle.loader.specs.Reading.{after_end}
use Rattle.loader.proofs.hex_reader.ended.Given as goal

abbrev pub invariant-loop-line : goal.invariant-loop-line
invariant-loop-line l = record {
  small : l.number + length l.rest < 2 ^ 64;
  rest : after_end l.number l.fn.image (text_lines l.rest) ≡ after_end l.fn.number l.fn.image (text_lines l.text);
}

abbrev pub decreases-loop-line : goal.decreases-loop-line
decreases-loop-line l = length l.rest
