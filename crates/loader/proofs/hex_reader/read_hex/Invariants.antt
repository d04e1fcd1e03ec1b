use Rattle.std.proofs.Common.{◌≡◌, ◌+◌, ◌<◌, ◌^◌, length}
use Rattle.board_types.specs.TextLines.{text_lines}
use Rattle.loader.specs.Reading.{image_after, image_of}
use Rattle.loader.proofs.hex_reader.read_hex.Given as goal

abbrev pub invariant-loop-line : goal.invariant-loop-line
invariant-loop-line l = record {
  small : l.number + length l.rest < 2 ^ 64;
  rest : image_after l.number l.extension l.image (text_lines l.rest) ≡ image_of l.text;
}

abbrev pub decreases-loop-line : goal.decreases-loop-line
decreases-loop-line l = length l.rest
