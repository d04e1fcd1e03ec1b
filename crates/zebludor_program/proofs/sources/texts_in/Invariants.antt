use Rattle.std.proofs.Common.{◌≡◌, ◌++◌, map, length}
use Rattle.std.specs.List.{flat_map}
use Rattle.board_types.specs.TextLines.{text_lines}
use Rattle.zebludor_program.proofs.sources.texts_in.Given as goal

abbrev pub invariant-loop-name : goal.invariant-loop-name
invariant-loop-name l =
    (text_lines l.fn.names ≡ map (λ text. text.name.now) l.texts.items ++ text_lines l.rest_names)
    × (l.fn.lengths ≡ map (λ text. length text.bytes.now) l.texts.items ++ l.rest_lengths)
    × (l.fn.bytes ≡ flat_map (λ text. text.bytes.now) l.texts.items ++ l.rest_bytes)

abbrev pub decreases-loop-name : goal.decreases-loop-name
decreases-loop-name l = length l.rest_names
