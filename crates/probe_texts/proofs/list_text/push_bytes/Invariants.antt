use Rattle.std.proofs.Common.{◌≡◌, ◌++◌}
use Rattle.std.specs.String.{string_bytes}
use Rattle.std.specs.List.{flat_map}
use Rattle.board_types.specs.Digits.{hex_byte_text}
use Rattle.probe_texts.specs.Listing.{bytes_listed}
use Rattle.probe_texts.proofs.list_text.push_bytes.Given as goal

abbrev pub invariant-loop-passed : goal.invariant-loop-passed
invariant-loop-passed g l = string_bytes l.text
    ≡ string_bytes l.initial.text ++ flat_map hex_byte_text (bytes_listed (g.B.Bytes.byte_at l.memory) l.place.segment l.place.offset l.passed)
