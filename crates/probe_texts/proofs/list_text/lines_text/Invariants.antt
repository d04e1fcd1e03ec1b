use Rattle.std.proofs.Common.{◌≡◌}
use Rattle.std.specs.String.{string_bytes}
use Rattle.board_types.specs.Iterate.{gathered, iterate}
use Rattle.probe_texts.specs.FormLines.{line_at}
use Rattle.probe_texts.specs.Listing.{offset_listed_next}
use Rattle.probe_texts.proofs.list_text.lines_text.Given as goal

-- the lines so far, and the place at which the next begins
abbrev pub invariant-loop : goal.invariant-loop
invariant-loop g l = record {
  text : string_bytes l.text ≡ gathered (offset_listed_next (g.B.Bytes.byte_at l.memory) l.fn.place.segment)
      (line_at l.lines (g.B.Bytes.byte_at l.memory) l.fn.place.segment) l.counter l.fn.place.offset;
  segment : l.next.segment ≡ l.fn.place.segment;
  offset : l.next.offset ≡ iterate (offset_listed_next (g.B.Bytes.byte_at l.memory) l.fn.place.segment) l.counter l.fn.place.offset;
}
