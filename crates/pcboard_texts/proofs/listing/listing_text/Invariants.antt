use Rattle.std.proofs.Common.{◌≡◌, ◌++◌, [], List, string_bytes, drop}
use Rattle.board_types.specs.TextLines.{text_lines}
use Rattle.assembler.specs.LocatedLines.{AreLocatedLines, LocatedLine}
use Rattle.pcboard_texts.specs.Answer.{listing_text}
use Rattle.pcboard_texts.proofs.listing.listing_text.Given as goal

abbrev pub invariant-loop-i : goal.invariant-loop-i
invariant-loop-i l = (rows : List LocatedLine) → AreLocatedLines [] (text_lines l.fn.listing.source) rows
    → string_bytes l.text ++ listing_text l.fn.listing.names (drop l.i (text_lines l.fn.listing.source)) (drop l.i rows)
    ≡ listing_text l.fn.listing.names (text_lines l.fn.listing.source) rows
