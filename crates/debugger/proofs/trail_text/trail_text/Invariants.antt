use Rattle.std.proofs.Common.{◌≡◌, ◌≤◌, ◌-◌, take, length}
use Rattle.std.specs.String.{string_bytes}
use Rattle.std.specs.List.{flat_map}
use Rattle.debugger_meaning.specs.TrailText.{entry_line}
use Rattle.debugger.proofs.trail_text.trail_text.Given as goal

abbrev pub invariant-loop-entry : goal.invariant-loop-entry
invariant-loop-entry l =
    record { text : string_bytes l.text ≡ flat_map entry_line (take l.index l.board.trail); within : l.index ≤ length l.board.trail; small : l.index ≤ 32 }

abbrev pub decreases-loop-entry : goal.decreases-loop-entry
decreases-loop-entry l = length l.board.trail - l.index
