use Rattle.std.proofs.Common.{◌≡◌}
use Rattle.std.specs.String.{string_bytes}
use Rattle.std.specs.List.{flat_map, range_with_len}
use Rattle.debugger_meaning.specs.Dump.{dump_line_at}
use Rattle.debugger.proofs.dump.dump_text.Given as goal

abbrev pub invariant-loop-line : goal.invariant-loop-line
invariant-loop-line l = string_bytes l.text ≡ flat_map (dump_line_at l.board.plain l.first l.count) (range_with_len 0 l.line)
