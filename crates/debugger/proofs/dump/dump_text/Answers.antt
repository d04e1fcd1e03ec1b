use Rattle.std.proofs.Common.{◌+◌, ◌*◌, ap}
use Rattle.debugger_meaning.specs.Dump.{dump_line, dump_line_at}
use Rattle.debugger_meaning.proofs.Lines.{line_more, pushed_first}
use Rattle.debugger.proofs.dump.dump_text.Goals as goal

pub loop-line-preserved : goal.loop-line-preserved
loop-line-preserved c =
    rw (line_more (dump_line_at c.args.board.now.plain c.args.first c.args.count) c.loop-line.line)
    (pushed_first _ _ _ _ _ c.in_ok-push_line.ensures c.loop-line.invariant
    (ap (dump_line c.args.board.now.plain (c.args.first + 16 * c.loop-line.line)) c.min-size.ensures))
