use Rattle.std.proofs.Common.{rules}
use Rattle.assembler_syntax.specs.LineSteps as steps
use Rattle.assembler_syntax.proofs.Alike.{text_alike}
use Rattle.assembler_syntax.proofs.read.read_line.Goals as goal

pub returns-then-not-are_characters : goal.returns-then-not-are_characters
unfolding steps.read_line
returns-then-not-are_characters c = rw (← text_alike c.args.text.now) (search rules)

pub returns-in_err-tokens : goal.returns-in_err-tokens
unfolding steps.read_line
returns-in_err-tokens c = rw (← text_alike c.args.text.now) (search rules)

pub returns : goal.returns
unfolding steps.read_line
returns c = rw (← text_alike c.args.text.now) (search rules)
