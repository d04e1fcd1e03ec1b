use Rattle.std.proofs.Common.{map}
use Rattle.board_types.specs.TextLines.{text_lines}
use Rattle.zebludor_program.proofs.Unreadable.{unreadable}
use Rattle.zebludor_program.proofs.words.words_in.Goals as goal

pub returns-in_default-from_utf8-clause-unreadable : goal.returns-in_default-from_utf8-clause-unreadable
returns-in_default-from_utf8-clause-unreadable c = λ _.
    unreadable (text_lines c.args.text.now) (map (λ word. word.now) c.loop-line.words.items) (text_lines c.loop-line.rest.now)
    c.in-Some.line.now (text_lines c.in-Some.after.now) c.loop-line.invariant c.in-Some.ensures.some c.in_default-from_utf8.ensures.cases.0
