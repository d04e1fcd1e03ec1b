use Rattle.std.proofs.Common.{sym, ◌∙◌}
use Rattle.board_types.proofs.LineScanning.{last_at, ended_at}
use Rattle.board_types.proofs.LineEnding.{last_parts, ended_parts}
use Rattle.board_types.proofs.text.next_line.Goals as goal

pub returns-in-empty-clause-some : goal.returns-in-empty-clause-some
returns-in-empty-clause-some c =
    rw c.split_at.ensures.front
    (last_at c.args.text.now c.length_before.result c.split_at.result.1.now
    (sym c.is_empty.ensures ∙ c.if-is_empty.false) c.length_before.ensures.size c.split_at.ensures.back c.in-empty.len_below)

pub returns-in-len1-up-clause-some : goal.returns-in-len1-up-clause-some
returns-in-len1-up-clause-some c =
    rw (c.without_return.ensures, c.split_at.ensures.front)
    (ended_at c.args.text.now c.length_before.result c.split_at.result.1.now c.length_before.ensures.size c.split_at.ensures.back c.in-len1-up.len_at_least)

pub returns-in-empty-clause-parts : goal.returns-in-empty-clause-parts
returns-in-empty-clause-parts c =
    rw c.split_at.ensures.front
    (last_parts c.args.text.now c.length_before.result c.split_at.result.1.now c.split_at.ensures.back)

pub returns-in-len1-up-clause-parts : goal.returns-in-len1-up-clause-parts
returns-in-len1-up-clause-parts c =
    rw (c.without_return.ensures, c.split_at.ensures.front)
    (ended_parts c.args.text.now c.length_before.result c.split_at.result.1.now c.split_at.ensures.back c.in-len1-up.len_at_least)
