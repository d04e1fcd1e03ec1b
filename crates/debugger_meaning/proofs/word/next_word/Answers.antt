use Rattle.std.proofs.Common.{sym, ◌∙◌, arith}
use Rattle.debugger_meaning.specs.CommandWords.{words_of}
use Rattle.debugger_meaning.proofs.Scanning.{word_at}
use Rattle.debugger_meaning.proofs.word.next_word.Goals as goal

pub returns-in-len1-up-clause-some : goal.returns-in-len1-up-clause-some
unfolding words_of
returns-in-len1-up-clause-some c =
    rw (c.split_at.ensures.front, c.split_at.ensures.back)
    (sym c.skip_spaces-line.ensures.same ∙ word_at c.skip_spaces-line.result.now c.length_before.result c.in-len1-up.len_at_least
    (c.skip_spaces-line.ensures.begun (omega arith)) c.length_before.ensures.size)
