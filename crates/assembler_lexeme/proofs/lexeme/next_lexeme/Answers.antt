use Rattle.std.proofs.Common.{◌≡◌, get_or, arith, sym, ◌∙◌, true}
use Rattle.assembler_lexeme.specs.Lexemes.{lexemes, is_word_byte}
use Rattle.assembler_lexeme.proofs.Scanning.{word_at, text_at}
use Rattle.assembler_lexeme.proofs.lexeme.next_lexeme.Goals as goal

pub returns-in-39-clause-some : goal.returns-in-39-clause-some
unfolding lexemes
returns-in-39-clause-some c =
    rw (c.split_at.ensures.front, c.split_at.ensures.back)
    (sym c.skip_blanks-text.ensures.same
    ∙ text_at c.skip_blanks-text.result.now c.text_length.result c.in-39.len_at_least (omega arith) c.text_length.ensures.size)

pub returns-in-len1-up-clause-some : goal.returns-in-len1-up-clause-some
unfolding lexemes
returns-in-len1-up-clause-some c =
    let word : is_word_byte (get_or c.skip_blanks-text.result.now 0 0) ≡ true = sym c.is_word_byte.ensures ∙ c.if-is_word_byte.true in
    rw (c.split_at-in-len1-up.ensures.front, c.split_at-in-len1-up.ensures.back)
    (sym c.skip_blanks-text.ensures.same ∙ word_at c.skip_blanks-text.result.now c.word_length.result c.in-len1-up.len_at_least word c.word_length.ensures.size)
