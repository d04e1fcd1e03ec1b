use Rattle.std.proofs.Common.{Some, inl, refl}
use Rattle.pcboard_texts.specs.Refusal.{want_of_board}
use Rattle.pcboard_texts.proofs.Opening.{told_unjudged}
use Rattle.zebludor_program.proofs.programs.without_memory.Goals as goal

pub returns-clause-unjudged : goal.returns-clause-unjudged
returns-clause-unjudged c = λ task.
    told_unjudged task c.without_words.result (Some c.args.told.now.items) (Some c.without_words.new.err.items) want_of_board
    c.without_words.ensures.above c.without_words.ensures.within c.without_words.ensures.status c.without_words.ensures.told (inl refl)
