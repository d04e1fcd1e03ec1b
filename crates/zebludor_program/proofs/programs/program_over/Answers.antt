use Rattle.std.proofs.Common.{Some, map}
use Rattle.pcboard_texts.proofs.Noting.{prints_within, tells_within, withholds_within}
use Rattle.zebludor_program.proofs.ReadTexts.{within_read}
use Rattle.zebludor_program.proofs.programs.program_over.Goals as goal

pub returns-clause-printed : goal.returns-clause-printed
returns-clause-printed g c = λ done.
    prints_within g.T.Tool.reads g.T.Tool.answers (map (λ word. word.now) c.args.words.now) _ _
    (within_read (λ input. input.now) c.args.texts c.program_of.new.files c.args.typed.now c.program_of.new.input)
    (Some c.args.printed.now.items) (Some c.program_of.new.out.items) (c.program_of.ensures.printed done)

pub returns-clause-told : goal.returns-clause-told
returns-clause-told g c = λ refused.
    tells_within g.T.Tool.reads (map (λ word. word.now) c.args.words.now) _ _
    (within_read (λ input. input.now) c.args.texts c.program_of.new.files c.args.typed.now c.program_of.new.input)
    (Some c.args.told.now.items) (Some c.program_of.new.err.items) (c.program_of.ensures.told refused)

pub returns-clause-withheld : goal.returns-clause-withheld
returns-clause-withheld g c = λ refused.
    withholds_within g.T.Tool.reads g.T.Tool.answers (map (λ word. word.now) c.args.words.now) _ _
    (within_read (λ input. input.now) c.args.texts c.program_of.new.files c.args.typed.now c.program_of.new.input)
    (Some c.args.printed.now.items) (Some c.program_of.new.out.items) (c.program_of.ensures.withheld refused)
