use Rattle.std.proofs.Common.{Some, map}
use Rattle.pcboard_words.specs.CommandLine.{Answers as AnswersWords}
use Rattle.pcboard_texts.specs.Transcript.{AnswersCommand}
use Rattle.pcboard_texts.proofs.Noting.{prints_within, tells_within, withholds_within, within_noted}
use Rattle.pcboard_program.proofs.program.program.Goals as goal

pub returns-clause-printed : goal.returns-clause-printed
returns-clause-printed g c = λ done.
    prints_within AnswersWords AnswersCommand (map (λ word. word.now) c.args.words.now) _ _
    (within_noted (λ files. files.log.files) (λ input. input.log.bytes) (λ input. input.ended)
    (λ before after more. g.I.ByteInput.gave before.inner after.inner more) (λ input. g.I.ByteInput.ended input.inner)
    c.args.files.now c.program_of.new.files c.args.input.now c.program_of.new.input)
    (Some c.args.out.now.log.bytes) (Some c.program_of.new.out.log.bytes) (c.program_of.ensures.printed done)

pub returns-clause-told : goal.returns-clause-told
returns-clause-told g c = λ refused.
    tells_within AnswersWords (map (λ word. word.now) c.args.words.now) _ _
    (within_noted (λ files. files.log.files) (λ input. input.log.bytes) (λ input. input.ended)
    (λ before after more. g.I.ByteInput.gave before.inner after.inner more) (λ input. g.I.ByteInput.ended input.inner)
    c.args.files.now c.program_of.new.files c.args.input.now c.program_of.new.input)
    (Some c.args.err.now.log.bytes) (Some c.program_of.new.err.log.bytes) (c.program_of.ensures.told refused)

pub returns-clause-withheld : goal.returns-clause-withheld
returns-clause-withheld g c = λ refused.
    withholds_within AnswersWords AnswersCommand (map (λ word. word.now) c.args.words.now) _ _
    (within_noted (λ files. files.log.files) (λ input. input.log.bytes) (λ input. input.ended)
    (λ before after more. g.I.ByteInput.gave before.inner after.inner more) (λ input. g.I.ByteInput.ended input.inner)
    c.args.files.now c.program_of.new.files c.args.input.now c.program_of.new.input)
    (Some c.args.out.now.log.bytes) (Some c.program_of.new.out.log.bytes) (c.program_of.ensures.withheld refused)
