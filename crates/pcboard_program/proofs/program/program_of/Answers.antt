use Rattle.std.proofs.Common.{◌≡◌, ◌∙◌, ap, inr, map, subst, sym, Ok, Err}
use Rattle.pcboard_words.specs.declared.task.LineFault.TheVariants.{Memory, Usage}
use Rattle.pcboard_words.specs.Files.{hex_of}
use Rattle.pcboard_words.proofs.Files.{lacks_alike}
use Rattle.pcboard_texts.specs.Refusal.{want_of_file}
use Rattle.pcboard_texts.specs.Unanswered.{IsUnjudged}
use Rattle.pcboard_texts.proofs.Opening.{told_unjudged}
use Rattle.pcboard_program.proofs.program.program_of.Goals as goal

pub returns-in-Err-Usage-clause-lacking : goal.returns-in-Err-Usage-clause-lacking
returns-in-Err-Usage-clause-lacking g c = λ task names lacks.
    let same : c.in-Err-Usage.field-0 ≡ Memory =
    g.met.T.Tool.one_task (map (λ word. word.now) c.args.words.now) task (Err c.in-Err-Usage.field-0) names c.in-Err-Usage.ensures in
    let never : Usage c.in-Err-Usage.text ≡ Memory = sym c.in-Err-Usage.field-0-is ∙ same in cc

pub returns-in-Ok-print_task-clause-lacking : goal.returns-in-Ok-print_task-clause-lacking
returns-in-Ok-print_task-clause-lacking g c = λ task names lacks.
    let one = g.met.T.Tool.one_task (map (λ word. word.now) c.args.words.now) task (Ok c.in-Ok.task) names c.in-Ok.ensures in
    absurd (c.in-Ok-print_task.ensures.lacking (lacks_alike (g.F.Files.lacks c.args.files.now) task c.in-Ok.task one.0 lacks))

pub returns-in-Err-Refused-clause-lacking : goal.returns-in-Err-Refused-clause-lacking
returns-in-Err-Refused-clause-lacking g c = λ task names lacks.
    let one = g.met.T.Tool.one_task (map (λ word. word.now) c.args.words.now) task (Ok c.in-Ok.task) names c.in-Ok.ensures in
    let wants : c.in-Err-Refused.fault ≡ want_of_file (hex_of c.in-Ok.task) =
    subst (IsUnjudged (λ fault. fault ≡ want_of_file (hex_of c.in-Ok.task))) c.in-Err-Refused.field-0-is
    (c.in-Err-Refused.ensures.lacking (lacks_alike (g.F.Files.lacks c.args.files.now) task c.in-Ok.task one.0 lacks)) in
    told_unjudged task c.refused.result (g.E.ByteOutput.contents c.args.err.now) (g.E.ByteOutput.contents c.refused.new.err) c.in-Err-Refused.fault
    c.refused.ensures.above c.refused.ensures.within c.refused.ensures.status c.refused.ensures.told (inr (wants ∙ ap want_of_file (sym one.1)))
