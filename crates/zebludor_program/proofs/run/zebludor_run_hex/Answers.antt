use Rattle.std.specs.Prelude.{string_bytes, true}
use Rattle.pcboard_texts.specs.Answer.{IsReport, IsTrueRefusal}
use Rattle.pcboard_texts.specs.RunFaults.{IsWantOfMemory}
use Rattle.pcboard_program.specs.declared.report.Report.{Report}
use Rattle.zebludor_program.proofs.Telling.{tells}
use Rattle.zebludor_program.proofs.run.zebludor_run_hex.Goals as goal

pub returns-clause-told : goal.returns-clause-told
returns-clause-told c =
    tells (λ (report : Report). string_bytes report.text) (IsReport true c.args.text.now c.args.run.now) (IsTrueRefusal true c.args.text.now c.args.run.now)
    c.run_texts.result _ _ _ c.tell.ensures.outcome c.tell.ensures.buffer c.run_texts.ensures.report c.run_texts.ensures.fault

pub returns-clause-accepted : goal.returns-clause-accepted
returns-clause-accepted c = λ accepts.
    tells (λ (report : Report). string_bytes report.text) (IsReport true c.args.text.now c.args.run.now) IsWantOfMemory
    c.run_texts.result _ _ _ c.tell.ensures.outcome c.tell.ensures.buffer c.run_texts.ensures.report
    (c.run_texts.ensures.accepted accepts.image accepts.gives accepts.run_file accepts.says accepts.fits)
