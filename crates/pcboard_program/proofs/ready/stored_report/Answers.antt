use Rattle.std.proofs.Common.{◌∙◌, ap, subst, string_bytes}
use Rattle.pcboard_texts.specs.Answer.{IsReport, IsTrueRefusal, run_text_of, source_of}
use Rattle.pcboard_texts.proofs.Refusals.{passed_on}
use Rattle.std.proofs.Common.{false}
use Rattle.pcboard_program.proofs.ready.stored_report.Goals as goal

pub returns-clause-report : goal.returns-clause-report
returns-clause-report g c =
    let source = c.parted.ensures.source ∙ ap source_of c.as_slice.ensures.value in
    let run = c.parted.ensures.run ∙ ap run_text_of c.as_slice.ensures.value in
    let parted = subst (λ (bytes : _). IsReport false bytes c.parted.result.0.now (string_bytes c.in_ok-run_texts.field-0.text)) source
    c.in_ok-run_texts.ensures.report in
    let report = subst (λ (said : _). IsReport false (source_of c.in_ok-text.text.items) said (string_bytes c.in_ok-run_texts.field-0.text)) run parted in
    (c.in_ok-text.ensures.all, (c.in_ok-text.text.items, c.in_ok-text.ensures.bytes, report))

pub returns-in_err-run_texts-clause-end : goal.returns-in_err-run_texts-clause-end
returns-in_err-run_texts-clause-end g c =
    let source = c.parted.ensures.source ∙ ap source_of c.as_slice.ensures.value in
    let run = c.parted.ensures.run ∙ ap run_text_of c.as_slice.ensures.value in
    let parted = subst (λ (bytes : _). IsTrueRefusal false bytes c.parted.result.0.now c.in_err-run_texts.field-0.0) source c.in_err-run_texts.ensures.fault in
    let refused = subst (λ (said : _). IsTrueRefusal false (source_of c.in_ok-text.text.items) said c.in_err-run_texts.field-0.0) run parted in
    passed_on c.from_residual-in_err-run_texts.result c.in_err-run_texts.field-0.0 _ _ c.from_residual-in_err-run_texts.ensures.1
    (c.in_ok-text.ensures.all, (c.in_ok-text.text.items, c.in_ok-text.ensures.bytes, refused))
