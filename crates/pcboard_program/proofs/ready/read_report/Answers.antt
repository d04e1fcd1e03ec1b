use Rattle.std.proofs.Common.{subst, string_bytes}
use Rattle.pcboard_texts.specs.Answer.{IsReport, IsTrueRefusal}
use Rattle.pcboard_texts.proofs.Refusals.{passed_on}
use Rattle.pcboard_program.proofs.ready.read_report.Goals as goal

pub returns-clause-report : goal.returns-clause-report
returns-clause-report g c =
    let report : IsReport c.args.hex c.in_ok-bytes.bytes.items c.in_ok-bytes.said.items (string_bytes c.in_ok-run_texts.field-0.text) =
    rw (← c.as_slice.ensures.value, ← c.as_slice-2.ensures.value) c.in_ok-run_texts.ensures.report in
    (c.in_ok-bytes.bytes.items, (c.in_ok-bytes.said.items, c.in_ok-bytes.ensures.bytes, report))

pub returns-in_err-run_texts-clause-end : goal.returns-in_err-run_texts-clause-end
returns-in_err-run_texts-clause-end g c =
    let seen = subst (λ bytes. IsTrueRefusal c.args.hex bytes c.as_slice-2.result.now c.in_err-run_texts.field-0.0)
    c.as_slice.ensures.value c.in_err-run_texts.ensures.fault in
    let true_of = subst (λ run. IsTrueRefusal c.args.hex c.in_ok-bytes.bytes.items run c.in_err-run_texts.field-0.0) c.as_slice-2.ensures.value seen in
    passed_on c.from_residual-in_err-run_texts.result c.in_err-run_texts.field-0.0 _ _ c.from_residual-in_err-run_texts.ensures.1
    (c.in_ok-bytes.bytes.items, (c.in_ok-bytes.said.items, c.in_ok-bytes.ensures.bytes, true_of))
