use Rattle.std.proofs.Common.{refl, sym, subst, None, IfErr}
use Rattle.std.proofs.lemmas.Result.{err_from_is_err_and}
use Rattle.assembler.specs.FirstFault.{IsFirst}
use Rattle.assembler.proofs.ReadingLoop.{reads_more, starts, stops_first}
use Rattle.assembler.proofs.reading.read_source.Goals as goal

pub loop-text-init : goal.loop-text-init
loop-text-init c =
    starts c.args.source.now (record { location = None; symbols = c.with_hasher.result })
    c.new-located_lines.result.items c.with_hasher.ensures.empty refl c.new-located_lines.ensures.items

pub loop-text-preserved : goal.loop-text-preserved
loop-text-preserved c =
    reads_more c.args.source.now c.loop-text.rest.now c.in-Some.text.now c.in-Some.after.now c.loop-text.number _
    c.loop-text.state c.add_text.new.state c.loop-text.located_lines.items c.add_text.new.located_lines.items c.loop-text.invariant
    (record { lines = c.in-Some.ensures.some; parts = c.in-Some.ensures.parts; shorter = c.in-Some.ensures.shorter }) refl c.in_ok-add_text.ensures.ok

pub returns-in_err-add_text-clause-fault : goal.returns-in_err-add_text-clause-fault
returns-in_err-add_text-clause-fault c =
    let p = err_from_is_err_and c.from_residual.result c.from_residual.ensures.1 in
    subst (λ r. IfErr r (IsFirst c.args.source.now)) (sym p.1)
    (subst (λ f. IsFirst c.args.source.now f) (sym p.2)
    (stops_first c.args.source.now c.loop-text.rest.now c.in-Some.text.now c.in-Some.after.now
    c.loop-text.number c.loop-text.state c.loop-text.located_lines.items c.in_err-add_text.field-0.0
    c.loop-text.invariant
    (record { lines = c.in-Some.ensures.some; parts = c.in-Some.ensures.parts; shorter = c.in-Some.ensures.shorter })
    c.requires.within c.in_err-add_text.ensures.err))
