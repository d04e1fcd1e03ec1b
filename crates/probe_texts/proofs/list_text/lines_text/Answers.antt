use Rattle.std.proofs.Common.{◌∙◌, refl, sym}
use Rattle.board_types.proofs.Iterate.{gathered_more, gathered_zero, iterate_more, iterate_zero}
use Rattle.debugger_meaning.proofs.Lines.{pushed_first}
use Rattle.probe_texts.specs.FormLines.{line_at}
use Rattle.probe_texts.specs.Listing.{offset_listed_next}
use Rattle.probe_texts.proofs.list_text.lines_text.Goals as goal

pub loop-init : goal.loop-init
loop-init g c =
    let next = offset_listed_next (g.B.Bytes.byte_at c.args.memory.now) c.args.place.segment in
    let line = line_at c.args.lines (g.B.Bytes.byte_at c.args.memory.now) c.args.place.segment in
    record {
      text = c.new-text.ensures.bytes ∙ sym (gathered_zero next line c.args.place.offset);
      segment = refl;
      offset = sym (iterate_zero next c.args.place.offset);
    }

pub loop-preserved : goal.loop-preserved
loop-preserved g c =
    let bytes = g.B.Bytes.byte_at c.args.memory.now in
    let next = offset_listed_next bytes c.args.place.segment in
    let line = line_at c.args.lines bytes c.args.place.segment in
    let here = c.loop.invariant.offset in
    let there = c.loop.invariant.segment in
    record {
      text = rw (gathered_more next line c.loop.counter c.args.place.offset)
          (pushed_first _ _ _ _ _ c.in_ok-next.ensures.line c.loop.invariant.text (λ i. line_at c.args.lines bytes (there i) (here i)));
      segment = c.in_ok-next.ensures.segment ∙ there;
      offset = c.in_ok-next.ensures.offset ∙ (λ i. offset_listed_next bytes (there i) (here i)) ∙ sym (iterate_more next c.loop.counter c.args.place.offset);
    }
