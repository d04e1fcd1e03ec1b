use Rattle.std.proofs.Common.{ℕ, ◌∙◌, ap}
use Rattle.board_types.specs.Address.{offset_after, physical}
use Rattle.board_types.specs.Digits.{hex_byte_text}
use Rattle.debugger_meaning.proofs.Lines.{byte_more, pushed}
use Rattle.probe_texts.proofs.list_text.push_bytes.Goals as goal

pub loop-passed-preserved : goal.loop-passed-preserved
loop-passed-preserved g c =
    let bytes = g.B.Bytes.byte_at c.args.memory.now in
    rw (byte_more hex_byte_text (λ (k : ℕ). bytes (physical c.args.place.segment (offset_after c.args.place.offset k))) c.loop-passed.passed)
    (pushed _ _ _ _ _ _ c.in_ok-write.ensures.bytes c.loop-passed.invariant
    (ap hex_byte_text (c.byte.ensures ∙ ap bytes (c.physical.ensures.value ∙ (λ i. physical (c.after-at.ensures.segment i) (c.after-at.ensures.offset i))))))
