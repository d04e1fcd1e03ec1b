use Rattle.std.proofs.Common.{◌+◌, ◌∙◌, ap, ℕ}
use Rattle.board_plain.specs.Plain.{byte_of}
use Rattle.debugger_meaning.specs.Dump.{spaced_byte}
use Rattle.debugger_meaning.proofs.Lines.{byte_more, pushed}
use Rattle.debugger.proofs.dump.push_bytes.Goals as goal

pub loop-passed-preserved : goal.loop-passed-preserved
loop-passed-preserved c =
    rw (byte_more spaced_byte (λ (k : ℕ). byte_of c.args.board.now.plain (c.args.first + k)) c.loop-passed.passed)
    (pushed _ _ _ _ _ _ c.in_ok-push_str.ensures.bytes c.loop-passed.invariant
    (c.as_str.ensures.value ∙ c.in_ok-shown.ensures ∙ ap spaced_byte c.byte-byte.ensures))
