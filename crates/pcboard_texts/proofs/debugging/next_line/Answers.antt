use Rattle.std.proofs.Common.{subst}
use Rattle.pcboard_texts.specs.Taking.{GivesByte}
use Rattle.pcboard_texts.proofs.Listed.{holds_none}
use Rattle.pcboard_texts.proofs.Sessions.{counts_on, cut_where, differs, line_begun, line_grows, line_last}
use Rattle.pcboard_texts.proofs.debugging.next_line.Goals as goal

pub returns-in_default-clause-line : goal.returns-in_default-clause-line
returns-in_default-clause-line g c =
    let gives = subst (GivesByte (g.I.ByteInput.gave c.bytes.input c.next_byte.new.input) (g.I.ByteInput.ended c.next_byte.new.input))
    (holds_none c.in_ok-byte.field-0 c.in_default.not-Some) c.in_ok-byte.ensures.byte in
    line_last g.I.ByteInput.gave g.met.I.ByteInput.gave_on (g.I.ByteInput.ended c.next_byte.new.input) c.args.input.now c.bytes.input
    c.next_byte.new.input c.bytes.line.items c.bytes.invariant.0 gives

pub returns-in_err-push-clause-begun : goal.returns-in_err-push-clause-begun
returns-in_err-push-clause-begun g c =
    let gives = subst (GivesByte (g.I.ByteInput.gave c.bytes.input c.next_byte.new.input) (g.I.ByteInput.ended c.next_byte.new.input))
    c.in-Some.is c.in_ok-byte.ensures.byte in
    cut_where c.from_residual-in_err-push.result _
    (line_begun g.I.ByteInput.gave g.met.I.ByteInput.gave_on (g.I.ByteInput.ended c.next_byte.new.input) c.args.input.now c.bytes.input
    c.next_byte.new.input c.bytes.line.items c.in-Some.byte c.bytes.invariant.0 gives)

pub bytes-preserved : goal.bytes-preserved
bytes-preserved g c =
    let gives = subst (GivesByte (g.I.ByteInput.gave c.bytes.input c.next_byte.new.input) (g.I.ByteInput.ended c.next_byte.new.input))
    c.in-Some.is c.in_ok-byte.ensures.byte in
    let line = line_grows g.I.ByteInput.gave g.met.I.ByteInput.gave_on (g.I.ByteInput.ended c.next_byte.new.input) c.args.input.now c.bytes.input
    c.next_byte.new.input c.bytes.line.items c.push.new.self.items c.in-Some.byte c.bytes.invariant.0 gives
    (differs c.in-Some.byte 10 c.if-byte-eq10.false) c.in_ok-push.ensures.items in
    let counts = counts_on (g.I.ByteInput.failures c.args.input.now) (g.I.ByteInput.failures c.bytes.input) (g.I.ByteInput.failures c.next_byte.new.input)
    c.bytes.invariant.1 c.in_ok-byte.ensures.unfailed in
    (line, counts)
