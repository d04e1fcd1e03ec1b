use Rattle.std.proofs.Common.{[], ◌∷◌, map, ap, ◌∙◌, sym, subst}
use Rattle.decode.specs.Decoding.{code_at}
use Rattle.wiring.specs.Ports.{byte_at}
use Rattle.board_plain.specs.CodeAtIp.{decoded_at}
use Rattle.board_plain.specs.Plain.{Plain}
use Rattle.board_plain.specs.Trail.{entry_at, event_of}
use Rattle.board.specs.OneTurn.{begun_of}
use Rattle.board.specs.TrailState.{IsExact}
use Rattle.board.specs.Doings.{act_of, IsReadyToRun}
use Rattle.board.proofs.OneTurn.{sized_begins, sizeless_begins}
use Rattle.board.proofs.SlotLength.{length_at}
use Rattle.board.proofs.engine.Engine.begins.Goals as goal

pub returns-in-Instruction-clause-begun : goal.returns-in-Instruction-clause-begun
returns-in-Instruction-clause-begun c =
    let s : Plain = c.args.self.now in
    let slot = c.in-Instruction.slot in
    let d = decoded_at s.cpu s.chips in
    ap (λ b. b ∷ []) c.begun-in-Instruction.ensures
    ∙ sized_begins s (code_at (byte_at s.chips) s.cpu.registers.cs s.cpu.registers.ip) d slot.length
    (length_at slot d (subst (IsReadyToRun s.cpu s.chips) c.in-Instruction.is c.requires.ready))
    (subst (λ next. IsExact s.cpu s.chips (act_of s.cpu s.chips next)) c.in-Instruction.is c.requires.exact) c.if-slot-gt0.true
    ∙ ap (λ next. map begun_of (entry_at s (event_of s.cpu s.chips (act_of s.cpu s.chips next)))) (sym c.in-Instruction.is)

pub returns-in-Instruction-2-clause-begun : goal.returns-in-Instruction-2-clause-begun
returns-in-Instruction-2-clause-begun c =
    let s : Plain = c.args.self.now in
    let slot = c.in-Instruction.slot in
    let d = decoded_at s.cpu s.chips in
    sizeless_begins s (code_at (byte_at s.chips) s.cpu.registers.cs s.cpu.registers.ip) d slot.length
    (length_at slot d (subst (IsReadyToRun s.cpu s.chips) c.in-Instruction.is c.requires.ready))
    (subst (λ next. IsExact s.cpu s.chips (act_of s.cpu s.chips next)) c.in-Instruction.is c.requires.exact) c.if-slot-gt0.false
    ∙ ap (λ next. map begun_of (entry_at s (event_of s.cpu s.chips (act_of s.cpu s.chips next)))) (sym c.in-Instruction.is)
