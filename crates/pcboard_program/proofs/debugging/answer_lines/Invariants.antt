use Rattle.streams.specs.ByteInput.{CountsNone}
use Rattle.pcboard_texts.proofs.Sessions.{PrintedSoFar}
use Rattle.pcboard_program.proofs.debugging.answer_lines.Given as goal

abbrev pub invariant-lines : goal.invariant-lines
invariant-lines g l =
    PrintedSoFar g.T.Tool.answers l.initial.session l.session (g.I.ByteInput.gave l.initial.input l.input)
    (g.O.ByteOutput.contents l.initial.out) (g.O.ByteOutput.contents l.out)
    × CountsNone (g.I.ByteInput.failures l.initial.input) (g.I.ByteInput.failures l.input)
