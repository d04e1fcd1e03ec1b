use Rattle.std.proofs.Common.{subst, sym, true}
use Rattle.std.specs.Prelude.{◌≡◌, ◌⊎◌, IfErr, OnOk}
use Rattle.std.proofs.lemmas.Result.{on_ok_weaker}
use Rattle.pcboard_texts.specs.Given.{GaveTwo, given_by, limit_of}
use Rattle.pcboard_texts.specs.Answer.{PrintsTask}
use Rattle.pcboard_texts.specs.Refusal.{PrintsReplies}
use Rattle.pcboard_texts.specs.Unanswered.{WhereRefused}
use Rattle.pcboard_texts.proofs.Tasks.{printed_session, replies_withheld}
use Rattle.pcboard_program.proofs.program.print_task.Goals as goal

pub returns-in_ok-board-in-Debug-clause-printed : goal.returns-in_ok-board-in-Debug-clause-printed
returns-in_ok-board-in-Debug-clause-printed g c =
    let old = g.O.ByteOutput.contents c.args.out.now in
    let new = g.O.ByteOutput.contents c.print_session.new.out in
    subst (λ task. OnOk c.print_session.result (PrintsTask g.T.Tool.answers task
    (given_by g.F.Files.gave c.args.files.now c.read_board.new.files g.I.ByteInput.gave g.I.ByteInput.ended c.args.input.now
    c.print_session.new.input) old new))
    (sym c.in-Debug.is)
    (on_ok_weaker c.print_session.result
    (printed_session g.T.Tool.answers
    (λ bytes said. GaveTwo g.F.Files.gave c.args.files.now c.read_board.new.files c.in-Debug.file.now (limit_of c.in-Debug.hex) bytes
    c.in-Debug.run'.now (limit_of true) said)
    (g.I.ByteInput.gave c.args.input.now c.print_session.new.input) (g.I.ByteInput.ended c.print_session.new.input) old new c.in-Debug.hex
    c.in_ok-board-in-Debug.board c.in_ok-board-in-Debug.ensures.board) c.print_session.ensures.transcript)

pub returns-in_ok-board-in-Debug-clause-withheld : goal.returns-in_ok-board-in-Debug-clause-withheld
returns-in_ok-board-in-Debug-clause-withheld g c =
    let old = g.O.ByteOutput.contents c.args.out.now in
    let new = g.O.ByteOutput.contents c.print_session.new.out in
    subst (λ task. IfErr c.print_session.result (WhereRefused (new ≡ old ⊎ PrintsReplies g.T.Tool.answers task
    (given_by g.F.Files.gave c.args.files.now c.read_board.new.files g.I.ByteInput.gave g.I.ByteInput.ended c.args.input.now
    c.print_session.new.input) old new)))
    (sym c.in-Debug.is)
    (replies_withheld g.T.Tool.answers c.print_session.result
    (λ bytes said. GaveTwo g.F.Files.gave c.args.files.now c.read_board.new.files c.in-Debug.file.now (limit_of c.in-Debug.hex) bytes
    c.in-Debug.run'.now (limit_of true) said)
    (g.I.ByteInput.gave c.args.input.now c.print_session.new.input) old new c.in-Debug.hex
    c.in_ok-board-in-Debug.board c.in_ok-board-in-Debug.ensures.board c.print_session.ensures.cut)
