use Rattle.std.proofs.Common.{List, ℕ, subst}
use Rattle.pcboard_texts.proofs.Sessions.{typed_bytes, typed_text}
use Rattle.zebludor_program.proofs.answerer.reply_to.Goals as goal

pub returns-in-Ok : goal.returns-in-Ok
returns-in-Ok g c =
    typed_text g.T.Tool.answers c.args.line.now c.args.session.now c.answer.new.session c.answer.result c.in-Ok.ensures.cases.1
    (subst (λ (line : List ℕ). g.T.Tool.answers.answers line c.args.session.now c.answer.result c.answer.new.session) c.in-Ok.ensures.cases.0 c.answer.ensures)

pub returns-in-Err : goal.returns-in-Err
returns-in-Err g c = typed_bytes g.T.Tool.answers c.args.line.now c.args.session.now c.in-Err.ensures.cases.0
