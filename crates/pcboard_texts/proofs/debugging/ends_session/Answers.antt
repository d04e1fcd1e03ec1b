use Rattle.std.proofs.Common.{◌∙◌, ap, sym}
use Rattle.debugger_meaning.specs.Commands.{is_quit}
use Rattle.pcboard_texts.proofs.Sessions.{ends_bytes, ends_text}
use Rattle.pcboard_texts.proofs.debugging.ends_session.Goals as goal

pub returns-in-Ok : goal.returns-in-Ok
returns-in-Ok c = c.is_quit.ensures ∙ (ap is_quit c.in-Ok.ensures.cases.0 ∙ sym (ends_text c.args.line.now c.in-Ok.ensures.cases.1))

pub returns-in-Err : goal.returns-in-Err
returns-in-Err c = sym (ends_bytes c.args.line.now c.in-Err.ensures.cases.0)
