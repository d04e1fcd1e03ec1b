use Rattle.std.proofs.Common.{sym}
use Rattle.debugger_meaning.specs.Stands.{shown_of}
use Rattle.debugger_meaning.proofs.Standing.{new_session, stands_none}
use Rattle.debugger.proofs.session.Session.with_checkpoints_in.Goals as goal

pub invariant_of-result : goal.invariant_of-result
invariant_of-result g c =
    new_session c.in-Ok.first c.args.board c.new.result c.new-in-Ok.result.items c.in-Ok.ensures.same c.copy_of.ensures.few c.new.ensures c.new-in-Ok.ensures

pub returns-in-Ok-clause-stands : goal.returns-in-Ok-clause-stands
returns-in-Ok-clause-stands g c = stands_none (shown_of c.in-Ok.first) c.args.board (sym c.in-Ok.ensures.same) c.copy_of.ensures.few
