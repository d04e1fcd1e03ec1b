use Rattle.std.proofs.Common.{◌∙◌}
use Rattle.debugger_meaning.proofs.Keeping.{kept_less, kept_more}
use Rattle.debugger.proofs.checkpoints.Checkpoints.keep.Goals as goal

pub returns-then-len-gt-MOST : goal.returns-then-len-gt-MOST
returns-then-len-gt-MOST g c =
    kept_less c.args.self.now c.insert.new.self.items c.remove.new.self.items c.args.board.now c.thinnest-thinnest.result c.remove.ensures.by_index.2
    (kept_more _ c.args.self.now c.try_reserve.new.self.items c.insert.new.self.items c.args.board.now
    c.in-Ok.copy c.place_after-place.result (c.try_reserve.ensures.items ∙ c.self.view_is)
    c.in-Ok.ensures.same c.insert.ensures.items)

pub returns-else-len-gt-MOST : goal.returns-else-len-gt-MOST
returns-else-len-gt-MOST g c =
    kept_more _ c.args.self.now c.try_reserve.new.self.items c.insert.new.self.items c.args.board.now c.in-Ok.copy c.place_after-place.result
    (c.try_reserve.ensures.items ∙ c.self.view_is) c.in-Ok.ensures.same c.insert.ensures.items
