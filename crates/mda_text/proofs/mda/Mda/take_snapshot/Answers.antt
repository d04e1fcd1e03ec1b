use Rattle.std.proofs.Common.{rules}
use Rattle.mda_text.proofs.Sections.{recalled}
use Rattle.mda_text.proofs.mda.Mda.take_snapshot.Goals as goal

pub invariant_of-self : goal.invariant_of-self
invariant_of-self c =
    (c.self.invariant.0, c.self.invariant.1, search rules, λ taken. recalled _ _ _ _ c.self.view_is c.requires (cc))
