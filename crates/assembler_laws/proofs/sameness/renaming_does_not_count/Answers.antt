use Rattle.assembler_laws.proofs.SamenessPlaces.{renaming_is_nothing}
use Rattle.assembler_laws.proofs.sameness.renaming_does_not_count.Goals as goal

pub returns : goal.returns
returns c = renaming_is_nothing
