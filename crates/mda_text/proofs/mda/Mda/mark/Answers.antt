use Rattle.mda_text.proofs.Keeping.{kept_shown}
use Rattle.mda_text.proofs.mda.Mda.mark.Goals as goal

pub take_snapshot-requires : goal.take_snapshot-requires
take_snapshot-requires c = kept_shown _ c.keep_characters.new.self c.keep_characters.ensures
