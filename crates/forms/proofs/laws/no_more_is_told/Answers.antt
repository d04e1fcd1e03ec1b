use Rattle.forms.proofs.NoMore.{no_more}
use Rattle.forms.proofs.laws.no_more_is_told.Goals as goal

pub returns : goal.returns
returns g row within = no_more row within
