use Rattle.loader.proofs.Neighbours.{lines_change_places}
use Rattle.loader.proofs.laws.lines_change_places.Goals as goal

pub returns : goal.returns
returns c = lines_change_places
