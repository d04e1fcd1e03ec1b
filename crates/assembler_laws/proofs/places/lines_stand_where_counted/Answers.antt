use Rattle.assembler_laws.proofs.Labels.{lines_stand_where_counted}
use Rattle.assembler_laws.proofs.places.lines_stand_where_counted.Goals as goal

pub returns : goal.returns
returns c = lines_stand_where_counted
