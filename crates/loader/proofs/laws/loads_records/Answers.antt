use Rattle.loader.proofs.Loaded.{loads_records}
use Rattle.loader.proofs.laws.loads_records.Goals as goal

pub returns : goal.returns
returns c = loads_records
