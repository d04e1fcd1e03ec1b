use Rattle.execute_arith.proofs.Decimal.{aad_undoes_aam}
use Rattle.execute_arith.proofs.laws.aad_undoes_aam.Goals as goal

pub returns : goal.returns
returns c = aad_undoes_aam
