use Rattle.assembler_laws.proofs.DataPlaces.{data_goes_low_byte_first}
use Rattle.assembler_laws.proofs.data.data_goes_low_byte_first.Goals as goal

pub returns : goal.returns
returns c = data_goes_low_byte_first
