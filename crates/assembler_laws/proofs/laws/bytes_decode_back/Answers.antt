use Rattle.assembler_laws.proofs.DecodedBack.{bytes_decode_back}
use Rattle.assembler_laws.proofs.laws.bytes_decode_back.Goals as goal

pub returns : goal.returns
returns c = bytes_decode_back
