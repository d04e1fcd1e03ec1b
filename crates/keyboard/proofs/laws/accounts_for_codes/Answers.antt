use Rattle.keyboard.proofs.Runs.{accounts_for_codes}
use Rattle.keyboard.proofs.laws.accounts_for_codes.Goals as goal

pub returns : goal.returns
returns c = accounts_for_codes
