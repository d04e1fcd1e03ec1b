use Rattle.std.proofs.Common.{arith}
use Rattle.std.proofs.lemmas.Grind.{common_steps}
use Rattle.parts_alone.proofs.source.hex_of.Goals as goal

pub returns-in_err-listing-clause-refused : goal.returns-in_err-listing-clause-refused
returns-in_err-listing-clause-refused c = λ image gives. grind (arith, common_steps, c.from_residual.ensures, c.in_err-listing.ensures.refused image gives)

pub returns-in-Ok-clause-refused : goal.returns-in-Ok-clause-refused
returns-in-Ok-clause-refused c = λ image gives.
    grind (arith, common_steps, c.in-Ok.ensures, c.new-text.ensures.items, c.image.ensures, c.in_ok-listing.ensures.refused image gives)
