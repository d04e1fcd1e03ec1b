use Rattle.std.proofs.Common.{◌∙◌, arith}
use Rattle.assembler.proofs.ListingNames.{ends_at, ends_all}
use Rattle.assembler.proofs.listing.name_length.Goals as goal

pub returns-then-letter-eq0 : goal.returns-then-letter-eq0
returns-then-letter-eq0 c =
    c.loop-letter.invariant.0 ∙ ends_at c.args.letters.now c.loop-letter.letter-index c.loop-letter.invariant.1 (omega arith) c.if-letter-eq0.true

pub returns : goal.returns
returns c =
    c.loop-letter.invariant.0 ∙ ends_all c.args.letters.now c.loop-letter.letter-index c.loop-letter.invariant.1 (omega arith)
