use Rattle.std.proofs.Common.{◌≡◌}
use Rattle.assembler.proofs.ListingNames.{AreLetters}
use Rattle.assembler.proofs.listing.name_length.Given as goal

abbrev pub invariant-loop-letter : goal.invariant-loop-letter
invariant-loop-letter l = (l.length ≡ l.letter-index) × AreLetters l.letters l.letter-index
