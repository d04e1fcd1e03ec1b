use Rattle.assembler.proofs.ListingTexts.{text_of_utf8}
use Rattle.assembler.proofs.listing.ascii_text.Goals as goal

pub returns : goal.returns
returns c = text_of_utf8 c.from_utf8.result _ c.unwrap_or.result c.args.characters.now _ c.requires c.unwrap_or.ensures c.from_utf8.ensures.cases
