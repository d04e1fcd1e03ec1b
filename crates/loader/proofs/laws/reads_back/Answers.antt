use Rattle.loader.proofs.ReadBack.{reads_back}
use Rattle.loader.proofs.laws.reads_back.Goals as goal

pub returns : goal.returns
returns c = reads_back c.args.image.now c.get.ensures.is_image
