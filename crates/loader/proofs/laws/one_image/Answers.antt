use Rattle.loader.proofs.OneImage.{loads_alone}
use Rattle.loader.proofs.laws.one_image.Goals as goal

pub returns : goal.returns
returns c = loads_alone c.args.image.now c.get.ensures.is_image
