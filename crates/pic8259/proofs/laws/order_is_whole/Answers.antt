use Rattle.pic8259.proofs.OrderWhole.{order_is_whole}
use Rattle.pic8259.proofs.laws.order_is_whole.Goals as goal

pub returns : goal.returns
returns c = order_is_whole
