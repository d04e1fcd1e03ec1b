use Rattle.std.proofs.Common.{◌≡◌, ◌≤◌, true, rules}
use Rattle.board_types.specs.Keys.{last_stamp, names_key}
use Rattle.board_types.proofs.KeyOrder.{in_order_pushed}
use Rattle.board_types.proofs.keys.Keys.push.Goals as goal

pub invariant_of-self : goal.invariant_of-self
invariant_of-self c =
    let named : names_key c.args.code ≡ true = search rules in
    let late : last_stamp c.self.inside.keys.items ≤ c.args.stamp = rw c.self.view_is (search rules) in
    in_order_pushed _ _ _ _ c.push.ensures.items c.self.invariant named late
