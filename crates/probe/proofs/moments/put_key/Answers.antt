-- The board's keys, with one more.
use Rattle.std.proofs.Common.{◌≡◌, ap, ◌∙◌}
use Rattle.events.specs.WithKey.{with_key}
use Rattle.probe.proofs.Counting.{number_of}
use Rattle.probe.proofs.moments.put_key.Goals as goal

pub returns-clause-plain : goal.returns-clause-plain
unfolding with_key
returns-clause-plain c =
    let stamp : c.unwrap-stamp.result ≡ c.args.stamp = number_of c.new.result c.unwrap-stamp.result c.args.stamp _ c.new.ensures c.unwrap-stamp.ensures in
    c.take_keys.ensures
    ∙ ap (λ ks. record c.args.board.now { plain = record c.args.board.now.plain { keys = ks } }) c.in-Ok.ensures.keys
    ∙ ap (λ n. record c.args.board.now { plain = with_key c.args.board.now.plain (record { stamp = n; code = c.args.code }) }) stamp
