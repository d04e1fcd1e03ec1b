use Rattle.std.proofs.Common.{arith}
use Rattle.probe.proofs.Copies.{keeps_more, keeps_none, renewed_all, renewed_more, renewed_none}
use Rattle.probe.proofs.watched.renew_bytes.Goals as goal

pub loop-index-init : goal.loop-index-init
loop-index-init c = (keeps_none c.args.watches.now c.requires, renewed_none c.args.accesses.now c.args.board.now.plain c.args.watches.now)

pub renew-requires : goal.renew-requires
renew-requires c = (c.loop-index.invariant.0.watched c.loop-index.index c.index-watches-index.result (omega arith)).room

pub loop-index-preserved : goal.loop-index-preserved
loop-index-preserved c =
    let watches = c.loop-index.watches in
    let i = c.loop-index.index in
    let d = c.index-watches-index.result in (
      keeps_more c.args.watches.now watches i c.renew.new.self d (omega arith) c.renew.ensures.first c.renew.ensures.count c.loop-index.invariant.0,
      renewed_more i c.args.accesses.now c.args.board.now.plain c.args.watches.now watches c.renew.new.self d
          (omega arith) c.renew.ensures c.loop-index.invariant.1,
    )

pub returns-clause-copies : goal.returns-clause-copies
returns-clause-copies c =
    renewed_all c.loop-index.index c.args.accesses.now c.args.board.now.plain c.args.watches.now c.loop-index.watches
    (omega (arith, c.loop-index-test.false)) c.loop-index.invariant.1
