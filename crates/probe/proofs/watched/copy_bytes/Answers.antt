use Rattle.std.proofs.Common.{get_or, arith}
use Rattle.std.proofs.lemmas.List.Elements.{AllWithin-none}
use Rattle.probe.specs.declared.watched.Watched.{Watched}
use Rattle.probe.proofs.Copies.{Copies, copies_all, copies_more, keeps_more, keeps_none}
use Rattle.probe.proofs.watched.copy_bytes.Goals as goal

pub loop-index-init : goal.loop-index-init
loop-index-init c = (keeps_none c.args.watches.now c.requires, AllWithin-none (Copies c.args.board.now.plain) c.args.watches.now 0)

pub copy-requires : goal.copy-requires
copy-requires c = (c.loop-index.invariant.0.watched c.loop-index.index c.index-watches-index.result (omega arith)).room

pub loop-index-preserved : goal.loop-index-preserved
loop-index-preserved c =
    let watches = c.loop-index.watches in
    let i = c.loop-index.index in
    let d = c.index-watches-index.result in
    let w : Watched = record { stop = (get_or watches i d).stop; copied = c.copy.new.self } in (
      keeps_more c.args.watches.now watches i c.copy.new.self d (omega arith) c.copy.ensures.first c.copy.ensures.count c.loop-index.invariant.0,
      copies_more watches i w c.args.board.now.plain (omega arith) c.copy.ensures.copy c.loop-index.invariant.1,
    )

pub returns-clause-copies : goal.returns-clause-copies
returns-clause-copies c =
    copies_all c.loop-index.watches c.loop-index.index c.args.board.now.plain (omega (arith, c.loop-index-test.false)) c.loop-index.invariant.1
