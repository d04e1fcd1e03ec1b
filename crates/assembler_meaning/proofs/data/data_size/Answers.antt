use Rattle.std.proofs.Common.{arith, ◌∙◌, ap}
use Rattle.assembler_syntax.specs.Weights.{pieces_weight}
use Rattle.assembler_meaning.specs.Data.{pieces_size}
use Rattle.assembler_meaning.proofs.LeavesSizes.{item_adds, short_more}
use Rattle.assembler_meaning.proofs.data.data_size.Goals as goal

pub overflow_add-size : goal.overflow_add-size
overflow_add-size c =
    let each_is = c.pieces_size.ensures.value ∙ ap (pieces_size c.args.width) c.item_pieces.ensures in
    let light = c.pieces_size.ensures.bound in
    let weight = ap pieces_weight c.item_pieces.ensures in
    let adds = item_adds c.args.symbols.now.entries c.args.width c.args.items.now c.loop-item.item-index c.item-item.result c.item_count.result
    c.pieces_size.result c.loop-item-test.true c.item-item.is c.loop-item.invariant.counts c.item_count.ensures each_is (omega (arith, light, weight)) in
    omega arith

pub loop-item-preserved : goal.loop-item-preserved
loop-item-preserved c =
    let each_is = c.pieces_size.ensures.value ∙ ap (pieces_size c.args.width) c.item_pieces.ensures in
    let light = c.pieces_size.ensures.bound in
    let weight = ap pieces_weight c.item_pieces.ensures in
    let adds = item_adds c.args.symbols.now.entries c.args.width c.args.items.now c.loop-item.item-index c.item-item.result c.item_count.result
    c.pieces_size.result c.loop-item-test.true c.item-item.is c.loop-item.invariant.counts c.item_count.ensures each_is (omega (arith, light, weight)) in
    record {
      rest = omega arith;
      bound = omega arith;
      short = short_more c.args.items.now c.loop-item.item-index c.item-item.result c.loop-item-test.true c.loop-item.invariant.short;
      counts = adds.counts;
    }
