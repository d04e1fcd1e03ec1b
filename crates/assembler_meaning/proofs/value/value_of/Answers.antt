use Rattle.std.proofs.Common.{◌+◌, to_z, w64, sym, ◌∙◌, arith}
use Rattle.assembler_meaning.specs.Values.{IsSmallNumber}
use Rattle.assembler_meaning.proofs.LeavesValues.{few_terms, value_more, sum_more, sum_kept}
use Rattle.assembler_meaning.proofs.value.value_of.Goals as goal

pub loop-term-preserved : goal.loop-term-preserved
loop-term-preserved c =
    let sum = to_z w64 c.loop-term.sum-bits in
    let value = c.in_ok-sum-2.field-0 in
    let small : IsSmallNumber value = c.in_ok-sum-2.ensures.small in
    let more = sum_more (c.loop-term.term-index + 1) sum value c.loop-term.invariant.small small in
    let few = few_terms c.args.expression.now c.terms.result.1.now c.terms.result.0 c.requires.short c.terms.ensures in
    let is = sum_kept (c.loop-term.term-index + 1) sum value (omega arith) more small in
    record {
      rest = rw is (sym (value_more c.args.symbols.now.entries c.args.here c.terms.result.1.now
          c.loop-term.term-index _ sum value c.loop-term-test.true (sym c.in_ok-sum-2.ensures.value))
          ∙ c.loop-term.invariant.rest);
      small = rw is more;
    }
