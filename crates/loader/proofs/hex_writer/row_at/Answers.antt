use Rattle.std.proofs.Common.{◌∙◌, arith, rules, append-nil, sym, ◌≡◌, ◌-◌}
use Rattle.loader.proofs.Runs.{row_ends, row_full, row_goes_on}
use Rattle.loader.proofs.hex_writer.row_at.Goals as goal

pub returns-in_default : goal.returns-in_default
returns-in_default c = row_ends c.loop-count.count c.args.start c.loop-count.row.items _ c.args.image.now (search rules) c.loop-count.invariant.rest

pub returns-then-address-eq0 : goal.returns-then-address-eq0
returns-then-address-eq0 c =
    row_full c.loop-count.count c.args.start c.in-Some.byte c.loop-count.row.items c.push.new.self.items _ c.args.image.now (omega arith)
    c.get.ensures.is_image.rising (search rules) c.push.ensures.items c.loop-count.invariant.rest (search rules)

pub loop-count-preserved : goal.loop-count-preserved
loop-count-preserved c = record {
  size = omega (arith, c.push.ensures.len, c.loop-count.invariant.size);
  rest = row_goes_on c.loop-count.count c.args.start c.in-Some.byte c.loop-count.row.items c.push.new.self.items _ c.args.image.now (omega arith)
      c.get.ensures.is_image.rising (search rules) c.push.ensures.items c.loop-count.invariant.rest (search rules);
}

pub returns : goal.returns
returns c =
    let all : c.loop-count.count ≡ 16 = omega arith in
    let none : 16 - 16 ≡ 0 = omega arith in
    sym (append-nil c.loop-count.row.items) ∙ (rw all at c.loop-count.invariant.rest)
