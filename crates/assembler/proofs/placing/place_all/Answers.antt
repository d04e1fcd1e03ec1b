use Rattle.std.proofs.Common.{◌≡◌, ◌∙◌, ◌+◌, ◌<◌, ◌≤◌, List, [], take, length, get_or, refl, sym, ap, subst, arith}
use Rattle.std.proofs.lemmas.List.Elements.{All-from_recursion, All-get_or}
use Rattle.std.proofs.lemmas.Result.{err_from_is_err_and}
use Rattle.assembler.specs.declared.kept_line.KeptLine.{KeptLine}
use Rattle.assembler.specs.SecondPass.{AreFaultlessKept, KeepsSize, entries_by_all, with_entries}
use Rattle.assembler.proofs.PlacingWhole.{all_sized, faultless_more, few_located, gives, no_entries, placed_more, stops_first, whole}
use Rattle.assembler.proofs.placing.place_all.Goals as goal
use Rattle.assembler.proofs.placing.place_all.Goals.{After-located-item}

within : (c : After-located-item) → c.loop-located.located-index < length c.args.reading.now.located_lines.items
within c = subst (λ (ks : List KeptLine). c.loop-located.located-index < length ks) c.as_slice-located-items.ensures.value c.loop-located-test.true

item : (c : After-located-item) → get_or c.args.reading.now.located_lines.items c.loop-located.located-index c.located-item.result ≡ c.located-item.result
item c =
    sym (c.located-item.is ∙ ap (λ (ks : List KeptLine). get_or ks c.loop-located.located-index c.located-item.result) c.as_slice-located-items.ensures.value)

-- no row is placed yet
pub loop-located-init : goal.loop-located-init
loop-located-init c = record { counted = refl; image = c.new-image.ensures; placed = tt; is_image = rw c.new-image.ensures no_entries }

-- the number of a line is that of one of the source's rows, which are few
pub overflow_add-number : goal.overflow_add-number
overflow_add-number c =
    let few = few_located c.args.reading.now.source.items c.args.reading.now.symbols.entries c.args.reading.now.located_lines.items c.requires.reads in
    let there = within c in
    omega (arith, few, there, c.loop-located.invariant.counted)

-- each row has as many bytes as its size says
pub place_line-requires-clause-size : goal.place_line-requires-clause-size
place_line-requires-clause-size c =
    let from = (goal.at.place_line-requires-clause-size c).After-located-item in
    subst (λ (k : KeptLine). KeepsSize c.args.reading.now.symbols.entries k) (item from)
    (All-get_or (KeepsSize c.args.reading.now.symbols.entries) c.args.reading.now.located_lines.items
    c.loop-located.located-index c.located-item.result (within from)
    (All-from_recursion (KeepsSize c.args.reading.now.symbols.entries) c.args.reading.now.located_lines.items
    (all_sized c.args.reading.now.source.items c.args.reading.now.symbols.entries c.args.reading.now.located_lines.items c.requires.reads)))

-- the fault of a row is the source's first
pub returns-in_err-place_line-clause-fault : goal.returns-in_err-place_line-clause-fault
returns-in_err-place_line-clause-fault c =
    let from = (goal.at.returns-in_err-place_line-clause-fault c).After-located-item in
    let p = err_from_is_err_and c.from_residual.result c.from_residual.ensures.1 in
    rw (p.1, p.2)
    (stops_first c.args.reading.now.source.items c.args.reading.now.symbols.entries
    c.args.reading.now.located_lines.items c.loop-located.image c.loop-located.located-index c.located-item.result
    c.in_err-place_line.field-0.0 (c.loop-located.number + 1) c.requires.reads
    (within from) (item from) c.loop-located.invariant.image c.loop-located.invariant.placed
    c.in_err-place_line.ensures.fault (omega (arith, c.loop-located.invariant.counted)))

-- one more row is placed
pub loop-located-preserved : goal.loop-located-preserved
loop-located-preserved c =
    let from = (goal.at.loop-located-preserved c).After-located-item in
    record {
      counted = omega (arith, c.loop-located.invariant.counted);
      image = placed_more c.args.reading.now.symbols.entries c.args.reading.now.located_lines.items c.loop-located.located-index c.located-item.result
          c.loop-located.image c.place_line.new.image (within from) (item from) c.loop-located.invariant.image c.in_ok-place_line.ensures.image;
      placed = faultless_more c.args.reading.now.symbols.entries c.args.reading.now.located_lines.items c.loop-located.located-index c.located-item.result
          c.loop-located.image (within from) (item from) c.loop-located.invariant.image c.loop-located.invariant.placed c.in_ok-place_line.ensures.free;
      is_image = c.in_ok-place_line.ensures.is_image;
    }

-- with all rows placed, the source gives the image
pub returns-clause-gives : goal.returns-clause-gives
returns-clause-gives c =
    let past : length c.args.reading.now.located_lines.items ≤ c.loop-located.located-index =
    subst (λ (ks : List KeptLine). length ks ≤ c.loop-located.located-index) c.as_slice-located-items.ensures.value c.loop-located-test.false in
    let all : take c.loop-located.located-index c.args.reading.now.located_lines.items ≡ c.args.reading.now.located_lines.items =
    whole c.args.reading.now.located_lines.items c.loop-located.located-index past in
    gives c.args.reading.now.source.items c.args.reading.now.symbols.entries c.args.reading.now.located_lines.items c.loop-located.image c.requires.reads
    (c.loop-located.invariant.image ∙ ap (λ (ks : List KeptLine). with_entries [] (entries_by_all c.args.reading.now.symbols.entries ks)) all)
    (subst (λ (ks : List KeptLine). AreFaultlessKept c.args.reading.now.symbols.entries [] ks) all c.loop-located.invariant.placed)
    c.loop-located.invariant.is_image
