use Rattle.std.proofs.Common.{◌≡◌, [], take}
use Rattle.board_types.specs.Image.{IsImage}
use Rattle.assembler.specs.SecondPass.{AreFaultlessKept, entries_by_all, with_entries}
use Rattle.assembler.proofs.placing.place_all.Given as goal

abbrev pub invariant-loop-located : goal.invariant-loop-located
invariant-loop-located l = record {
  counted : l.number ≡ l.located-index;
  image : l.image ≡ with_entries [] (entries_by_all l.reading.symbols.entries (take l.located-index l.reading.located_lines.items));
  placed : AreFaultlessKept l.reading.symbols.entries [] (take l.located-index l.reading.located_lines.items);
  is_image : IsImage l.image;
}
