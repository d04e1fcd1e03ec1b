-- The words of the prefixes so far are written.
use Rattle.std.proofs.Common.{take}
use Rattle.std.specs.List.{flat_map}
use Rattle.std.specs.Fmt.{HasWritten, IsPlainFormatter}
use Rattle.disassembler.specs.Text.{prefix_text}
use Rattle.disassembler.proofs.text.PrefixesDisplay.fmt.Given as goal

abbrev pub invariant-loop-prefix : goal.invariant-loop-prefix
invariant-loop-prefix g l =
    IsPlainFormatter l.initial.f → HasWritten g.W.Write.write_str_gives l.initial.f (flat_map prefix_text (take l.prefix-index l.prefix-items)) l.f
