use Rattle.std.proofs.Common.{◌≡◌, length}
use Rattle.assembler_lexeme.specs.Faults.{all_of, with_front}
use Rattle.assembler_syntax.specs.PartSteps.{parts}
use Rattle.assembler_syntax.specs.ItemSteps.{item_of}
use Rattle.assembler_syntax.proofs.read.item.read_items.Given as goal

abbrev pub invariant-loop-part : goal.invariant-loop-part
invariant-loop-part l = with_front l.items (all_of (item_of l.fn.width) l.parts) ≡ all_of (item_of l.fn.width) (parts l.fn.tokens)

abbrev pub decreases-loop-part : goal.decreases-loop-part
decreases-loop-part l = length l.parts
