-- The ranges so far have their lines.
use Rattle.std.proofs.Common.{◌≡◌, take}
use Rattle.std.specs.List.{flat_map}
use Rattle.std.specs.String.{string_bytes}
use Rattle.probe_texts.specs.MomentsText.{moments_line}
use Rattle.probe_texts.proofs.moments_text.moments_text.Given as goal

abbrev pub invariant-loop-range : goal.invariant-loop-range
invariant-loop-range l = string_bytes l.text ≡ flat_map moments_line (take l.range-index l.ranges)
