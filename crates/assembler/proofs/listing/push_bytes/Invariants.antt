use Rattle.std.proofs.Common.{◌≡◌, ◌++◌}
use Rattle.std.specs.String.{string_bytes}
use Rattle.assembler.specs.Shown.{shown_digits}
use Rattle.assembler.proofs.listing.push_bytes.Given as goal

abbrev pub invariant-loop-n : goal.invariant-loop-n
invariant-loop-n l = string_bytes l.text ≡ string_bytes l.initial.text ++ shown_digits l.image l.location l.n
