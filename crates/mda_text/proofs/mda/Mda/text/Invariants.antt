use Rattle.std.proofs.Common.{◌≡◌}
use Rattle.std.specs.String.{string_bytes}
use Rattle.std.specs.List.{range_with_len, flat_map}
use Rattle.mda_text.specs.Screen.{screen_row}
use Rattle.mda_text.proofs.mda.Mda.text.Given as goal

abbrev pub invariant-loop-row : goal.invariant-loop-row
invariant-loop-row l = string_bytes l.text ≡ flat_map (screen_row l.self) (range_with_len 0 l.row)
