use Rattle.std.proofs.Common.{ℕ, ◌≢◌, ◌<◌, map}
use Rattle.std.specs.Char.{to_ascii_lowercase}
use Rattle.std.specs.Prelude.{slice_get}
use Rattle.masm_text.specs.UserLines.{name_of}
use Rattle.masm_reading.proofs.reading.number_of.Given as goal

abbrev pub invariant-loop-text : goal.invariant-loop-text
invariant-loop-text l =
    (k : ℕ) → k < l.text-index →
    map to_ascii_lowercase (name_of (slice_get l.texts k)) ≢ map to_ascii_lowercase l.name
