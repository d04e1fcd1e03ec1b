-- The bytes so far are copied.
use Rattle.std.proofs.Common.{◌≡◌, ℕ, ◌+◌, ◌<◌, get_or, length}
use Rattle.board_plain.specs.Plain.{byte_of}
use Rattle.probe.proofs.bytes.Copied.copy.Given as goal

abbrev pub invariant-loop-index : goal.invariant-loop-index
invariant-loop-index l =
    (l.self.first ≡ l.initial.self.first) × ((length l.self.bytes.items ≡ length l.initial.self.bytes.items)
    × ((k : ℕ) → k < l.index → get_or l.self.bytes.items k 0 ≡ byte_of l.board.plain (l.self.first + k)))
