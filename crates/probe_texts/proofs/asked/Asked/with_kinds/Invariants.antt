-- The kinds so far are asked for.
use Rattle.std.proofs.Common.{◌≡◌, fold, take}
use Rattle.probe_texts.specs.Asked.{with_kind}
use Rattle.probe_texts.proofs.asked.Asked.with_kinds.Given as goal

abbrev pub invariant-loop-kind : goal.invariant-loop-kind
invariant-loop-kind l = l.asked ≡ fold with_kind l.fn.self (take l.kind-index l.kinds)
