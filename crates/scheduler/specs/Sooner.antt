-- The first deadline, found by going through the sources in their order.
-- For proofs alone: no public contract rests on it.
use Rattle.std.specs.Prelude.{ℕ, Option, None, Some, nat_le, if◌then◌else◌}
use Rattle.scheduler.specs.declared.deadlines.Source.{Source}
use Rattle.scheduler.specs.declared.deadlines.Source.TheVariants.{Counter0, Counter2, Keys, Processor, End}
use Rattle.scheduler.specs.Deadlines.{DeadlinesState}

abbrev pub sooner : Option (ℕ × Source) → Option ℕ → Source → Option (ℕ × Source)
sooner first None source = first
sooner None (Some at) source = Some (at, source)
sooner (Some first) (Some at) source = if nat_le first.0 at then Some first else Some (at, source)

unfoldable pub next_of : DeadlinesState → Option (ℕ × Source)
next_of d =
    sooner (sooner (sooner (sooner (sooner None d.counter_0 Counter0) d.counter_2 Counter2) d.keys Keys) d.processor
    Processor) d.end End
