use Rattle.std.proofs.Common.{◌++◌, ap, ◌∙◌}
use Rattle.board_types.proofs.Iterate.{gathered_add, gathered_more, gathered_zero, iterate_zero}
use Rattle.board_plain.specs.Plain.{after_clock, after_clocks}
use Rattle.events.specs.Events.{events_next}
use Rattle.events.proofs.clock_laws.events_add_up.Goals as goal

pub returns-clause-more : goal.returns-clause-more
returns-clause-more c s n m = gathered_add after_clock events_next n m s

pub returns-clause-one : goal.returns-clause-one
returns-clause-one c s =
    gathered_more after_clock events_next 0 s
    ∙ ap (λ xs. xs ++ events_next (after_clocks s 0)) (gathered_zero after_clock events_next s)
    ∙ ap events_next (iterate_zero after_clock s)
