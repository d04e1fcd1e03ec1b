use Rattle.std.proofs.Common.{◌≡◌, ◌++◌, ◌∷◌, [], List, All, sym, subst}
use Rattle.std.proofs.lemmas.List.Elements.{All-push}
use Rattle.board_plain.specs.declared.stop.Condition.{Condition}
use Rattle.board_plain.specs.Stops.{HasAddress}
use Rattle.board_cases.proofs.stops.read_stops.Goals as goal

pub loop-number-preserved : goal.loop-number-preserved
loop-number-preserved c =
    subst (λ (stops : List Condition). All HasAddress stops) (sym c.push.ensures.items)
    (All-push HasAddress c.loop-number.stops.items c.in_ok-condition.condition c.loop-number.invariant c.in_ok-condition.ensures)
