-- There is room for all of them.
use Rattle.std.proofs.Common.{◌≡◌, ◌+◌, ◌++◌, [], ◌∷◌, List, ap, append-nil, get_or, length, sym, take, ◌∙◌, arith}
use Rattle.std.proofs.lemmas.List.{length-map, length-take-le, map-append, take_more}
use Rattle.arrayvec.specs.ArrayVec.{ArrayVec}
use Rattle.board_plain.specs.declared.stop.Condition.{Condition}
use Rattle.probe_texts.specs.declared.stops.Stop.{Stop}
use Rattle.probe.specs.declared.watched.Watched.{Watched}
use Rattle.probe.specs.Probe.{conditions_of}
use Rattle.probe.specs.Watched.{stops_of}
use Rattle.probe.proofs.Probes.{conditions_more, fewer, unstanding}
use Rattle.probe.proofs.watched.conditions_of.Goals.{in-Standing, in_default}
use Rattle.probe.proofs.watched.conditions_of.Goals as goal

pub push-requires : goal.push-requires
push-requires c =
    let ws = c.args.watches.now in
    let before = take c.loop-watched.watched-index ws in
    let many : length c.loop-watched.conditions.items ≡ length (conditions_of (stops_of before)) = ap length c.loop-watched.invariant in
    let most = fewer (stops_of before) in
    let taken : length (stops_of before) ≡ c.loop-watched.watched-index =
    length-map before (λ (w : Watched). w.stop) ∙ length-take-le c.loop-watched.watched-index ws (omega (arith, c.loop-watched-test.true)) in
    let all : length (stops_of ws) ≡ length ws = length-map ws (λ (w : Watched). w.stop) in
    (omega arith, omega (arith, many, most, taken, all, c.loop-watched-test.true, c.requires.few))

pub loop-watched-preserved : goal.loop-watched-preserved
loop-watched-preserved c =
    let ws = c.args.watches.now in
    let i = c.loop-watched.watched-index in
    let item = c.watched-item.result in
    let before : List Stop = stops_of (take i ws) in
    let more : conditions_of (stops_of (take (i + 1) ws)) ≡ conditions_of before ++ conditions_of (item.stop ∷ []) =
    ap (λ (xs : List Watched). conditions_of (stops_of xs)) (take_more ws i item c.loop-watched-test.true)
    ∙ ap conditions_of (map-append (λ (w : Watched). w.stop) (take i ws) (get_or ws i item ∷ []))
    ∙ conditions_more before (get_or ws i item).stop
    ∙ ap (λ (w : Watched). conditions_of before ++ conditions_of (w.stop ∷ [])) (sym c.watched-item.is) in
    elim c.match-watched.branch [
      | in-Standing w ↦ ap (λ (v : ArrayVec Condition). v.items) w.conditions-is ∙ w.push.ensures.items
          ∙ ap (λ (xs : List Condition). xs ++ w.in-Standing.condition ∷ []) c.loop-watched.invariant
          ∙ sym (more ∙ ap (λ (stop : Stop). conditions_of before ++ conditions_of (stop ∷ [])) w.in-Standing.is)
      | in_default w ↦ ap (λ (v : ArrayVec Condition). v.items) w.conditions-is ∙ c.loop-watched.invariant
          ∙ sym
          (more ∙ ap (λ (xs : List Condition). conditions_of before ++ xs) (unstanding item.stop w.in_default.not-Standing) ∙ append-nil (conditions_of before))
    ]
