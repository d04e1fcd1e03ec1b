-- Stops that are conditions are the board's.
use Rattle.std.proofs.Common.{◌≡◌, ℕ, zero, suc, ◌+◌, ◌-◌, cond, List, [], ◌∷◌, map, Option, None, Some, refl, sym, ap, ◌∙◌}
use Rattle.std.specs.List.{position_from}
use Rattle.board_types.proofs.Iterate.{iterate_zero}
use Rattle.board_plain.specs.declared.stop.Condition.{Condition}
use Rattle.board_plain.specs.declared.stop.Stop.{Stop as End}
use Rattle.board_plain.specs.Plain.{Plain, after_clock, after_clocks}
use Rattle.board_plain.specs.Stops.{holding, holds, IsStopOf, NoStop}
use Rattle.probe_texts.specs.declared.stops.Stop.{Stop}
use Rattle.probe_texts.specs.declared.stops.Stop.TheVariants.{Standing}
use Rattle.probe.specs.ProbeLaws.{StandingEndsAlike, StandingMetAlike}
use Rattle.probe.specs.ProbeStops.{IsEndOf, meeting, meeting_at, meets, NoneMet, standing, stands}

standing_from : (conditions : List Condition) (i : ℕ) (before now : Plain)
    → position_from (λ (stop : Stop). meets stop before now) i (map Standing conditions) ≡ position_from (λ condition. holds condition now) i conditions
unfolding meets
standing_from [] i before now = refl
standing_from (x ∷ xs) i before now = ap (λ rest. cond (holds x now) (Some i) rest) (standing_from xs (i + 1) before now)

alike : (conditions : List Condition) (before now : Plain) → meeting (map Standing conditions) before now ≡ holding conditions now
unfolding meeting holding
alike conditions before now = standing_from conditions 1 before now

at : (conditions : List Condition) (s : Plain) (j : ℕ) → meeting_at (map Standing conditions) s j ≡ holding conditions (after_clocks s j)
at conditions s j = alike conditions (after_clocks s (j - 1)) (after_clocks s j)

pub none_there : (conditions : List Condition) (n : ℕ) (s : Plain) → NoneMet (map Standing conditions) n s → NoStop conditions n s
none_there conditions n s none = λ j some within. sym (at conditions s j) ∙ none j some within

pub none_here : (conditions : List Condition) (n : ℕ) (s : Plain) → NoStop conditions n s → NoneMet (map Standing conditions) n s
none_here conditions n s none = λ j some within. at conditions s j ∙ none j some within

pub there : (conditions : List Condition) (n : ℕ) (s : Plain) (end : Option End) → IsEndOf (map Standing conditions) n s end → IsStopOf conditions n s end
there conditions n s None none = none_there conditions n s none
there conditions n s (Some end) ends = record {
  passed = ends.passed;
  after_start = ends.after_start;
  within = ends.within;
  none_before = none_there conditions (ends.passed - 1) s ends.none_before;
  holds_there = sym (at conditions s ends.passed) ∙ ends.met_there;
  clock = ends.clock;
}

pub here : (conditions : List Condition) (n : ℕ) (s : Plain) (end : Option End) → IsStopOf conditions n s end → IsEndOf (map Standing conditions) n s end
here conditions n s None none = none_here conditions n s none
here conditions n s (Some end) ends = record {
  passed = ends.passed;
  after_start = ends.after_start;
  within = ends.within;
  none_before = none_here conditions (ends.passed - 1) s ends.none_before;
  met_there = at conditions s ends.passed ∙ ends.holds_there;
  clock = ends.clock;
}

pub ends_alike : StandingEndsAlike
ends_alike conditions n s end = (there conditions n s end, here conditions n s end)

stands_from : (conditions : List Condition) (i : ℕ) (s : Plain)
    → position_from (λ (stop : Stop). stands stop s) i (map Standing conditions) ≡ position_from (λ condition. holds condition s) i conditions
unfolding stands
stands_from [] i s = refl
stands_from (x ∷ xs) i s = ap (λ rest. cond (holds x s) (Some i) rest) (stands_from xs (i + 1) s)

pub stand_alike : (conditions : List Condition) (s : Plain) → standing (map Standing conditions) s ≡ holding conditions s
unfolding standing holding
stand_alike conditions s = stands_from conditions 1 s

pub met_alike : StandingMetAlike
met_alike conditions zero s = stand_alike conditions s ∙ ap (holding conditions) (sym (iterate_zero after_clock s))
met_alike conditions (suc n) s = at conditions s (suc n)
