-- A run with a key that is tried, and the ranges to which it is added.
-- For proofs alone: no public contract rests on it.
use Rattle.std.specs.Prelude.{ℕ, ◌≡◌, ◌+◌, ◌-◌, ◌<◌, ◌≤◌, ◌==◌, All, Bool, true, false}
use Rattle.std.specs.Prelude.{min, max, if◌then◌else◌, List, [], ◌∷◌, Option, None, Some}
use Rattle.board_plain.specs.declared.stop.Stop.{Stop as End}
use Rattle.board_plain.specs.Plain.{Plain, after_clocks, clock_of}
use Rattle.board_plain.specs.Stops.{run_length}
use Rattle.probe_texts.specs.declared.moments_text.Ends.{Ends}
use Rattle.probe_texts.specs.declared.moments_text.Moments.{Moments}
use Rattle.probe_texts.specs.declared.moments_text.Trial.{Trial}
use Rattle.probe_texts.specs.declared.stops.Stop.{Stop}
use Rattle.probe.specs.declared.watched.Watched.{Watched}
use Rattle.probe.specs.Moments.{AreRanges}
use Rattle.probe.specs.ProbeStops.{IsEndOf, NoneMet}
use Rattle.probe.specs.Watched.{IsWatched, stops_of}

-- a run from a board to the clock `end`, or up to the first clock after the start at which a stop is met
pub record RunsTo (stops : List Stop) (end : ℕ) (s t : Plain) (stopped : Option End) : Type 0 where
  pub ends : IsEndOf stops (end - clock_of s) s stopped
  pub plain : t ≡ after_clocks s (run_length (end - clock_of s) s stopped)
  pub clock : clock_of t ≡ clock_of s + run_length (end - clock_of s) s stopped

-- the ends of runs, the first of which ends like this
abbrev pub ends_of : Option End → Option Ends
ends_of None = None
ends_of (Some end) = Some (record { number = end.number; least = end.clock; greatest = end.clock })

-- the ends of runs and of one more, if that ends at their stop, or, as they do, at none
abbrev pub wider : Ends → End → Ends
wider ends end = record {
  number = ends.number;
  least = min ends.least end.clock;
  greatest = max ends.greatest end.clock;
}

abbrev pub ends_with : Option Ends → Option End → Option (Option Ends)
ends_with None None = Some None
ends_with None (Some end) = None
ends_with (Some ends) None = None
ends_with (Some ends) (Some end) = if ends.number == end.number then Some (Some (wider ends end)) else None

-- the clocks from one to another, with which runs end like this
abbrev pub moments_of : ℕ → ℕ → Option End → Moments
moments_of first last end = record { first = first; last = last; ends = ends_of end }

abbrev pub joined : Moments → Moments → Option (Option Ends) → List Moments
joined m coming None = m ∷ coming ∷ []
joined m coming (Some ends) = record m { last = coming.last; ends = ends } ∷ []

abbrev pub added : List Moments → ℕ → ℕ → Option End → List Moments
added [] first last end = moments_of first last end ∷ []
added (m ∷ []) first last end = joined m (moments_of first last end) (ends_with m.ends end)
added (m ∷ n ∷ ms) first last end = m ∷ added (n ∷ ms) first last end

-- the key was tried at each clock before this one, and without it no stop was met up to the clock before the last of
-- them
pub record Tried (stops : List Stop) (s bare : Plain) (trial : Trial)
    (end stamp : ℕ) (ranges : List Moments) (watches : List Watched) : Type 0 where
  pub passed : ℕ
  pub plain : bare ≡ after_clocks s passed
  pub clock : clock_of bare ≡ clock_of s + passed
  pub before : clock_of bare < stamp
  pub within : clock_of bare ≤ end
  pub none : NoneMet stops passed s
  pub are : AreRanges stops s trial trial.first (stamp - 1) ranges
  pub stops_are : stops_of watches ≡ stops
  pub watched : All IsWatched watches

-- all ranges are known, or the key was tried at one clock more
abbrev pub TriedNext : Bool → List Stop → Plain → Plain → Trial → ℕ → ℕ → List Moments → List Watched → Type 0
TriedNext true stops s bare trial end stamp ranges watches = AreRanges stops s trial trial.first trial.last ranges
TriedNext false stops s bare trial end stamp ranges watches = Tried stops s bare trial end (stamp + 1) ranges watches
