-- How a run ends with one more key, or two, for each clock at which the first could come.
-- To be believed by callers of this crate: the headline does not rest on it.
use Rattle.std.specs.Prelude.{ℕ, ◌≡◌, ◌≢◌, ◌+◌, ◌<◌, ◌≤◌, ◌^◌, ◌⊎◌, Bool, true, ◌&&◌, IsTrue, List, [], ◌∷◌}
use Rattle.std.specs.Prelude.{Option, None, Some, IfSome, Result, MatchResult}
use Rattle.std.specs.List.{flat_map}
use Rattle.std.specs.Option.{option_map}
use Rattle.board_types.specs.Keys.{names_key}
use Rattle.board_types.specs.declared.keys.StampedKey.{StampedKey}
use Rattle.board_plain.specs.declared.stop.Stop.{Stop as End}
use Rattle.board_plain.specs.Plain.{Plain, clock_of}
use Rattle.debugger_meaning.specs.declared.answer.Answer.{Answer}
use Rattle.debugger_meaning.specs.declared.fault.DebugFault.{DebugFault}
use Rattle.debugger_meaning.specs.declared.fault.DebugFault.TheVariants.{BadScan, StampsFall, ClockLimit, BadCommand}
use Rattle.debugger_meaning.specs.declared.fault.DebugFault.TheVariants.{TooManyStops, Memory, BeforeStart, NoCell}
use Rattle.debugger_meaning.specs.Session.{IsText}
use Rattle.events.specs.WithKey.{with_key}
use Rattle.probe_texts.specs.declared.moments_text.Ends.{Ends}
use Rattle.probe_texts.specs.declared.moments_text.Moments.{Moments}
use Rattle.probe_texts.specs.declared.moments_text.Second.{Second}
use Rattle.probe_texts.specs.declared.moments_text.Trial.{Trial}
use Rattle.probe_texts.specs.declared.stops.Stop.{Stop}
use Rattle.probe.specs.ProbeStops.{IsEndOf}
use Rattle.probe_texts.specs.MomentsText.{moments_line}

-- the key, if it comes at this clock
abbrev pub key_tried : Trial → ℕ → StampedKey
key_tried trial stamp = record { stamp = stamp; code = trial.code }

-- a second key, so many clocks after the first; at the same clock it comes after it
abbrev pub second_tried : Second → ℕ → StampedKey
second_tried second stamp = record { stamp = stamp + second.after; code = second.code }

abbrev pub with_second : Option Second → Plain → ℕ → Plain
with_second None s stamp = s
with_second (Some second) s stamp = with_key s (second_tried second stamp)

-- the board that gets the trial's keys, if the first comes at this clock
abbrev pub with_tried : Plain → Trial → ℕ → Plain
with_tried s trial stamp = with_second trial.second (with_key s (key_tried trial stamp)) stamp

-- the run with the keys ends like this
abbrev pub EndsWith : List Stop → Plain → Trial → ℕ → Option End → Type 0
EndsWith stops s trial stamp end = IsEndOf stops trial.count (with_tried s trial stamp) end

-- an end at the stop of these ends, from their least to their greatest clock; or no end, if they have none
abbrev pub IsAmong : Option Ends → Option End → Type 0
IsAmong None None = Unit {0}
IsAmong None (Some end) = ⊥
IsAmong (Some ends) None = ⊥
IsAmong (Some ends) (Some end) = (end.number ≡ ends.number) × ((ends.least ≤ end.clock) × (end.clock ≤ ends.greatest))

-- the key at one of these clocks, and the second, if there is one, lead to an end at this stop and clock
pub record IsReached (stops : List Stop) (s : Plain) (trial : Trial) (m : Moments) (number clock : ℕ) : Type 0 where
  pub stamp : ℕ
  pub from : m.first ≤ stamp
  pub to : stamp ≤ m.last
  pub ends : EndsWith stops s trial stamp (Some (record { number = number; clock = clock }))

-- moments with which the runs end alike
pub record AreAlike (stops : List Stop) (s : Plain) (trial : Trial) (m : Moments) : Type 0 where
  pub rising : m.first ≤ m.last
  pub each : (stamp : ℕ) → m.first ≤ stamp → stamp ≤ m.last
      → (end : Option End) × (EndsWith stops s trial stamp end × IsAmong m.ends end)
  pub least : IfSome m.ends (λ ends. IsReached stops s trial m ends.number ends.least)
  pub greatest : IfSome m.ends (λ ends. IsReached stops s trial m ends.number ends.greatest)

-- the number of the stop at which runs end, if they end at one
abbrev pub stop_number : Moments → Option ℕ
stop_number m = option_map (λ (ends : Ends). ends.number) m.ends

-- the next range has another stop
abbrev pub DiffersNext : Moments → List Moments → Type 0
DiffersNext m [] = Unit {0}
DiffersNext m (next ∷ rest) = stop_number next ≢ stop_number m

-- the ranges cover all clocks from the first to the last, each clock once
abbrev pub AreRanges : List Stop → Plain → Trial → ℕ → ℕ → List Moments → Type 0
AreRanges stops s trial first last [] = last < first
AreRanges stops s trial first last (m ∷ ms) =
    (m.first ≡ first)
    × ((m.last ≤ last) × (AreAlike stops s trial m × (DiffersNext m ms × AreRanges stops s trial (m.last + 1) last ms)))

-- how many clocks after the first key the last one comes
abbrev pub span_of : Option Second → ℕ
span_of None = 0
span_of (Some second) = second.after

-- the code of a second key, if there is one, is a key's
abbrev pub names_second : Option Second → Bool
names_second None = true
names_second (Some second) = names_key second.code

abbrev pub names_keys : Trial → Bool
names_keys trial = names_key trial.code && names_second trial.second

-- keys that can be tried: their clocks are still to come, and the run ends in time
pub record CanBeTried (clock : ℕ) (trial : Trial) : Type 0 where
  pub within : trial.last + span_of trial.second ≤ 2 ^ 40
  pub in_time : clock + trial.count ≤ 2 ^ 40
  pub scan : IsTrue (names_keys trial)
  pub later : clock < trial.first

-- the answer has a line for each range of a trial
pub record TellsMoments (stops : List Stop) (s : Plain) (trial : Trial) (answer : Answer) : Type 0 where
  pub can : CanBeTried (clock_of s) trial
  pub ranges : List Moments
  pub are : AreRanges stops s trial trial.first trial.last ranges
  pub shows : IsText (flat_map moments_line ranges) answer

-- why a trial is refused: the first of these reasons that holds
abbrev pub IsPastLimit : ℕ → Trial → Type 0
IsPastLimit clock trial = (2 ^ 40 < trial.last + span_of trial.second) ⊎ (2 ^ 40 < clock + trial.count)

abbrev pub CannotBeTried : ℕ → Trial → DebugFault → Type 0
CannotBeTried clock trial ClockLimit = IsPastLimit clock trial
CannotBeTried clock trial BadScan = ¬ (IsPastLimit clock trial) × ¬ (IsTrue (names_keys trial))
CannotBeTried clock trial StampsFall =
    ¬ (IsPastLimit clock trial) × (IsTrue (names_keys trial) × (trial.first ≤ clock))
CannotBeTried clock trial (Memory None) = CanBeTried clock trial
CannotBeTried clock trial (Memory (Some at)) = ⊥
CannotBeTried clock trial BadCommand = ⊥
CannotBeTried clock trial TooManyStops = ⊥
CannotBeTried clock trial BeforeStart = ⊥
CannotBeTried clock trial NoCell = ⊥

abbrev pub AnswersTrial : List Stop → Plain → Trial → Result Answer DebugFault → Type 0
AnswersTrial stops s trial result = MatchResult result (TellsMoments stops s trial) (CannotBeTried (clock_of s) trial)
