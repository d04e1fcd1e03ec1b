-- What holds of the moments at which a key is tried, or two.
-- Laws: claims above the definitions, each proved as the contract of a function.
use Rattle.std.specs.Prelude.{ℕ, ◌≡◌, ◌+◌, ◌<◌, ◌≤◌, ◌↔◌, Bool, ◌&&◌, nat_le}
use Rattle.std.specs.Prelude.{List, Contains, count_by, Option, None, Some}
use Rattle.board_plain.specs.declared.stop.Stop.{Stop as End}
use Rattle.board_plain.specs.Plain.{Plain, clock_of}
use Rattle.debugger_meaning.specs.declared.answer.Answer.{Answer}
use Rattle.debugger_meaning.specs.declared.answer.Answer.TheVariants.{Stop, Clock, StopAt, Text}
use Rattle.debugger_meaning.specs.Stands.{SessionState}
use Rattle.probe_texts.specs.declared.moments_text.Ends.{Ends}
use Rattle.probe_texts.specs.declared.moments_text.Moments.{Moments}
use Rattle.probe_texts.specs.declared.moments_text.Second.{Second}
use Rattle.probe_texts.specs.declared.moments_text.Trial.{Trial}
use Rattle.probe_texts.specs.declared.stops.Stop.{Stop as ProbeStop}
use Rattle.probe.specs.Moments.{AreRanges, EndsWith, key_tried, second_tried}
use Rattle.probe.specs.Probe.{GoesOn, ProbeState, session_of}
use Rattle.probe.specs.ProbeStops.{IsEndOf}
use Rattle.probe.specs.Typed.{Takes}

-- a clock is in a range
abbrev pub stands_in : ℕ → Moments → Bool
stands_in stamp m = nat_le m.first stamp && nat_le stamp m.last

-- each clock is in exactly one range
abbrev pub EachMomentOnce : Type 0
EachMomentOnce =
    (stops : List ProbeStop) (s : Plain) (trial : Trial) (first last : ℕ) (ranges : List Moments)
    → AreRanges stops s trial first last ranges
    → (stamp : ℕ) → first ≤ stamp → stamp ≤ last → count_by (stands_in stamp) ranges ≡ 1

-- there is only one list of ranges
abbrev pub OneListOfRanges : Type 0
OneListOfRanges =
    (stops : List ProbeStop) (s : Plain) (trial : Trial) (first last : ℕ) (ranges others : List Moments)
    → AreRanges stops s trial first last ranges → AreRanges stops s trial first last others → others ≡ ranges

-- the answer of a run that ends as those of a range do
abbrev pub IsAnswerOf : Option Ends → Answer → Type 0
IsAnswerOf None (Clock clock) = Unit {0}
IsAnswerOf (Some ends) (StopAt number clock) = (number ≡ ends.number) × ((ends.least ≤ clock) × (clock ≤ ends.greatest))
IsAnswerOf None (Stop number) = ⊥
IsAnswerOf None (StopAt number clock) = ⊥
IsAnswerOf None (Text text) = ⊥
IsAnswerOf (Some ends) (Stop number) = ⊥
IsAnswerOf (Some ends) (Clock clock) = ⊥
IsAnswerOf (Some ends) (Text text) = ⊥

-- a second key, if there is one, was typed so many clocks after the first
abbrev pub TakesSecond : Option Second → ℕ → SessionState → SessionState → Answer → Type 0
TakesSecond None stamp s t told = t ≡ s
TakesSecond (Some second) stamp s t told = Takes (second_tried second stamp) s t told

-- what `go` answers in the session in which the key was typed for a clock, and then the second, if there is one, is
-- what the clock's range says
abbrev pub MomentsAreRuns : Type 0
MomentsAreRuns =
    (old keyed new : ProbeState) (typed : SessionState) (trial : Trial) (ranges : List Moments)
    (m : Moments) (stamp : ℕ) (told second_told answer : Answer)
    → AreRanges old.stops old.board.plain trial trial.first trial.last ranges
    → Contains ranges m → m.first ≤ stamp → stamp ≤ m.last
    → Takes (key_tried trial stamp) (session_of old) typed told
    → TakesSecond trial.second stamp typed (session_of keyed) second_told → keyed.stops ≡ old.stops
    → GoesOn trial.count keyed new answer
    → IsAnswerOf m.ends answer

-- a key that comes after a run's end changes nothing of it, nor does a second one after it
abbrev pub PastTheEndAlike : Type 0
PastTheEndAlike =
    (stops : List ProbeStop) (s : Plain) (trial : Trial) (stamp : ℕ) (end : Option End)
    → clock_of s + trial.count < stamp
    → EndsWith stops s trial stamp end ↔ IsEndOf stops trial.count s end
