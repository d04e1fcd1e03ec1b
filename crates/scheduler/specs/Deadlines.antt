-- When each part of a board is due next, and which is due first.
-- To be believed by callers of this crate: the headline does not rest on it.
use Rattle.std.specs.Prelude.{◌≡◌, ℕ, ◌<◌, ◌≤◌, ◌⊎◌, Option, None, Some}
use Rattle.scheduler.specs.declared.deadlines.Source.{Source}
use Rattle.scheduler.specs.declared.deadlines.Source.TheVariants.{Counter0, Counter2, Keys, Processor, End}

-- the clock at which each source is due next, if it is
pub record DeadlinesState : Type 0 where
  pub counter_0 : Option ℕ
  pub counter_2 : Option ℕ
  pub keys : Option ℕ
  pub processor : Option ℕ
  pub end : Option ℕ

abbrev pub no_deadlines : DeadlinesState
no_deadlines = record { counter_0 = None; counter_2 = None; keys = None; processor = None; end = None }

abbrev pub deadline_of : DeadlinesState → Source → Option ℕ
deadline_of d Counter0 = d.counter_0
deadline_of d Counter2 = d.counter_2
deadline_of d Keys = d.keys
deadline_of d Processor = d.processor
deadline_of d End = d.end

abbrev pub with_deadline : DeadlinesState → Source → Option ℕ → DeadlinesState
with_deadline d Counter0 at = record d { counter_0 = at }
with_deadline d Counter2 at = record d { counter_2 = at }
with_deadline d Keys at = record d { keys = at }
with_deadline d Processor at = record d { processor = at }
with_deadline d End at = record d { end = at }

-- the order of sources that are due at one clock
abbrev pub place_of : Source → ℕ
place_of Counter0 = 0
place_of Counter2 = 1
place_of Keys = 2
place_of Processor = 3
place_of End = 4

-- a source is due at a clock, and no other one earlier, or at that clock in an earlier place
pub record IsNext (d : DeadlinesState) (clock : ℕ) (source : Source) : Type 0 where
  pub due : deadline_of d source ≡ Some clock
  pub first : (other : Source) (at : ℕ) → deadline_of d other ≡ Some at
      → (clock < at) ⊎ ((clock ≡ at) × (place_of source ≤ place_of other))
