-- The tallies of what began in a run.
-- For proofs alone: no public contract rests on it.
use Rattle.std.specs.Prelude.{ℕ, zero, suc, ◌≡◌, ◌+◌, ◌<◌, ◌≤◌, List, []}
use Rattle.std.specs.Prelude.{◌++◌, count_by, Option, None, Some, IfSome}
use Rattle.std.specs.BTreeMap.{BTreeMap, get}
use Rattle.std.specs.Option.{option_to_list}
use Rattle.std.specs.Ordering.{nat_cmp}
use Rattle.board.specs.declared.one_turn.Begun.{Begun}
use Rattle.probe.specs.declared.counts.Counts.{Counts}
use Rattle.probe.specs.declared.counts.Tally.{Tally}
use Rattle.probe.specs.Counts.{clocks_from, count_line, is_number, name_of, next_clock}

-- the tally at a number, if something began there
abbrev pub tally_of : ℕ → ℕ → Option Tally
tally_of zero clocks = None
tally_of (suc n) clocks = Some (record { count = suc n; clocks = clocks })

abbrev pub tally_at : List Begun → ℕ → ℕ → Option Tally
tally_at begun end k = tally_of (count_by (is_number k) begun) (clocks_from (is_number k) begun end)

-- a tally of one more beginning
abbrev pub one_more : Option Tally → ℕ → Tally
one_more None clocks = record { count = 1; clocks = clocks }
one_more (Some t) clocks = record { count = t.count + 1; clocks = t.clocks + clocks }

-- the tallies of all these beginnings, the last of which ends at a clock
abbrev pub AreTallies : List Begun → ℕ → BTreeMap ℕ Tally → Type 0
AreTallies begun end tallies = (k : ℕ) → get nat_cmp tallies k ≡ tally_at begun end k

-- no tally is more than a clock
abbrev pub AreBelow : ℕ → BTreeMap ℕ Tally → Type 0
AreBelow clock tallies = (k : ℕ) (t : Tally) → get nat_cmp tallies k ≡ Some t → (t.count ≤ clock) × (t.clocks ≤ clock)

-- the clock up to which beginnings are tallied
abbrev pub tallied_to : Option Begun → ℕ
tallied_to None = 0
tallied_to (Some b) = b.clock

-- these have begun; the latest one isn't tallied yet
pub record HasCounted (begun : List Begun) (c : Counts) : Type 0 where
  pub earlier : List Begun
  pub all : begun ≡ earlier ++ option_to_list c.latest
  pub tallied : AreTallies earlier (tallied_to c.latest) c.tallies
  pub first : IfSome c.latest (λ b. c.first ≡ next_clock earlier b.clock)
  pub none : c.latest ≡ None → earlier ≡ []

-- the latest beginning, after this one, if there is one
abbrev pub newest : Option Begun → Option Begun → Option Begun
newest latest None = latest
newest latest (Some b) = Some b

-- what has begun did so before a clock, and no tally is more than it
pub record IsBefore (clock : ℕ) (c : Counts) : Type 0 where
  pub latest : IfSome c.latest (λ b. b.clock < clock)
  pub tallies : AreBelow (tallied_to c.latest) c.tallies

abbrev pub tally_line : ℕ × Tally → List ℕ
tally_line e = count_line (name_of e.0) e.1.count e.1.clocks
