-- What holds of the events of a plain board's clocks.
-- Laws: claims above the definitions, each proved as the contract of a function.
use Rattle.std.specs.Prelude.{ℕ, ◌≡◌, ◌≤◌, ⊤, List, [], ◌∷◌, fold, length}
use Rattle.board_types.specs.declared.choice.ClockTable.{ClockTable}
use Rattle.bus.specs.Bus.{BusMeaning}
use Rattle.decode.specs.declared.decoding.Decoding.{Decoding as Decoded}
use Rattle.execute_meaning.specs.declared.boundary.Cause.{Cause}
use Rattle.execute_meaning.specs.Boundaries.{after_enter}
use Rattle.execute_meaning.specs.Cpu.{CpuState}
use Rattle.execute_meaning.specs.Meaning.{StepResult, after_again, after_step}
use Rattle.events.specs.declared.access.Access.{Access}
use Rattle.events.specs.declared.access.Access.TheVariants.{In}
use Rattle.events.specs.Noting.{Noted, after_access, noting, unnoted}

-- the byte that a noted read of a port has is the bus's own at that point
abbrev pub IsOwn : {S : Type 0} → BusMeaning S → S → Access → Type 0
IsOwn bus s (In port byte) = byte ≡ bus.input s port
IsOwn bus s _ = ⊤

abbrev pub AreOwn : {S : Type 0} → BusMeaning S → S → List Access → Type 0
AreOwn bus s [] = ⊤
AreOwn bus s (access ∷ accesses) = IsOwn bus s access × AreOwn bus (after_access bus s access) accesses

-- What is done over a bus that notes is what is done over the bus alone, which the noted accesses, made in order, leave
-- as it leaves it.
pub record IsNoted {S : Type 0} (bus : BusMeaning S) (s : S)
    (done : StepResult S) (noted : StepResult (Noted S)) : Type 0 where
  pub cpu : noted.cpu ≡ done.cpu
  pub clocks : noted.clocks ≡ done.clocks
  pub reached : noted.bus.reached ≡ done.bus
  pub made : done.bus ≡ fold (after_access bus) s noted.bus.accesses
  pub own : AreOwn bus s noted.bus.accesses

-- a step, the next iteration of a repeat, and an entry make the accesses that are noted, in their order, and no others
pub record MakesAccesses {S : Type 0} (bus : BusMeaning S) : Type 0 where
  pub step : (table : ClockTable) (p : CpuState) (s : S) (decoded : Decoded)
      → IsNoted bus s (after_step bus table p s decoded) (after_step (noting bus) table p (unnoted s) decoded)
  pub again : (p : CpuState) (s : S) → IsNoted bus s (after_again bus p s) (after_again (noting bus) p (unnoted s))
  pub enter : (table : ClockTable) (p : CpuState) (s : S) (kind : ℕ) (cause : Cause)
      → IsNoted bus s (after_enter bus table p s kind cause) (after_enter (noting bus) table p (unnoted s) kind cause)

-- a step, the next iteration of a repeat, and an entry make at most six accesses, as many as write an interrupt's three
-- words
pub record MakesFewAccesses {S : Type 0} (bus : BusMeaning S) : Type 0 where
  pub step : (table : ClockTable) (p : CpuState) (s : S) (decoded : Decoded)
      → length (after_step (noting bus) table p (unnoted s) decoded).bus.accesses ≤ 6
  pub again : (p : CpuState) (s : S) → length (after_again (noting bus) p (unnoted s)).bus.accesses ≤ 6
  pub enter : (table : ClockTable) (p : CpuState) (s : S) (kind : ℕ) (cause : Cause)
      → length (after_enter (noting bus) table p (unnoted s) kind cause).bus.accesses ≤ 6
