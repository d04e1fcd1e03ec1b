-- Stops, each with a copy of the bytes whose changes it waits for.
-- To be believed by callers of this crate: the headline does not rest on it.
use Rattle.std.specs.Prelude.{◌≡◌, All, Bool, List, map}
use Rattle.std.specs.List.{list_all}
use Rattle.board_plain.specs.Plain.{Plain, after_clock}
use Rattle.debugger_meaning.specs.Stands.{SessionState}
use Rattle.events.specs.declared.access.Access.{Access}
use Rattle.events.specs.Accesses.{accesses_next}
use Rattle.probe_texts.specs.declared.asked.Asked.{Asked}
use Rattle.probe_texts.specs.declared.stops.Stop.{Stop}
use Rattle.probe.specs.declared.watched.Watched.{Watched}
use Rattle.probe.specs.Met.{asked_by, HasRoom, IsCopy, IsCovered}
use Rattle.probe.specs.Probe.{conditions_of}
use Rattle.probe_texts.specs.Requests.{HasBytes, is_standing}

-- the stops without their copies
abbrev pub stops_of : List Watched → List Stop
stops_of watches = map (λ (watched : Watched). watched.stop) watches

-- each of the stops is a condition
abbrev pub all_standing : List Watched → Bool
all_standing watches = list_all (λ (watched : Watched). is_standing watched.stop) watches

-- what the stops have to look for
abbrev pub asked_of : List Watched → Asked
asked_of watches = asked_by (stops_of watches)

-- the copy has all bytes for which the stop waits, and these have addresses
pub record IsWatched (watched : Watched) : Type 0 where
  pub within : HasBytes watched.stop
  pub covered : IsCovered watched.copied watched.stop
  pub room : HasRoom watched.copied

-- the copies are those of a board's bytes
abbrev pub AreCopies : List Watched → Plain → Type 0
AreCopies watches s = All (λ (watched : Watched). IsCopy watched.copied s) watches

-- only the copies change
pub record KeepsStops (old new : List Watched) : Type 0 where
  pub stops : stops_of new ≡ stops_of old
  pub watched : All IsWatched new

-- copies of a board's bytes are copies of them a clock later, after these accesses, which were made in that clock
abbrev pub StaysCopied : List Access → Plain → List Watched → List Watched → Type 0
StaysCopied accesses t old new =
    (s : Plain) → accesses ≡ accesses_next s → t ≡ after_clock s → AreCopies old s → AreCopies new t

-- a probe's session has those of its stops that are conditions
pub record IsProbe (session : SessionState) (watches : List Watched) : Type 0 where
  pub conditions : session.stops ≡ conditions_of (stops_of watches)
  pub watched : All IsWatched watches
