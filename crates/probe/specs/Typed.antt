-- A key that is typed in a session: which one is taken, and what the session is then.
-- To be believed by callers of this crate: the headline does not rest on it.
use Rattle.std.specs.Prelude.{ℕ, ◌≡◌, ◌+◌, ◌<◌, ◌≤◌, ◌^◌, IsTrue, List, ◌++◌}
use Rattle.std.specs.Prelude.{codes, Option, None, Some, Result, MatchResult}
use Rattle.std.specs.Fmt.{decimal}
use Rattle.board_types.specs.Digits.{hex_byte_text}
use Rattle.board_types.specs.Keys.{names_key}
use Rattle.board_types.specs.declared.keys.StampedKey.{StampedKey}
use Rattle.board_plain.specs.Plain.{clock_of}
use Rattle.debugger_meaning.specs.declared.answer.Answer.{Answer}
use Rattle.debugger_meaning.specs.declared.fault.DebugFault.{DebugFault}
use Rattle.debugger_meaning.specs.declared.fault.DebugFault.TheVariants.{BadScan, StampsFall, ClockLimit, BadCommand}
use Rattle.debugger_meaning.specs.declared.fault.DebugFault.TheVariants.{TooManyStops, Memory, BeforeStart, NoCell}
use Rattle.debugger_meaning.specs.Session.{IsText}
use Rattle.debugger_meaning.specs.Stands.{SessionState}
use Rattle.events.specs.WithKey.{with_key}

-- the key that is typed at a clock: it is stamped with the next one, if no stamp is given
abbrev pub stamp_of : ℕ → Option ℕ → ℕ
stamp_of clock None = clock + 1
stamp_of clock (Some at) = at

abbrev pub typed_key : ℕ → ℕ → Option ℕ → StampedKey
typed_key clock code at = record { stamp = stamp_of clock at; code = code }

-- a key that is still to come
pub record IsToCome (clock : ℕ) (key : StampedKey) : Type 0 where
  pub within : key.stamp ≤ 2 ^ 40
  pub scan : IsTrue (names_key key.code)
  pub later : clock < key.stamp

-- the line of a key: `key 1E 72`
unfoldable pub key_text : StampedKey → List ℕ
key_text key = codes "key " ++ (hex_byte_text key.code ++ (codes " " ++ (decimal key.stamp ++ codes "\n")))

-- The session is as if the key had been there when it began: its first board has it, too. The stops stay.
pub record Takes (key : StampedKey) (old new : SessionState) (answer : Answer) : Type 0 where
  pub to_come : IsToCome (clock_of old.board.plain) key
  pub first : new.first ≡ record old.first { plain = with_key old.first.plain key }
  pub board : new.board ≡ record old.board { plain = with_key old.board.plain key }
  pub stops : new.stops ≡ old.stops
  pub shows : IsText (key_text key) answer

-- why a key isn't taken: the first of these reasons that holds
abbrev pub IsRefused : ℕ → StampedKey → DebugFault → Type 0
IsRefused clock key ClockLimit = 2 ^ 40 < key.stamp
IsRefused clock key BadScan = (key.stamp ≤ 2 ^ 40) × ¬ (IsTrue (names_key key.code))
IsRefused clock key StampsFall = (key.stamp ≤ 2 ^ 40) × (IsTrue (names_key key.code) × (key.stamp ≤ clock))
IsRefused clock key (Memory None) = IsToCome clock key
IsRefused clock key (Memory (Some at)) = ⊥
IsRefused clock key BadCommand = ⊥
IsRefused clock key TooManyStops = ⊥
IsRefused clock key BeforeStart = ⊥
IsRefused clock key NoCell = ⊥

-- a key isn't taken, and nothing changes
abbrev pub RefusesKey : StampedKey → SessionState → SessionState → DebugFault → Type 0
RefusesKey key old new fault = IsRefused (clock_of old.board.plain) key fault × (new ≡ old)

abbrev pub AnswersTaken : StampedKey → SessionState → Result Answer DebugFault → SessionState → Type 0
AnswersTaken key old result new = MatchResult result (Takes key old new) (RefusesKey key old new)

abbrev pub AnswersKey : ℕ → Option ℕ → SessionState → Result Answer DebugFault → SessionState → Type 0
AnswersKey code at old result new = AnswersTaken (typed_key (clock_of old.board.plain) code at) old result new
