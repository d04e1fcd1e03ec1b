-- What a line asks a probe for.
-- To be believed by callers of this crate: the headline does not rest on it.
use Rattle.std.specs.Prelude.{ℕ, ◌≡◌, ◌+◌, ◌≤◌, ◌^◌, Bool, true, false, ◌&&◌, nat_le, if◌then◌else◌}
use Rattle.std.specs.Prelude.{List, [], ◌∷◌, codes, Option, None, Some, option_map}
use Rattle.std.specs.Str.{bytes_eq}
use Rattle.board_plain.specs.declared.stop.Condition.TheVariants as conditions
use Rattle.board_plain.specs.Stops.{HasAddress}
use Rattle.debugger_meaning.specs.declared.command.Command.{Command}
use Rattle.debugger_meaning.specs.declared.command.Command.TheVariants as commands
use Rattle.debugger_meaning.specs.Commands.{command_of, IsWithin}
use Rattle.debugger_meaning.specs.CommandWords.{count_of, hex_number, words_of}
use Rattle.probe_texts.specs.declared.kinds.Kind.{Kind}
use Rattle.probe_texts.specs.declared.inquiry.Inquiry.{Inquiry}
use Rattle.probe_texts.specs.declared.moments_text.Second.{Second}
use Rattle.probe_texts.specs.declared.moments_text.Trial.{Trial}
use Rattle.probe_texts.specs.declared.stops.Request.{Request}
use Rattle.probe_texts.specs.declared.stops.Request.TheVariants.{Add, Go, BackStop, Try, Inquire, Do}
use Rattle.probe_texts.specs.declared.stops.Stop.{Stop}
use Rattle.probe_texts.specs.declared.stops.Stop.TheVariants.{Standing, When, Changes}
use Rattle.probe_texts.specs.Inquiry.{inquiry_of}
use Rattle.probe_texts.specs.Kinds.{kinds_from}

-- 1 to 65,536 bytes, all of them below 100000h
abbrev pub changes_within : ℕ → ℕ → Option Stop
changes_within address count =
    if nat_le 1 count && (nat_le count 65536 && nat_le (address + count) (2 ^ 20)) then Some (Changes address count)
    else None

abbrev pub changes_of : Option ℕ → Option ℕ → Option Stop
changes_of (Some address) (Some count) = changes_within address count
changes_of (Some address) None = None
changes_of None _ = None

-- an address of one to five digits, and how many bytes: one, if no count is given
abbrev pub changes_in : List (List ℕ) → Option Stop
changes_in [] = None
changes_in (address ∷ []) = option_map (λ a. Changes a 1) (hex_number 5 address)
changes_in (address ∷ count ∷ []) = changes_of (hex_number 5 address) (count_of count)
changes_in (address ∷ count ∷ more ∷ rest) = None

abbrev pub when_of : Option (List Kind) → Option Stop
when_of kinds = option_map (λ (ks : List Kind). When (record { items = ks })) kinds

-- a stop on events, or on changes of bytes: `when writes=400-41F keys`, `changes 400 32`
abbrev pub stop_in : List (List ℕ) → Option Stop
stop_in [] = None
stop_in (name ∷ words) =
    if bytes_eq name (codes "when") then when_of (kinds_from [] words) else (
    if bytes_eq name (codes "changes") then changes_in words else None)

unfoldable pub stop_of : List ℕ → Option Stop
stop_of line = stop_in (words_of line)

-- a second key, and how many clocks after the first it comes; or no second key
abbrev pub second_by : Option ℕ → Option ℕ → Option (Option Second)
second_by (Some code) (Some after) = Some (Some (record { code = code; after = after }))
second_by (Some code) None = None
second_by None _ = None

abbrev pub second_in : List (List ℕ) → Option (Option Second)
second_in [] = Some None
second_in (code ∷ []) = None
second_in (code ∷ after ∷ []) = second_by (hex_number 2 code) (count_of after)
second_in (code ∷ after ∷ more ∷ rest) = None

-- a key that is tried at each clock from the first to the last, alone or with a second one: `moments 1E 1000 4000
-- 100000`, `moments 1E 1000 4000 100000 9E 50`
abbrev pub trial_within : Option ℕ → Option ℕ → Option ℕ → Option ℕ → Option (Option Second) → Option Trial
trial_within (Some code) (Some first) (Some last) (Some count) (Some second) =
    if nat_le first last then
    Some (record { code = code; first = first; last = last; count = count; second = second })
    else None
trial_within (Some code) (Some first) (Some last) (Some count) None = None
trial_within (Some code) (Some first) (Some last) None _ = None
trial_within (Some code) (Some first) None _ _ = None
trial_within (Some code) None _ _ _ = None
trial_within None _ _ _ _ = None

abbrev pub trial_in : List (List ℕ) → Option Trial
trial_in (name ∷ code ∷ first ∷ last ∷ count ∷ rest) =
    if bytes_eq name (codes "moments") then trial_within
    (hex_number 2 code) (count_of first) (count_of last) (count_of count) (second_in rest)
    else None
trial_in _ = None

unfoldable pub trial_of : List ℕ → Option Trial
trial_of line = trial_in (words_of line)

-- what a command of the debugger asks for
abbrev pub request_by : Command → Request
request_by (commands.Break cs ip) = Add (Standing (conditions.At cs ip))
request_by (commands.Byte address byte) = Add (Standing (conditions.Byte address byte))
request_by commands.Sound = Add (Standing conditions.Sound)
request_by commands.Halted = Add (Standing conditions.Halted)
request_by (commands.Go count) = Go count
request_by commands.BackStop = BackStop
request_by command = Do command

abbrev pub request_in : Option Trial → Option Stop → Option Inquiry → Option Command → Option Request
request_in (Some trial) stop inquiry command = Some (Try trial)
request_in None (Some stop) inquiry command = Some (Add stop)
request_in None None (Some inquiry) command = Some (Inquire inquiry)
request_in None None None command = option_map request_by command

abbrev pub request_of : List ℕ → Option Request
request_of line = request_in (trial_of line) (stop_of line) (inquiry_of line) (command_of line)

-- the bytes for which a stop waits have addresses, and are few
abbrev pub HasBytes : Stop → Type 0
HasBytes (Standing condition) = HasAddress condition
HasBytes (When kinds) = Unit {0}
HasBytes (Changes address count) = (1 ≤ count) × ((count ≤ 65536) × (address + count ≤ 2 ^ 20))

-- the last clock of a trial isn't before its first
abbrev pub IsRising : Trial → Type 0
IsRising trial = trial.first ≤ trial.last

-- a request's stop waits for changes of bytes that have addresses, its trial has rising clocks, and its command is one
-- of those that have nothing to do with stops
abbrev pub IsRequest : Request → Type 0
IsRequest (Add stop) = HasBytes stop
IsRequest (Go count) = Unit {0}
IsRequest BackStop = Unit {0}
IsRequest (Try trial) = IsRising trial
IsRequest (Inquire inquiry) = Unit {0}
IsRequest (Do command) = IsWithin (Some command) × (request_by command ≡ Do command)

-- a stop is a condition
abbrev pub is_standing : Stop → Bool
is_standing (Standing condition) = true
is_standing (When kinds) = false
is_standing (Changes address count) = false

-- a stop waits for changes of bytes
abbrev pub asks_changes : Stop → Bool
asks_changes (Standing condition) = false
asks_changes (When kinds) = false
asks_changes (Changes address count) = true
