-- The inquiries that a line can be.
-- To be believed by callers of this crate: the headline does not rest on it.
use Rattle.std.specs.Prelude.{ℕ, ◌/◌, ◌*◌, ◌%◌, ◌&&◌, nat_le, if◌then◌else◌, List}
use Rattle.std.specs.Prelude.{[], ◌∷◌, codes, position, Option, None, Some, is_some}
use Rattle.std.specs.Str.{bytes_eq}
use Rattle.debugger_meaning.specs.declared.command.Command.{Command}
use Rattle.debugger_meaning.specs.declared.command.Command.TheVariants.{Break}
use Rattle.debugger_meaning.specs.Commands.{break_command, is_colon}
use Rattle.debugger_meaning.specs.CommandWords.{count_of, hex_number, words_of}
use Rattle.probe_texts.specs.declared.inquiry.Inquiry.{Inquiry}
use Rattle.probe_texts.specs.declared.inquiry.Inquiry.TheVariants.{Chips, List as Listing, Counts}
use Rattle.probe_texts.specs.declared.inquiry.Inquiry.TheVariants.{Signals, Events, Key}
use Rattle.probe_texts.specs.declared.inquiry.Lines.{Lines}
use Rattle.probe_texts.specs.declared.inquiry.Lines.TheVariants.{Texts, Forms}
use Rattle.probe_texts.specs.declared.inquiry.Place.{Place}
use Rattle.probe_texts.specs.declared.kinds.Kind.{Kind}
use Rattle.probe_texts.specs.Kinds.{kinds_from}

-- a physical address by the segment of its 64 KB
abbrev pub place_of_address : Option ℕ → Option Place
place_of_address None = None
place_of_address (Some address) = Some (record { segment = address / 65536 * 4096; offset = address % 65536 })

-- a segment and an offset, as `break` reads them
abbrev pub place_of_break : Option Command → Option Place
place_of_break (Some (Break segment offset)) = Some (record { segment = segment; offset = offset })
place_of_break _ = None

-- a place in memory: a segment and an offset with a colon between them, or a physical address
unfoldable pub place_of : List ℕ → Option Place
place_of word =
    if is_some (position is_colon word) then place_of_break (break_command word)
    else place_of_address (hex_number 5 word)

-- 1 to 4,096 instructions from a place on
abbrev pub list_within : Lines → Place → ℕ → Option Inquiry
list_within lines place count =
    if nat_le 1 count && nat_le count 4096 then Some (Listing lines place count) else None

abbrev pub list_of : Lines → Option Place → Option ℕ → Option Inquiry
list_of lines (Some place) (Some count) = list_within lines place count
list_of lines (Some place) None = None
list_of lines None _ = None

-- an inquiry that runs for some clocks
abbrev pub run_inquiry : List ℕ → Option ℕ → Option Inquiry
run_inquiry name None = None
run_inquiry name (Some count) =
    if bytes_eq name (codes "counts") then Some (Counts count) else (
    if bytes_eq name (codes "signals") then Some (Signals count) else None)

-- the events of some kinds in some clocks
abbrev pub events_of : Option ℕ → Option (List Kind) → Option Inquiry
events_of (Some count) (Some kinds) = Some (Events count (record { items = kinds }))
events_of (Some count) None = None
events_of None _ = None

-- a key that comes at the next clock, or at a given one
abbrev pub key_of : Option ℕ → Option Inquiry
key_of None = None
key_of (Some code) = Some (Key code None)

abbrev pub key_at : Option ℕ → Option ℕ → Option Inquiry
key_at (Some code) (Some stamp) = Some (Key code (Some stamp))
key_at (Some code) None = None
key_at None _ = None

-- an inquiry of a word and one more after it
abbrev pub inquiry_with : List ℕ → List ℕ → Option Inquiry
inquiry_with name first =
    if bytes_eq name (codes "key") then key_of (hex_number 2 first) else run_inquiry name (count_of first)

abbrev pub inquiry_with_two : List ℕ → List ℕ → List ℕ → Option Inquiry
inquiry_with_two name first second =
    if bytes_eq name (codes "list") then list_of Texts (place_of first) (count_of second) else (
    if bytes_eq name (codes "forms") then list_of Forms (place_of first) (count_of second) else (
    if bytes_eq name (codes "key") then key_at (hex_number 2 first) (count_of second) else None))

abbrev pub inquiry_of_two : List ℕ → List ℕ → List ℕ → List (List ℕ) → Option Inquiry
inquiry_of_two name first second [] = inquiry_with_two name first second
inquiry_of_two name first second (third ∷ rest) = None

-- the inquiry that words are, if they are one
abbrev pub inquiry_in : List (List ℕ) → Option Inquiry
inquiry_in [] = None
inquiry_in (name ∷ []) = if bytes_eq name (codes "chips") then Some Chips else None
inquiry_in (name ∷ first ∷ []) = inquiry_with name first
inquiry_in (name ∷ first ∷ second ∷ rest) =
    if bytes_eq name (codes "events") then events_of (count_of first) (kinds_from [] (second ∷ rest))
    else inquiry_of_two name first second rest

unfoldable pub inquiry_of : List ℕ → Option Inquiry
inquiry_of line = inquiry_in (words_of line)
