-- A run file is a JSON object (RFC 8259) with the fields version, ram, sw1, sw2, budget and keys, and in version 2
-- timer and clocks: all of them, and no others. Its rules are this board's choice.
-- To be believed: the headline rests on it.
use Rattle.std.specs.Prelude.{◌≡◌, ℕ, ◌^◌, Bool, true, ◌&&◌, false, ◌||◌, ◌==◌, if◌then◌else◌, nat_le, nat_lt}
use Rattle.std.specs.Prelude.{List, [], ◌∷◌, map, codes, Option, None, Some, option_and_then, Result, Ok, Err}
use Rattle.std.specs.Option.{option_map_or}
use Rattle.std.specs.Str.{bytes_eq, is_utf8}
use Rattle.serde_json.specs.Data.{Data, object, Items, no_items, item, Members, no_members, member}
use Rattle.serde_json.specs.Find.{get, as_number, as_u64, as_str, as_array}
use Rattle.serde_json.specs.Read.{read}
use Rattle.board_types.specs.Keys.{names_key}
use Rattle.board_types.specs.declared.choice.ClockTable.{ClockTable}
use Rattle.board_types.specs.declared.choice.ClockTable.TheVariants.{C1, C2}
use Rattle.board_types.specs.declared.choice.TimerKind.{TimerKind}
use Rattle.board_types.specs.declared.choice.TimerKind.TheVariants.{I8253, I8254}
use Rattle.board_types.specs.declared.keys.StampedKey.{StampedKey}
use Rattle.loader.specs.declared.run_fault.RunFault.{RunFault}
use Rattle.loader.specs.declared.run_fault.RunFault.TheVariants.{NotJson, BadField, BadScan}
use Rattle.loader.specs.declared.run_fault.RunFault.TheVariants.{StampsFall, BudgetTooLarge, Memory}
use Rattle.loader.specs.declared.run_file.RunFile.{RunFile}
use Rattle.loader.specs.declared.run_file.KeyEntry.{KeyEntry}

-- the fields of either version
unfoldable pub is_field : List ℕ → Bool
is_field name =
    bytes_eq name (codes "version") || bytes_eq name (codes "ram") || bytes_eq name (codes "sw1")
    || bytes_eq name (codes "sw2") || bytes_eq name (codes "budget") || bytes_eq name (codes "keys")

-- the fields of this version
unfoldable pub is_field_of : ℕ → List ℕ → Bool
is_field_of version name =
    is_field name || (version == 2 && (bytes_eq name (codes "timer") || bytes_eq name (codes "clocks")))

unfoldable pub are_fields : ℕ → Members → Bool
are_fields version no_members = true
are_fields version (member name value others) = is_field_of version name && are_fields version others

-- an object whose names are all those of fields
unfoldable pub has_only_fields : ℕ → Data → Bool
has_only_fields version (object members) = are_fields version members
has_only_fields version _ = false

-- the characters of a field, if it is a string
unfoldable pub text_of : List ℕ → Data → Option (List ℕ)
text_of name d = option_and_then as_str (get name d)

abbrev pub timer_named : List ℕ → Option TimerKind
timer_named name =
    if bytes_eq name (codes "8253") then Some I8253 else (if bytes_eq name (codes "8254") then Some I8254 else None)

-- the timer, which version 1 doesn't name: there it is the 8253
unfoldable pub timer_of : ℕ → Data → Option TimerKind
timer_of version d =
    if version == 2 then option_and_then timer_named (text_of (codes "timer") d) else Some I8253

abbrev pub clocks_named : List ℕ → Option ClockTable
clocks_named name =
    if bytes_eq name (codes "C1") then Some C1 else (if bytes_eq name (codes "C2") then Some C2 else None)

-- the table of clocks, which version 1 doesn't name: there it is C1
unfoldable pub clocks_of : ℕ → Data → Option ClockTable
clocks_of version d =
    if version == 2 then option_and_then clocks_named (text_of (codes "clocks") d) else Some C1

-- the number, if `Value` holds it as a u64
abbrev pub u64_of : Data → Option ℕ
u64_of d = option_and_then as_u64 (as_number d)

unfoldable pub number_of : List ℕ → Data → Option ℕ
number_of name d = option_and_then as_u64 (option_and_then as_number (get name d))

-- the number of a field, if it is one from `least` to `most`
unfoldable pub number_within : ℕ → ℕ → List ℕ → Data → Option ℕ
number_within least most name d =
    option_and_then (λ n. if nat_le least n && nat_le n most then Some n else None) (number_of name d)

-- a key as it is written; its stamp must be a clock, 2^40 at most
abbrev pub entry_from : Option ℕ → Option ℕ → Option KeyEntry
entry_from (Some stamp) (Some code) =
    if nat_le stamp (2 ^ 40) then Some (record { stamp = stamp; code = code }) else None
entry_from _ _ = None

abbrev pub pair_of : Items → Option KeyEntry
pair_of (item stamp (item code no_items)) = entry_from (u64_of stamp) (u64_of code)
pair_of _ = None

-- a key from `[stamp, code]`, two numbers and no more
unfoldable pub entry_of : Data → Option KeyEntry
entry_of d = option_and_then pair_of (as_array d)

abbrev pub with_first : Option KeyEntry → Option (List KeyEntry) → Option (List KeyEntry)
with_first (Some entry) (Some others) = Some (entry ∷ others)
with_first _ _ = None

abbrev pub entries_of : Items → Option (List KeyEntry)
entries_of no_items = Some []
entries_of (item value others) = with_first (entry_of value) (entries_of others)

-- the keys of a field, which is a list of `[stamp, code]`
unfoldable pub entries_in : Option Data → Option (List KeyEntry)
entries_in field = option_and_then entries_of (option_and_then as_array field)

-- why a key isn't taken after one that is stamped `before`: fault 33 comes before 34
abbrev pub entry_fault : ℕ → KeyEntry → Option RunFault
entry_fault before entry =
    if names_key entry.code then (if nat_lt entry.stamp before then Some StampsFall else None) else Some BadScan

abbrev pub or_else : Option RunFault → Option RunFault → Option RunFault
or_else (Some fault) later = Some fault
or_else None later = later

-- the fault of the first key that isn't taken
abbrev pub keys_fault : ℕ → List KeyEntry → Option RunFault
keys_fault before [] = None
keys_fault before (entry ∷ others) = or_else (entry_fault before entry) (keys_fault entry.stamp others)

abbrev pub key_of : KeyEntry → StampedKey
key_of entry = record { stamp = entry.stamp; code = entry.code }

abbrev pub unless : {A : Type 0} → Option RunFault → A → Result A RunFault
unless None value = Ok value
unless (Some fault) value = Err fault

-- the stamped key codes, or the first key's fault
unfoldable pub keys_of : List KeyEntry → Result (List StampedKey) RunFault
keys_of entries = unless (keys_fault 0 entries) (map key_of entries)

abbrev pub with_keys : TimerKind → ClockTable → ℕ → ℕ → ℕ → ℕ → Result (List StampedKey) RunFault
    → Result RunFile RunFault
with_keys timer clocks ram sw1 sw2 budget (Ok keys) = Ok (record {
  ram_kb = ram;
  sw1 = sw1;
  sw2 = sw2;
  timer = timer;
  clocks = clocks;
  budget = budget;
  keys = keys;
})
with_keys timer clocks ram sw1 sw2 budget (Err fault) = Err fault

-- the run file of fields that are all good, or its fault: 35 comes before those of the keys
abbrev pub run_of_fields : Option TimerKind → Option ClockTable → Option ℕ → Option ℕ → Option ℕ → Option ℕ
    → Option (List KeyEntry) → Result RunFile RunFault
run_of_fields (Some timer) (Some clocks) (Some ram) (Some sw1) (Some sw2) (Some budget) (Some entries) =
    if nat_le budget (2 ^ 40) then with_keys timer clocks ram sw1 sw2 budget (keys_of entries) else Err BudgetTooLarge
run_of_fields _ _ _ _ _ _ _ = Err BadField

-- what a value says as a run file of this version
abbrev pub run_of_version : Data → ℕ → Result RunFile RunFault
run_of_version d version =
    if has_only_fields version d then run_of_fields (timer_of version d) (clocks_of version d)
    (number_within 0 65535 (codes "ram") d)
    (number_within 0 255 (codes "sw1") d) (number_within 0 31 (codes "sw2") d)
    (number_of (codes "budget") d) (entries_in (get (codes "keys") d))
    else Err BadField

-- what a value says as a run file, or its first fault: 32 comes before 35
unfoldable pub run_of : Data → Result RunFile RunFault
run_of d = option_map_or (run_of_version d) (number_within 1 2 (codes "version") d) (Err BadField)

-- the value of a text, if it is JSON in UTF-8 that `serde_json` takes
unfoldable pub value_of : List ℕ → Option Data
value_of text = if is_utf8 text then read text else None

-- what a text says as a run file, or its first fault: 31 comes before those of its value
unfoldable pub run_of_text : List ℕ → Result RunFile RunFault
run_of_text text = option_map_or run_of (value_of text) (Err NotJson)

-- the answer is the one that is meant, or want of memory
abbrev pub Answers : {A : Type 0} → Result A RunFault → Result A RunFault → Type 0
Answers (Err Memory) meant = Unit {0}
Answers answer meant = answer ≡ meant

-- a field is refused because it isn't a list of keys, or for want of memory
abbrev pub IsBadList : RunFault → Option (List KeyEntry) → Type 0
IsBadList BadField found = found ≡ None
IsBadList Memory found = Unit {0}
IsBadList _ found = ⊥

-- the fault is the one that was found, or want of memory
abbrev pub FaultAnswer : RunFault → Option RunFault → Type 0
FaultAnswer Memory found = Unit {0}
FaultAnswer fault found = found ≡ Some fault
