-- The kinds of events that are listed, and how words name them.
-- To be believed by callers of this crate: the headline does not rest on it.
use Rattle.std.specs.Prelude.{ℕ, ◌+◌, ◌==◌, Bool, nat_lt, nat_le, if◌then◌else◌, List, [], ◌∷◌, ◌++◌}
use Rattle.std.specs.Prelude.{codes, length, take, drop, position, Option, None, Some, option_map}
use Rattle.std.specs.Str.{bytes_eq}
use Rattle.debugger_meaning.specs.CommandWords.{hex_number}
use Rattle.probe_texts.specs.declared.kinds.Kind.{Kind}
use Rattle.probe_texts.specs.declared.kinds.Kind.TheVariants.{Starts, Entries, Writes, Ports, Keys, Wires, States}

abbrev pub is_equals : ℕ → Bool
is_equals b = b == 61

abbrev pub is_hyphen : ℕ → Bool
is_hyphen b = b == 45

-- the kind that is named by a word alone: writes and ports are all of them
unfoldable pub plain_kind : List ℕ → Option Kind
plain_kind word =
    if bytes_eq word (codes "starts") then Some Starts else (
    if bytes_eq word (codes "entries") then Some Entries else (
    if bytes_eq word (codes "writes") then Some (Writes 0 0xFFFFF) else (
    if bytes_eq word (codes "ports") then Some (Ports 0 0xFFFF) else (
    if bytes_eq word (codes "keys") then Some Keys else (
    if bytes_eq word (codes "wires") then Some Wires else (
    if bytes_eq word (codes "states") then Some States else None))))))

-- a range: two numbers with a hyphen between them, the second not less than the first
abbrev pub range_within : Option ℕ → Option ℕ → Option (ℕ × ℕ)
range_within (Some first) (Some last) = if nat_lt last first then None else Some (first, last)
range_within (Some first) None = None
range_within None _ = None

abbrev pub range_round : ℕ → List ℕ → Option ℕ → Option (ℕ × ℕ)
range_round most word None = None
range_round most word (Some hyphen) =
    range_within (hex_number most (take hyphen word)) (hex_number most (drop (hyphen + 1) word))

unfoldable pub range_of : ℕ → List ℕ → Option (ℕ × ℕ)
range_of most word = range_round most word (position is_hyphen word)

-- writes to the addresses of a range, and accesses to the ports of one
unfoldable pub kind_with : List ℕ → List ℕ → Option Kind
kind_with name range =
    if bytes_eq name (codes "writes") then option_map (λ (r : ℕ × ℕ). Writes r.0 r.1) (range_of 5 range) else (
    if bytes_eq name (codes "ports") then option_map (λ (r : ℕ × ℕ). Ports r.0 r.1) (range_of 4 range) else None)

abbrev pub kind_round : List ℕ → Option ℕ → Option Kind
kind_round word None = plain_kind word
kind_round word (Some equals) = kind_with (take equals word) (drop (equals + 1) word)

unfoldable pub kind_of : List ℕ → Option Kind
kind_of word = kind_round word (position is_equals word)

-- the kinds that words name, each one, after the kinds named before: one to sixteen
abbrev pub then_kind : Option Kind → (Kind → Option (List Kind)) → Option (List Kind)
then_kind None next = None
then_kind (Some kind) next = next kind

abbrev pub kinds_from : List Kind → List (List ℕ) → Option (List Kind)
kinds_from kinds [] = if nat_le 1 (length kinds) then Some kinds else None
kinds_from kinds (word ∷ words) =
    then_kind (kind_of word) (λ kind. if nat_lt (length kinds) 16 then kinds_from (kinds ++ kind ∷ []) words else None)
