-- What a line asks for that has to do with changes of the board.
-- To be believed by callers of this crate: the headline does not rest on it.
use Rattle.std.specs.Prelude.{ℕ, ◌+◌, ◌≤◌, ◌^◌, nat_le, nat_lt, if◌then◌else◌, List, [], ◌∷◌, ◌++◌, length}
use Rattle.std.specs.Prelude.{codes, Option, None, Some, option_map}
use Rattle.std.specs.Str.{bytes_eq}
use Rattle.board_plain.specs.declared.change.Register.{Register}
use Rattle.board_plain.specs.declared.change.Register.TheVariants.{Ax, Bx, Cx, Dx, Sp, Bp, Si, Di}
use Rattle.board_plain.specs.declared.change.Register.TheVariants.{Cs, Ds, Es, Ss, Ip, Fl}
use Rattle.debugger_meaning.specs.CommandWords.{hex_number, words_of}
use Rattle.probe_texts.specs.declared.wishes.Edit.{Edit}
use Rattle.probe_texts.specs.declared.wishes.Edit.TheVariants as edits
use Rattle.probe_texts.specs.declared.wishes.Wish.{Wish}
use Rattle.probe_texts.specs.declared.wishes.Wish.TheVariants.{Set, Undo}

-- a register by its name in reports
abbrev pub register_of : List ℕ → Option Register
register_of name =
    if bytes_eq name (codes "AX") then Some Ax else (
    if bytes_eq name (codes "BX") then Some Bx else (
    if bytes_eq name (codes "CX") then Some Cx else (
    if bytes_eq name (codes "DX") then Some Dx else (
    if bytes_eq name (codes "SP") then Some Sp else (
    if bytes_eq name (codes "BP") then Some Bp else (
    if bytes_eq name (codes "SI") then Some Si else (
    if bytes_eq name (codes "DI") then Some Di else (
    if bytes_eq name (codes "CS") then Some Cs else (
    if bytes_eq name (codes "DS") then Some Ds else (
    if bytes_eq name (codes "ES") then Some Es else (
    if bytes_eq name (codes "SS") then Some Ss else (
    if bytes_eq name (codes "IP") then Some Ip else (
    if bytes_eq name (codes "FL") then Some Fl else None)))))))))))))

-- one word of at most four hexadecimal digits
abbrev pub word_edit : Register → List (List ℕ) → Option Edit
word_edit register [] = None
word_edit register (value ∷ []) = option_map (λ word. edits.Register register word) (hex_number 4 value)
word_edit register (value ∷ more ∷ rest) = None

-- one to sixteen bytes of at most two hexadecimal digits, after those before
abbrev pub then_byte : Option ℕ → (ℕ → Option (List ℕ)) → Option (List ℕ)
then_byte None next = None
then_byte (Some byte) next = next byte

abbrev pub bytes_from : List ℕ → List (List ℕ) → Option (List ℕ)
bytes_from bytes [] = if nat_le 1 (length bytes) then Some bytes else None
bytes_from bytes (word ∷ words) =
    then_byte (hex_number 2 word)
    (λ byte. if nat_lt (length bytes) 16 then bytes_from (bytes ++ byte ∷ []) words else None)

-- all of them below 100000h
abbrev pub bytes_edit : Option ℕ → Option (List ℕ) → Option Edit
bytes_edit (Some address) (Some bytes) =
    if nat_le (address + length bytes) (2 ^ 20) then Some (edits.Bytes address (record { items = bytes })) else None
bytes_edit (Some address) None = None
bytes_edit None _ = None

-- a register and its word, or an address of at most five hexadecimal digits and the bytes from it on
abbrev pub edit_by : Option Register → List ℕ → List (List ℕ) → Option Edit
edit_by (Some register) place words = word_edit register words
edit_by None place words = bytes_edit (hex_number 5 place) (bytes_from [] words)

abbrev pub edit_in : List (List ℕ) → Option Edit
edit_in [] = None
edit_in (place ∷ words) = edit_by (register_of place) place words

abbrev pub undo_in : List (List ℕ) → Option Wish
undo_in [] = Some Undo
undo_in (word ∷ words) = None

-- `set AX 12`, `set B0000 41 7`, `undo`
abbrev pub wish_in : List (List ℕ) → Option Wish
wish_in [] = None
wish_in (name ∷ words) =
    if bytes_eq name (codes "set") then option_map Set (edit_in words) else (
    if bytes_eq name (codes "undo") then undo_in words else None)

unfoldable pub wish_of : List ℕ → Option Wish
wish_of line = wish_in (words_of line)

-- bytes that are set have addresses below 100000h
abbrev pub HasPlaces : Edit → Type 0
HasPlaces (edits.Register register word) = Unit {0}
HasPlaces (edits.Bytes address bytes) = (1 ≤ length bytes.items) × (address + length bytes.items ≤ 2 ^ 20)

abbrev pub IsPossible : Wish → Type 0
IsPossible (Set edit) = HasPlaces edit
IsPossible Undo = Unit {0}
