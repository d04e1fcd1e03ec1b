-- What a HEX text says, line by line.
-- To be believed: the headline rests on it.
use Rattle.std.specs.Prelude.{ℕ, ◌+◌, ◌==◌, Bool, if◌then◌else◌, length, List}
use Rattle.std.specs.Prelude.{[], ◌∷◌, ◌≡◌, Option, None, Some, Result, Ok, Err}
use Rattle.loader.specs.declared.hex_fault.RecordFault.{RecordFault}
use Rattle.loader.specs.declared.hex_fault.RecordFault.TheVariants.{AfterEnd, NotLoadable}
use Rattle.loader.specs.declared.hex_fault.HexFault.{HexFault}
use Rattle.loader.specs.declared.hex_fault.HexFault.TheVariants.{InLine, NoEnd, Memory}
use Rattle.loader.specs.declared.hex_record.Extension.{Extension}
use Rattle.loader.specs.declared.hex_record.Extension.TheVariants.{Segment}
use Rattle.loader.specs.Lines.{without_spaces}
use Rattle.board_types.specs.TextLines.{text_lines}
use Rattle.loader.specs.Records.{HexRecord, bytes_at, end_of_file, extension_at, start_at}
use Rattle.loader.specs.Records.{◌>>=◌, are_loadable, placed_bytes, record_of, with_bytes}

-- what is known after a line: what extends the offsets, or nothing after the end record; and the bytes so far
pub record LoadState : Type 0 where
  pub extension : Option Extension
  pub image : List (ℕ × ℕ)

abbrev pub load_state : Option Extension → List (ℕ × ℕ) → LoadState
load_state extension image = record { extension = extension; image = image }

-- what is known after a record; a byte that the board can't be loaded with is a fault
abbrev pub after_record : Extension → List (ℕ × ℕ) → HexRecord → Result LoadState RecordFault
after_record extension image (bytes_at offset content) =
    if are_loadable (placed_bytes extension offset content) then Ok
    (load_state (Some extension) (with_bytes image (placed_bytes extension offset content))) else Err NotLoadable
after_record extension image end_of_file = Ok (load_state None image)
after_record extension image (extension_at next) = Ok (load_state (Some next) image)
after_record extension image start_at = Ok (load_state (Some extension) image)

abbrev pub is_blank : List ℕ → Bool
is_blank line = length line == 0

-- what is known after a line without the spaces at its end; a blank one changes nothing
unfoldable pub after_line : Extension → List (ℕ × ℕ) → List ℕ → Result LoadState RecordFault
after_line extension image line =
    if is_blank line then Ok (load_state (Some extension) image) else (record_of line >>= after_record extension image)

-- goes on with what a line gives; a fault gets the number of its line
abbrev pub in_line : {A B : Type 0} → ℕ → Result A RecordFault → (A → Result B HexFault) → Result B HexFault
in_line number (Ok x) f = f x
in_line number (Err fault) f = Err (InLine fault number)

-- the image, if all lines after the end record are blank
abbrev pub after_end : ℕ → List (ℕ × ℕ) → List (List ℕ) → Result (List (ℕ × ℕ)) HexFault
after_end number image [] = Ok image
after_end number image (line ∷ lines) =
    if is_blank (without_spaces line) then after_end (number + 1) image lines else Err (InLine AfterEnd (number + 1))

abbrev pub at_extension : {A : Type 0} → Option Extension → A → (Extension → A) → A
at_extension None ended more = ended
at_extension (Some extension) ended more = more extension

-- the image that lines give after this many others, or the fault of the first bad one
abbrev pub image_after : ℕ → Extension → List (ℕ × ℕ) → List (List ℕ) → Result (List (ℕ × ℕ)) HexFault
image_after number extension image [] = Err NoEnd
image_after number extension image (line ∷ lines) =
    in_line (number + 1) (after_line extension image (without_spaces line))
    (λ s. at_extension s.extension (after_end (number + 1) s.image lines)
    (λ next. image_after (number + 1) next s.image lines))

unfoldable pub image_of : List ℕ → Result (List (ℕ × ℕ)) HexFault
image_of text = image_after 0 (Segment 0) [] (text_lines text)

-- the error is the fault that is meant, or want of memory
abbrev pub Fails : {A : Type 0} → HexFault → Result A HexFault → Type 0
Fails Memory meant = Unit {0}
Fails NoEnd meant = meant ≡ Err NoEnd
Fails (InLine fault number) meant = meant ≡ Err (InLine fault number)
