-- What the listing's loops write.
use Rattle.std.proofs.Common.{◌≡◌, ℕ, ◌+◌, List, ◌++◌, refl, add-one}
use Rattle.assembler_meaning.specs.declared.symbol.Location.{Location}
use Rattle.board_types.specs.Digits.{hex_byte_text}
use Rattle.assembler.specs.Shown.{shown_byte, shown_digits}

pub digits_more : (image : List (ℕ × ℕ)) (location : Location) (n : ℕ)
    → shown_digits image location (n + 1) ≡ shown_digits image location n ++ hex_byte_text (shown_byte image location n)
digits_more image location n = rw add-one refl
