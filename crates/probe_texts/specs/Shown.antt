-- Numbers and flags that several lines of text have.
-- To be believed by callers of this crate: the headline does not rest on it.
use Rattle.std.specs.Prelude.{ℕ, Bool, if◌then◌else◌, List, codes, Option, None, Some}
use Rattle.std.specs.Fmt.{decimal}
use Rattle.board_types.specs.Digits.{hex_byte_text, hex_word}
use Rattle.board_types.specs.LineLevel.{is_high}
use Rattle.board_types.specs.declared.line.Line.{Line}

-- 1 for yes and 0 for no
abbrev pub flag_text : Bool → List ℕ
flag_text flag = decimal (if flag then 1 else 0)

-- 1 for high and 0 for low
abbrev pub line_text : Line → List ℕ
line_text line = flag_text (is_high line)

-- a byte or a word in hexadecimal digits, or `none`
abbrev pub byte_or_none : Option ℕ → List ℕ
byte_or_none None = codes "none"
byte_or_none (Some byte) = hex_byte_text byte

abbrev pub word_or_none : Option ℕ → List ℕ
word_or_none None = codes "none"
word_or_none (Some word) = hex_word word
