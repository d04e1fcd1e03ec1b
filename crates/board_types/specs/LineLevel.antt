-- The level of a wire.
-- To be believed: the headline rests on it.
use Rattle.std.specs.Prelude.{Bool, true, false}
use Rattle.board_types.specs.declared.line.Line.{Line}
use Rattle.board_types.specs.declared.line.Line.TheVariants.{Low, High}

-- a high wire for true, and a low one for false
abbrev pub from_bool : Bool → Line
from_bool true = High
from_bool false = Low

abbrev pub is_high : Line → Bool
is_high Low = false
is_high High = true

-- the other level
abbrev pub opposite : Line → Line
opposite Low = High
opposite High = Low
