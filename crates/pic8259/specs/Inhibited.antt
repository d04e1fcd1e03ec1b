-- Inputs that request nothing, whatever they do (Intel 8259A data sheet, "Interrupt Mask Register (IMR)", "Fully Nested
-- Mode": such a level is inhibited).
-- To be believed by callers of this crate: the headline does not rest on it.
use Rattle.std.specs.Prelude.{◌≡◌, ℕ, ◌<◌, length, Bool, true, false, not, ◌&&◌, ◌||◌}
use Rattle.std.specs.List.{list_any}
use Rattle.board_types.specs.declared.line.Line.{Line}
use Rattle.board_types.specs.declared.line.Line.TheVariants.{Low, High}
use Rattle.pic8259.specs.Levels.{contains, up_to}
use Rattle.pic8259.specs.Pic.{PicState, blocks, is_ready, may_be_taken, level_to_take, after_line}

-- whether a level is inhibited: the controller isn't ready, or the level is masked, or one that blocks stands in the
-- list at or before its place
abbrev pub is_inhibited : PicState → ℕ → Bool
is_inhibited s level = not (is_ready s) || (contains s.masked level || list_any (blocks s) (up_to s.order level))

-- an inhibited level isn't taken, and its line changes nothing of what is
pub record RequestsNothing (s : PicState) (level : ℕ) : Type 0 where
  pub never : (is_ready s && may_be_taken s level) ≡ false
  pub unheard : (line : Line) → level_to_take (after_line s level line) ≡ level_to_take s

-- the controller is ready, and may take this level
pub record IsTakenInTurn (s : PicState) (level : ℕ) : Type 0 where
  pub ready : is_ready s ≡ true
  pub may : may_be_taken s level ≡ true

-- an inhibited level requests nothing; any other is taken in its turn once its line has fallen and risen; and no line
-- makes a level inhibited, or ends that
pub record IsInhibitedAlone (s : PicState) (level : ℕ) : Type 0 where
  pub inhibited : is_inhibited s level ≡ true → RequestsNothing s level
  pub other : is_inhibited s level ≡ false → level < length s.high → level < length s.risen
      → IsTakenInTurn (after_line (after_line s level Low) level High) level
  pub stays : (line_of : ℕ) (line : Line) → is_inhibited (after_line s line_of line) level ≡ is_inhibited s level

abbrev pub InhibitedRequestNothing : Type 0
InhibitedRequestNothing = (s : PicState) (level : ℕ) → IsInhibitedAlone s level
