-- Edges, over whole runs (Intel 8259A data sheet, "Edge and Level Triggered Modes").
-- Laws: claims above the definitions, each proved as the contract of a function.
use Rattle.std.specs.Prelude.{◌≡◌, ℕ, ◌<◌, ◌==◌, length, Bool, true, false, not, ◌&&◌, List, [], ◌∷◌}
use Rattle.board_types.specs.Bits.{has_bit}
use Rattle.board_types.specs.declared.line.Line.TheVariants.{Low, High}
use Rattle.pic8259.specs.Levels.{contains}
use Rattle.pic8259.specs.Pic.{PicState, asks, after_taking, after_line}
use Rattle.pic8259.specs.PicLaws.{Event, line_change, read, write, acknowledge, after_events}

-- whether an event neither lets this level's line fall nor is an ICW1 that asks for level mode
abbrev pub keeps_line : Event → ℕ → Bool
keeps_line (line_change n High) level = true
keeps_line (line_change n Low) level = not (n == level)
keeps_line read level = true
keeps_line (write true value) level = true
keeps_line (write false value) level = not (has_bit value 4 && has_bit value 3)
keeps_line acknowledge level = true

abbrev pub all_keep_line : List Event → ℕ → Bool
all_keep_line [] level = true
all_keep_line (event ∷ earlier) level = keeps_line event level && all_keep_line earlier level

-- in edge mode a level that was taken doesn't ask again until its line has fallen and risen; then it does. In level
-- mode a level asks as long as its line is high
pub record AsksByEdge (s : PicState) (level : ℕ) : Type 0 where
  pub once : s.is_level_triggered ≡ false → contains s.high level ≡ true → (later : List Event)
      → all_keep_line later level ≡ true → asks (after_events (after_taking s level) later) level ≡ false
  pub again : level < length s.high → level < length s.risen
      → asks (after_line (after_line s level Low) level High) level ≡ true
  pub always : s.is_level_triggered ≡ true → asks s level ≡ contains s.high level

abbrev pub AsksOnceARise : Type 0
AsksOnceARise = (s : PicState) (level : ℕ) → AsksByEdge s level
