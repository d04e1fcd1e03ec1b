-- The interrupt controller: what it remembers, and how each command and each acknowledge changes that.
-- The headings named are those of the Intel 8259A data sheet.
-- To be believed: the headline rests on it.
use Rattle.std.specs.Prelude.{ℕ, ◌+◌, ◌*◌, ◌/◌, ◌%◌, Bool, true, false, not, ◌&&◌, ◌||◌}
use Rattle.std.specs.Prelude.{if◌then◌else◌, List, map, find, Option, None, unwrap_or, is_some}
use Rattle.std.specs.Option.{option_map_or}
use Rattle.std.specs.List.{list_any}
use Rattle.board_types.specs.Bits.{has_bit}
use Rattle.board_types.specs.declared.line.Line.{Line}
use Rattle.board_types.specs.declared.line.Line.TheVariants.{Low, High}
use Rattle.pic8259.specs.declared.controller.Expected.{Expected}
use Rattle.pic8259.specs.declared.controller.Expected.TheVariants.{Icw2, Icw3, Icw4, Operation}
use Rattle.pic8259.specs.Levels.{all_levels, Levels, no_levels, contains, with_level}
use Rattle.pic8259.specs.Levels.{without_level, byte_of, levels_of, up_to, with_lowest}

pub record PicState : Type 0 where
  -- the levels, the highest priority first
  pub order : List ℕ
  -- the levels whose line is high
  pub high : Levels
  -- the levels whose line has risen since they were last taken
  pub risen : Levels
  -- the levels that the interrupt mask register holds back
  pub masked : Levels
  -- the levels in service
  pub served : Levels
  -- the word that the newest initialisation sequence waits for, or none
  pub expected : Expected
  -- ICW1: not single, its bit 1 clear (SNGL); ICW4 follows, bit 0 (IC4); level mode, bit 3 (LTIM)
  pub is_cascaded : Bool
  pub asks_icw4 : Bool
  pub is_level_triggered : Bool
  -- ICW2: the vector of level 0, in bits 7 to 3; it stays over an ICW1 (this board's choice)
  pub vector_base : ℕ
  -- ICW3: the levels that have a slave
  pub slaves : ℕ
  -- ICW4: 8086 mode, its bit 0; automatic end of interrupt, bit 1 (AEOI); special fully nested mode, bit 4 (SFNM)
  pub is_8086 : Bool
  pub auto_end : Bool
  pub is_specially_nested : Bool
  -- whether levels rotate under automatic end of interrupt, and whether special mask mode is on
  pub rotates : Bool
  pub special_mask : Bool
  -- whether a poll command waits for its read
  pub polled : Bool
  -- whether a read at A0 = 0 gives the levels in service, and not the requests
  pub reads_served : Bool

-- power-on, this board's choice: no sequence has been written; edge mode, nothing masked
abbrev pub power_on : PicState
power_on = record {
  order = all_levels;
  high = no_levels;
  risen = no_levels;
  masked = no_levels;
  served = no_levels;
  expected = Operation;
  is_cascaded = false;
  asks_icw4 = false;
  is_level_triggered = false;
  vector_base = 0;
  slaves = 0;
  is_8086 = false;
  auto_end = false;
  is_specially_nested = false;
  rotates = false;
  special_mask = false;
  polled = false;
  reads_served = false;
}

abbrev pub is_operating : Expected → Bool
is_operating Operation = true
is_operating _ = false

-- whether the newest sequence has ended, in 8086 mode; before, nothing is taken (this board's choice)
abbrev pub is_ready : PicState → Bool
is_ready s = is_operating s.expected && s.is_8086

-- "Edge and Level Triggered Modes": a level asks while its line is high, in edge mode only if it has risen since the
-- level was last taken
abbrev pub asks : PicState → ℕ → Bool
asks s level = contains s.high level && (s.is_level_triggered || contains s.risen level)

-- "Fully Nested Mode": a level in service blocks; "Special Mask Mode": but not if it is masked
abbrev pub blocks : PicState → ℕ → Bool
blocks s level = contains s.served level && not (s.special_mask && contains s.masked level)

-- "Interrupt Mask Register (IMR)": a level may be taken if it asks and is unmasked; "Priority Resolver": and no level
-- that blocks stands in the list at or before its place
abbrev pub may_be_taken : PicState → ℕ → Bool
may_be_taken s level =
    (asks s level && not (contains s.masked level)) && not (list_any (blocks s) (up_to s.order level))

-- the level that an acknowledge or a poll takes, if there is one
unfoldable pub level_to_take : PicState → Option ℕ
level_to_take s = if is_ready s then find (may_be_taken s) s.order else None

-- the interrupt output, INT ("Interrupt Sequence")
abbrev pub is_requesting : PicState → Bool
is_requesting s = is_some (level_to_take s)

-- "Interrupt Sequence": a level that is taken loses its edge bit and comes into service; "Automatic End of Interrupt
-- (AEOI) Mode": in that mode it doesn't come into service; "Automatic Rotation": and may become the lowest
unfoldable pub after_taking : PicState → ℕ → PicState
after_taking s level = record s {
  risen = without_level s.risen level;
  served = if s.auto_end then s.served else with_level s.served level;
  order = if s.auto_end && s.rotates then with_lowest s.order level else s.order;
}

-- an acknowledge or a poll takes the level to take, if there is one; a pending poll stays pending (this board's choice)
unfoldable pub after_acknowledge : PicState → PicState
after_acknowledge s = option_map_or (λ level. after_taking s level) (level_to_take s) s

-- "Interrupt Sequence": the vector's upper bits and the level, or level 7 if the request has gone
abbrev pub vector : PicState → ℕ
vector s = s.vector_base + unwrap_or (level_to_take s) 7

-- "Reading the 8259A Status": a pending poll is answered at either port (this board's choice), by bit 7 and the level,
-- or by 0 if there is none (this board's choice; "Poll Command"); else A0 = 1 reads the mask, in mid-sequence too (this
-- board's choice), and A0 = 0 the register that was chosen: the levels in service, or the requests in the IRR
unfoldable pub byte_at : PicState → Bool → ℕ
byte_at s a0 =
    if s.polled then option_map_or (λ level. 0x80 + level) (level_to_take s) 0
    else if a0 then byte_of s.masked
    else if s.reads_served then byte_of s.served
    else byte_of (map (asks s) all_levels)

-- a read changes something only if it answers a poll
unfoldable pub after_read : PicState → PicState
after_read s = if s.polled then record (after_acknowledge s) { polled = false } else s

-- "Edge and Level Triggered Modes": a line that goes high has risen
unfoldable pub after_line : PicState → ℕ → Line → PicState
after_line s level Low = record s { high = without_level s.high level }
after_line s level High = record s {
  high = with_level s.high level;
  risen = if contains s.high level then s.risen else with_level s.risen level;
}

-- "Initialization Command Words 1 and 2": ICW1 begins a sequence, from power-on but for the lines, the vector's bits
-- and ICW3. That it also clears the levels in service, a pending poll and rotation under automatic end of interrupt is
-- this board's choice
unfoldable pub after_icw1 : PicState → ℕ → PicState
after_icw1 s value = record power_on {
  high = s.high;
  expected = Icw2;
  is_cascaded = not (has_bit value 1);
  asks_icw4 = has_bit value 0;
  is_level_triggered = has_bit value 3;
  vector_base = s.vector_base;
  slaves = s.slaves;
}

-- the word that follows ICW3
abbrev pub expected_after_icw3 : PicState → Expected
expected_after_icw3 s = if s.asks_icw4 then Icw4 else Operation

-- a word written at A0 = 1: the one that the sequence waits for, or the mask outside a sequence
unfoldable pub after_word : PicState → Expected → ℕ → PicState
-- ICW2: its bits 7 to 3 are those of the vector
after_word s Icw2 value = record s {
  vector_base = 8 * (value / 8);
  expected = if s.is_cascaded then Icw3 else expected_after_icw3 s;
}
-- "Initialization Command Word 3 (ICW3)": no slave hangs on this board, so it is kept without effect (this board's
-- choice)
after_word s Icw3 value = record s { slaves = value; expected = expected_after_icw3 s }
-- "Initialization Command Word 4 (ICW4)": special fully nested mode is kept without effect (this board's choice)
after_word s Icw4 value = record s {
  is_8086 = has_bit value 0;
  auto_end = has_bit value 1;
  is_specially_nested = has_bit value 4;
  expected = Operation;
}
-- "Operation Control Word 1 (OCW1)" is the mask
after_word s Operation value = record s { masked = levels_of value }

-- "Specific EOI": this level is no longer in service
unfoldable pub after_end : PicState → ℕ → PicState
after_end s level = record s { served = without_level s.served level }

-- "Specific Rotation": this level becomes the lowest
unfoldable pub after_lowering : PicState → ℕ → PicState
after_lowering s level = record s { order = with_lowest s.order level }

-- "Nonspecific EOI" ends this level: the highest in service; in special mask mode a masked one counts as none
unfoldable pub highest_served : PicState → Option ℕ
highest_served s = find (blocks s) s.order

-- "Operation Control Word 2 (OCW2)", by its bits R, SL and EOI, and the level in its bits 2 to 0. That R, SL and EOI
-- together make the level the lowest even if it wasn't in service is this board's choice
unfoldable pub after_ocw2 : PicState → Bool → Bool → Bool → ℕ → PicState
after_ocw2 s false false true level = option_map_or (λ highest. after_end s highest) (highest_served s) s
after_ocw2 s false true true level = after_end s level
after_ocw2 s true false true level =
    option_map_or (λ highest. after_lowering (after_end s highest) highest) (highest_served s) s
after_ocw2 s true true true level = after_lowering (after_end s level) level
after_ocw2 s true false false level = record s { rotates = true }
after_ocw2 s false false false level = record s { rotates = false }
after_ocw2 s true true false level = after_lowering s level
after_ocw2 s false true false level = s

-- "Operation Control Word 3 (OCW3)": ESMM and SMM, RR and RIS, and P; each such word without P
-- withdraws a poll (this board's choice)
unfoldable pub after_ocw3 : PicState → ℕ → PicState
after_ocw3 s value = record s {
  special_mask = if has_bit value 6 then has_bit value 5 else s.special_mask;
  reads_served = if has_bit value 1 then has_bit value 0 else s.reads_served;
  polled = has_bit value 2;
}

-- a word written at A0 = 0: bit 4 makes it ICW1, which is heard at any time. In mid-sequence an operation word is
-- ignored (this board's choice); else bit 3 tells OCW3 from OCW2
unfoldable pub after_command : PicState → ℕ → PicState
after_command s value =
    if has_bit value 4 then after_icw1 s value
    else if not (is_operating s.expected) then s
    else if has_bit value 3 then after_ocw3 s value
    else after_ocw2 s (has_bit value 7) (has_bit value 6) (has_bit value 5) (value % 8)

unfoldable pub after_write : PicState → Bool → ℕ → PicState
after_write s a0 value = if a0 then after_word s s.expected value else after_command s value
