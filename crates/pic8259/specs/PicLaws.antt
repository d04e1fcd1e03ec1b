-- What holds of the controller whatever happens to it, in the words of the Intel 8259A data sheet.
-- Laws: claims above the definitions, each proved as the contract of a function.
use Rattle.std.specs.Prelude.{◌≡◌, ◌≢◌, ℕ, ◌+◌, ◌*◌, ◌/◌, ◌<◌, ◌==◌, Bool, true, false, ◌&&◌, if◌then◌else◌}
use Rattle.std.specs.Prelude.{length, List, [], ◌∷◌, ◌++◌, count_by, All, MatchOption, None, Some}
use Rattle.board_types.specs.Bits.{has_bit}
use Rattle.board_types.specs.declared.line.Line.{Line}
use Rattle.pic8259.specs.Levels.{no_levels, contains, order_with_lowest}
use Rattle.pic8259.specs.Pic.{PicState, power_on, is_operating, is_ready, asks, blocks, may_be_taken}
use Rattle.pic8259.specs.Pic.{level_to_take, after_taking, after_acknowledge, vector, byte_at, after_read}
use Rattle.pic8259.specs.Pic.{after_line, after_write, after_end, after_lowering, highest_served}

-- what can happen to a controller: a line changes, it is read or written, or an acknowledge comes
pub data Event : Type 0 where
  line_change : ℕ → Line → Event
  read : Event
  write : Bool → ℕ → Event
  acknowledge : Event

abbrev pub after_event : PicState → Event → PicState
after_event s (line_change n line) = after_line s n line
after_event s read = after_read s
after_event s (write a0 value) = after_write s a0 value
after_event s acknowledge = after_acknowledge s

-- the state after these events, of which the list has the newest first
abbrev pub after_events : PicState → List Event → PicState
after_events s [] = s
after_events s (event ∷ earlier) = after_event (after_events s earlier) event

-- the list has each of the eight levels once
pub record HoldsEachLevelOnce (order : List ℕ) : Type 0 where
  pub only : All (λ level. level < 8) order
  pub once : (level : ℕ) → level < 8 → count_by (λ other. other == level) order ≡ 1

-- the levels by number, turned until some level is the last
pub record IsTurn (order : List ℕ) : Type 0 where
  pub lowest : ℕ
  pub within : lowest < 8
  pub is : order ≡ order_with_lowest lowest

pub record IsWhole (order : List ℕ) : Type 0 where
  pub turn : IsTurn order
  pub whole : HoldsEachLevelOnce order

-- "Priority Resolver", "Automatic Rotation", "Specific Rotation": at any time each level has one place in the order of
-- priority, which is a turn of the circle of levels
abbrev pub OrderIsWhole : Type 0
OrderIsWhole = (events : List Event) → IsWhole (after_events power_on events).order

-- a level that is made the lowest is the last of the circle
abbrev pub RotationTurns : Type 0
RotationTurns =
    (s : PicState) (level : ℕ) → IsTurn s.order → level < 8 → (after_lowering s level).order ≡ order_with_lowest level

-- "Initialization Command Words 1 and 2": ICW1 begins anew, from power-on but for the lines, the vector's bits and ICW3
abbrev pub BeginsAnew : Type 0
BeginsAnew =
    (s : PicState) (value : ℕ) → has_bit value 4 ≡ true
    → after_write s false value
    ≡ after_write (record power_on { high = s.high; vector_base = s.vector_base; slaves = s.slaves }) false value

-- the words that follow this ICW1 at A0 = 1: ICW2, then ICW3 unless it chooses single mode, and ICW4 if it asks for it
abbrev pub later_words : ℕ → ℕ → ℕ → ℕ → List ℕ
later_words icw1 icw2 icw3 icw4 =
    icw2 ∷ ((if has_bit icw1 1 then [] else icw3 ∷ []) ++ (if has_bit icw1 0 then icw4 ∷ [] else []))

-- the state after words written at A0 = 1, in their order
abbrev pub after_words : PicState → List ℕ → PicState
after_words s [] = s
after_words s (word ∷ words) = after_words (after_write s true word) words

-- the state after the words of a sequence; without ICW4 its bits count as 0
pub record HasEnded (s : PicState) (icw1 icw2 icw4 : ℕ) : Type 0 where
  pub operating : is_operating s.expected ≡ true
  pub base : s.vector_base ≡ 8 * (icw2 / 8)
  pub mode : s.is_8086 ≡ (has_bit icw1 0 && has_bit icw4 0)
  pub automatic : s.auto_end ≡ (has_bit icw1 0 && has_bit icw4 1)
  pub unmasked : s.masked ≡ no_levels

-- "Programming the 8259A": the initialization sequence ends after its words, and leaves what they say
abbrev pub SequenceEnds : Type 0
SequenceEnds =
    (s : PicState) (icw1 icw2 icw3 icw4 : ℕ) → has_bit icw1 4 ≡ true
    → HasEnded (after_words (after_write s false icw1) (later_words icw1 icw2 icw3 icw4)) icw1 icw2 icw4

-- nothing is taken, and no operation word is heard at A0 = 0, as in mid-sequence
pub record IsDeafInSequence (s : PicState) : Type 0 where
  pub none : level_to_take s ≡ None
  pub unheard : (value : ℕ) → has_bit value 4 ≡ false → after_write s false value ≡ s

-- nothing is taken in mid-sequence, or before 8086 mode has been chosen
abbrev pub WaitsForSequence : Type 0
WaitsForSequence =
    (s : PicState)
    → (is_operating s.expected ≡ false → IsDeafInSequence s) × (s.is_8086 ≡ false → level_to_take s ≡ None)

-- the level asks, is unmasked, nothing that blocks stands at or before its place, and none before it may be taken
pub record IsFirstToTake (s : PicState) (level : ℕ) : Type 0 where
  pub before : List ℕ
  pub after : List ℕ
  pub placed : s.order ≡ before ++ level ∷ after
  pub asking : asks s level ≡ true
  pub unmasked : contains s.masked level ≡ false
  pub unblocked : All (λ other. blocks s other ≡ false) (before ++ level ∷ [])
  pub none_before : All (λ other. may_be_taken s other ≡ false) before

-- an acknowledge takes this level and answers its vector
pub record Takes (s : PicState) (level : ℕ) : Type 0 where
  pub ready : is_ready s ≡ true
  pub first : IsFirstToTake s level
  pub vector : vector s ≡ s.vector_base + level
  pub state : after_acknowledge s ≡ after_taking s level

-- an acknowledge finds nothing to take, answers the vector of level 7 and changes nothing
pub record TakesNone (s : PicState) : Type 0 where
  pub none : is_ready s ≡ true → All (λ level. may_be_taken s level ≡ false) s.order
  pub vector : vector s ≡ s.vector_base + 7
  pub state : after_acknowledge s ≡ s

-- "Interrupt Sequence": an acknowledge takes the first level that may be taken, if there is one
abbrev pub AcknowledgeTakesFirst : Type 0
AcknowledgeTakesFirst = (s : PicState) → MatchOption (level_to_take s) (TakesNone s) (λ level. Takes s level)

-- "Fully Nested Mode": a level in service that special mask mode doesn't except blocks itself and all after it
abbrev pub ServiceBlocks : Type 0
ServiceBlocks =
    (s : PicState) (level : ℕ) (before after : List ℕ) → HoldsEachLevelOnce s.order → s.order ≡ before ++ level ∷ after
    → contains s.served level ≡ true → (s.special_mask && contains s.masked level) ≡ false
    → All (λ other. may_be_taken s other ≡ false) (level ∷ after)

-- "Special Mask Mode": a level that it excepts stands in no level's way, as if it weren't in service, and a plain end
-- of interrupt doesn't end it
pub record IsExcepted (s : PicState) (level : ℕ) : Type 0 where
  pub others : (other : ℕ) → may_be_taken s other ≡ may_be_taken (after_end s level) other
  pub kept : highest_served s ≢ Some level

abbrev pub SpecialMaskExcepts : Type 0
SpecialMaskExcepts =
    (s : PicState) (level : ℕ) → s.special_mask ≡ true → contains s.masked level ≡ true → IsExcepted s level

-- the level is in service and not excepted, and no level before it in the order is
pub record IsFirstInService (s : PicState) (level : ℕ) : Type 0 where
  pub before : List ℕ
  pub after : List ℕ
  pub placed : s.order ≡ before ++ level ∷ after
  pub served : contains s.served level ≡ true
  pub unexcepted : (s.special_mask && contains s.masked level) ≡ false
  pub none_before : All (λ other. blocks s other ≡ false) before

-- a plain end of interrupt, the word 20h, ends this level
pub record Ends (s : PicState) (level : ℕ) : Type 0 where
  pub first : IsFirstInService s level
  pub state : after_write s false 0x20 ≡ after_end s level

-- a plain end of interrupt finds no level in service, and changes nothing
pub record EndsNone (s : PicState) : Type 0 where
  pub none : All (λ level. blocks s level ≡ false) s.order
  pub state : after_write s false 0x20 ≡ s

-- "End of Interrupt (EOI)": a plain end of interrupt ends the first level in service, if there is one
abbrev pub EndsFirstInService : Type 0
EndsFirstInService =
    (s : PicState) → is_operating s.expected ≡ true
    → MatchOption (highest_served s) (EndsNone s) (λ level. Ends s level)

-- "In-Service Register": a level that is taken comes into service. "Automatic End of Interrupt (AEOI) Mode": in that
-- mode it doesn't, and the order stays, unless "Automatic Rotation" makes the level the lowest
pub record Serves (s : PicState) (level : ℕ) : Type 0 where
  pub in_service : s.auto_end ≡ false → level < length s.served → contains (after_taking s level).served level ≡ true
  pub at_once : s.auto_end ≡ true → (after_taking s level).served ≡ s.served
  pub stays : (s.auto_end && s.rotates) ≡ false → (after_taking s level).order ≡ s.order
  pub turns : (s.auto_end && s.rotates) ≡ true → IsTurn s.order → level < 8
      → (after_taking s level).order ≡ order_with_lowest level

abbrev pub ServesTaken : Type 0
ServesTaken = (s : PicState) (level : ℕ) → Serves s level

-- "Interrupt Mask Register (IMR)": OCW1 sets the mask, which reads back unless a poll is pending, and no masked level
-- may be taken
pub record HoldsMask (s : PicState) (mask : ℕ) : Type 0 where
  pub reads : s.polled ≡ false → byte_at s true ≡ mask
  pub held : (level : ℕ) → level < 8 → has_bit mask level ≡ true → may_be_taken s level ≡ false

abbrev pub MaskHolds : Type 0
MaskHolds =
    (s : PicState) (mask : ℕ) → is_operating s.expected ≡ true → mask < 256 → HoldsMask (after_write s true mask) mask

-- a read answers this byte and leaves this state
pub record Reads (s : PicState) (a0 : Bool) (byte : ℕ) (after : PicState) : Type 0 where
  pub answer : byte_at s a0 ≡ byte
  pub state : after_read s ≡ after

-- "Poll Command": the read after the poll word, 0Ch, takes the level that an acknowledge would and answers it with bit
-- 7 set, or answers 0 if there is none
abbrev pub PollTakes : Type 0
PollTakes =
    (s : PicState) (a0 : Bool) → is_operating s.expected ≡ true → s.polled ≡ false
    → MatchOption (level_to_take s) (Reads (after_write s false 0x0C) a0 0 s)
    (λ level. Reads (after_write s false 0x0C) a0 (0x80 + level) (after_taking s level))
