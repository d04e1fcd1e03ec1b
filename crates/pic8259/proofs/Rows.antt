-- The definitions on worked values: sequences of words, lines and acknowledges, worked out by hand from the data sheet.
use Rattle.std.proofs.Common.{◌≡◌, true, false, List, [], ◌∷◌, Some, None, refl}
use Rattle.std.specs.Prelude.{⊤}
use Rattle.board_types.specs.declared.line.Line.TheVariants.{Low, High}
use Rattle.pic8259.specs.Levels.{byte_of, with_lowest}
use Rattle.pic8259.specs.Pic.{PicState, power_on, vector, byte_at, level_to_take, highest_served, after_taking, after_acknowledge, after_read}
use Rattle.pic8259.specs.Pic.{after_line, after_icw1, after_ocw2, after_ocw3, after_word, after_command, after_end, after_lowering, after_write}
use Rattle.pic8259.specs.PicLaws.{Event, line_change, read, write, acknowledge, after_event}

-- what a row unfolds
unfoldable on_events : ⊤
unfolding byte_at level_to_take highest_served after_taking after_acknowledge after_read after_line
    after_icw1 after_ocw2 after_ocw3 after_word after_command after_end after_lowering after_write with_lowest
on_events = tt

-- the state after events, the oldest first
abbrev after : PicState → List Event → PicState
after s [] = s
after s (event ∷ later) = after (after_event s event) later

-- single, edge mode, vectors from 08h on, 8086 mode
ready : PicState
ready = after power_on (write false 0x13 ∷ write true 0x08 ∷ write true 0x01 ∷ [])

-- levels 5 and 3 in service, 3 above 5
nested : PicState
nested = after ready (line_change 5 High ∷ acknowledge ∷ line_change 3 High ∷ acknowledge ∷ [])

-- "Fully Nested Mode": the higher level comes first, and the lower waits
takes_the_higher : vector (after ready (line_change 5 High ∷ line_change 3 High ∷ [])) ≡ 0x0B
unfolding ready on_events
takes_the_higher = refl

both_in_service : byte_of nested.served ≡ 0x28
unfolding nested ready on_events
both_in_service = refl

lower_waits : level_to_take (after nested (line_change 6 High ∷ [])) ≡ None
unfolding nested ready on_events
lower_waits = refl

-- "Operation Control Word 2", each of the eight commands
plain_end : byte_of (after nested (write false 0x20 ∷ [])).served ≡ 0x20
unfolding nested ready on_events
plain_end = refl

specific_end : byte_of (after nested (write false 0x65 ∷ [])).served ≡ 0x08
unfolding nested ready on_events
specific_end = refl

rotating_end : (after nested (write false 0xA0 ∷ [])).order ≡ 4 ∷ 5 ∷ 6 ∷ 7 ∷ 0 ∷ 1 ∷ 2 ∷ 3 ∷ []
unfolding nested ready on_events
rotating_end = refl

rotating_end_ends : byte_of (after nested (write false 0xA0 ∷ [])).served ≡ 0x20
unfolding nested ready on_events
rotating_end_ends = refl

rotating_specific_end : (after nested (write false 0xE5 ∷ [])).order ≡ 6 ∷ 7 ∷ 0 ∷ 1 ∷ 2 ∷ 3 ∷ 4 ∷ 5 ∷ []
unfolding nested ready on_events
rotating_specific_end = refl

rotating_specific_end_ends : byte_of (after nested (write false 0xE5 ∷ [])).served ≡ 0x08
unfolding nested ready on_events
rotating_specific_end_ends = refl

set_priority : (after nested (write false 0xC2 ∷ [])).order ≡ 3 ∷ 4 ∷ 5 ∷ 6 ∷ 7 ∷ 0 ∷ 1 ∷ 2 ∷ []
unfolding nested ready on_events
set_priority = refl

set_priority_ends_none : byte_of (after nested (write false 0xC3 ∷ [])).served ≡ 0x28
unfolding nested ready on_events
set_priority_ends_none = refl

no_operation : after nested (write false 0x43 ∷ []) ≡ nested
unfolding nested ready on_events
no_operation = refl

-- "Automatic Rotation" in automatic end of interrupt: 80h begins it, 00h ends it
automatic : PicState
automatic = after power_on (write false 0x13 ∷ write true 0x08 ∷ write true 0x03 ∷ write false 0x80 ∷ line_change 0 High ∷ line_change 1 High ∷ [])

turns : (after automatic (acknowledge ∷ acknowledge ∷ [])).order ≡ 2 ∷ 3 ∷ 4 ∷ 5 ∷ 6 ∷ 7 ∷ 0 ∷ 1 ∷ []
unfolding automatic on_events
turns = refl

serves_none : byte_of (after automatic (acknowledge ∷ [])).served ≡ 0
unfolding automatic on_events
serves_none = refl

turns_no_more : (after automatic (write false 0x00 ∷ acknowledge ∷ [])).order ≡ 0 ∷ 1 ∷ 2 ∷ 3 ∷ 4 ∷ 5 ∷ 6 ∷ 7 ∷ []
unfolding automatic on_events
turns_no_more = refl

-- "Operation Control Word 3": the register that is read, the poll and special mask mode
reads_in_service : byte_at (after nested (line_change 6 High ∷ write false 0x0B ∷ [])) false ≡ 0x28
unfolding nested ready on_events
reads_in_service = refl

reads_requests : byte_at (after nested (line_change 6 High ∷ write false 0x0B ∷ write false 0x0A ∷ [])) false ≡ 0x40
unfolding nested ready on_events
reads_requests = refl

keeps_the_register : byte_at (after nested (write false 0x0B ∷ write false 0x08 ∷ [])) false ≡ 0x28
unfolding nested ready on_events
keeps_the_register = refl

polls : byte_at (after ready (line_change 6 High ∷ write false 0x0C ∷ [])) false ≡ 0x86
unfolding ready on_events
polls = refl

polls_once : byte_at (after ready (line_change 6 High ∷ write false 0x0C ∷ read ∷ write false 0x0B ∷ [])) false ≡ 0x40
unfolding ready on_events
polls_once = refl

poll_is_withdrawn : byte_at (after ready (line_change 6 High ∷ write false 0x0C ∷ write false 0x0A ∷ [])) false ≡ 0x40
unfolding ready on_events
poll_is_withdrawn = refl

-- level 3 is masked in special mask mode: 4 may be taken, and a plain end of interrupt ends 5
excepted : PicState
excepted = after nested (write true 0x08 ∷ write false 0x68 ∷ [])

lets_others_in : level_to_take (after excepted (line_change 4 High ∷ [])) ≡ Some 4
unfolding excepted nested ready on_events
lets_others_in = refl

passes_over : byte_of (after excepted (write false 0x20 ∷ [])).served ≡ 0x08
unfolding excepted nested ready on_events
passes_over = refl

keeps_special_mask : byte_of (after excepted (write false 0x08 ∷ write false 0x20 ∷ [])).served ≡ 0x08
unfolding excepted nested ready on_events
keeps_special_mask = refl

ends_special_mask : byte_of (after excepted (write false 0x48 ∷ write false 0x20 ∷ [])).served ≡ 0x20
unfolding excepted nested ready on_events
ends_special_mask = refl

-- "Edge and Level Triggered Modes": a line that stays high asks again in level mode alone
level_mode : PicState
level_mode = after power_on (write false 0x1B ∷ write true 0x08 ∷ write true 0x01 ∷ line_change 2 High ∷ acknowledge ∷ write false 0x20 ∷ [])

asks_again : level_to_take level_mode ≡ Some 2
unfolding level_mode on_events
asks_again = refl

asks_once : level_to_take (after ready (line_change 2 High ∷ acknowledge ∷ write false 0x20 ∷ [])) ≡ None
unfolding ready on_events
asks_once = refl

-- a request that has gone is answered by level 7, which is not in service
gone : vector (after ready (line_change 3 High ∷ line_change 3 Low ∷ [])) ≡ 0x0F
unfolding ready on_events
gone = refl

gone_serves_none : byte_of (after ready (line_change 3 High ∷ line_change 3 Low ∷ acknowledge ∷ [])).served ≡ 0
unfolding ready on_events
gone_serves_none = refl
