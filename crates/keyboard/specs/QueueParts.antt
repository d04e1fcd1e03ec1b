-- Parts of what an arrival and the settling do.
-- To be believed by callers of this crate: the headline does not rest on it.
use Rattle.std.specs.Prelude.{ℕ, ◌+◌, ◌-◌, ◌^◌, ◌&&◌, nat_lt, min, length, drop, slice_get, is_none, Bool}
use Rattle.board_types.specs.Bits.{has_bit}
use Rattle.keyboard.specs.Keyboard.{KeyboardState}

-- whether one more code can wait
abbrev pub has_room : KeyboardState → Bool
has_room s = nat_lt (length s.waiting) 16

-- one more lost code, counted up to the greatest u64
abbrev pub count_after_loss : ℕ → ℕ
count_after_loss lost = min (lost + 1) (2 ^ 64 - 1)

-- whether a code may move: line 6 of port B lets the keyboard send, and the latch is empty
abbrev pub sends : KeyboardState → ℕ → Bool
sends s port_b = has_bit port_b 6 && is_none s.latch

-- the first waiting code, if there is one, moved into the empty latch
abbrev pub after_sending : KeyboardState → KeyboardState
after_sending s = record s { waiting = drop 1 s.waiting; latch = slice_get s.waiting 0 }
