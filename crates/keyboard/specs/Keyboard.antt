-- The keyboard's side of the board: codes that wait, the latch that the processor reads through port A, and a
-- count of codes that were lost (IBM PC Technical Reference, "Keyboard", and "System Board I/O": bit 7 of port B
-- clears the latch, bit 6 lets the keyboard send). That sixteen codes can wait, and when one moves into the
-- latch, are this board's choice.
-- To be believed: the headline rests on it.
use Rattle.std.specs.Prelude.{ℕ, ◌+◌, ◌-◌, ◌^◌, ◌&&◌, nat_lt, min, if◌then◌else◌, List, []}
use Rattle.std.specs.Prelude.{◌∷◌, ◌++◌, length, drop, Option, None, slice_get, is_none}
use Rattle.board_types.specs.Bits.{has_bit}

pub record KeyboardState : Type 0 where
  pub waiting : List ℕ
  pub latch : Option ℕ
  pub lost : ℕ

abbrev pub power_on : KeyboardState
power_on = record { waiting = []; latch = None; lost = 0 }

-- a code that arrives waits after the others, or is lost if sixteen wait; lost codes are counted up to the greatest u64
unfoldable pub after_arrival : KeyboardState → ℕ → KeyboardState
after_arrival s code =
    if nat_lt (length s.waiting) 16 then record s { waiting = s.waiting ++ code ∷ [] }
    else record s { lost = min (s.lost + 1) (2 ^ 64 - 1) }

-- the keyboard with an empty latch
abbrev pub after_clearing : KeyboardState → KeyboardState
after_clearing s = record s { latch = None }

-- settling to the lines of port B: line 7 clears the latch; while line 6 lets the keyboard send and the latch is empty,
-- the first waiting code, if there is one, moves into it
unfoldable pub after_settling : KeyboardState → ℕ → KeyboardState
after_settling s port_b =
    if has_bit port_b 7 then after_clearing s
    else (if has_bit port_b 6 && is_none s.latch then
    record s { waiting = drop 1 s.waiting; latch = slice_get s.waiting 0 }
    else s)
