-- Levels that ask, and those of them that are unmasked (Intel 8259A data sheet, "Interrupt Request Register (IRR)" and
-- "Interrupt Mask Register (IMR)").
-- To be believed by callers of this crate: the headline does not rest on it.
use Rattle.std.specs.Prelude.{ℕ, Bool, not, ◌&&◌, map}
use Rattle.pic8259.specs.Levels.{all_levels, Levels, contains}
use Rattle.pic8259.specs.Pic.{PicState, asks}

-- the requests, as the IRR shows them
abbrev pub requests : PicState → Levels
requests s = map (asks s) all_levels

-- whether a level asks, and is unmasked
abbrev pub is_pending : PicState → ℕ → Bool
is_pending s level = asks s level && not (contains s.masked level)
