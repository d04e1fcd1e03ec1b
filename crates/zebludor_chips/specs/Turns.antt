-- How a number says when an output changes.
-- To be believed by callers of this crate: the headline does not rest on it.
use Rattle.std.specs.Prelude.{ℕ, ◌==◌, if◌then◌else◌, Option, None, Some}

-- 0 is never
abbrev pub turn_of : ℕ → Option ℕ
turn_of n = if n == 0 then None else Some n
