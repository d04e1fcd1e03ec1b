-- How texts are handed to a caller in C.
-- To be believed by callers of this crate: the headline does not rest on it.
use Rattle.std.specs.Prelude.{ℕ, List, ◌++◌, length, drop, if◌then◌else◌, nat_lt}

-- the status of a text for a buffer with so much room: 0, or 2 if it is longer
abbrev pub status_for : List ℕ → ℕ → ℕ
status_for text room = if nat_lt room (length text) then 2 else 0

-- the buffer begins with the text, and is as it was after it; if the text is longer than the buffer, all of it is as it
-- was
abbrev pub buffer_after : List ℕ → List ℕ → List ℕ
buffer_after text buffer = if nat_lt (length buffer) (length text) then buffer else text ++ drop (length text) buffer
