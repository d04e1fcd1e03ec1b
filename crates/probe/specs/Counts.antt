-- How a run's clocks are counted: for the instructions that began and the interrupts that were entered, from each up to
-- the next beginning.
-- To be believed by callers of this crate: the headline does not rest on it.
use Rattle.std.specs.Prelude.{ℕ, ◌+◌, ◌-◌, ◌*◌, ◌/◌, ◌%◌, ◌^◌, ◌==◌, nat_lt, Bool, if◌then◌else◌}
use Rattle.std.specs.Prelude.{List, [], ◌∷◌, ◌++◌, codes, count_by, Option, None, Some}
use Rattle.std.specs.BTreeSet.{insert_key}
use Rattle.std.specs.Fmt.{decimal}
use Rattle.std.specs.List.{flat_map}
use Rattle.std.specs.Ordering.{nat_cmp}
use Rattle.board.specs.declared.one_turn.Begun.{Begun}
use Rattle.board.specs.OneTurn.{begun_in}
use Rattle.board_plain.specs.Plain.{Plain, clock_of}
use Rattle.board_types.specs.Digits.{hex_byte_text, hex_word}

-- what began as one number: CS:IP, with the segment above the offset; or, above all of these, the type of the interrupt
-- that was entered
abbrev pub number_unless : Option ℕ → ℕ → ℕ → ℕ
number_unless None cs ip = 65536 * cs + ip
number_unless (Some type) cs ip = 2 ^ 32 + type

abbrev pub number_of : Begun → ℕ
number_of b = number_unless b.entered b.cs b.ip

-- whether this is what began
abbrev pub is_number : ℕ → Begun → Bool
is_number k b = number_of b == k

-- the clock of the next beginning, or the end
abbrev pub next_clock : List Begun → ℕ → ℕ
next_clock [] end = end
next_clock (b ∷ bs) end = b.clock

-- how many clocks passed from those beginnings for which `is` holds, from each up to the next
abbrev pub clocks_from : (Begun → Bool) → List Begun → ℕ → ℕ
clocks_from is [] end = 0
clocks_from is (b ∷ bs) end = (if is b then next_clock bs end - b.clock else 0) + clocks_from is bs end

-- the numbers of what began, rising, each once
abbrev pub numbers_of : List Begun → List ℕ
numbers_of [] = []
numbers_of (b ∷ bs) = insert_key nat_cmp (numbers_of bs) (number_of b)

-- `F000:0013`, `entry 08`; the type is a byte
abbrev pub name_of : ℕ → List ℕ
name_of k =
    if nat_lt k (2 ^ 32) then hex_word (k / 65536) ++ (codes ":" ++ hex_word (k % 65536))
    else codes "entry " ++ hex_byte_text (k % 256)

-- a line: a name, how often something began there, and the clocks from it
abbrev pub count_line : List ℕ → ℕ → ℕ → List ℕ
count_line name count clocks = name ++ (codes " " ++ (decimal count ++ (codes " " ++ (decimal clocks ++ codes "\n"))))

abbrev pub line_of : List Begun → ℕ → ℕ → List ℕ
line_of begun end k = count_line (name_of k) (count_by (is_number k) begun) (clocks_from (is_number k) begun end)

-- a line for each number
abbrev pub lines_of : List Begun → ℕ → List ℕ
lines_of begun end = flat_map (line_of begun end) (numbers_of begun)

-- the clocks before the first beginning, a line for each CS:IP at which an instruction began and for each type of
-- interrupt that was entered, and the clock that is reached
abbrev pub counts_of : List Begun → ℕ → ℕ → List ℕ
counts_of begun start end =
    codes "before " ++ (decimal (next_clock begun end - start) ++ (codes "\n"
    ++ (lines_of begun end ++ (codes "clock " ++ (decimal end ++ codes "\n")))))

-- the counts of n clocks
unfoldable pub counts_text : Plain → ℕ → List ℕ
counts_text s n = counts_of (begun_in s n) (clock_of s) (clock_of s + n)
