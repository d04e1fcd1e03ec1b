-- The work that a board has in some clocks, against which its turns are held.
-- To be believed by callers of this crate: the headline does not rest on it.
use Rattle.std.specs.Prelude.{ℕ, ◌+◌, if◌then◌else◌, length}
use Rattle.std.specs.Bool.{beq}
use Rattle.board_types.specs.Iterate.{total}
use Rattle.board_types.specs.LineLevel.{is_high}
use Rattle.board_types.specs.declared.line.Line.{Line}
use Rattle.decode.specs.declared.decoding.Decoding.TheVariants.{Found, NoRow}
use Rattle.board_plain.specs.declared.act.Act.{Act}
use Rattle.board_plain.specs.declared.act.Act.TheVariants.{Nothing, Request, SingleStep, Iteration, Instruction}
use Rattle.board_plain.specs.Plain.{Plain, after_clock, clock_of, codes_at, next_act}

-- how many steps an act makes: a step of an instruction or of a repeat, or an entry; a jam is none
abbrev pub steps_of : Act → ℕ
steps_of Nothing = 0
steps_of Request = 1
steps_of SingleStep = 1
steps_of Iteration = 1
steps_of (Instruction (Found instr size)) = 1
steps_of (Instruction NoRow) = 0

-- 1 for an act that jams, and else 0
abbrev pub jams_of : Act → ℕ
jams_of (Instruction NoRow) = 1
jams_of _ = 0

-- 1 for a level that a clock changes, and else 0
abbrev pub edges_of : Line → Line → ℕ
edges_of before after = if beq (is_high before) (is_high after) then 0 else 1

-- the changes of OUT0 and OUT2 that the next clock brings
unfoldable pub edges_next : Plain → ℕ
edges_next s =
    edges_of s.chips.pit.counter_0.out (after_clock s).chips.pit.counter_0.out
    + edges_of s.chips.pit.counter_2.out (after_clock s).chips.pit.counter_2.out

-- how many keys come at the end of the next clock
unfoldable pub keys_next : Plain → ℕ
keys_next s = length (codes_at s.keys (clock_of s + 1))

-- how many steps, iterations and entries the next clock has
unfoldable pub steps_next : Plain → ℕ
steps_next s = steps_of (next_act s)

-- the work of the next clock: its steps, a jam, the changes of OUT0 and OUT2, and the keys
unfoldable pub work_next : Plain → ℕ
work_next s = steps_next s + jams_of (next_act s) + edges_next s + keys_next s

-- the steps and the work of n clocks
abbrev pub steps_in : Plain → ℕ → ℕ
steps_in s n = total after_clock steps_next n s

abbrev pub work_in : Plain → ℕ → ℕ
work_in s n = total after_clock work_next n s
