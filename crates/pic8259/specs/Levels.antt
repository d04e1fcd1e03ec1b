-- The eight interrupt levels, IR0 to IR7: sets of them, and the list that gives their priority
-- (Intel 8259A data sheet, "Interrupt Request Register (IRR) and In-Service Register (ISR)", "Priority Resolver").
-- To be believed: the headline rests on it.
use Rattle.std.specs.Prelude.{ℕ, ◌+◌, ◌%◌, ◌^◌, ◌==◌, Bool, true, false, if◌then◌else◌}
use Rattle.std.specs.Prelude.{List, [], ◌∷◌, ◌++◌, map, sum_by, slice_index_or, slice_set}
use Rattle.std.specs.List.{before_first, after_first}
use Rattle.board_types.specs.Bits.{has_bit}

-- the levels by number: after initialisation IR0 has the highest priority and IR7 the lowest
abbrev pub all_levels : List ℕ
all_levels = 0 ∷ 1 ∷ 2 ∷ 3 ∷ 4 ∷ 5 ∷ 6 ∷ 7 ∷ []

-- a set of levels: for each level, from IR0 on, whether it is in the set
abbrev pub Levels : Type 0
Levels = List Bool

abbrev pub no_levels : Levels
no_levels = map (λ level. false) all_levels

abbrev pub contains : Levels → ℕ → Bool
contains set level = slice_index_or set level false

abbrev pub with_level : Levels → ℕ → Levels
with_level set level = slice_set set level true

abbrev pub without_level : Levels → ℕ → Levels
without_level set level = slice_set set level false

-- a set as a register shows it: bit n stands for level n
abbrev pub byte_of : Levels → ℕ
byte_of set = sum_by (λ level. if contains set level then 2 ^ level else 0) all_levels

abbrev pub levels_of : ℕ → Levels
levels_of byte = map (has_bit byte) all_levels

-- the levels of the list up to this one, including it
abbrev pub up_to : List ℕ → ℕ → List ℕ
up_to order level = before_first (λ other. other == level) order ++ level ∷ []

-- the list turned until this level is the last, and so has the lowest priority ("Specific Rotation")
unfoldable pub with_lowest : List ℕ → ℕ → List ℕ
with_lowest order level =
    after_first (λ other. other == level) order ++ up_to order level

-- the list that has this level as its last: the numbers rise from the one after it, and 0 follows 7
unfoldable pub order_with_lowest : ℕ → List ℕ
order_with_lowest lowest = map (λ steps. (lowest + steps) % 8) (1 ∷ 2 ∷ 3 ∷ 4 ∷ 5 ∷ 6 ∷ 7 ∷ 8 ∷ [])
