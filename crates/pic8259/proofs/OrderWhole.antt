-- The order of priority is a turn of the levels, and holds each once, whatever happens.
use Rattle.std.proofs.Common.{◌≡◌, ℕ, ◌%◌, ◌<◌, ◌==◌, Bool, true, false, not, ◌&&◌, if◌then◌else◌, List, [], ◌∷◌, ◌++◌}
use Rattle.std.proofs.Common.{get_or, find, count_by, All, Option, None, Some, refl, sym, ap, ◌∙◌, arith, subst, lit<}
use Rattle.std.specs.Option.{option_map_or}
use Rattle.std.proofs.lemmas.List.Elements.{All-head}
use Rattle.board_types.specs.Bits.{has_bit}
use Rattle.board_types.specs.declared.line.Line.{Line}
use Rattle.board_types.specs.declared.line.Line.TheVariants.{Low, High}
use Rattle.pic8259.specs.declared.controller.Expected.{Expected}
use Rattle.pic8259.specs.declared.controller.Expected.TheVariants.{Icw2, Icw3, Icw4, Operation}
use Rattle.pic8259.specs.Levels.{all_levels, with_lowest, order_with_lowest}
use Rattle.pic8259.specs.Pic.{PicState, power_on, is_operating, is_ready, blocks, may_be_taken, level_to_take, after_taking, after_acknowledge, after_read}
use Rattle.pic8259.specs.Pic.{after_line, after_icw1, after_word, after_end, after_lowering, highest_served, after_ocw2, after_ocw3, after_command, after_write}
use Rattle.pic8259.specs.PicLaws.{Event, line_change, read, write, acknowledge, after_event}
use Rattle.pic8259.specs.PicLaws.{after_events, HoldsEachLevelOnce, IsTurn, OrderIsWhole, RotationTurns}
use Rattle.pic8259.proofs.Order.{by_level, turned_to_lowest}
use Rattle.pic8259.proofs.Places.{found_at, all_right}

-- a turn holds each level once

only_levels : (lowest : ℕ) → All (λ level. level < 8) (order_with_lowest lowest)
unfolding order_with_lowest
only_levels lowest k d within =
    by_level (λ place. get_or (order_with_lowest lowest) place d < 8) (omega arith) (omega arith)
    (omega arith) (omega arith) (omega arith) (omega arith) (omega arith) (omega arith) k within

counted_once : (lowest level : ℕ) → lowest < 8 → level < 8 → count_by (λ other. other == level) (order_with_lowest lowest) ≡ 1
unfolding order_with_lowest
counted_once lowest level within is_level =
    let P : ℕ → ℕ → Type 0 = λ n other. count_by (λ x. x == other) (order_with_lowest n) ≡ 1 in
    by_level (λ n. P n level)
    (by_level (P 0) refl refl refl refl refl refl refl refl level is_level)
    (by_level (P 1) refl refl refl refl refl refl refl refl level is_level)
    (by_level (P 2) refl refl refl refl refl refl refl refl level is_level)
    (by_level (P 3) refl refl refl refl refl refl refl refl level is_level)
    (by_level (P 4) refl refl refl refl refl refl refl refl level is_level)
    (by_level (P 5) refl refl refl refl refl refl refl refl level is_level)
    (by_level (P 6) refl refl refl refl refl refl refl refl level is_level)
    (by_level (P 7) refl refl refl refl refl refl refl refl level is_level)
    lowest within

turn_is_whole : (order : List ℕ) → IsTurn order → HoldsEachLevelOnce order
turn_is_whole order turn =
    let whole : HoldsEachLevelOnce (order_with_lowest turn.lowest) =
    record { only = only_levels turn.lowest; once = λ level within. counted_once turn.lowest level turn.within within } in
    subst HoldsEachLevelOnce (sym turn.is) whole

-- made the lowest, a level is the last of the turn
pub lowest_turned : (level : ℕ) (order : List ℕ) → IsTurn order → level < 8 → with_lowest order level ≡ order_with_lowest level
lowest_turned level order turn within = ap (λ order. with_lowest order level) turn.is ∙ turned_to_lowest level turn.lowest within turn.within

lowest_turn : (level : ℕ) (order : List ℕ) → level < 8 → IsTurn order → IsTurn (with_lowest order level)
lowest_turn level order within turn = record { lowest = level; within = within; is = lowest_turned level order turn within }

pub rotation_turns : RotationTurns
unfolding after_lowering
rotation_turns s level turn within = lowest_turned level s.order turn within

-- what a change of the state does to the order
abbrev KeepsTurn : (PicState → PicState) → Type 0
KeepsTurn change = (s : PicState) → IsTurn s.order → IsTurn (change s).order

-- a level of the order is one of the eight
in_order : (p : ℕ → Bool) (order : List ℕ) (level : ℕ) → IsTurn order → find p order ≡ Some level → level < 8
in_order p order level turn is =
    let P : ℕ → Type 0 = λ n. n < 8 in
    let at = found_at p order level is in
    let whole = turn_is_whole order turn in
    let all : All P (at.before ++ level ∷ at.after) = subst (All P) at.placed whole.only in
    All-head P level at.after (all_right P at.before (level ∷ at.after) all)

choice_turn : (b : Bool) (xs ys : List ℕ) → IsTurn xs → IsTurn ys → IsTurn (if b then xs else ys)
choice_turn true xs ys x y = x
choice_turn false xs ys x y = y

-- the level that is found, if one is, stands in the order
found_cases : (b : Bool) (p : ℕ → Bool) (order : List ℕ) (level : ℕ) → (if b then find p order else None) ≡ Some level → find p order ≡ Some level
found_cases true p order level is = is
found_cases false p order level is = absurd (cc)

taking_turn : (s : PicState) (o : Option ℕ) → level_to_take s ≡ o → IsTurn s.order → IsTurn (option_map_or (λ level. after_taking s level) o s).order
unfolding level_to_take after_taking
taking_turn s None is turn = turn
taking_turn s (Some level) is turn =
    let there = in_order (may_be_taken s) s.order level turn (found_cases (is_ready s) (may_be_taken s) s.order level is) in
    choice_turn (s.auto_end && s.rotates) (with_lowest s.order level) s.order (lowest_turn level s.order there turn) turn

acknowledge_turn : KeepsTurn after_acknowledge
unfolding after_acknowledge
acknowledge_turn s turn = taking_turn s (level_to_take s) refl turn

read_cases : (b : Bool) (s : PicState) → IsTurn s.order → IsTurn (if b then record (after_acknowledge s) { polled = false } else s).order
read_cases true s turn = acknowledge_turn s turn
read_cases false s turn = turn

read_turn : KeepsTurn after_read
unfolding after_read
read_turn s turn = read_cases s.polled s turn

line_turn : (level : ℕ) (line : Line) → KeepsTurn (λ s. after_line s level line)
unfolding after_line
line_turn level Low s turn = turn
line_turn level High s turn = turn

lowering_turn : (level : ℕ) → level < 8 → KeepsTurn (λ s. after_lowering s level)
unfolding after_lowering
lowering_turn level within s turn = lowest_turn level s.order within turn

end_turn : (level : ℕ) → KeepsTurn (λ s. after_end s level)
unfolding after_end
end_turn level s turn = turn

end_highest_turn : (s : PicState) (o : Option ℕ) → IsTurn s.order → IsTurn (option_map_or (λ highest. after_end s highest) o s).order
end_highest_turn s None turn = turn
end_highest_turn s (Some level) turn = end_turn level s turn

lower_highest_turn : (s : PicState) (o : Option ℕ) → highest_served s ≡ o → IsTurn s.order
    → IsTurn (option_map_or (λ highest. after_lowering (after_end s highest) highest) o s).order
unfolding highest_served after_end after_lowering
lower_highest_turn s None is turn = turn
lower_highest_turn s (Some level) is turn = lowest_turn level s.order (in_order (blocks s) s.order level turn is) turn

ocw2_turn : (rotate specific end : Bool) (level : ℕ) → level < 8 → KeepsTurn (λ s. after_ocw2 s rotate specific end level)
unfolding after_ocw2
ocw2_turn false false true level within s turn = end_highest_turn s (highest_served s) turn
ocw2_turn false true true level within s turn = end_turn level s turn
ocw2_turn true false true level within s turn = lower_highest_turn s (highest_served s) refl turn
ocw2_turn true true true level within s turn = lowering_turn level within (after_end s level) (end_turn level s turn)
ocw2_turn true false false level within s turn = turn
ocw2_turn false false false level within s turn = turn
ocw2_turn true true false level within s turn = lowering_turn level within s turn
ocw2_turn false true false level within s turn = turn

all_levels_turn : IsTurn all_levels
unfolding order_with_lowest
all_levels_turn = record { lowest = 7; within = lit< tt; is = refl }

icw1_turn : (value : ℕ) → KeepsTurn (λ s. after_icw1 s value)
unfolding after_icw1
icw1_turn value s turn = all_levels_turn

ocw3_turn : (value : ℕ) → KeepsTurn (λ s. after_ocw3 s value)
unfolding after_ocw3
ocw3_turn value s turn = turn

word_turn : (expected : Expected) (value : ℕ) → KeepsTurn (λ s. after_word s expected value)
unfolding after_word
word_turn Icw2 value s turn = turn
word_turn Icw3 value s turn = turn
word_turn Icw4 value s turn = turn
word_turn Operation value s turn = turn

state_choice_turn : (b : Bool) (s t : PicState) → IsTurn s.order → IsTurn t.order → IsTurn (if b then s else t).order
state_choice_turn true s t x y = x
state_choice_turn false s t x y = y

command_turn : (value : ℕ) → KeepsTurn (λ s. after_command s value)
unfolding after_command
command_turn value s turn =
    let third : IsTurn (after_ocw3 s value).order = ocw3_turn value s turn in
    let second = ocw2_turn (has_bit value 7) (has_bit value 6) (has_bit value 5) (value % 8) (omega arith) s turn in
    state_choice_turn (has_bit value 4) (after_icw1 s value) _ (icw1_turn value s turn)
    (state_choice_turn (not (is_operating s.expected)) s _ turn
    (state_choice_turn (has_bit value 3) (after_ocw3 s value) (after_ocw2 s (has_bit value 7) (has_bit value 6) (has_bit value 5) (value % 8)) third second))

write_turn : (a0 : Bool) (value : ℕ) → KeepsTurn (λ s. after_write s a0 value)
unfolding after_write
write_turn true value s turn = word_turn s.expected value s turn
write_turn false value s turn = command_turn value s turn

event_turn : (event : Event) → KeepsTurn (λ s. after_event s event)
event_turn (line_change level line) s turn = line_turn level line s turn
event_turn read s turn = read_turn s turn
event_turn (write a0 value) s turn = write_turn a0 value s turn
event_turn acknowledge s turn = acknowledge_turn s turn

turn_after : (events : List Event) → IsTurn (after_events power_on events).order
turn_after [] = all_levels_turn
turn_after (event ∷ earlier) = event_turn event (after_events power_on earlier) (turn_after earlier)

pub order_is_whole : OrderIsWhole
order_is_whole events =
    let turn = turn_after events in record { turn = turn; whole = turn_is_whole (after_events power_on events).order turn }
