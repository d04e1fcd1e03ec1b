-- A level that was taken in edge mode doesn't ask until its line has fallen and risen.
use Rattle.std.proofs.Common.{◌≡◌, ◌≢◌, ℕ, ◌%◌, ◌<◌, ◌==◌, Bool, true, false, not, ◌&&◌, ◌||◌, if◌then◌else◌}
use Rattle.std.proofs.Common.{List, [], ◌∷◌, length, Option, None, Some, refl, sym, ap, ◌∙◌, inl, inr}
use Rattle.std.specs.Option.{option_map_or}
use Rattle.std.proofs.Math.Bool.{and-false, and-true, or-true}
use Rattle.std.proofs.lemmas.Bool.{and_parts, not-true, cases_lt, cases_eq, eq-eqb}
use Rattle.std.proofs.lemmas.List.{get_or_past, get_or-set_same, get_or-set_other, length-set}
use Rattle.board_types.specs.Bits.{has_bit}
use Rattle.board_types.specs.declared.line.Line.TheVariants.{Low, High}
use Rattle.pic8259.specs.declared.controller.Expected.{Expected}
use Rattle.pic8259.specs.declared.controller.Expected.TheVariants.{Icw2, Icw3, Icw4, Operation}
use Rattle.pic8259.specs.Levels.{no_levels, Levels, contains, with_level, without_level}
use Rattle.pic8259.specs.Pic.{PicState, is_operating, asks, level_to_take, after_taking, after_acknowledge, after_read, after_line, after_icw1}
use Rattle.pic8259.specs.Pic.{after_word, after_end, after_lowering, highest_served, after_ocw2, after_ocw3, after_command, after_write}
use Rattle.pic8259.specs.PicLaws.{Event, line_change, read, write, acknowledge, after_event, after_events}
use Rattle.pic8259.specs.EdgeLaws.{keeps_line, all_keep_line, AsksOnceARise}
use Rattle.pic8259.proofs.Order.{by_level}
use Rattle.pic8259.proofs.Taking.{gone}

-- edge mode, the line high, and no rise since it was taken
record IsSpent (s : PicState) (level : ℕ) : Type 0 where
  edge : s.is_level_triggered ≡ false
  high : contains s.high level ≡ true
  spent : contains s.risen level ≡ false

-- a set that holds a level holds it also after another is put in or taken out
still_in : (set : Levels) (n level : ℕ) → contains set level ≡ true → contains (with_level set n) level ≡ true
still_in set n level is_in =
    elim (cases_eq level n) [
      | inl same ↦
          elim (cases_lt n (length set)) [
            | inl within ↦ rw same (get_or-set_same set n true false within)
            | inr past ↦ let out : contains set level ≡ false = rw same (get_or_past set n false past) in absurd (cc)
          ]
      | inr differ ↦ get_or-set_other set n level true false differ ∙ is_in
    ]

-- a set that doesn't hold a level doesn't hold it after another is taken out
still_out : (set : Levels) (n level : ℕ) → contains set level ≡ false → contains (without_level set n) level ≡ false
still_out set n level is_out =
    elim (cases_eq level n) [
      | inl same ↦ rw same (gone set n)
      | inr differ ↦ get_or-set_other set n level false false differ ∙ is_out
    ]

taking_spent : (s : PicState) (level : ℕ) (o : Option ℕ) → IsSpent s level → IsSpent (option_map_or (λ n. after_taking s n) o s) level
unfolding after_taking
taking_spent s level None is = is
taking_spent s level (Some n) is = record { edge = is.edge; high = is.high; spent = still_out s.risen n level is.spent }

acknowledge_spent : (s : PicState) (level : ℕ) → IsSpent s level → IsSpent (after_acknowledge s) level
unfolding after_acknowledge
acknowledge_spent s level is = taking_spent s level (level_to_take s) is

read_cases : (b : Bool) (s : PicState) (level : ℕ) → IsSpent s level → IsSpent (if b then record (after_acknowledge s) { polled = false } else s) level
read_cases true s level is =
    let after = acknowledge_spent s level is in record { edge = after.edge; high = after.high; spent = after.spent }
read_cases false s level is = is

read_spent : (s : PicState) (level : ℕ) → IsSpent s level → IsSpent (after_read s) level
unfolding after_read
read_spent s level is = read_cases s.polled s level is

word_spent : (expected : Expected) (value : ℕ) (s : PicState) (level : ℕ) → IsSpent s level → IsSpent (after_word s expected value) level
unfolding after_word
word_spent Icw2 value s level is = record { edge = is.edge; high = is.high; spent = is.spent }
word_spent Icw3 value s level is = record { edge = is.edge; high = is.high; spent = is.spent }
word_spent Icw4 value s level is = record { edge = is.edge; high = is.high; spent = is.spent }
word_spent Operation value s level is = record { edge = is.edge; high = is.high; spent = is.spent }

end_spent : (s : PicState) (level : ℕ) (o : Option ℕ) → IsSpent s level → IsSpent (option_map_or (λ n. after_end s n) o s) level
unfolding after_end
end_spent s level None is = is
end_spent s level (Some n) is = record { edge = is.edge; high = is.high; spent = is.spent }

turn_spent : (s : PicState) (level : ℕ) (o : Option ℕ) → IsSpent s level → IsSpent (option_map_or (λ n. after_lowering (after_end s n) n) o s) level
unfolding after_end after_lowering
turn_spent s level None is = is
turn_spent s level (Some n) is = record { edge = is.edge; high = is.high; spent = is.spent }

ocw2_spent : (rotate specific end : Bool) (n : ℕ) (s : PicState) (level : ℕ) → IsSpent s level → IsSpent (after_ocw2 s rotate specific end n) level
unfolding after_ocw2 after_end after_lowering
ocw2_spent false false true n s level is = end_spent s level (highest_served s) is
ocw2_spent false true true n s level is = record { edge = is.edge; high = is.high; spent = is.spent }
ocw2_spent true false true n s level is = turn_spent s level (highest_served s) is
ocw2_spent true true true n s level is = record { edge = is.edge; high = is.high; spent = is.spent }
ocw2_spent true false false n s level is = record { edge = is.edge; high = is.high; spent = is.spent }
ocw2_spent false false false n s level is = record { edge = is.edge; high = is.high; spent = is.spent }
ocw2_spent true true false n s level is = record { edge = is.edge; high = is.high; spent = is.spent }
ocw2_spent false true false n s level is = is

ocw3_spent : (value : ℕ) (s : PicState) (level : ℕ) → IsSpent s level → IsSpent (after_ocw3 s value) level
unfolding after_ocw3
ocw3_spent value s level is = record { edge = is.edge; high = is.high; spent = is.spent }

none_in : (level : ℕ) → contains no_levels level ≡ false
none_in level =
    elim (cases_lt level 8) [
      | inl within ↦ by_level (λ n. contains no_levels n ≡ false) refl refl refl refl refl refl refl refl level within
      | inr past ↦ get_or_past no_levels level false past
    ]

icw1_spent : (value : ℕ) (s : PicState) (level : ℕ) → has_bit value 3 ≡ false → IsSpent s level → IsSpent (after_icw1 s value) level
unfolding after_icw1
icw1_spent value s level edge is = record { edge = edge; high = is.high; spent = none_in level }

-- one of two states, by a test
choice_spent : (b : Bool) (s t : PicState) (level : ℕ) → (b ≡ true → IsSpent s level) → IsSpent t level → IsSpent (if b then s else t) level
choice_spent true s t level first second = first refl
choice_spent false s t level first second = second

command_spent : (value : ℕ) (s : PicState) (level : ℕ) → (has_bit value 4 && has_bit value 3) ≡ false → IsSpent s level → IsSpent (after_command s value) level
unfolding after_command
command_spent value s level edge is =
    let second = ocw2_spent (has_bit value 7) (has_bit value 6) (has_bit value 5) (value % 8) s level is in
    choice_spent (has_bit value 4) (after_icw1 s value) _ level
    (λ begins. icw1_spent value s level (sym (ap (λ b. b && has_bit value 3) begins) ∙ edge) is)
    (choice_spent (not (is_operating s.expected)) s _ level (λ waits. is)
    (choice_spent (has_bit value 3) (after_ocw3 s value)
    (after_ocw2 s (has_bit value 7) (has_bit value 6) (has_bit value 5) (value % 8)) level (λ third. ocw3_spent value s level is) second))

rise_other : (b : Bool) (s : PicState) (n level : ℕ) → level ≢ n → IsSpent s level → contains (if b then s.risen else with_level s.risen n) level ≡ false
rise_other true s n level differ is = is.spent
rise_other false s n level differ is = get_or-set_other s.risen n level true false differ ∙ is.spent

-- a line that was high doesn't rise
rise_spent : (s : PicState) (n level : ℕ) → IsSpent s level → contains (if contains s.high n then s.risen else with_level s.risen n) level ≡ false
rise_spent s n level is =
    elim (cases_eq level n) [
      | inl same ↦
          let high : contains s.high n ≡ true = ap (contains s.high) (sym same) ∙ is.high in
          ap (λ b. contains (if b then s.risen else with_level s.risen n) level) high ∙ is.spent
      | inr differ ↦ rise_other (contains s.high n) s n level differ is
    ]

event_spent : (event : Event) (s : PicState) (level : ℕ) → keeps_line event level ≡ true → IsSpent s level → IsSpent (after_event s event) level
unfolding after_line after_write
event_spent (line_change n High) s level keeps is =
    record { edge = is.edge; high = still_in s.high n level is.high; spent = rise_spent s n level is }
event_spent (line_change n Low) s level keeps is =
    record {
      edge = is.edge;
      high = elim (cases_eq level n) [
        | inl same ↦ let equal : (n == level) ≡ true = eq-eqb n level (sym same) in let other : (n == level) ≡ false = not-true _ keeps in absurd (cc)
        | inr differ ↦ get_or-set_other s.high n level false false differ ∙ is.high
      ];
      spent = is.spent;
    }
event_spent read s level keeps is = read_spent s level is
event_spent (write true value) s level keeps is = word_spent s.expected value s level is
event_spent (write false value) s level keeps is = command_spent value s level (not-true _ keeps) is
event_spent acknowledge s level keeps is = acknowledge_spent s level is

run_spent : (s : PicState) (level : ℕ) (later : List Event) → all_keep_line later level ≡ true → IsSpent s level → IsSpent (after_events s later) level
run_spent s level [] keeps is = is
run_spent s level (event ∷ earlier) keeps is =
    let parts = and_parts (keeps_line event level) (all_keep_line earlier level) keeps in
    event_spent event (after_events s earlier) level parts.0 (run_spent s level earlier parts.1 is)

spent_asks : (s : PicState) (level : ℕ) → IsSpent s level → asks s level ≡ false
spent_asks s level is =
    ap (λ b. contains s.high level && (b || contains s.risen level)) is.edge
    ∙ ap (λ b. contains s.high level && b) is.spent
    ∙ and-false (contains s.high level)

just_taken : (s : PicState) (level : ℕ) → s.is_level_triggered ≡ false → contains s.high level ≡ true → IsSpent (after_taking s level) level
unfolding after_taking
just_taken s level edge high = record { edge = edge; high = high; spent = gone s.risen level }

-- a line that falls and rises makes its level ask
asks_after_rise : (s : PicState) (level : ℕ) → level < length s.high → level < length s.risen
    → asks (after_line (after_line s level Low) level High) level ≡ true
unfolding after_line
asks_after_rise s level high risen =
    let fallen : Levels = without_level s.high level in
    let size : length fallen ≡ length s.high = length-set s.high level false in
    let up : contains (with_level fallen level) level ≡ true = get_or-set_same fallen level true false (rw size high) in
    let rise : contains (if contains fallen level then s.risen else with_level s.risen level) level ≡ true =
    ap (λ b. contains (if b then s.risen else with_level s.risen level) level) (gone s.high level) ∙ get_or-set_same s.risen level true false risen in
    ap (λ b. b && (s.is_level_triggered || contains (if contains fallen level then s.risen else with_level s.risen level) level)) up
    ∙ ap (λ b. s.is_level_triggered || b) rise
    ∙ or-true s.is_level_triggered

pub asks_once_a_rise : AsksOnceARise
asks_once_a_rise s level = record {
  once = λ edge high later keeps.
      spent_asks (after_events (after_taking s level) later) level (run_spent (after_taking s level) level later keeps (just_taken s level edge high));
  again = asks_after_rise s level;
  always = λ mode. ap (λ b. contains s.high level && (b || contains s.risen level)) mode ∙ and-true (contains s.high level);
}
