-- Which lines of the controller are high, through every operation of it but that of a line.
use Rattle.std.proofs.Common.{◌≡◌, ◌%◌, ℕ, Bool, true, false, if◌then◌else◌, Option, None, Some, refl}
use Rattle.std.specs.Prelude.{not}
use Rattle.std.specs.Option.{option_map_or}
use Rattle.board_types.specs.Bits.{has_bit}
use Rattle.pic8259.specs.declared.controller.Expected.{Expected}
use Rattle.pic8259.specs.declared.controller.Expected.TheVariants.{Icw2, Icw3, Icw4, Operation}
use Rattle.pic8259.specs.Levels.{Levels}
use Rattle.pic8259.specs.Pic.{PicState, level_to_take, after_taking, after_acknowledge, after_read, after_icw1, after_ocw2, after_ocw3}
use Rattle.pic8259.specs.Pic.{after_word, after_command, after_write, after_end, after_lowering, highest_served, is_operating}

choose : (b : Bool) (high : Levels) (s t : PicState) → s.high ≡ high → t.high ≡ high → (if b then s else t).high ≡ high
choose true high s t first second = first
choose false high s t first second = second

-- a level that is found, or none
by_level : (o : Option ℕ) (change : ℕ → PicState) (s : PicState) → ((level : ℕ) → (change level).high ≡ s.high) → (option_map_or change o s).high ≡ s.high
by_level None change s keeps = refl
by_level (Some level) change s keeps = keeps level

high_after_taking : (s : PicState) (level : ℕ) → (after_taking s level).high ≡ s.high
unfolding after_taking
high_after_taking s level = refl

pub high_after_acknowledge : (s : PicState) → (after_acknowledge s).high ≡ s.high
unfolding after_acknowledge
high_after_acknowledge s = by_level (level_to_take s) (λ level. after_taking s level) s (high_after_taking s)

pub high_after_read : (s : PicState) → (after_read s).high ≡ s.high
unfolding after_read
high_after_read s = choose s.polled s.high (record (after_acknowledge s) { polled = false }) s (high_after_acknowledge s) refl

high_after_word : (s : PicState) (expected : Expected) (value : ℕ) → (after_word s expected value).high ≡ s.high
unfolding after_word
high_after_word s Icw2 value = refl
high_after_word s Icw3 value = refl
high_after_word s Icw4 value = refl
high_after_word s Operation value = refl

high_after_end : (s : PicState) (level : ℕ) → (after_end s level).high ≡ s.high
unfolding after_end
high_after_end s level = refl

high_after_both : (s : PicState) (level : ℕ) → (after_lowering (after_end s level) level).high ≡ s.high
unfolding after_end after_lowering
high_after_both s level = refl

high_after_lowering : (s : PicState) (level : ℕ) → (after_lowering s level).high ≡ s.high
unfolding after_lowering
high_after_lowering s level = refl

high_after_ocw2 : (s : PicState) (r sl eoi : Bool) (level : ℕ) → (after_ocw2 s r sl eoi level).high ≡ s.high
unfolding after_ocw2
high_after_ocw2 s false false true level = by_level (highest_served s) (λ highest. after_end s highest) s (high_after_end s)
high_after_ocw2 s false true true level = high_after_end s level
high_after_ocw2 s true false true level = by_level (highest_served s) (λ highest. after_lowering (after_end s highest) highest) s (high_after_both s)
high_after_ocw2 s true true true level = high_after_both s level
high_after_ocw2 s true false false level = refl
high_after_ocw2 s false false false level = refl
high_after_ocw2 s true true false level = high_after_lowering s level
high_after_ocw2 s false true false level = refl

high_after_icw1 : (s : PicState) (value : ℕ) → (after_icw1 s value).high ≡ s.high
unfolding after_icw1
high_after_icw1 s value = refl

high_after_ocw3 : (s : PicState) (value : ℕ) → (after_ocw3 s value).high ≡ s.high
unfolding after_ocw3
high_after_ocw3 s value = refl

high_after_command : (s : PicState) (value : ℕ) → (after_command s value).high ≡ s.high
unfolding after_command
high_after_command s value =
    choose (has_bit value 4) s.high _ _ (high_after_icw1 s value)
    (choose (not (is_operating s.expected)) s.high _ _ refl
    (choose (has_bit value 3) s.high _ _ (high_after_ocw3 s value)
    (high_after_ocw2 s (has_bit value 7) (has_bit value 6) (has_bit value 5) (value % 8))))

pub high_after_write : (s : PicState) (a0 : Bool) (value : ℕ) → (after_write s a0 value).high ≡ s.high
unfolding after_write
high_after_write s a0 value = choose a0 s.high _ _ (high_after_word s s.expected value) (high_after_command s value)
