-- What the words of a sequence, the mask, a poll and the taking of a level leave.
use Rattle.std.proofs.Common.{◌≡◌, ℕ, ◌+◌, ◌*◌, ◌/◌, ◌%◌, ◌<◌, Bool, true, false, not, ◌&&◌, if◌then◌else◌}
use Rattle.std.proofs.Common.{List, [], ◌∷◌, ◌++◌, Option, MatchOption, None, Some, refl, sym, ap, ◌∙◌}
use Rattle.std.specs.Option.{option_map_or}
use Rattle.std.specs.List.{list_any}
use Rattle.std.proofs.Math.Bool.{and-false}
use Rattle.std.proofs.lemmas.List.{get_or-set_same}
use Rattle.board_types.specs.Bits.{has_bit}
use Rattle.pic8259.specs.declared.controller.Expected.{Expected}
use Rattle.pic8259.specs.declared.controller.Expected.TheVariants.{Icw2, Icw3, Icw4, Operation}
use Rattle.pic8259.specs.Levels.{no_levels, contains, with_level, byte_of, levels_of, up_to, with_lowest}
use Rattle.pic8259.specs.Masks.{byte_of-levels_of}
use Rattle.pic8259.specs.Pic.{PicState, is_operating, asks, blocks, level_to_take, after_taking, after_acknowledge, byte_at}
use Rattle.pic8259.specs.Pic.{after_read, after_icw1, after_ocw2, after_ocw3, after_word, after_command, after_write}
use Rattle.pic8259.specs.PicLaws.{after_words, SequenceEnds, ServesTaken, HoldsMask, MaskHolds, Reads, PollTakes}
use Rattle.pic8259.proofs.Masks.{contains_levels}
use Rattle.pic8259.proofs.OrderWhole.{lowest_turned}

-- a controller that has just heard ICW1, by its two bits
abbrev sequence_start : PicState → Bool → Bool → PicState
sequence_start s single asks = record s { expected = Icw2; is_cascaded = not single; asks_icw4 = asks; is_8086 = false; auto_end = false; masked = no_levels }

-- the words that follow, by the two bits
abbrev words_of : Bool → Bool → ℕ → ℕ → ℕ → List ℕ
words_of single asks icw2 icw3 icw4 = icw2 ∷ ((if single then [] else icw3 ∷ []) ++ (if asks then icw4 ∷ [] else []))

record EndState (s : PicState) (asks : Bool) (icw2 icw4 : ℕ) : Type 0 where
  operating : is_operating s.expected ≡ true
  base : s.vector_base ≡ 8 * (icw2 / 8)
  mode : s.is_8086 ≡ (asks && has_bit icw4 0)
  automatic : s.auto_end ≡ (asks && has_bit icw4 1)
  unmasked : s.masked ≡ no_levels

end_state : (s : PicState) (single asks : Bool) (icw2 icw3 icw4 : ℕ)
    → EndState (after_words (sequence_start s single asks) (words_of single asks icw2 icw3 icw4)) asks icw2 icw4
unfolding after_write after_word
end_state s true true icw2 icw3 icw4 = record { operating = refl; base = refl; mode = refl; automatic = refl; unmasked = refl }
end_state s true false icw2 icw3 icw4 = record { operating = refl; base = refl; mode = refl; automatic = refl; unmasked = refl }
end_state s false true icw2 icw3 icw4 = record { operating = refl; base = refl; mode = refl; automatic = refl; unmasked = refl }
end_state s false false icw2 icw3 icw4 = record { operating = refl; base = refl; mode = refl; automatic = refl; unmasked = refl }

first_word : (s : PicState) (icw1 : ℕ) → has_bit icw1 4 ≡ true → after_write s false icw1 ≡ after_icw1 s icw1
unfolding after_write after_command
first_word s icw1 begins =
    ap (λ b. if b then after_icw1 s icw1 else if not (is_operating s.expected) then s
    else if has_bit icw1 3 then after_ocw3 s icw1 else after_ocw2 s (has_bit icw1 7) (has_bit icw1 6) (has_bit icw1 5) (icw1 % 8))
    begins

after_first : (s : PicState) (icw1 icw2 icw3 icw4 : ℕ)
    → EndState (after_words (after_icw1 s icw1) (words_of (has_bit icw1 1) (has_bit icw1 0) icw2 icw3 icw4)) (has_bit icw1 0) icw2 icw4
unfolding after_icw1
after_first s icw1 icw2 icw3 icw4 = end_state (after_icw1 s icw1) (has_bit icw1 1) (has_bit icw1 0) icw2 icw3 icw4

pub sequence_ends : SequenceEnds
sequence_ends s icw1 icw2 icw3 icw4 begins =
    let end = after_first s icw1 icw2 icw3 icw4 in
    rw (first_word s icw1 begins) (record { operating = end.operating; base = end.base; mode = end.mode; automatic = end.automatic; unmasked = end.unmasked })

pub serves_taken : ServesTaken
unfolding after_taking
serves_taken s level = record {
  in_service = λ kept within.
      ap (λ b. contains (if b then s.served else with_level s.served level) level) kept ∙ get_or-set_same s.served level true false within;
  at_once = λ auto. ap (λ b. if b then s.served else with_level s.served level) auto;
  stays = λ off. ap (λ b. if b then with_lowest s.order level else s.order) off;
  turns = λ on turn within. ap (λ b. if b then with_lowest s.order level else s.order) on ∙ lowest_turned level s.order turn within;
}

abbrev with_mask : PicState → ℕ → PicState
with_mask s mask = record s { masked = levels_of mask }

mask_word : (s : PicState) (mask : ℕ) (expected : Expected) → is_operating expected ≡ true → after_word s expected mask ≡ with_mask s mask
unfolding after_word
mask_word s mask Icw2 operating = absurd (cc)
mask_word s mask Icw3 operating = absurd (cc)
mask_word s mask Icw4 operating = absurd (cc)
mask_word s mask Operation operating = refl

holds_mask : (s : PicState) (mask : ℕ) → mask < 256 → HoldsMask (with_mask s mask) mask
unfolding byte_at
holds_mask s mask small = record {
  reads = λ unpolled.
      ap (λ b. if b then option_map_or (λ level. 0x80 + level) (level_to_take (with_mask s mask)) 0 else byte_of (levels_of mask)) unpolled
      ∙ byte_of-levels_of mask small;
  held = λ level within is_masked.
      let out : contains (levels_of mask) level ≡ true = contains_levels mask level within ∙ is_masked in
      ap (λ b. (asks s level && not b) && not (list_any (blocks (with_mask s mask)) (up_to s.order level))) out
      ∙ ap (λ b. b && not (list_any (blocks (with_mask s mask)) (up_to s.order level))) (and-false (asks s level));
}

pub mask_holds : MaskHolds
unfolding after_write
mask_holds s mask operating small = rw (mask_word s mask s.expected operating) (holds_mask s mask small)

poll_word : (s : PicState) → is_operating s.expected ≡ true → after_write s false 0x0C ≡ record s { polled = true }
unfolding after_write after_command after_ocw3
poll_word s operating = ap (λ b. if not b then s else record s { polled = true }) operating

polling : (s : PicState) (a0 : Bool) (o : Option ℕ) → level_to_take s ≡ o → s.polled ≡ false
    → MatchOption o (Reads (record s { polled = true }) a0 0 s) (λ level. Reads (record s { polled = true }) a0 (0x80 + level) (after_taking s level))
unfolding level_to_take after_acknowledge byte_at after_read after_taking
polling s a0 None is unpolled = record {
  answer = ap (λ o. option_map_or (λ level. 0x80 + level) o 0) is;
  state = ap (λ o. record (option_map_or (λ level. after_taking (record s { polled = true }) level) o (record s { polled = true })) { polled = false }) is
      ∙ ap (λ b. record s { polled = b }) (sym unpolled);
}
polling s a0 (Some level) is unpolled = record {
  answer = ap (λ o. option_map_or (λ level. 0x80 + level) o 0) is;
  state = ap (λ o. record (option_map_or (λ level. after_taking (record s { polled = true }) level) o (record s { polled = true })) { polled = false }) is
      ∙ ap (λ b. record (after_taking s level) { polled = b }) (sym unpolled);
}

pub poll_takes : PollTakes
poll_takes s a0 operating unpolled = rw (poll_word s operating) (polling s a0 (level_to_take s) refl unpolled)
