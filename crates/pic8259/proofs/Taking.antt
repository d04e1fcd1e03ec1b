-- What an acknowledge takes, what blocks it, and what a plain end of interrupt ends.
use Rattle.pic8259.specs.AskingLevels.{is_pending}
use Rattle.std.proofs.Common.{◌≡◌, ℕ, ◌+◌, ◌%◌, ◌<◌, ◌==◌, Bool, true, false, not, ◌&&◌, cond, if◌then◌else◌, List, [], ◌∷◌, ◌++◌, length, get_or, find}
use Rattle.std.proofs.Common.{count_by, All, Option, MatchOption, None, Some, unwrap_or, refl, sym, ap, ◌∙◌, arith, inl, inr, append_assoc, subst}
use Rattle.std.specs.Option.{option_map_or}
use Rattle.std.specs.List.{list_any, before_first}
use Rattle.std.proofs.lemmas.Bool.{cases_Bool, cases_lt, eq-eqb, and_parts, not-true}
use Rattle.std.proofs.lemmas.Bool.Decides.{eqb_tells}
use Rattle.std.proofs.Math.Bool.{and-false}
use Rattle.std.proofs.lemmas.List.{get_or_past, get_or-set_same, get_or-set_other, length-set}
use Rattle.std.proofs.lemmas.List.Elements.{All-cons, All-tail, All-same, All-weaker, All-from_get_or}
use Rattle.board_types.specs.Bits.{has_bit}
use Rattle.pic8259.specs.Levels.{Levels, contains, without_level, up_to}
use Rattle.pic8259.specs.Pic.{PicState, is_operating, is_ready, asks, blocks, may_be_taken, level_to_take, after_taking, after_acknowledge}
use Rattle.pic8259.specs.Pic.{after_end, highest_served, power_on, after_ocw2, after_ocw3, after_icw1, after_command, after_write}
use Rattle.pic8259.specs.PicLaws.{HoldsEachLevelOnce, IsFirstToTake, Takes, TakesNone, AcknowledgeTakesFirst, ServiceBlocks}
use Rattle.pic8259.specs.PicLaws.{SpecialMaskExcepts, Ends, EndsNone, EndsFirstInService, BeginsAnew, WaitsForSequence}
use Rattle.pic8259.proofs.Places.{found_at, none_found, before_first_past, before_first_here, any_here}
use Rattle.pic8259.proofs.Places.{none_where_any_fails, none_counted, counted_here, count_at_place, all_right}

-- a level that may not be taken is another than one that may
other_level : (s : PicState) (level other : ℕ) → may_be_taken s level ≡ true → may_be_taken s other ≡ false → (other == level) ≡ false
other_level s level other may may_not =
    elim (eqb_tells other level) [
      | inl same ↦ let both : may_be_taken s other ≡ may_be_taken s level = ap (may_be_taken s) same.1 in cc
      | inr differ ↦ differ.0
    ]

first_to_take : (s : PicState) (level : ℕ) → find (may_be_taken s) s.order ≡ Some level → IsFirstToTake s level
first_to_take s level is =
    let at = found_at (may_be_taken s) s.order level is in
    let parts = and_parts (is_pending s level) (not (list_any (blocks s) (up_to s.order level))) at.passes in
    let pending = and_parts (asks s level) (not (contains s.masked level)) parts.0 in
    let others : All (λ other. (other == level) ≡ false) at.before =
    All-weaker (λ other. may_be_taken s other ≡ false) (λ other. (other == level) ≡ false)
    (λ other. other_level s level other at.passes) at.before at.none_before in
    let until_level : up_to s.order level ≡ at.before ++ level ∷ [] =
    ap (λ xs. up_to xs level) at.placed
    ∙ ap (λ xs. xs ++ level ∷ []) (before_first_here (λ other. other == level) at.before level at.after others (eq-eqb level level refl)) in
    let unblocked : list_any (blocks s) (at.before ++ level ∷ []) ≡ false =
    ap (list_any (blocks s)) (sym until_level) ∙ not-true _ parts.1 in
    record {
      before = at.before;
      after = at.after;
      placed = at.placed;
      asking = pending.0;
      unmasked = not-true _ pending.1;
      unblocked = none_where_any_fails (blocks s) (at.before ++ level ∷ []) 0 unblocked;
      none_before = at.none_before;
    }

some_found : (b : Bool) (p : ℕ → Bool) (order : List ℕ) (level : ℕ) → (if b then find p order else None) ≡ Some level → find p order ≡ Some level
some_found true p order level is = is
some_found false p order level is = absurd (cc)

some_ready : (b : Bool) (p : ℕ → Bool) (order : List ℕ) (level : ℕ) → (if b then find p order else None) ≡ Some level → b ≡ true
some_ready true p order level is = refl
some_ready false p order level is = absurd (cc)

none_ready : (b : Bool) (p : ℕ → Bool) (order : List ℕ) → (if b then find p order else None) ≡ None → b ≡ true → find p order ≡ None
none_ready true p order is ready = is
none_ready false p order is ready = absurd (cc)

taking : (s : PicState) (o : Option ℕ) → level_to_take s ≡ o → MatchOption o (TakesNone s) (λ level. Takes s level)
unfolding level_to_take after_acknowledge
taking s None is = record {
  none = λ ready. none_found (may_be_taken s) s.order (none_ready (is_ready s) (may_be_taken s) s.order is ready);
  vector = ap (λ o. s.vector_base + unwrap_or o 7) is;
  state = ap (λ o. option_map_or (λ level. after_taking s level) o s) is;
}
taking s (Some level) is = record {
  ready = some_ready (is_ready s) (may_be_taken s) s.order level is;
  first = first_to_take s level (some_found (is_ready s) (may_be_taken s) s.order level is);
  vector = ap (λ o. s.vector_base + unwrap_or o 7) is;
  state = ap (λ o. option_map_or (λ level. after_taking s level) o s) is;
}

pub acknowledge_takes_first : AcknowledgeTakesFirst
acknowledge_takes_first s = taking s (level_to_take s) refl

-- a level at or before which one stands that blocks may not be taken
blocked : (s : PicState) (level other : ℕ) (before between : List ℕ)
    → blocks s level ≡ true → up_to s.order other ≡ before ++ level ∷ between → may_be_taken s other ≡ false
blocked s level other before between here until_level =
    let some : list_any (blocks s) (up_to s.order other) ≡ true = ap (list_any (blocks s)) until_level ∙ any_here (blocks s) before level between here in
    ap (λ b. is_pending s other && not b) some ∙ and-false (is_pending s other)

-- a level after one that blocks, in an order that holds each level once, may not be taken
blocked_after : (s : PicState) (level other : ℕ) (before after : List ℕ) → HoldsEachLevelOnce s.order → s.order ≡ before ++ level ∷ after
    → blocks s level ≡ true → other < 8 → 0 < count_by (λ n. n == other) after → may_be_taken s other ≡ false
blocked_after s level other before after whole placed here within later =
    let p : ℕ → Bool = λ n. n == other in
    let once : count_by p s.order ≡ 1 = whole.once other within in
    let counts : count_by p s.order ≡ count_by p before + (cond (p level) 1 0 + count_by p after) =
    ap (count_by p) placed ∙ count_at_place p before level after in
    let none : count_by p before ≡ 0 = omega arith in
    let fails : All (λ n. p n ≡ false) before = none_counted p before 0 none in
    let differs : p level ≡ false =
    elim (cases_Bool (p level)) [
      | inl same ↦
          let one : cond {A = ℕ} (p level) 1 0 ≡ 1 = ap (λ b. cond b 1 0) same in absurd (omega arith)
      | inr differ ↦ differ
    ]
    in
    let until_level : up_to s.order other ≡ before ++ level ∷ (before_first p after ++ other ∷ []) =
    ap (λ xs. before_first p xs ++ other ∷ []) placed
    ∙ ap (λ xs. xs ++ other ∷ []) (before_first_past p before (level ∷ after) fails
    ∙ ap (λ xs. before ++ xs) (before_first_past p (level ∷ []) after (All-cons (λ n. p n ≡ false) level [] differs (none_counted p [] 0 refl))))
    ∙ append_assoc before (level ∷ before_first p after) (other ∷ []) in
    blocked s level other before (before_first p after ++ other ∷ []) here until_level

pub service_blocks : ServiceBlocks
service_blocks s level before after whole placed served unexcepted =
    let here : blocks s level ≡ true =
    ap (λ b. b && not (s.special_mask && contains s.masked level)) served ∙ ap (λ b. not b) unexcepted in
    let P : ℕ → Type 0 = λ other. may_be_taken s other ≡ false in
    let itself : P level = blocked s level level (before_first (λ other. other == level) s.order) [] here refl in
    let levels : All (λ n. n < 8) (before ++ level ∷ after) = All-same (λ n. n < 8) _ s.order (sym placed) whole.only in
    let rest : All (λ n. n < 8) after = All-tail (λ n. n < 8) level after (all_right (λ n. n < 8) before (level ∷ after) levels) in
    let later : All P after =
    All-from_get_or P after 0
    (λ i within. blocked_after s level (get_or after i 0) before after whole placed here (rest i 0 within)
    (counted_here (λ n. n == get_or after i 0) after i 0 within (eq-eqb _ _ refl))) in
    All-cons P level after itself later

-- a level that has gone out of a set isn't in it, and the others are as before
pub gone : (set : Levels) (level : ℕ) → contains (without_level set level) level ≡ false
gone set level =
    elim (cases_lt level (length set)) [
      | inl within ↦ get_or-set_same set level false false within
      | inr past ↦
          let size : length (without_level set level) ≡ length set = length-set set level false in
          get_or_past (without_level set level) level false (omega arith)
    ]

excepted_blocks : (s : PicState) (level : ℕ) → s.special_mask ≡ true → contains s.masked level ≡ true → blocks s level ≡ false
excepted_blocks s level special masked =
    ap (λ b. contains s.served level && not (b && contains s.masked level)) special
    ∙ ap (λ b. contains s.served level && not b) masked
    ∙ and-false (contains s.served level)

blocks_as_ended : (s : PicState) (level : ℕ) → s.special_mask ≡ true → contains s.masked level ≡ true → (other : ℕ)
    → blocks s other ≡ blocks (after_end s level) other
unfolding after_end
blocks_as_ended s level special masked other =
    let free : ℕ → Bool = λ n. not (s.special_mask && contains s.masked n) in
    elim (eqb_tells other level) [
      | inl same ↦
          let is : blocks s level ≡ (contains (without_level s.served level) level && free level) =
          excepted_blocks s level special masked ∙ sym (ap (λ b. b && free level) (gone s.served level)) in
          subst (λ (n : ℕ). blocks s n ≡ (contains (without_level s.served level) n && free n)) (sym same.1) is
      | inr differ ↦ ap (λ b. b && free other) (sym (get_or-set_other s.served level other false false differ.1))
    ]

pub special_mask_excepts : SpecialMaskExcepts
unfolding after_end highest_served
special_mask_excepts s level special masked =
    let same = blocks_as_ended s level special masked in
    record {
      others = λ other. λ i. is_pending s other && not (list_any (λ n. same n i) (up_to s.order other));
      kept = λ is.
          let at = found_at (blocks s) s.order level is in
          let never = excepted_blocks s level special masked in
          let passes = at.passes in cc;
    }

plain_end : (s : PicState) (o : Option ℕ) → highest_served s ≡ o → is_operating s.expected ≡ true
    → after_write s false 0x20 ≡ option_map_or (λ highest. after_end s highest) o s
unfolding after_write after_command after_ocw2
plain_end s o is operating =
    ap (λ b. if not b then s else option_map_or (λ highest. after_end s highest) (highest_served s) s) operating
    ∙ ap (λ o. option_map_or (λ highest. after_end s highest) o s) is

ending : (s : PicState) (o : Option ℕ) → highest_served s ≡ o → is_operating s.expected ≡ true → MatchOption o (EndsNone s) (λ level. Ends s level)
unfolding highest_served
ending s None is operating = record { none = none_found (blocks s) s.order is; state = plain_end s None is operating }
ending s (Some level) is operating =
    let at = found_at (blocks s) s.order level is in
    let parts = and_parts (contains s.served level) (not (s.special_mask && contains s.masked level)) at.passes in
    record {
      first = record {
        before = at.before;
        after = at.after;
        placed = at.placed;
        served = parts.0;
        unexcepted = not-true _ parts.1;
        none_before = at.none_before;
      };
      state = plain_end s (Some level) is operating;
    }

pub ends_first_in_service : EndsFirstInService
ends_first_in_service s operating = ending s (highest_served s) refl operating

pub begins_anew : BeginsAnew
unfolding after_write after_command after_icw1
begins_anew s value begins =
    let t : PicState = record power_on { high = s.high; vector_base = s.vector_base; slaves = s.slaves } in
    let heard : (u : PicState) → after_write u false value ≡ after_icw1 u value =
    λ u. ap (λ b. if b then after_icw1 u value else if not (is_operating u.expected) then u
    else if has_bit value 3 then after_ocw3 u value else after_ocw2 u (has_bit value 7) (has_bit value 6) (has_bit value 5) (value % 8))
    begins in
    heard s ∙ sym (heard t)

pub waits_for_sequence : WaitsForSequence
unfolding level_to_take after_write after_command
waits_for_sequence s = (
  (λ waits. record {
    none = ap (λ b. if b && s.is_8086 then find (may_be_taken s) s.order else None) waits;
    unheard = λ value later.
        ap (λ b. if b then after_icw1 s value else if not (is_operating s.expected) then s else if has_bit value 3 then after_ocw3 s value
        else after_ocw2 s (has_bit value 7) (has_bit value 6) (has_bit value 5) (value % 8))
        later
        ∙ ap (λ b.
        if not b then s else if has_bit value 3 then after_ocw3 s value else after_ocw2 s (has_bit value 7) (has_bit value 6) (has_bit value 5) (value % 8))
        waits;
  }),
  (λ other. ap (λ b. if is_operating s.expected && b then find (may_be_taken s) s.order else None) other
      ∙ ap (λ b. if b then find (may_be_taken s) s.order else None) (and-false (is_operating s.expected))),
)
