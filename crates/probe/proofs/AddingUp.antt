-- The clocks of all counts add up to those of the run.
use Rattle.std.proofs.Common.{◌≡◌, ℕ, zero, suc, ◌+◌, ◌-◌, ◌≤◌, ◌==◌, if◌then◌else◌, true, false, List, []}
use Rattle.std.proofs.Common.{◌∷◌, ◌++◌, map, Option, None, Some, refl, sym, ap, ◌∙◌, subst, arith, append-nil}
use Rattle.std.proofs.lemmas.Bool.Decides.{nat_tests}
use Rattle.std.proofs.lemmas.List.{map-append}
use Rattle.std.proofs.lemmas.List.Sums.{sum_by-cons}
use Rattle.std.specs.Prelude.{◌||◌, count_by, nat_lt, sum_by}
use Rattle.std.specs.BTreeSet.{insert_key}
use Rattle.std.specs.List.Sorted.{IsStrictlySortedBy}
use Rattle.std.specs.Ordering.{is_eq, match_ordering, nat_cmp}
use Rattle.std.specs.declared.cmp.Ordering.{Ordering}
use Rattle.std.specs.declared.cmp.Ordering.TheVariants.{Less, Equal, Greater}
use Rattle.board.specs.declared.one_turn.Begun.{Begun}
use Rattle.board.specs.OneTurn.{begun_in, begun_of}
use Rattle.board_plain.specs.declared.trail.TrailEvent.{TrailEvent}
use Rattle.board_plain.proofs.Clocks.{clocks_go_by}
use Rattle.board_plain.specs.Plain.{Plain, after_clock, after_clocks, clock_of, next_act}
use Rattle.board_plain.specs.Trail.{entry_at, event_of, trail_in, trail_next}
use Rattle.board_types.proofs.Iterate.{gathered_more, gathered_zero}
use Rattle.probe.specs.Counts.{clocks_from, is_number, next_clock, number_of, numbers_of}
use Rattle.probe.specs.ProbeLaws.{clocks_of_lines, CountsAddUp}
use Rattle.probe.proofs.Numbers.{above_less, equal_numbers, in_numbers, is_in, numbers_rise, AreAbove}
use Rattle.probe.proofs.Tallying.{no_clocks}

-- a sum over rising numbers, to which d is added at one of them

abbrev adds : ℕ → ℕ → (ℕ → ℕ) → ℕ → ℕ
adds n d f k = (if n == k then d else 0) + f k

at_other : (n d k : ℕ) (f : ℕ → ℕ) → nat_cmp n k ≡ Less → adds n d f k ≡ f k
at_other n d k f less = let apart : (n == k) ≡ false = grind (arith, nat_tests, less) in ap (λ b. (if b then d else 0) + f k) apart ∙ omega arith

at_it : (n d k : ℕ) (f : ℕ → ℕ) → n ≡ k → adds n d f k ≡ d + f k
at_it n d k f same = let one : (n == k) ≡ true = grind (arith, nat_tests, same) in ap (λ b. (if b then d else 0) + f k) one

sum_above : (n d : ℕ) (f : ℕ → ℕ) (ks : List ℕ) → AreAbove n ks → sum_by (adds n d f) ks ≡ sum_by f ks
sum_above n d f [] above = refl
sum_above n d f (k ∷ ks) above =
    let rest = sum_above n d f ks above.1 in
    let first = at_other n d k f above.0 in
    let more = sum_by-cons (adds n d f) k ks in
    let less = sum_by-cons f k ks in omega (arith, rest, first, more, less)

at_lesser : (n d k : ℕ) (f : ℕ → ℕ) → nat_cmp n k ≡ Greater → adds n d f k ≡ f k
at_lesser n d k f more = let apart : (n == k) ≡ false = grind (arith, nat_tests, more) in ap (λ b. (if b then d else 0) + f k) apart ∙ omega arith

not_in : (q : ℕ) (ks : List ℕ) → AreAbove q ks → is_in q ks ≡ false
not_in q [] above = refl
not_in q (k ∷ ks) above = ap (λ o. is_eq o || is_in q ks) above.0 ∙ not_in q ks above.1

apart_in : (n k : ℕ) (ks : List ℕ) → nat_cmp n k ≡ Greater → is_in n ks ≡ false → is_in n (k ∷ ks) ≡ false
apart_in n k ks is out = ap (λ o. is_eq o || is_in n ks) is ∙ out

-- if a number isn't there before, nothing has been summed at it
sum_put : (n d : ℕ) (f : ℕ → ℕ) (ks : List ℕ) → IsStrictlySortedBy nat_cmp ks → (is_in n ks ≡ false → f n ≡ 0)
    → sum_by (adds n d f) (insert_key nat_cmp ks n) ≡ d + sum_by f ks
unfolding IsStrictlySortedBy
sum_put n d f [] sorted none =
    let no = none refl in
    let it = at_it n d n f refl in
    let one = sum_by-cons (adds n d f) n [] in omega (arith, no, it, one)
sum_put n d f (k ∷ ks) sorted none = by (nat_cmp n k) refl (sum_put n d f ks sorted.1)
  where
    by : (o : Ordering) → nat_cmp n k ≡ o → ((is_in n ks ≡ false → f n ≡ 0) → sum_by (adds n d f) (insert_key nat_cmp ks n) ≡ d + sum_by f ks)
        → sum_by (adds n d f) (match_ordering o (n ∷ k ∷ ks) (k ∷ ks) (k ∷ insert_key nat_cmp ks n)) ≡ d + sum_by f (k ∷ ks)
    by Less is rest =
        let above : AreAbove n (k ∷ ks) = (is, above_less n k ks is sorted.0) in
        let no = none (not_in n (k ∷ ks) above) in
        let it = at_it n d n f refl in
        let one = sum_by-cons (adds n d f) n (k ∷ ks) in
        let others = sum_above n d f (k ∷ ks) above in omega (arith, no, it, one, others)
    by Equal is rest =
        let same : n ≡ k = equal_numbers n k is in
        let it = at_it n d k f same in
        let others = sum_above n d f ks (subst (λ m. AreAbove m ks) (sym same) sorted.0) in
        let one = sum_by-cons (adds n d f) k ks in
        let less = sum_by-cons f k ks in omega (arith, it, others, one, less)
    by Greater is rest =
        let first = at_lesser n d k f is in
        let more = rest (λ out. none (apart_in n k ks is out)) in
        let one = sum_by-cons (adds n d f) k (insert_key nat_cmp ks n) in
        let less = sum_by-cons f k ks in omega (arith, first, more, one, less)

-- the clocks of a beginning come to its own line

none_counted : (n : ℕ) → nat_lt 0 n ≡ false → n ≡ 0
none_counted zero is = refl
none_counted (suc n) is = absurd (let never : nat_lt 0 (suc n) ≡ true = grind (arith, nat_tests) in cc)

lines_first : (b : Begun) (bs : List Begun) (end : ℕ) → clocks_of_lines (b ∷ bs) end ≡ (next_clock bs end - b.clock) + clocks_of_lines bs end
lines_first b bs end =
    let n = number_of b in
    sum_put n (next_clock bs end - b.clock) (λ k. clocks_from (is_number k) bs end) (numbers_of bs) (numbers_rise bs)
    (λ out. no_clocks (is_number n) bs end (none_counted (count_by (is_number n) bs) (sym (in_numbers bs n) ∙ out)))

abbrev spans : List Begun → ℕ → ℕ
spans [] end = 0
spans (b ∷ bs) end = (next_clock bs end - b.clock) + spans bs end

all_lines : (bs : List Begun) (end : ℕ) → clocks_of_lines bs end ≡ spans bs end
all_lines [] end = refl
all_lines (b ∷ bs) end =
    let first = lines_first b bs end in
    let rest = all_lines bs end in omega (arith, first, rest)

-- beginnings come at rising clocks

abbrev Rise : ℕ → List Begun → ℕ → Type 0
Rise from [] end = from ≤ end
Rise from (b ∷ bs) end = (from ≤ b.clock) × Rise b.clock bs end

rise_within : (from : ℕ) (bs : List Begun) (end : ℕ) → Rise from bs end → from ≤ end
rise_within from [] end rise = rise
rise_within from (b ∷ bs) end rise = let rest = rise_within b.clock bs end rise.1 in omega (arith, rise.0, rest)

spans_whole : (from : ℕ) (bs : List Begun) (end : ℕ) → Rise from bs end → (next_clock bs end - from) + spans bs end ≡ end - from
spans_whole from [] end rise = omega arith
spans_whole from (b ∷ bs) end rise =
    let rest = spans_whole b.clock bs end rise.1 in
    let within = rise_within b.clock bs end rise.1 in omega (arith, rest, within, rise.0)

rise_later : (from : ℕ) (bs : List Begun) (end : ℕ) → Rise from bs end → Rise from bs (end + 1)
rise_later from [] end rise = omega (arith, rise)
rise_later from (b ∷ bs) end rise = (rise.0, rise_later b.clock bs end rise.1)

rise_more : (from : ℕ) (bs : List Begun) (b : Begun) (end : ℕ) → b.clock ≡ end → Rise from bs end → Rise from (bs ++ b ∷ []) (end + 1)
rise_more from [] b end is rise = (omega (arith, is, rise), omega (arith, is))
rise_more from (a ∷ bs) b end is rise = (rise.0, rise_more a.clock bs b end is rise.1)

rise_by : (from : ℕ) (bs : List Begun) (t : Plain) (event : Option TrailEvent) → Rise from bs (clock_of t)
    → Rise from (bs ++ map begun_of (entry_at t event)) (clock_of t + 1)
rise_by from bs t None rise = subst (λ xs. Rise from xs (clock_of t + 1)) (sym (append-nil bs)) (rise_later from bs (clock_of t) rise)
rise_by from bs t (Some event) rise = rise_more from bs _ (clock_of t) refl rise

rise_next : (from : ℕ) (bs : List Begun) (t : Plain) → Rise from bs (clock_of t) → Rise from (bs ++ map begun_of (trail_next t)) (clock_of t + 1)
unfolding trail_next
rise_next from bs t rise = rise_by from bs t (event_of t.cpu t.chips (next_act t)) rise

begun_rise : (n : ℕ) (s : Plain) → Rise (clock_of s) (begun_in s n) (clock_of s + n)
begun_rise zero s = subst (λ xs. Rise (clock_of s) xs (clock_of s + 0)) (sym (ap (map begun_of) (gathered_zero after_clock trail_next s))) (omega arith)
begun_rise (suc n) s =
    let more : suc n ≡ n + 1 = omega arith in
    let t : Plain = after_clocks s n in
    let at : clock_of s + n ≡ clock_of t = sym (clocks_go_by n s) in
    let split : begun_in s n ++ map begun_of (trail_next t) ≡ begun_in s (n + 1) =
    sym (ap (map begun_of) (gathered_more after_clock trail_next n s) ∙ map-append begun_of (trail_in s n) (trail_next t)) in
    let next : Rise (clock_of s) (begun_in s n ++ map begun_of (trail_next t)) (clock_of t + 1) =
    rise_next (clock_of s) (begun_in s n) t (subst (Rise (clock_of s) (begun_in s n)) at (begun_rise n s)) in
    let end : clock_of t + 1 ≡ clock_of s + (n + 1) = omega (arith, at) in
    subst (λ k. Rise (clock_of s) (begun_in s k) (clock_of s + k)) (sym more)
    (subst (Rise (clock_of s) (begun_in s (n + 1))) end (subst (λ xs. Rise (clock_of s) xs (clock_of t + 1)) split next))

pub counts_add_up : CountsAddUp
counts_add_up s n =
    let end : ℕ = clock_of s + n in
    let lines = all_lines (begun_in s n) end in
    let whole = spans_whole (clock_of s) (begun_in s n) end (begun_rise n s) in omega (arith, lines, whole)
