-- Each moment is in one range, and there is one list of ranges.
use Rattle.std.proofs.Common.{◌≡◌, ℕ, ◌+◌, ◌<◌, ◌≤◌, Bool, true, false, cond, inl}
use Rattle.std.proofs.Common.{inr, List, [], ◌∷◌, Option, None, Some, refl, sym, ap, ◌∙◌, subst, arith}
use Rattle.std.specs.Prelude.{count_by, IfSome}
use Rattle.std.specs.Option.{option_map}
use Rattle.std.proofs.lemmas.Bool.{cases_lt}
use Rattle.std.proofs.lemmas.Bool.Decides.{nat_tests}
use Rattle.std.proofs.lemmas.List.Sums.{sum_by-cons}
use Rattle.board_plain.specs.declared.stop.Stop.{Stop as End}
use Rattle.board_plain.specs.Plain.{Plain}
use Rattle.probe_texts.specs.declared.moments_text.Ends.{Ends}
use Rattle.probe_texts.specs.declared.moments_text.Moments.{Moments}
use Rattle.probe_texts.specs.declared.moments_text.Trial.{Trial}
use Rattle.probe_texts.specs.declared.stops.Stop.{Stop}
use Rattle.probe.specs.Moments.{AreAlike, AreRanges, IsAmong, IsReached, stop_number, with_tried}
use Rattle.probe.specs.MomentLaws.{EachMomentOnce, OneListOfRanges, PastTheEndAlike, stands_in}
use Rattle.probe.proofs.Ending.{one_end, past_tried, past_tried_back}

-- a clock is in one range

stands : (stamp : ℕ) (m : Moments) → m.first ≤ stamp → stamp ≤ m.last → stands_in stamp m ≡ true
stands stamp m from to = grind (arith, nat_tests, from, to)

past : (stamp : ℕ) (m : Moments) → m.last < stamp → stands_in stamp m ≡ false
past stamp m over = grind (arith, nat_tests, over)

early : (stamp : ℕ) (m : Moments) → stamp < m.first → stands_in stamp m ≡ false
early stamp m before = grind (arith, nat_tests, before)

abbrev counted : Bool → ℕ → ℕ
counted is rest = cond is 1 0 + rest

not_counted : (n : ℕ) → counted false n ≡ n
not_counted n = omega arith

count_one : (stamp : ℕ) (m : Moments) (ms : List Moments) → count_by (stands_in stamp) (m ∷ ms) ≡ counted (stands_in stamp m) (count_by (stands_in stamp) ms)
count_one stamp m ms = sum_by-cons (λ (m : Moments). cond (stands_in stamp m) 1 0) m ms

none_before : (stops : List Stop) (s : Plain) (trial : Trial) (first last : ℕ) (ranges : List Moments) (stamp : ℕ)
    → AreRanges stops s trial first last ranges → stamp < first → count_by (stands_in stamp) ranges ≡ 0
none_before stops s trial first last [] stamp are before = refl
none_before stops s trial first last (m ∷ ms) stamp are before =
    let begins = are.0 in
    let rising = are.1.1.0.rising in
    count_one stamp m ms
    ∙ ap (λ (is : Bool). counted is (count_by (stands_in stamp) ms)) (early stamp m (omega (arith, begins, before)))
    ∙ not_counted (count_by (stands_in stamp) ms)
    ∙ none_before stops s trial (m.last + 1) last ms stamp are.1.1.1.1 (omega (arith, begins, before, rising))

pub once : EachMomentOnce
once stops s trial first last [] are stamp from to = absurd (omega (arith, are, from, to))
once stops s trial first last (m ∷ ms) are stamp from to =
    let begins = are.0 in
    elim (cases_lt m.last stamp) [
      | inl later ↦
          count_one stamp m ms
          ∙ ap (λ (is : Bool). counted is (count_by (stands_in stamp) ms)) (past stamp m later)
          ∙ not_counted (count_by (stands_in stamp) ms)
          ∙ once stops s trial (m.last + 1) last ms are.1.1.1.1 stamp (omega (arith, later)) to
      | inr sooner ↦
          count_one stamp m ms
          ∙ ap (λ (is : Bool). counted is (count_by (stands_in stamp) ms)) (stands stamp m (omega (arith, begins, from)) sooner)
          ∙ ap (λ n. 1 + n) (none_before stops s trial (m.last + 1) last ms stamp are.1.1.1.1 (omega (arith, sooner)))
    ]

-- there is one list

among_number : (ends : Option Ends) (end : Option End) → IsAmong ends end → option_map (λ (e : Ends). e.number) ends ≡ option_map (λ (e : End). e.number) end
among_number None None is = refl
among_number None (Some end) is = absurd is
among_number (Some ends) None is = absurd is
among_number (Some ends) (Some end) is = ap Some (sym is.0)

-- ranges that share a clock have one stop
same_number : (stops : List Stop) (s : Plain) (trial : Trial) (m n : Moments) (stamp : ℕ)
    → AreAlike stops s trial m → AreAlike stops s trial n → m.first ≤ stamp → stamp ≤ m.last → n.first ≤ stamp → stamp ≤ n.last → stop_number m ≡ stop_number n
same_number stops s trial m n stamp first second mf ml nf nl =
    let one = first.each stamp mf ml in
    let other = second.each stamp nf nl in
    among_number m.ends one.0 one.1.1
    ∙ ap (option_map (λ (e : End). e.number)) (one_end stops trial.count (with_tried s trial stamp) one.0 other.0 one.1.0 other.1.0)
    ∙ sym (among_number n.ends other.0 other.1.1)

-- of two ranges that begin at one clock, neither goes on after the other
not_longer : (stops : List Stop) (s : Plain) (trial : Trial) (first last : ℕ) (m n : Moments) (ms ns : List Moments)
    → AreRanges stops s trial first last (m ∷ ms) → AreRanges stops s trial first last (n ∷ ns) → m.last < n.last → ⊥
not_longer stops s trial first last m n [] ns are others less = let end = are.1.1.1.1 in let within = others.1.0 in absurd (omega (arith, end, within, less))
not_longer stops s trial first last m n (o ∷ ms) ns are others less =
    let rest = are.1.1.1.1 in
    let m_first = are.0 in
    let n_first = others.0 in
    let o_first = rest.0 in
    let m_rising = are.1.1.0.rising in
    let n_rising = others.1.1.0.rising in
    let o_rising = rest.1.1.0.rising in
    are.1.1.1.0 (
    same_number stops s trial o n (m.last + 1) rest.1.1.0 others.1.1.0 (omega (arith, o_first))
    (omega (arith, o_first, o_rising)) (omega (arith, n_first, m_first, m_rising)) (omega (arith, less))
    ∙ sym (same_number stops s trial m n first are.1.1.0 others.1.1.0 (omega (arith, m_first))
    (omega (arith, m_first, m_rising)) (omega (arith, n_first)) (omega (arith, n_first, n_rising)))
    )

-- a clock in one range is between the first and last clock of the other

reached_within : (stops : List Stop) (s : Plain) (trial : Trial) (m n : Moments) (number clock : ℕ) (f : Ends) → m.first ≡ n.first
    → m.last ≡ n.last → n.ends ≡ Some f → AreAlike stops s trial n → IsReached stops s trial m number clock → (f.least ≤ clock) × (clock ≤ f.greatest)
reached_within stops s trial m n number clock f first last is alike reached =
    let from = reached.from in
    let to = reached.to in
    let one = alike.each reached.stamp (omega (arith, first, from)) (omega (arith, last, to)) in
    let same =
    one_end stops trial.count (with_tried s trial reached.stamp) one.0 (Some (record { number = number; clock = clock })) one.1.0 reached.ends in
    let among : IsAmong (Some f) (Some (record { number = number; clock = clock })) =
    subst (IsAmong (Some f)) same (subst (λ (o : Option Ends). IsAmong o one.0) is one.1.1) in
    among.1

same_ends_parts : (e f : Ends) → e.number ≡ f.number → e.least ≡ f.least → e.greatest ≡ f.greatest → e ≡ f
same_ends_parts e f number least greatest = λ i. record { number = number i; least = least i; greatest = greatest i }

same_ends : (stops : List Stop) (s : Plain) (trial : Trial) (m n : Moments) (e f : Option Ends)
    → m.ends ≡ e → n.ends ≡ f → m.first ≡ n.first → m.last ≡ n.last → AreAlike stops s trial m
    → AreAlike stops s trial n → option_map (λ (e : Ends). e.number) e ≡ option_map (λ (e : Ends). e.number) f → e ≡ f
same_ends stops s trial m n None None is is' first last alike other number = refl
same_ends stops s trial m n None (Some f) is is' first last alike other number = absurd (cc)
same_ends stops s trial m n (Some e) None is is' first last alike other number = absurd (cc)
same_ends stops s trial m n (Some e) (Some f) is is' first last alike other number =
    let there : e.number ≡ f.number = cc in
    let e_least : IsReached stops s trial m e.number e.least =
    subst (λ (o : Option Ends). IfSome o (λ (x : Ends). IsReached stops s trial m x.number x.least)) is alike.least in
    let e_greatest : IsReached stops s trial m e.number e.greatest =
    subst (λ (o : Option Ends). IfSome o (λ (x : Ends). IsReached stops s trial m x.number x.greatest)) is alike.greatest in
    let f_least : IsReached stops s trial n f.number f.least =
    subst (λ (o : Option Ends). IfSome o (λ (x : Ends). IsReached stops s trial n x.number x.least)) is' other.least in
    let f_greatest : IsReached stops s trial n f.number f.greatest =
    subst (λ (o : Option Ends). IfSome o (λ (x : Ends). IsReached stops s trial n x.number x.greatest)) is' other.greatest in
    let a = (reached_within stops s trial m n e.number e.least f first last is' other e_least).0 in
    let b = (reached_within stops s trial n m f.number f.least e (sym first) (sym last) is alike f_least).0 in
    let c = (reached_within stops s trial m n e.number e.greatest f first last is' other e_greatest).1 in
    let d = (reached_within stops s trial n m f.number f.greatest e (sym first) (sym last) is alike f_greatest).1 in
    ap Some (same_ends_parts e f there (omega (arith, a, b)) (omega (arith, c, d)))

same_moments : (m n : Moments) → m.first ≡ n.first → m.last ≡ n.last → m.ends ≡ n.ends → m ≡ n
same_moments m n first last ends = λ i. record { first = first i; last = last i; ends = ends i }

pub one_list : OneListOfRanges
one_list stops s trial first last [] [] are others = refl
one_list stops s trial first last [] (n ∷ ns) are others =
    let begins = others.0 in let within = others.1.0 in let rising = others.1.1.0.rising in absurd (omega (arith, are, begins, within, rising))
one_list stops s trial first last (m ∷ ms) [] are others =
    let begins = are.0 in let within = are.1.0 in let rising = are.1.1.0.rising in absurd (omega (arith, others, begins, within, rising))
one_list stops s trial first last (m ∷ ms) (n ∷ ns) are others =
    let shorter = not_longer stops s trial first last m n ms ns are others in
    let longer = not_longer stops s trial first last n m ns ms others are in
    let ends_there : n.last ≡ m.last = omega (arith, shorter, longer) in
    let begins_there : n.first ≡ m.first = others.0 ∙ sym are.0 in
    let n_first = others.0 in
    let n_rising = others.1.1.0.rising in
    let m_first = are.0 in
    let m_rising = are.1.1.0.rising in
    let number = same_number stops s trial n m first others.1.1.0 are.1.1.0 (omega (arith, n_first))
    (omega (arith, n_first, n_rising)) (omega (arith, m_first)) (omega (arith, m_first, m_rising)) in
    let ends = same_ends stops s trial n m n.ends m.ends refl refl begins_there ends_there others.1.1.0 are.1.1.0 number in
    let rest = one_list stops s trial (m.last + 1) last ms ns are.1.1.1.1 (subst (λ k. AreRanges stops s trial (k + 1) last ns) ends_there others.1.1.1.1) in
    λ i. same_moments n m begins_there ends_there ends i ∷ rest i

pub past_alike : PastTheEndAlike
past_alike stops s trial stamp end past = (
  past_tried_back stops trial.count s trial stamp end past,
  past_tried stops trial.count s trial stamp end past,
)
