-- How long OUT stays as it is.
use Rattle.std.proofs.Common.{◌≡◌, ◌≢◌, ℕ, ◌+◌, ◌-◌, ◌/◌, ◌%◌, ◌<◌, ◌≤◌, Bool, true, false, if◌then◌else◌, ◌&&◌}
use Rattle.std.proofs.Common.{◌||◌, refl, sym, ap, ◌∙◌, subst, arith, inl, inr, nat_lt, Option, None, Some}
use Rattle.std.specs.Prelude.{◌==◌}
use Rattle.std.proofs.lemmas.Bool.{cases_lt}
use Rattle.std.proofs.Math.Nat.{mod-eq_of_lt}
use Rattle.board_types.proofs.Iterate.{iterate_zero, iterate_add}
use Rattle.board_types.specs.LineLevel.{is_high, opposite}
use Rattle.board_types.specs.Timed.{TurnsFirst, IsUntilTurn}
use Rattle.board_types.specs.declared.line.Line.{Line}
use Rattle.board_types.specs.declared.line.Line.TheVariants.{Low, High}
use Rattle.pit8253.specs.declared.program.Mode.{Mode}
use Rattle.pit8253.specs.declared.program.Mode.TheVariants.{TerminalCount, OneShot, RateGenerator, SquareWave, SoftwareStrobe, HardwareStrobe}
use Rattle.pit8253.specs.Program.{modulus}
use Rattle.pit8253.specs.Counter.{CounterState, after_load, after_square_load, after_due_load, after_rest, after_tick, after_ticks, out_of}
use Rattle.pit8253.specs.PitLaws.{size, ticks_left, Runs, after_fall, after_strobe_fall, half_left}
use Rattle.pit8253.specs.Ahead.{is_counting, half_ticks, after_turn, until_end, until_pulse, until_half}
use Rattle.pit8253.specs.Ahead.{until_strobe, until_counting, until_rest, until_turn, a_tick_later, differ}
use Rattle.pit8253.proofs.Falls.{if_yes, if_no}
use Rattle.pit8253.proofs.Counts.{differs, same, below, not_below, modulus_large, lengths}
use Rattle.pit8253.proofs.Waves.{counts_period, square_load_of_one, a_count_of_1, mode_2, mode_3}
use Rattle.pit8253.proofs.Ahead.{Sound, one_or_other, runs_of, runs_terminal, runs_one_shot, runs_rate, runs_square}
use Rattle.pit8253.proofs.Ahead.{runs_software, runs_hardware, HalfEnds, half_ends, enabled, Enabled, a_tick_first}

-- OUT first turns after `turn` ticks, or never
abbrev pub Turns : CounterState → Option ℕ → Type 0
Turns c turn = IsUntilTurn after_ticks out_of c turn

-- the level of OUT after some ticks
abbrev pub Wave : CounterState → (ℕ → Line) → Type 0
Wave c level = (k : ℕ) → (after_ticks c k).out ≡ level k

-- OUT is what it was for some ticks, and then another level
turns_at : (c : CounterState) (n : ℕ) (now next : Line) → c.out ≡ now → next ≢ now → 1 ≤ n
    → ((k : ℕ) → k < n → (after_ticks c k).out ≡ now) → (after_ticks c n).out ≡ next → TurnsFirst after_ticks out_of c n
turns_at c n now next is other some before there = record {
  some = some;
  before = λ k soon. before k soon ∙ sym is;
  turns = λ same. other (sym there ∙ same ∙ is);
}

not_high : Low ≢ High
not_high same = cc

not_low : High ≢ Low
not_low same = cc

-- modes 0 and 1

end_turns : (c : CounterState) (out : Line) (len : ℕ) → c.out ≡ out → 0 < len → Wave c (λ k. if nat_lt k len then out else High)
    → Turns c (if is_high out then None else Some len)
end_turns c High len is some wave = λ k. wave k ∙ either (nat_lt k len) ∙ sym is
  where
    either : (b : Bool) → (if b then High else High) ≡ High
    either true = refl
    either false = refl
end_turns c Low len is some wave =
    turns_at c len Low High is not_low some
    (λ k soon. wave k ∙ if_yes (nat_lt k len) Low High (below k len soon))
    (wave len ∙ if_no (nat_lt len len) Low High (not_below len len (omega arith)))

end_first : (c : CounterState) → Sound c → ((n : ℕ) → after_ticks c n ≡ after_fall c n) → Turns c (until_end c)
end_first c sound form =
    end_turns c c.out (ticks_left c) refl (lengths c.count_radix c.count sound.count).some (λ k. ap (λ s. s.out) (form k))

-- modes 4 and 5

strobe_turns : (c : CounterState) (out : Line) (due : Bool) (len : ℕ)
    → c.out ≡ out → 0 < len → Wave c (λ k. if k == 0 then out else (if (k == len) && due then Low else High))
    → Turns c (if is_high out then (if due then Some len else None) else (if (len == 1) && due then Some 2 else Some 1))
strobe_turns c High true len is some wave =
    turns_at c len High Low is not_high some
    (λ k soon. wave k ∙ ap (λ b. if k == 0 then High else (if b && true then Low else High)) (differs k len (omega arith)) ∙ either (k == 0))
    (wave len ∙ if_no (len == 0) High (if (len == len) && true then Low else High) (differs len 0 (omega arith))
    ∙ ap (λ b. if b && true then Low else High) (same len len refl))
  where
    either : (b : Bool) → (if b then High else High) ≡ High
    either true = refl
    either false = refl
strobe_turns c High false len is some wave = λ k. wave k ∙ never (k == 0) (k == len) ∙ sym is
  where
    never : (a b : Bool) → (if a then High else (if b && false then Low else High)) ≡ High
    never true b = refl
    never false true = refl
    never false false = refl
strobe_turns c Low due len is some wave = by_last ((len == 1) && due) refl
  where
    before_one : (k : ℕ) → k < 1 → (after_ticks c k).out ≡ Low
    before_one k soon = wave k ∙ if_yes (k == 0) Low (if (k == len) && due then Low else High) (same k 0 (omega arith))

    tests_alike : ((1 == len) && due) ≡ ((len == 1) && due)
    tests_alike = elim (one_or_other len) [
      | inl one ↦ ap (λ b. b && due) (same 1 len (sym one) ∙ sym (same len 1 one))
      | inr other ↦ ap (λ b. b && due) (differs 1 len (λ e. other (sym e)) ∙ sym (differs len 1 other))
    ]

    one_left : ((len == 1) && due) ≡ true → len ≡ 1
    one_left both = elim (one_or_other len) [
      | inl one ↦ one
      | inr other ↦
          let no : (len == 1) ≡ false = differs len 1 other in
          let none : ((len == 1) && due) ≡ false = ap (λ b. b && due) no in
          cc
    ]

    at_one : (after_ticks c 1).out ≡ (if (len == 1) && due then Low else High)
    at_one = wave 1 ∙ if_no (1 == 0) Low (if (1 == len) && due then Low else High) (differs 1 0 (omega arith)) ∙ ap (λ b. if b then Low else High) tests_alike

    by_last : (b : Bool) → ((len == 1) && due) ≡ b → Turns c (if b then Some 2 else Some 1)
    by_last true last =
        turns_at c 2 Low High is not_low (omega arith)
        (λ k soon. elim (cases_lt k 1) [
          | inl first ↦ before_one k first
          | inr second ↦
              let one : k ≡ 1 = omega arith in
              ap (λ j. (after_ticks c j).out) one ∙ at_one ∙ ap (λ b. if b then Low else High) last
        ])
        (wave 2 ∙ if_no (2 == 0) Low (if (2 == len) && due then Low else High) (differs 2 0 (omega arith))
        ∙ ap (λ b. if b && due then Low else High) (differs 2 len (omega (arith, one_left last))))
    by_last false later =
        turns_at c 1 Low High is not_low (omega arith) before_one (at_one ∙ ap (λ b. if b then Low else High) later)

strobe_first : (c : CounterState) → Sound c → ((n : ℕ) → after_ticks c n ≡ after_strobe_fall c n) → Turns c (until_strobe c)
strobe_first c sound form =
    strobe_turns c c.out c.strobe_due (ticks_left c) refl (lengths c.count_radix c.count sound.count).some (λ k. ap (λ s. s.out) (form k))

-- if no tick counts

still_turns : (c : CounterState) → ((n : ℕ) → after_ticks c n ≡ c) → Turns c None
still_turns c still = λ k. ap (λ s. s.out) (still k)

rest_turns : (c : CounterState) (out : Line) → c.out ≡ out → ((n : ℕ) → after_ticks c n ≡ (if n == 0 then c else after_rest c))
    → Turns c (if is_high out then None else Some 1)
rest_turns c High is rests = λ k. ap (λ s. s.out) (rests k) ∙ level (k == 0) ∙ sym is
  where
    level : (b : Bool) → (if b then c else after_rest c).out ≡ High
    level true = is
    level false = refl
rest_turns c Low is rests =
    turns_at c 1 Low High is not_low (omega arith)
    (λ k soon. ap (λ s. s.out) (rests k ∙ if_yes (k == 0) c (after_rest c) (same k 0 (omega arith))) ∙ is)
    (ap (λ s. s.out) (rests 1 ∙ if_no (1 == 0) c (after_rest c) (differs 1 0 (omega arith))))

-- a newest count other than 1 lasts more than a tick
size_other : (c : CounterState) → Sound c → c.newest ≢ 1 → size c ≢ 1
size_other c sound other = elim (lengths c.radix c.newest sound.newest).is [
  | inl none ↦ omega (arith, none.1, modulus_large c.radix)
  | inr more ↦ omega (arith, more.1)
]

-- mode 2

pulse_first : (c : CounterState) → Sound c → Runs c → c.mode ≡ RateGenerator → c.gate ≡ High → Turns c (until_pulse c)
pulse_first c sound runs mode gate = by_out c.out refl
  where
    left : ℕ
    left = ticks_left c

    some : 0 < left
    some = (lengths c.count_radix c.count sound.count).some

    inside : (k : ℕ) → k < left → (after_ticks c k).out ≡ (if k == 0 then c.out else (if k + 1 == left then Low else c.out))
    inside k before = ap (λ s. s.out) ((counts_period c runs mode gate).0 k before)

    loaded : (k : ℕ) → (after_ticks c (left + k)).out ≡ (after_ticks (after_load c High) k).out
    loaded k =
        ap (λ s. s.out) (iterate_add after_tick left k c ∙ ap (λ s. after_ticks s k) (counts_period c runs mode gate).1)

    by_out : (out : Line) → c.out ≡ out
        → Turns c (if is_high out then (if left == 1 then (if size c == 1 then None else Some (size c)) else Some (left - 1)) else Some left)
    by_out Low is =
        turns_at c left Low High is not_low some
        (λ k before. inside k before ∙ ap (λ o. if k == 0 then o else (if k + 1 == left then Low else o)) is ∙ low (k == 0) (k + 1 == left))
        (ap (λ k. (after_ticks c k).out) (omega arith) ∙ loaded 0 ∙ ap (λ s. s.out) (iterate_zero after_tick (after_load c High)))
      where
        low : (a b : Bool) → (if a then Low else (if b then Low else Low)) ≡ Low
        low true b = refl
        low false true = refl
        low false false = refl
    by_out High is = elim (one_or_other left) [
      | inl one ↦ subst (λ b. Turns c (if b then (if size c == 1 then None else Some (size c)) else Some (left - 1))) (sym (same left 1 one)) (at_one is one)
      | inr other ↦ subst (λ b. Turns c (if b then (if size c == 1 then None else Some (size c)) else Some (left - 1)))
          (sym (differs left 1 other)) (before_pulse is other)
    ]
      where
        high : (a : Bool) → (if a then High else High) ≡ High
        high true = refl
        high false = refl

        before_pulse : c.out ≡ High → left ≢ 1 → Turns c (Some (left - 1))
        before_pulse is other =
            let positive : 0 < left = some in
            turns_at c (left - 1) High Low is not_high (omega arith)
            (λ k soon. inside k (omega arith) ∙ ap (λ b. if k == 0 then c.out else (if b then Low else c.out)) (differs (k + 1) left (omega arith))
            ∙ ap (λ o. if k == 0 then o else o) is ∙ high (k == 0))
            (inside (left - 1) (omega arith) ∙ if_no (left - 1 == 0) c.out (if left - 1 + 1 == left then Low else c.out) (differs (left - 1) 0 (omega arith))
            ∙ if_yes (left - 1 + 1 == left) Low c.out (same (left - 1 + 1) left (omega arith)))

        first : c.out ≡ High → left ≡ 1 → (k : ℕ) → k < 1 → (after_ticks c k).out ≡ High
        first is one k soon = ap (λ j. (after_ticks c j).out) (omega arith) ∙ ap (λ s. s.out) (iterate_zero after_tick c) ∙ is

        shifted : left ≡ 1 → (k : ℕ) → 1 ≤ k → (after_ticks c k).out ≡ (after_ticks (after_load c High) (k - 1)).out
        shifted one k more = ap (λ j. (after_ticks c j).out) (omega arith) ∙ loaded (k - 1)

        at_one : c.out ≡ High → left ≡ 1 → Turns c (if size c == 1 then None else Some (size c))
        at_one is one = elim (one_or_other c.newest) [
          | inl single ↦
              subst (λ b. Turns c (if b then None else Some (size c)))
              (sym (same (size c) 1 (if_no (c.newest == 0) (modulus c.radix) c.newest (differs c.newest 0 (omega arith)) ∙ single)))
              (λ k. elim (cases_lt k 1) [
                | inl soon_one ↦ first is one k soon_one ∙ sym is
                | inr more ↦ shifted one k more ∙ ap (λ s. s.out) (a_count_of_1 c (inl mode) single (k - 1)) ∙ sym is
              ])
          | inr other ↦
              let long : size c ≢ 1 = size_other c sound other in
              subst (λ b. Turns c (if b then None else Some (size c))) (sym (differs (size c) 1 long))
              (turns_at c (size c) High Low is not_high (lengths c.radix c.newest sound.newest).some
              (λ k soon. elim (cases_lt k 1) [
                | inl soon_one ↦ first is one k soon_one
                | inr more ↦
                    let small : (k - 1) % size c ≡ k - 1 = mod-eq_of_lt (omega arith) in
                    shifted one k more ∙ mode_2 c mode gate sound.newest other (k - 1)
                    ∙ if_no ((k - 1) % size c + 1 == size c) Low High (differs ((k - 1) % size c + 1) (size c) (omega arith))
              ])
              (let enough : 1 ≤ size c = (lengths c.radix c.newest sound.newest).some in
              let small : (size c - 1) % size c ≡ size c - 1 = mod-eq_of_lt (omega arith) in
              shifted one (size c) enough ∙ mode_2 c mode gate sound.newest other (size c - 1)
              ∙ if_yes ((size c - 1) % size c + 1 == size c) Low High (same ((size c - 1) % size c + 1) (size c) (omega arith))))
        ]

-- mode 3

turn_is : (c : CounterState) → after_turn c ≡ after_square_load c (if (c.count == 1) || (c.newest == 1) then High else opposite c.out)
unfolding after_turn
turn_is c = refl

or_true : (a b : Bool) → b ≡ true → (a || b) ≡ true
or_true true b holds = refl
or_true false b holds = holds

half_first : (c : CounterState) → Sound c → Runs c → c.mode ≡ SquareWave → c.gate ≡ High → Turns c (until_half c)
half_first c sound runs mode gate = by_out c.out refl
  where
    half : ℕ
    half = half_ticks c

    ends : HalfEnds c
    ends = half_ends c runs mode gate

    inside : (k : ℕ) → k < half → (after_ticks c k).out ≡ c.out
    inside k before = ap (λ s. s.out) (ends.within k before)

    turned : (after_ticks c half).out ≡ (if (c.count == 1) || (c.newest == 1) then High else opposite c.out)
    turned = ap (λ s. s.out) (ends.end ∙ turn_is c)

    by_out : (out : Line) → c.out ≡ out
        → Turns c (if is_high out && (c.newest == 1) then None else (if is_high out && (c.count == 1) then Some (1 + (size c + 1) / 2) else Some half))
    by_out Low is =
        turns_at c half Low High is not_low ends.some (λ k before. inside k before ∙ is)
        (turned ∙ ap (λ o. if (c.count == 1) || (c.newest == 1) then High else opposite o) is ∙ high ((c.count == 1) || (c.newest == 1)))
      where
        high : (a : Bool) → (if a then High else High) ≡ High
        high true = refl
        high false = refl
    by_out High is = elim (one_or_other c.newest) [
      | inl single ↦
          subst (λ b. Turns c (if b then None else (if c.count == 1 then Some (1 + (size c + 1) / 2) else Some half)))
          (sym (same c.newest 1 single)) (stays is single)
      | inr other ↦
          subst (λ b. Turns c (if b then None else (if c.count == 1 then Some (1 + (size c + 1) / 2) else Some half))) (sym (differs c.newest 1 other))
          (elim (one_or_other c.count) [
            | inl one ↦ subst (λ b. Turns c (if b then Some (1 + (size c + 1) / 2) else Some half)) (sym (same c.count 1 one)) (after_load_turns is other one)
            | inr more ↦ subst (λ b. Turns c (if b then Some (1 + (size c + 1) / 2) else Some half)) (sym (differs c.count 1 more)) (at_end is other more)
          ])
    ]
      where
        loaded : (out : Line) → after_turn c ≡ after_square_load c out → (k : ℕ) → half ≤ k
            → (after_ticks c k).out ≡ (after_ticks (after_square_load c out) (k - half)).out
        loaded out load k late =
            let parts : k ≡ half + (k - half) = omega arith in
            ap (λ s. s.out) (ap (λ j. after_ticks c j) parts ∙ iterate_add after_tick half (k - half) c ∙ ap (λ s. after_ticks s (k - half)) (ends.end ∙ load))

        stays : c.out ≡ High → c.newest ≡ 1 → Turns c None
        stays is single = λ k. elim (cases_lt k half) [
          | inl before ↦ inside k before
          | inr late ↦
              let load : after_turn c ≡ after_square_load c High =
              turn_is c
              ∙ ap (λ b. after_square_load c (if b then High else opposite c.out)) (or_true (c.count == 1) (c.newest == 1) (same c.newest 1 single)) in
              loaded High load k late ∙ ap (λ d. (after_ticks d (k - half)).out) (square_load_of_one c High single)
              ∙ ap (λ s. s.out) (a_count_of_1 c (inr mode) single (k - half)) ∙ sym is
        ]

        at_end : c.out ≡ High → c.newest ≢ 1 → c.count ≢ 1 → Turns c (Some half)
        at_end is other more =
            turns_at c half High Low is not_high ends.some (λ k before. inside k before ∙ is)
            (turned ∙ ap (λ b. if b || (c.newest == 1) then High else opposite c.out) (differs c.count 1 more)
            ∙ ap (λ b. if b then High else opposite c.out) (differs c.newest 1 other) ∙ ap opposite is)

        after_load_turns : c.out ≡ High → c.newest ≢ 1 → c.count ≡ 1 → Turns c (Some (1 + (size c + 1) / 2))
        after_load_turns is other one =
            let single : half ≡ 1 = if_yes (c.count == 1) 1 (half_left c) (same c.count 1 one) in
            let load : after_turn c ≡ after_square_load c High =
            turn_is c ∙ ap (λ b. after_square_load c (if b || (c.newest == 1) then High else opposite c.out)) (same c.count 1 one) in
            let some : 1 ≤ size c = (lengths c.radix c.newest sound.newest).some in
            let long : size c ≢ 1 = size_other c sound other in
            turns_at c (1 + (size c + 1) / 2) High Low is not_high (omega arith)
            (λ k soon. elim (cases_lt k half) [
              | inl before ↦ inside k before ∙ is
              | inr late ↦
                  let small : (k - half) % size c ≡ k - half = mod-eq_of_lt (omega arith) in
                  loaded High load k late ∙ mode_3 c mode gate sound.newest other (k - half)
                  ∙ if_yes (nat_lt ((k - half) % size c) ((size c + 1) / 2)) High Low (below ((k - half) % size c) ((size c + 1) / 2) (omega arith))
            ])
            (let late : half ≤ 1 + (size c + 1) / 2 = omega arith in
            let at : 1 + (size c + 1) / 2 - half ≡ (size c + 1) / 2 = omega arith in
            let small : (size c + 1) / 2 % size c ≡ (size c + 1) / 2 = mod-eq_of_lt (omega arith) in
            loaded High load (1 + (size c + 1) / 2) late ∙ ap (λ j. (after_ticks (after_square_load c High) j).out) at
            ∙ mode_3 c mode gate sound.newest other ((size c + 1) / 2)
            ∙ if_no (nat_lt ((size c + 1) / 2 % size c) ((size c + 1) / 2)) High Low (not_below ((size c + 1) / 2 % size c) ((size c + 1) / 2) (omega arith)))

-- all modes

turns_in : (c : CounterState) → Sound c → c.load_due ≡ false → (mode : Mode) → c.mode ≡ mode → (b : Bool) → is_counting c mode ≡ b
    → Turns c (if b then until_counting c mode else until_rest c mode)
turns_in c sound due TerminalCount is true counts = end_first c sound (λ n. runs_terminal c sound due is n true counts)
turns_in c sound due TerminalCount is false rests = still_turns c (λ n. runs_terminal c sound due is n false rests)
turns_in c sound due OneShot is true counts = end_first c sound (λ n. runs_one_shot c sound due is n true counts)
turns_in c sound due OneShot is false rests = still_turns c (λ n. runs_one_shot c sound due is n false rests)
turns_in c sound due RateGenerator is true counts =
    let tests : Enabled c.progress c.gate = enabled c.progress c.gate counts in
    pulse_first c sound (runs_of c sound due tests.loaded) is tests.gate
turns_in c sound due RateGenerator is false rests = still_turns c (λ n. runs_rate c sound due is n false rests)
turns_in c sound due SquareWave is true counts =
    let tests : Enabled c.progress c.gate = enabled c.progress c.gate counts in
    half_first c sound (runs_of c sound due tests.loaded) is tests.gate
turns_in c sound due SquareWave is false rests = still_turns c (λ n. runs_square c sound due is n false rests)
turns_in c sound due SoftwareStrobe is true counts = strobe_first c sound (λ n. runs_software c sound due is n true counts)
turns_in c sound due SoftwareStrobe is false rests = rest_turns c c.out refl (λ n. runs_software c sound due is n false rests)
turns_in c sound due HardwareStrobe is true counts = strobe_first c sound (λ n. runs_hardware c sound due is n true counts)
turns_in c sound due HardwareStrobe is false rests = rest_turns c c.out refl (λ n. runs_hardware c sound due is n false rests)

pub turns_first : (c : CounterState) → Sound c → c.load_due ≡ false → Turns c (until_turn c)
unfolding until_turn
turns_first c sound due = turns_in c sound due c.mode refl (is_counting c c.mode) refl

-- a load that is due

loads_then : (c : CounterState) (k : ℕ) → c.load_due ≡ true → (after_ticks c (1 + k)).out ≡ (after_ticks (after_due_load c c.mode) k).out
loads_then c k due = ap (λ s. s.out) (a_tick_first c k due)

apart : (a b : Line) → differ a b ≡ true → b ≢ a
apart Low High holds same = cc
apart High Low holds same = cc
apart Low Low holds same = cc
apart High High holds same = cc

alike : (a b : Line) → differ a b ≡ false → b ≡ a
alike Low Low holds = refl
alike High High holds = refl
alike Low High holds = cc
alike High Low holds = cc

pub turns_at_load : (c : CounterState) → c.load_due ≡ true → differ c.out (after_due_load c c.mode).out ≡ true → TurnsFirst after_ticks out_of c 1
turns_at_load c due apart_now =
    turns_at c 1 c.out (after_due_load c c.mode).out refl (apart c.out (after_due_load c c.mode).out apart_now) (omega arith)
    (λ k soon. ap (λ j. (after_ticks c j).out) (omega arith) ∙ ap (λ s. s.out) (iterate_zero after_tick c))
    (loads_then c 0 due ∙ ap (λ s. s.out) (iterate_zero after_tick (after_due_load c c.mode)))

pub turns_later : (c : CounterState) (turn : Option ℕ) → c.load_due ≡ true
    → differ c.out (after_due_load c c.mode).out ≡ false → Turns (after_due_load c c.mode) turn → Turns c (a_tick_later turn)
turns_later c None due same_now never = λ k. elim (cases_lt k 1) [
  | inl soon_one ↦ ap (λ j. (after_ticks c j).out) (omega arith) ∙ ap (λ s. s.out) (iterate_zero after_tick c)
  | inr more ↦
      let parts : k ≡ 1 + (k - 1) = omega arith in
      ap (λ j. (after_ticks c j).out) parts ∙ loads_then c (k - 1) due ∙ never (k - 1) ∙ alike c.out (after_due_load c c.mode).out same_now
]
turns_later c (Some n) due same_now first = record {
  some = omega arith;
  before = λ k soon. elim (cases_lt k 1) [
    | inl soon_one ↦ ap (λ j. (after_ticks c j).out) (omega arith) ∙ ap (λ s. s.out) (iterate_zero after_tick c)
    | inr more ↦
        let parts : k ≡ 1 + (k - 1) = omega arith in
        ap (λ j. (after_ticks c j).out) parts ∙ loads_then c (k - 1) due
        ∙ first.before (k - 1) (omega arith) ∙ alike c.out (after_due_load c c.mode).out same_now
  ];
  turns = λ same_then. first.turns (sym (loads_then c n due) ∙ same_then ∙ sym (alike c.out (after_due_load c c.mode).out same_now));
}
