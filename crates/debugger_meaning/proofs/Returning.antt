-- Where a session stands after it has gone back, and why it hasn't.
use Rattle.std.proofs.Common.{◌≡◌, ℕ, ◌+◌, ◌-◌, ◌≤◌, List, [], ◌∷◌, length, None, refl, ap, ◌∙◌, subst, arith}
use Rattle.std.specs.Prelude.{true, ◌==◌}
use Rattle.std.proofs.lemmas.Bool.Decides.{Decides-eqb}
use Rattle.board_plain.specs.declared.stop.Condition.{Condition}
use Rattle.board_plain.specs.Lasts.{HeldLast, NoneHeld}
use Rattle.board_plain.specs.Plain.{Plain, after_clocks, clock_of}
use Rattle.board_plain.specs.Stops.{holding}
use Rattle.debugger_meaning.specs.Back.{GoesBack, GoesBackTo}
use Rattle.debugger_meaning.specs.declared.answer.Answer.{Answer}
use Rattle.debugger_meaning.specs.declared.answer.Answer.TheVariants.{Clock}
use Rattle.debugger_meaning.specs.SessionInvariant.{StandsNow}
use Rattle.debugger_meaning.specs.Stands.{SessionState, StandsAt, gone}

pub goes_back : (n clock told : ℕ) (old new : SessionState) → 1 ≤ n → clock_of old.first.plain + n ≤ clock_of old.board.plain
    → clock ≡ clock_of old.board.plain - n → StandsNow clock old new → told ≡ clock_of new.board.plain → GoesBack n old new (Clock told)
goes_back n clock told old new some within is now tells =
    let place = now.clock_is in
    let at = now.stands.clock in
    let passed : now.passed ≡ clock_of old.board.plain - clock_of old.first.plain - n = omega (arith, is, place, within) in record {
      some = some;
      within = within;
      stands = subst (λ k. StandsAt k old.first new.board) passed now.stands;
      first = now.first;
      stops = now.stops;
      answer_is = ap Clock (omega (arith, tells, at, place, is));
    }

pub goes_back_to : (sought : List Condition) (tell : ℕ → ℕ → Answer) (clock number : ℕ) (old new : SessionState) (answer : Answer)
    → HeldLast sought (gone old) old.first.plain clock number → StandsNow clock old new → answer ≡ tell number clock → GoesBackTo sought tell old new answer
goes_back_to sought tell clock number old new answer last now tells =
    let place = now.clock_is in
    let at = now.stands.clock in
    let found = last.clock_is in
    let same : clock ≡ clock_of new.board.plain = omega (arith, place, at) in record {
      number = number;
      last = record {
        passed = last.passed;
        within = last.within;
        holds_there = last.holds_there;
        none_later = last.none_later;
        clock_is = omega (arith, place, at, found);
      };
      stands = subst (λ k. StandsAt k old.first new.board) (omega (arith, place, found)) now.stands;
      first = now.first;
      stops = now.stops;
      answer_is = tells ∙ ap (tell number) same;
    }

nothing_holds : (s : Plain) → holding [] s ≡ None
unfolding holding
nothing_holds s = refl

pub none_sought : (sought : List Condition) (n : ℕ) (s : Plain) → sought ≡ [] → NoneHeld sought n s
none_sought sought n s is = λ j within. ap (λ stops. holding stops (after_clocks s j)) is ∙ nothing_holds (after_clocks s j)

no_items : (sought : List Condition) → length sought ≡ 0 → sought ≡ []
no_items [] none = refl
no_items (one ∷ rest) none = absurd (omega (arith, none))

pub is_empty_list : (sought : List Condition) → (length sought == 0) ≡ true → sought ≡ []
is_empty_list sought is = no_items sought ((Decides-eqb (length sought) 0).0 is)
