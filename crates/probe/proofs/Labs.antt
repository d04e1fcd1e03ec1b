-- Changes of a board, and the sessions before them.
use Rattle.std.proofs.Common.{Option, None, Some, Result, Ok, Err}
use Rattle.std.proofs.Common.{◌≡◌, ℕ, ◌+◌, ◌-◌, ◌≤◌, Bool, true, false, List, [], ◌∷◌, ◌++◌, length, take, drop, refl, sym, ap, ◌∙◌, subst, arith}
use Rattle.std.proofs.lemmas.Bool.Decides.{nat_tests}
use Rattle.std.proofs.lemmas.List.{append_cancel_left, length-append}
use Rattle.std.specs.Prelude.{get_or, All}
use Rattle.std.proofs.lemmas.List.Elements.{All-append, All-cons, All-drop, All-nil, All-pop, All-same}
use Rattle.probe.specs.LabLaws.{ChangeBegins, LabsStand, LabStands, LabWalk, NoWayBackBefore, UndoGoesBack}
use Rattle.board_plain.proofs.LastEntries.{last_of_few}
use Rattle.board_plain.specs.Plain.{clock_of}
use Rattle.board_plain.specs.Trail.{last}
use Rattle.debugger_meaning.specs.declared.answer.Answer.{Answer}
use Rattle.debugger_meaning.specs.declared.answer.Answer.TheVariants.{Clock}
use Rattle.debugger_meaning.specs.declared.fault.DebugFault.{DebugFault}
use Rattle.debugger_meaning.specs.declared.fault.DebugFault.TheVariants.{BadScan, StampsFall, ClockLimit, BadCommand, TooManyStops, Memory, BeforeStart, NoCell}
use Rattle.debugger_meaning.specs.Stands.{SessionState, Shown, shown_of, Stands, StandsAfter}
use Rattle.debugger_meaning.proofs.Standing.{few_of, stands_none}
use Rattle.probe_texts.specs.declared.wishes.Edit.{Edit}
use Rattle.probe_texts.specs.declared.wishes.Wish.{Wish}
use Rattle.probe_texts.specs.declared.wishes.Wish.TheVariants.{Set, Undo}
use Rattle.probe_texts.specs.Requests.{request_of}
use Rattle.probe_texts.specs.Wishes.{wish_of}
use Rattle.probe.proofs.Walking.{answered}
use Rattle.probe.specs.Lab.{AnswersUnlessWished, AnswersWish, belongs, earlier_with, lab_about, LabState}
use Rattle.probe.specs.Lab.{left_by, RefusesSet, Sets, shown_edited, takes_edit, Undoes}
use Rattle.probe.specs.Probe.{ProbeState}

-- of seventeen the oldest goes
pub less_one : {A : Type 0} (xs ys : List A) → length xs ≡ 17 → ys ≡ take 0 xs ++ drop (0 + 1) xs → ys ≡ last 16 xs
unfolding last
less_one xs ys long is = let one : length xs - 16 ≡ 1 = omega (arith, long) in rw one is

pub one_more : {A : Type 0} (xs : List A) (x : A) → length (xs ++ x ∷ []) ≡ length xs + 1
one_more xs x = length-append xs (x ∷ [])

-- a change that belongs to the last one is made at the first clock
pub starts : (s : LabState) → belongs s ≡ true → clock_of s.now.board.plain ≡ clock_of s.now.first.plain
unfolding belongs
starts s is = grind (arith, nat_tests, is)

-- a session that is put in place of another
pub sets : (edit : Edit) (old new : LabState) (session : SessionState) (clock : ℕ)
    → takes_edit edit old.now.board.plain ≡ true
    → session.first ≡ shown_edited edit (shown_of old.now.board)
    → shown_of session.board ≡ session.first
    → new.now ≡ record old.now { first = session.first; board = session.board }
    → new.earlier ≡ earlier_with (belongs old) old
    → clock ≡ clock_of old.now.board.plain
    → Sets edit old new (Clock clock)
sets edit old new session clock taken first board now earlier at = record {
  taken = taken;
  first = ap (λ (p : ProbeState). p.first) now ∙ first;
  board = ap (λ (p : ProbeState). shown_of p.board) now ∙ board ∙ ap (λ (p : ProbeState). p.first) (sym now);
  stops = ap (λ (p : ProbeState). p.stops) now;
  earlier = earlier;
  answer_is = ap Clock at;
}

-- laws

take_front : {A : Type 0} (xs ys : List A) → take (length xs) (xs ++ ys) ≡ xs
take_front [] ys = refl
take_front (x ∷ xs) ys = ap (λ l. x ∷ l) (take_front xs ys)

snoc_front : {A : Type 0} (xs ys : List A) (x y : A) → xs ++ x ∷ [] ≡ ys ++ y ∷ [] → xs ≡ ys
snoc_front xs ys x y same =
    let long : length xs ≡ length ys =
    (let first = one_more xs x in let second = one_more ys y in let both = ap (λ l. length l) same in omega (arith, first, second, both)) in
    sym (take_front xs (x ∷ [])) ∙ ap (take (length xs)) same ∙ ap (λ n. take n (ys ++ y ∷ [])) long ∙ take_front ys (y ∷ [])

snoc_last : {A : Type 0} (xs ys : List A) (x y : A) → xs ++ x ∷ [] ≡ ys ++ y ∷ [] → x ≡ y
snoc_last xs ys x y same =
    let front = snoc_front xs ys x y same in
    let rest : x ∷ [] ≡ y ∷ [] = append_cancel_left xs (x ∷ []) (y ∷ []) (same ∙ ap (λ l. l ++ y ∷ []) (sym front)) in
    ap (λ l. get_or l 0 x) rest

pub undo_goes_back : UndoGoesBack
undo_goes_back edit s t u first second other few set undone =
    let kept : t.earlier ≡ s.earlier ++ left_by s.now ∷ [] =
    set.earlier ∙ ap (λ b. earlier_with b s) other
    ∙ last_of_few 16 (s.earlier ++ left_by s.now ∷ []) (let more = one_more s.earlier (left_by s.now) in omega (arith, more, few)) in
    let same : u.earlier ++ undone.before ∷ [] ≡ s.earlier ++ left_by s.now ∷ [] = sym undone.earlier ∙ kept in
    let before : undone.before ≡ left_by s.now = snoc_last u.earlier s.earlier undone.before (left_by s.now) same in
    let now : u.now ≡ s.now =
    undone.now ∙ ap (λ (b : SessionState). record t.now { first = b.first; board = b.board }) before
    ∙ ap (λ stops. record { first = s.now.first; board = s.now.board; stops = stops }) set.stops in
    ap (λ p. record { now = p; earlier = u.earlier }) now
    ∙ ap (λ earlier. record { now = s.now; earlier = earlier }) (snoc_front u.earlier s.earlier undone.before (left_by s.now) same)

pub change_begins : ChangeBegins
change_begins edit s t answer set =
    ap (λ first. record { first = first; board = t.now.board; stops = t.now.stops }) (sym set.board)
    ∙ ap (λ stops. record { first = shown_of t.now.board; board = t.now.board; stops = stops }) set.stops

pub no_way_back_before : NoWayBackBefore
no_way_back_before edit s t answer n next told set back =
    let same : clock_of t.now.board.plain ≡ clock_of t.now.first.plain = ap (λ (b : Shown). clock_of b.plain) set.board in
    let within = back.within in let some = back.some in omega (arith, same, within, some)

-- all boards stand some clocks after their first ones

kept_stand : (b : Bool) (s : LabState) → LabStands s → All Stands (earlier_with b s)
unfolding last
kept_stand true s at = at.1
kept_stand false s at =
    All-drop Stands (length (s.earlier ++ left_by s.now ∷ []) - 16) (s.earlier ++ left_by s.now ∷ [])
    (All-append Stands s.earlier (left_by s.now ∷ []) at.1 (All-cons Stands (left_by s.now) [] at.0 (All-nil Stands)))

set_stands : (edit : Edit) (s t : LabState) (answer : Answer) → LabStands s → Sets edit s t answer → LabStands t
set_stands edit s t answer at is =
    let trail : t.now.board.trail ≡ s.now.board.trail = ap (λ (b : Shown). b.trail) (is.board ∙ is.first) in (
      stands_none t.now.first t.now.board is.board (subst (λ xs. length xs ≤ 32) (sym trail) (few_of s.now.first s.now.board at.0)),
      All-same Stands t.earlier (earlier_with (belongs s) s) is.earlier (kept_stand (belongs s) s at),
    )

same_lab : (s t : LabState) → LabStands s → t ≡ s → LabStands t
same_lab s t at same = subst LabStands (sym same) at

refused_stands : (edit : Edit) (s t : LabState) (fault : DebugFault) → LabStands s → RefusesSet edit s t fault → LabStands t
refused_stands edit s t ClockLimit at is = absurd is
refused_stands edit s t BadScan at is = absurd is
refused_stands edit s t StampsFall at is = absurd is
refused_stands edit s t BadCommand at is = absurd is
refused_stands edit s t TooManyStops at is = absurd is
refused_stands edit s t (Memory None) at is = same_lab s t at is.2
refused_stands edit s t (Memory (Some clock)) at is = absurd is
refused_stands edit s t BeforeStart at is = absurd is
refused_stands edit s t NoCell at is = same_lab s t at is.1

undone_stands : (s t : LabState) (answer : Answer) → LabStands s → Undoes s t answer → LabStands t
undone_stands s t answer at is =
    let both = All-pop Stands s.earlier t.earlier (Some is.before) is.earlier at.1 in
    (subst (λ (p : ProbeState). StandsAfter p.first p.board) (sym is.now) both.1, both.0)

by_wish : (wish : Wish) (s t : LabState) (result : Result Answer DebugFault) → LabStands s → AnswersWish wish s result t → LabStands t
by_wish (Set edit) s t (Ok answer) at is = set_stands edit s t answer at is
by_wish (Set edit) s t (Err fault) at is = refused_stands edit s t fault at is
by_wish Undo s t (Ok answer) at is = undone_stands s t answer at is
by_wish Undo s t (Err fault) at is = same_lab s t at is.kept

unless_wished : (wish : Option Wish) (line : List ℕ) (s t : LabState) (result : Result Answer DebugFault)
    → LabStands s → AnswersUnlessWished wish line s result t → LabStands t
unless_wished (Some wish) line s t result at is = by_wish wish s t result at is
unless_wished None line s t result at is = (
  (answered s.now.first (request_of line) s.now t.now result (refl, at.0) is.0).1,
  All-same Stands t.earlier s.earlier is.1 at.1,
)

walked : (lines : List (List ℕ)) (s t : LabState) → LabStands s → LabWalk lines s t → LabStands t
walked [] s t at walk = same_lab s t at walk
walked (line ∷ lines) s t at walk = walked lines walk.next t (unless_wished (wish_of line) line s walk.next walk.result at walk.answers) walk.after

pub labs_stand : LabsStand
labs_stand lines board new few walk =
    walked lines (lab_about board) new (stands_none (shown_of board) board refl few, All-nil Stands) walk
