-- The boards that are kept after one more was kept, or one was dropped.
use Rattle.std.proofs.Common.{◌≡◌, ℕ, ◌+◌, inl, inr, Bool, true, false, if◌then◌else◌, List, ◌∷◌, ◌++◌, take, drop, sym, subst}
use Rattle.std.specs.Prelude.{◌⊎◌, Contains, insert}
use Rattle.std.proofs.lemmas.List.Elements.{All-append, All-cons, All-contains_itself, All-drop, All-same, All-take, All-weaker}
use Rattle.board_plain.specs.Board.{BoardState}
use Rattle.debugger_meaning.specs.SessionInvariant.{AreKept}
use Rattle.debugger_meaning.specs.Stands.{shown_of}

abbrev IsKept : List BoardState → BoardState → BoardState → Type 0
IsKept old board kept = Contains old kept ⊎ (shown_of kept ≡ shown_of board)

old_kept : (old : List BoardState) (board : BoardState) → AreKept old board old
old_kept old board = All-weaker (Contains old) (IsKept old board) (λ kept there. inl there) old (All-contains_itself old)

one_more : (old : List BoardState) (board copy : BoardState) (place : ℕ) → shown_of copy ≡ shown_of board → AreKept old board (insert old place copy)
one_more old board copy place same =
    All-append (IsKept old board) (take place old) (copy ∷ drop place old) (All-take (IsKept old board) place old (old_kept old board))
    (All-cons (IsKept old board) copy (drop place old) (inr same) (All-drop (IsKept old board) place old (old_kept old board)))

kept_by : (ok : Bool) (old : List BoardState) (board copy : BoardState) (place : ℕ) → shown_of copy ≡ shown_of board
    → AreKept old board (if ok then insert old place copy else old)
kept_by true old board copy place same = one_more old board copy place same
kept_by false old board copy place same = old_kept old board

pub kept_more : (ok : Bool) (old mid new : List BoardState) (board copy : BoardState) (place : ℕ)
    → mid ≡ old → shown_of copy ≡ shown_of board → new ≡ (if ok then insert mid place copy else mid) → AreKept old board new
kept_more ok old mid new board copy place is same made =
    All-same (IsKept old board) new (if ok then insert mid place copy else mid) made
    (subst (λ (xs : List BoardState). AreKept old board (if ok then insert xs place copy else xs)) (sym is) (kept_by ok old board copy place same))

pub kept_less : (old mid new : List BoardState) (board : BoardState) (place : ℕ)
    → new ≡ take place mid ++ drop (place + 1) mid → AreKept old board mid → AreKept old board new
kept_less old mid new board place made are =
    All-same (IsKept old board) new (take place mid ++ drop (place + 1) mid) made
    (All-append (IsKept old board) (take place mid) (drop (place + 1) mid)
    (All-take (IsKept old board) place mid are) (All-drop (IsKept old board) (place + 1) mid are))
