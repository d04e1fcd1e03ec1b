-- A session whose board stands at its first clock, and changes there.
use Rattle.std.proofs.Common.{◌≡◌, ◌≤◌, List, [], ◌++◌, append-nil, length, sym, ap, ◌∙◌, subst, arith}
use Rattle.std.specs.Prelude.{All}
use Rattle.std.proofs.lemmas.List.Elements.{All-nil}
use Rattle.board_types.proofs.Iterate.{gathered_zero, iterate_zero}
use Rattle.board_plain.specs.declared.change.Change.{Change}
use Rattle.board_plain.specs.declared.stop.Condition.{Condition}
use Rattle.board_plain.specs.Board.{BoardState}
use Rattle.board_plain.specs.Changes.{changed}
use Rattle.board_plain.specs.Plain.{after_clock, change_next, clock_of}
use Rattle.board_plain.specs.Trail.{last, trail_next}
use Rattle.board_plain.proofs.LastEntries.{nothing_added}
use Rattle.debugger_meaning.specs.SessionInvariant.{IsSession}
use Rattle.debugger_meaning.specs.Stands.{Shown, shown_of, StandsAfter, StandsAt}
use Rattle.debugger_meaning.proofs.Standing.{stands_none}

abbrev changed_board : Change → BoardState → BoardState
changed_board change board = record board { plain = changed change board.plain }

not_gone : (first : Shown) (board : BoardState) → StandsAt 0 first board → length first.trail ≤ 32 → shown_of board ≡ first
not_gone first board at few =
    let plain : board.plain ≡ first.plain = at.plain ∙ iterate_zero after_clock first.plain in
    let changes : board.changes ≡ first.changes =
    at.changes ∙ ap (λ xs. first.changes ++ xs) (gathered_zero after_clock change_next first.plain) ∙ append-nil first.changes in
    let trail : board.trail ≡ first.trail =
    at.trail ∙ ap (λ xs. last 32 (first.trail ++ xs)) (gathered_zero after_clock trail_next first.plain) ∙ sym (nothing_added 32 first.trail few) in
    ap (λ p. record { plain = p; changes = board.changes; trail = board.trail }) plain
    ∙ ap (λ xs. record { plain = first.plain; changes = xs; trail = board.trail }) changes
    ∙ ap (λ xs. record { plain = first.plain; changes = first.changes; trail = xs }) trail

-- a board at the clock of the first one shows what that shows
pub at_start : (first : Shown) (board : BoardState) → StandsAfter first board → clock_of board.plain ≡ clock_of first.plain
    → length first.trail ≤ 32 → shown_of board ≡ first
at_start first board at same few =
    let clock = at.1.clock in
    let none : at.0 ≡ 0 = omega (arith, clock, same) in
    not_gone first board (subst (λ n. StandsAt n first board) none at.1) few

-- so they show the same once both are changed
pub both_changed : (change : Change) (first board next after : BoardState) → StandsAfter (shown_of first) board
    → clock_of board.plain ≡ clock_of first.plain → length first.trail ≤ 32
    → next ≡ changed_board change first → after ≡ changed_board change board → shown_of next ≡ shown_of after
both_changed change first board next after at same few is_next is_after =
    ap shown_of is_next
    ∙ ap (λ (s : Shown). record s { plain = changed change s.plain }) (sym (at_start (shown_of first) board at same few))
    ∙ ap shown_of (sym is_after)

pub session_changed : (change : Change) (first board next after : BoardState) (kept copies : List BoardState) (stops : List Condition)
    → IsSession first board kept stops → clock_of board.plain ≡ clock_of first.plain
    → length first.trail ≤ 32 → length board.trail ≤ 32
    → next ≡ changed_board change first → after ≡ changed_board change board → copies ≡ [] → IsSession next after copies stops
session_changed change first board next after kept copies stops is same few_first few is_next is_after none = record {
  addresses = is.addresses;
  stands =
      stands_none (shown_of next) after (sym (both_changed change first board next after is.stands same few_first is_next is_after))
      (subst (λ (b : BoardState). length b.trail ≤ 32) (sym is_after) few);
  copies = subst (λ xs. All (StandsAfter (shown_of next)) xs) (sym none) (All-nil (StandsAfter (shown_of next)));
}
