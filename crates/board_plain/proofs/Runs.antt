-- Runs of a board: one of no clocks, and two that are one.
use Rattle.std.proofs.Common.{◌≤◌, ◌++◌, length, sym, ap, ◌∙◌, arith, append_assoc, append-nil}
use Rattle.board_types.proofs.Iterate.{iterate_zero, iterate_add, gathered_zero, gathered_add}
use Rattle.board_plain.specs.Board.{BoardState, Ran}
use Rattle.board_plain.specs.BoardLaws.{RunsJoin}
use Rattle.board_plain.specs.Plain.{after_clock, after_clocks, change_next, changes_in}
use Rattle.board_plain.specs.Trail.{last, trail_in, trail_next}
use Rattle.board_plain.proofs.LastEntries.{last_again, nothing_added}

pub ran_none : (s : BoardState) → length s.trail ≤ 32 → Ran 0 s s
ran_none s few = record {
  plain = sym (iterate_zero after_clock s.plain);
  clock = omega arith;
  changes = sym (append-nil s.changes) ∙ ap (λ xs. s.changes ++ xs) (sym (gathered_zero after_clock change_next s.plain));
  trail =
      nothing_added 32 s.trail few ∙ ap (λ xs. last 32 (s.trail ++ xs)) (sym (gathered_zero after_clock trail_next s.plain));
  room = omega arith;
}

-- two runs, one after the other, are one
pub runs_join : RunsJoin
runs_join a b s t u first second = record {
  plain = second.plain ∙ ap (λ p. after_clocks p b) first.plain ∙ sym (iterate_add after_clock a b s.plain);
  clock = let c = first.clock in let d = second.clock in omega arith;
  changes =
      second.changes
      ∙ ap (λ xs. xs ++ changes_in t.plain b) first.changes
      ∙ append_assoc s.changes (changes_in s.plain a) (changes_in t.plain b)
      ∙ ap (λ p. s.changes ++ (changes_in s.plain a ++ changes_in p b)) first.plain
      ∙ ap (λ xs. s.changes ++ xs) (sym (gathered_add after_clock change_next a b s.plain));
  trail =
      second.trail
      ∙ ap (λ xs. last 32 (xs ++ trail_in t.plain b)) first.trail
      ∙ last_again 32 (s.trail ++ trail_in s.plain a) (trail_in t.plain b)
      ∙ ap (last 32) (
      append_assoc s.trail (trail_in s.plain a) (trail_in t.plain b)
      ∙ ap (λ p. s.trail ++ (trail_in s.plain a ++ trail_in p b)) first.plain
      ∙ ap (λ xs. s.trail ++ xs) (sym (gathered_add after_clock trail_next a b s.plain)));
  room = let c = first.room in let d = second.room in omega arith;
}
