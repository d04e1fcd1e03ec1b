-- An act, and the leap over the other clocks of its step; first an act that leaves the speaker's level.
use Rattle.std.proofs.Common.{◌≡◌, ℕ, ◌+◌, ◌-◌, ◌<◌, ◌≤◌, inl, inr, ◌++◌, length, refl, sym, ap, ◌∙◌, subst, arith}
use Rattle.std.specs.Prelude.{◌⊎◌}
use Rattle.cached_chips.proofs.Quiet.{level_stays}
use Rattle.board_types.specs.LineLevel.{from_bool}
use Rattle.execute_meaning.specs.Meaning.{StepResult}
use Rattle.wiring.specs.Chips.{ChipsState}
use Rattle.board_plain.specs.declared.act.Act.{Act}
use Rattle.board_plain.specs.Board.{BoardState}
use Rattle.board.specs.UnseenClocks.{PassesOver}
use Rattle.board.specs.UneventfulClocks.{ActsQuietly}
use Rattle.board_plain.specs.Plain.{Plain, after_act, after_clock, change_next, chips_after_clock, clock_of, next_act, speaker_level}
use Rattle.board_plain.specs.Trail.{last, trail_next}
use Rattle.board.specs.Turns.{IsActOn, IsLeapOn}
use Rattle.board_plain.specs.Work.{work_next}
use Rattle.board_plain.proofs.Clocks.{clock_goes_by}
use Rattle.board_plain.proofs.Predicted.{predicted}
use Rattle.board.proofs.Ticking.{nothing_listed}
use Rattle.board.proofs.Works.{acts_now}

-- the speaker's level stays
same_level : (s : Plain) → ActsQuietly s → speaker_level (after_clock s) ≡ speaker_level s
unfolding speaker_level
same_level s quietly =
    predicted s quietly.wires
    ∙ ap from_bool (quietly.act.level ∙ sym (level_stays s.chips (s.chips.clock + 1) (omega arith) quietly.quiet))

-- an act of the board, with what it lists, and the leap over the other clocks of its step

rest_on : (within : ℕ) (p : Plain) (new : BoardState) → PassesOver within p new.plain
    → (new ≡ record new { plain = p }) ⊎ ((1 ≤ p.busy) × IsLeapOn within 0 (record new { plain = p }) new)
rest_on within p new (inl same) = inl (ap (λ q. record new { plain = q }) same)
rest_on within p new (inr rest) =
    inr (rest.0, record { leap = rest.1; changes = refl; trail = refl; room = refl; turns = omega arith })

-- `listed` is the board with the change of that clock in its list
pub act_on : (within : ℕ) (old listed new : BoardState) → listed.plain ≡ old.plain → listed.trail ≡ old.trail → listed.turns ≡ old.turns
    → listed.changes ≡ old.changes ++ change_next old.plain → old.room + length old.changes ≤ listed.room + length listed.changes
    → 1 ≤ work_next old.plain → PassesOver within (after_clock listed.plain) new.plain → new.trail ≡ last 32 (listed.trail ++ trail_next listed.plain)
    → new.changes ≡ listed.changes → new.room ≡ listed.room → new.turns ≡ listed.turns + 1 → IsActOn within old new
act_on within old listed new plain trail turns changes room work passed entries same same_room more = record {
  begun = record new { plain = after_clock old.plain };
  first = record {
    plain = refl;
    clock = clock_goes_by old.plain;
    changes = same ∙ changes;
    trail = entries ∙ (λ k. last 32 (trail k ++ trail_next (plain k)));
    room = let size : length new.changes ≡ length listed.changes = ap length same in omega (arith, room, size, same_room);
    turns = omega (arith, more, turns);
  };
  work = work;
  rest = rest_on within (after_clock old.plain) new (subst (λ p. PassesOver within (after_clock p) new.plain) plain passed);
}

pub act_made : (end : ℕ) (old new : BoardState) → ActsQuietly old.plain → PassesOver end (after_clock old.plain) new.plain → new.changes ≡ old.changes
    → new.trail ≡ last 32 (old.trail ++ trail_next old.plain) → new.room ≡ old.room → new.turns ≡ old.turns + 1 → IsActOn end old new
act_made end old new quietly passed changes trail room turns =
    act_on end old old new refl refl refl (nothing_listed old.changes old.plain (same_level old.plain quietly))
    (omega arith) (acts_now old.plain quietly.act.some) passed trail changes room turns

-- time goes on by a clock at least, and not past the end
pub record GoesOn (end : ℕ) (s t : Plain) : Type 0 where
  pub some : clock_of s + 1 ≤ clock_of t
  pub within : clock_of t ≤ end

goes_over_from : (end : ℕ) (s p t : Plain) → clock_of p ≡ clock_of s + 1 → clock_of s < end → PassesOver end p t → GoesOn end s t
goes_over_from end s p t first before (inl same) =
    let here : clock_of t ≡ clock_of p = ap clock_of same in record { some = omega (arith, here, first); within = omega (arith, here, first, before) }
goes_over_from end s p t first before (inr rest) =
    let here = rest.1.unseen.clock in
    let most = rest.1.within in record { some = omega (arith, here, first); within = omega (arith, here, first, before, most) }

pub goes_over : (end : ℕ) (s t : Plain) → clock_of s < end → PassesOver end (after_clock s) t → GoesOn end s t
goes_over end s t before passed = goes_over_from end s (after_clock s) t (clock_goes_by s) before passed

-- the plain board's clock, by what the processor does in it
pub clock_by_act : (s : Plain) (a : Act) (acted : StepResult ChipsState) → a ≡ next_act s → acted ≡ after_act s.clocks s.cpu s.busy s.chips a
    → record { cpu = acted.cpu; busy = acted.clocks - 1; chips = chips_after_clock acted.bus s.keys; keys = s.keys; clocks = s.clocks } ≡ after_clock s
unfolding after_clock
clock_by_act s a acted now is =
    ap (λ (r : StepResult ChipsState). record { cpu = r.cpu; busy = r.clocks - 1; chips = chips_after_clock r.bus s.keys; keys = s.keys; clocks = s.clocks })
    (is ∙ ap (after_act s.clocks s.cpu s.busy s.chips) now)
