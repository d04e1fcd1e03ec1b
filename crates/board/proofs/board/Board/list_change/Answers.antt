use Rattle.std.proofs.Common.{◌≡◌, ◌≢◌, ◌∙◌, sym, ap, arith}
use Rattle.std.proofs.lemmas.Grind.{common_steps}
use Rattle.board_plain.specs.Board.{BoardState}
use Rattle.board_types.specs.LineLevel.{from_bool}
use Rattle.board_plain.specs.Plain.{after_clock, speaker_level}
use Rattle.board.proofs.Ticking.{nothing_listed, change_listed, high_again}
use Rattle.board.proofs.board.Board.list_change.Goals as goal

pub returns-then-high-is_high-clause-changes : goal.returns-then-high-is_high-clause-changes
returns-then-high-is_high-clause-changes g c =
    let same : c.args.high ≡ c.is_high.result = grind (arith, common_steps) in
    nothing_listed _ _ (sym c.requires.next ∙ ap from_bool same ∙ c.is_high.ensures ∙ ap (λ (b : BoardState). speaker_level b.plain) c.self.view_is)

pub returns-clause-changes : goal.returns-clause-changes
returns-clause-changes g c =
    let now : from_bool c.is_high.result ≡ speaker_level c.args.self.now.plain =
    c.is_high.ensures ∙ ap (λ (b : BoardState). speaker_level b.plain) c.self.view_is in
    let differs : speaker_level (after_clock c.args.self.now.plain) ≢ speaker_level c.args.self.now.plain =
    λ e. let same : c.args.high ≡ c.is_high.result = high_again _ _ (c.requires.next ∙ e ∙ sym now) in grind (arith, common_steps) in
    let listed = change_listed c.args.self.now.plain (from_bool c.args.high) differs c.requires.next in
    rw (← listed) c.add_change.ensures.ok
