use Rattle.std.proofs.Common.{◌≡◌, ℕ, ◌<◌, ap, ◌∙◌, subst}
use Rattle.board_types.specs.declared.keys.StampedKey.{StampedKey}
use Rattle.board_plain.specs.Board.{BoardState}
use Rattle.board_plain.specs.Plain.{clock_of}
use Rattle.debugger_meaning.specs.declared.answer.Answer.TheVariants.{Text}
use Rattle.probe.specs.Typed.{IsToCome, Takes, typed_key}
use Rattle.probe.proofs.typed.type_key.Goals as goal

pub take_key-requires : goal.take_key-requires
take_key-requires c =
    let at : c.clock.result ≡ clock_of c.args.session.now.board.plain = c.clock.ensures ∙ ap (λ (b : BoardState). clock_of b.plain) c.board.ensures.board in
    subst (λ (n : ℕ). n < c.in_ok-key.key.stamp) at c.in_ok-key.ensures.1.later

pub returns : goal.returns
returns c =
    let old = c.args.session.now in
    let at : c.clock.result ≡ clock_of old.board.plain = c.clock.ensures ∙ ap (λ (b : BoardState). clock_of b.plain) c.board.ensures.board in
    let is : c.in_ok-key.key ≡ typed_key (clock_of old.board.plain) c.args.code c.args.at =
    c.in_ok-key.ensures.0 ∙ ap (λ (n : ℕ). typed_key n c.args.code c.args.at) at in
    subst (λ (k : StampedKey). Takes k old c.take_key.new.self (Text c.in_ok-text.text)) is
    (record {
      to_come = subst (λ (n : ℕ). IsToCome n c.in_ok-key.key) at c.in_ok-key.ensures.1;
      first = c.in_ok-take_key.ensures.first;
      board = c.in_ok-take_key.ensures.board;
      stops = c.in_ok-take_key.ensures.stops;
      shows = c.in_ok-text.ensures;
    })
