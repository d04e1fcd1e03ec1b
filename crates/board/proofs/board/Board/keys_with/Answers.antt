use Rattle.std.proofs.Common.{◌≡◌, ℕ, ◌+◌, List, [], ◌∷◌, ◌++◌, take, drop, ap, ◌∙◌, subst, append_assoc}
use Rattle.std.proofs.lemmas.List.{take_rest}
use Rattle.board_types.specs.declared.keys.StampedKey.{StampedKey}
use Rattle.board.specs.Arrivals.{Awaits}
use Rattle.board_plain.specs.Board.{BoardState}
use Rattle.board.specs.declared.board.Board.TheInside.{Inside}
use Rattle.events.specs.WithKey.{inserted}
use Rattle.board.proofs.Inserting.{inserted_at}
use Rattle.board.proofs.board.Board.keys_with.Goals as goal

pub returns-clause-keys : goal.returns-clause-keys
returns-clause-keys g c =
    let older : List StampedKey = c.as_slice-older.result.now in
    let place : ℕ = c.count_before-place.result in
    let awaits : Awaits place (c.args.key.stamp + 1) older =
    subst (λ (n : ℕ). Awaits place (n + 1) older) c.get.ensures.value c.count_before-place.ensures.awaits in
    let first : c.push_all.new.keys ≡ take place older =
    c.in_ok-push_all.ensures.ok ∙ ap (λ (xs : List StampedKey). xs ++ take place older) c.new-keys.ensures in
    let parts : c.push_all-3.new.keys ≡ take place older ++ (c.args.key ∷ drop place older) =
    c.in_ok-push_all-3.ensures.ok
    ∙ ap (λ (xs : List StampedKey). c.push_all-2.new.keys ++ xs) (take_rest older place)
    ∙ ap (λ (xs : List StampedKey). xs ++ drop place older) (c.in_ok-push_all-2.ensures.ok ∙ ap (λ (xs : List StampedKey). xs ++ c.args.key ∷ []) first)
    ∙ append_assoc (take place older) (c.args.key ∷ []) (drop place older) in
    let own = c.as_slice-older.ensures.keys ∙ ap (λ (s : Inside g.row.A.Denot). s.engine.keys) c.self-inside.view_is
    ∙ ap (λ (b : BoardState). b.plain.keys) c.self.view_is in
    parts ∙ inserted_at place older c.args.key awaits.within awaits.past awaits.to_come ∙ ap (λ (ks : List StampedKey). inserted ks c.args.key) own
