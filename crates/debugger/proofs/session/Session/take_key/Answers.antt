use Rattle.std.proofs.Common.{◌≡◌, ◌<◌, sym, ap, ◌∙◌, subst}
use Rattle.board_plain.specs.Plain.{clock_of}
use Rattle.debugger_meaning.specs.SessionInvariant.{IsSession}
use Rattle.debugger_meaning.specs.Stands.{SessionState, Stands, shown_of}
use Rattle.debugger.specs.CopiesWithKey.{board_with}
use Rattle.debugger.proofs.Adding.{made_with, session_with}
use Rattle.events.specs.WithKey.{with_key}
use Rattle.debugger.proofs.session.Session.take_key.Goals as goal

pub invariant_of-self : goal.invariant_of-self
invariant_of-self g c =
    let early : clock_of c.self.inside.board.plain < c.args.key.now.stamp =
    subst (λ (s : SessionState). clock_of s.board.plain < c.args.key.now.stamp) (sym c.self.view_is) c.requires in
    let is_first : c.take_keys.new.self ≡ board_with c.self.inside.first c.args.key.now =
    made_with c.self.inside.first c.take_keys.new.self c.in_ok-first.first c.args.key.now c.take_keys.ensures c.in_ok-first.ensures.keys in
    let is_board : c.take_keys-2.new.self ≡ board_with c.self.inside.board c.args.key.now =
    made_with c.self.inside.board c.take_keys-2.new.self c.in_ok-now.now c.args.key.now c.take_keys-2.ensures c.in_ok-now.ensures.keys in
    session_with c.self.inside.first c.self.inside.board c.take_keys.new.self c.take_keys-2.new.self c.self.inside.checkpoints
    c.take_key.new.self c.self.inside.stops.items c.args.key.now early c.self.invariant is_first is_board c.take_key.ensures

pub returns : goal.returns
returns g c =
    let early : clock_of c.self.inside.board.plain < c.args.key.now.stamp =
    subst (λ (s : SessionState). clock_of s.board.plain < c.args.key.now.stamp) (sym c.self.view_is) c.requires in
    let is_first : c.take_keys.new.self ≡ board_with c.self.inside.first c.args.key.now =
    made_with c.self.inside.first c.take_keys.new.self c.in_ok-first.first c.args.key.now c.take_keys.ensures c.in_ok-first.ensures.keys in
    let is_board : c.take_keys-2.new.self ≡ board_with c.self.inside.board c.args.key.now =
    made_with c.self.inside.board c.take_keys-2.new.self c.in_ok-now.now c.args.key.now c.take_keys-2.ensures c.in_ok-now.ensures.keys in
    record {
      first = ap shown_of is_first ∙ ap (λ (s : SessionState). record s.first { plain = with_key s.first.plain c.args.key.now }) c.self.view_is;
      board = is_board ∙ ap (λ (s : SessionState). record s.board { plain = with_key s.board.plain c.args.key.now }) c.self.view_is;
      stops = ap (λ (s : SessionState). s.stops) c.self.view_is;
      stands =
          (session_with c.self.inside.first c.self.inside.board c.take_keys.new.self c.take_keys-2.new.self c.self.inside.checkpoints
          c.take_key.new.self c.self.inside.stops.items c.args.key.now early c.self.invariant is_first is_board
          c.take_key.ensures).stands;
      err = tt;
      fault = tt;
    }
