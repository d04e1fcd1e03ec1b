use Rattle.std.proofs.Common.{◌≡◌, ap, sym, ◌∙◌, subst, arith}
use Rattle.board.specs.OneTurn.{begun_in}
use Rattle.board_plain.specs.Board.{BoardState}
use Rattle.board_plain.specs.Plain.{clock_of}
use Rattle.debugger_meaning.specs.Stands.{SessionState}
use Rattle.probe.specs.Counts.{counts_of, counts_text}
use Rattle.probe.specs.Tallied.{IsBefore}
use Rattle.probe.proofs.Counting.{none_counted}
use Rattle.probe.proofs.Lines.{if_ok_then}
use Rattle.probe.proofs.Made.{shows_made}
use Rattle.probe.proofs.counts.tell_counts.Goals as goal

pub make-requires : goal.make-requires
make-requires c =
    none_counted c.args.session.now.board.plain c.new-counts.result c.new-counts.ensures.noted c.new-counts.ensures.before
    (c.new-counts.ensures.started ∙ c.clock-start.ensures ∙ ap (λ (b : BoardState). clock_of b.plain) c.board.ensures.board)

pub text-requires-clause-before : goal.text-requires-clause-before
text-requires-clause-before c =
    let made = c.in_ok-end.ensures.made in
    subst (λ k. IsBefore k c.make.new.visitor) (sym made.0.end_is) made.1.before

pub text-requires-clause-started : goal.text-requires-clause-started
text-requires-clause-started c =
    let start : c.clock-start.result ≡ clock_of c.args.session.now.board.plain =
    c.clock-start.ensures ∙ ap (λ (b : BoardState). clock_of b.plain) c.board.ensures.board in
    let counted = c.in_ok-end.ensures.made.1.started in omega (arith, counted, start)

pub text-requires-clause-ended : goal.text-requires-clause-ended
text-requires-clause-ended c =
    let start : c.clock-start.result ≡ clock_of c.args.session.now.board.plain =
    c.clock-start.ensures ∙ ap (λ (b : BoardState). clock_of b.plain) c.board.ensures.board in
    let end = c.in_ok-end.ensures.made.0.end_is in omega (arith, end, start)

pub returns : goal.returns
unfolding counts_text
returns c =
    let s : SessionState = c.args.session.now in
    let made = c.in_ok-end.ensures.made in
    let start : c.clock-start.result ≡ clock_of s.board.plain = c.clock-start.ensures ∙ ap (λ (b : BoardState). clock_of b.plain) c.board.ensures.board in
    let end = made.0.end_is in
    shows_made c.args.count c.in_ok-end.end s c.make.new.session (counts_text s.board.plain c.args.count) c.shown.result made.0
    (c.shown.ensures (counts_text s.board.plain c.args.count) (if_ok_then c.text.result (λ whole told.
    told (begun_in s.board.plain c.args.count) made.1.noted ∙ (λ i. counts_of (begun_in s.board.plain c.args.count) (start i) (end i))) c.text.ensures))
