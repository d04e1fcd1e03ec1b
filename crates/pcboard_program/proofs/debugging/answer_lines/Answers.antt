use Rattle.std.proofs.Common.{◌≡◌, ◌∙◌, ◌<◌, ℕ, List, [], ◌∷◌, length, false, true, ap, refl, subst, sym, arith, IfErr, Result, Ok, Err}
use Rattle.std.specs.Prelude.{IsErrAnd}
use Rattle.pcboard_texts.specs.declared.unanswered.Unanswered.{Unanswered}
use Rattle.pcboard_texts.specs.declared.unanswered.Unanswered.TheVariants.{Failed, Refused}
use Rattle.pcboard_texts.specs.Transcript.{AnswersTyped, ends_session}
use Rattle.pcboard_texts.specs.Unanswered.{WhereRefused}
use Rattle.pcboard_texts.proofs.Sessions.{counts_first, counts_on, is_empty_line, isnt_empty_line}
use Rattle.pcboard_texts.proofs.Sessions.{printed_all, printed_cut, printed_last, printed_more, printed_none, printed_quit}
use Rattle.pcboard_program.proofs.debugging.answer_lines.Goals as goal
use Rattle.pcboard_program.proofs.debugging.answer_lines.Goals.{else-is_last-via-then-is_last+else-is_empty, else-is_last-via-else-is_last}

no_items : (xs : List ℕ) → length xs ≡ 0 → xs ≡ []
no_items [] none = refl
no_items (x ∷ xs) none = let never : ⊥ = omega (arith, none) in absurd never

cut_from : {A : Type 0} (result : Result A Unanswered) (end : Unanswered) (P Q : Type 0) → IsErrAnd result (λ other. other ≡ end) → (P → Q)
    → WhereRefused P end → IfErr result (WhereRefused Q)
cut_from (Ok value) end P Q same more is = tt
cut_from (Err Failed) end P Q same more is = tt
cut_from (Err (Refused fault)) end P Q same more is = more (subst (WhereRefused P) (sym same) is)

pub lines-init : goal.lines-init
lines-init g c = (
  printed_none g.T.Tool.answers c.args.session.now (g.I.ByteInput.gave c.args.input.now c.args.input.now) (g.O.ByteOutput.contents c.args.out.now)
      (g.met.I.ByteInput.gave_none c.args.input.now),
  counts_first (g.I.ByteInput.failures c.args.input.now),
)

pub returns-in_err-line-clause-cut : goal.returns-in_err-line-clause-cut
returns-in_err-line-clause-cut g c =
    cut_from c.from_residual.result c.in_err-line.field-0.0 _ _ c.from_residual.ensures.1
    (printed_cut g.T.Tool.answers c.args.session.now c.lines.session g.I.ByteInput.gave g.met.I.ByteInput.gave_on c.args.input.now c.lines.input
    c.next_line.new.input (g.O.ByteOutput.contents c.args.out.now) (g.O.ByteOutput.contents c.lines.out) c.lines.invariant.0)
    c.in_err-line.ensures.begun

pub returns-then-is_empty-clause-transcript : goal.returns-then-is_empty-clause-transcript
returns-then-is_empty-clause-transcript g c =
    let empty = no_items c.in_ok-line.line.items
    (is_empty_line c.in_ok-line.line.len (length c.in_ok-line.line.items) c.in_ok-line.line.ok.0 (sym c.is_empty.ensures ∙ c.if-is_empty.true)) in
    printed_all g.T.Tool.answers c.args.session.now c.lines.session g.I.ByteInput.gave g.met.I.ByteInput.gave_on
    (g.I.ByteInput.ended c.next_line.new.input) c.args.input.now c.lines.input c.next_line.new.input
    (g.O.ByteOutput.contents c.args.out.now) (g.O.ByteOutput.contents c.lines.out) c.in_ok-line.line.items c.in_ok-line.is_last c.lines.invariant.0
    c.in_ok-line.ensures.line c.if-is_last.true empty

pub returns-then-ends_session-clause-transcript : goal.returns-then-ends_session-clause-transcript
returns-then-ends_session-clause-transcript g c =
    let some : c.in_ok-line.is_last ≡ true → 0 < length c.in_ok-line.line.items =
    elim c.else-is_last.branch [
      | else-is_last-via-then-is_last+else-is_empty w ↦ (λ is. isnt_empty_line c.in_ok-line.line.len (length c.in_ok-line.line.items)
          c.in_ok-line.line.ok.0 (sym w.is_empty.ensures ∙ w.if-is_empty.false))
      | else-is_last-via-else-is_last w ↦ (λ is. let never : true ≡ false = sym is ∙ w.if-is_last.false in cc)
    ] in
    let quits : ends_session c.in_ok-line.line.items ≡ true = sym (c.if-ends_session.ensures ∙ ap ends_session c.as_slice.ensures.value) in
    printed_quit g.T.Tool.answers c.args.session.now c.lines.session g.I.ByteInput.gave g.met.I.ByteInput.gave_on
    (g.I.ByteInput.ended c.next_line.new.input) c.args.input.now c.lines.input c.next_line.new.input
    (g.O.ByteOutput.contents c.args.out.now) (g.O.ByteOutput.contents c.lines.out) c.in_ok-line.line.items c.in_ok-line.is_last c.lines.invariant.0
    c.in_ok-line.ensures.line some quits

pub returns-then-is_last-2-clause-transcript : goal.returns-then-is_last-2-clause-transcript
returns-then-is_last-2-clause-transcript g c =
    let some : c.in_ok-line.is_last ≡ true → 0 < length c.in_ok-line.line.items =
    elim c.else-is_last.branch [
      | else-is_last-via-then-is_last+else-is_empty w ↦ (λ is. isnt_empty_line c.in_ok-line.line.len (length c.in_ok-line.line.items)
          c.in_ok-line.line.ok.0 (sym w.is_empty.ensures ∙ w.if-is_empty.false))
      | else-is_last-via-else-is_last w ↦ (λ is. let never : true ≡ false = sym is ∙ w.if-is_last.false in cc)
    ] in
    let goes : ends_session c.in_ok-line.line.items ≡ false = sym (c.if-ends_session.ensures ∙ ap ends_session c.as_slice.ensures.value) in
    let answers = subst (λ line. AnswersTyped g.T.Tool.answers line c.lines.session c.reply_to-reply.result c.reply_to-reply.new.session)
    c.as_slice-in-lines.ensures.value c.reply_to-reply.ensures in
    printed_last g.T.Tool.answers c.args.session.now c.lines.session c.reply_to-reply.new.session g.I.ByteInput.gave g.met.I.ByteInput.gave_on
    (g.I.ByteInput.ended c.next_line.new.input) c.args.input.now c.lines.input c.next_line.new.input
    (g.O.ByteOutput.contents c.args.out.now) (g.O.ByteOutput.contents c.lines.out) (g.O.ByteOutput.contents c.print_reply.new.out)
    c.in_ok-line.line.items c.in_ok-line.is_last c.reply_to-reply.result c.lines.invariant.0
    c.in_ok-line.ensures.line c.if-is_last-2.true (some c.if-is_last-2.true) goes answers c.in_ok-print_reply.ensures.printed

pub lines-preserved : goal.lines-preserved
lines-preserved g c =
    let goes : ends_session c.in_ok-line.line.items ≡ false = sym (c.if-ends_session.ensures ∙ ap ends_session c.as_slice.ensures.value) in
    let answers = subst (λ line. AnswersTyped g.T.Tool.answers line c.lines.session c.reply_to-reply.result c.reply_to-reply.new.session)
    c.as_slice-in-lines.ensures.value c.reply_to-reply.ensures in
    let printed = printed_more g.T.Tool.answers c.args.session.now c.lines.session c.reply_to-reply.new.session g.I.ByteInput.gave g.met.I.ByteInput.gave_on
    (g.I.ByteInput.ended c.next_line.new.input) c.args.input.now c.lines.input c.next_line.new.input
    (g.O.ByteOutput.contents c.args.out.now) (g.O.ByteOutput.contents c.lines.out) (g.O.ByteOutput.contents c.print_reply.new.out)
    c.in_ok-line.line.items c.in_ok-line.is_last c.reply_to-reply.result c.lines.invariant.0
    c.in_ok-line.ensures.line c.if-is_last-2.false goes answers c.in_ok-print_reply.ensures.printed in
    let counts = counts_on (g.I.ByteInput.failures c.args.input.now) (g.I.ByteInput.failures c.lines.input) (g.I.ByteInput.failures c.next_line.new.input)
    c.lines.invariant.1 c.in_ok-line.ensures.unfailed in
    (printed, counts)

pub returns-clause-cut : goal.returns-clause-cut
returns-clause-cut g c =
    printed_cut g.T.Tool.answers c.args.session.now c.lines.session g.I.ByteInput.gave g.met.I.ByteInput.gave_on c.args.input.now c.lines.input
    c.lines.input (g.O.ByteOutput.contents c.args.out.now) (g.O.ByteOutput.contents c.lines.out) c.lines.invariant.0
    ([], g.met.I.ByteInput.gave_none c.lines.input)
