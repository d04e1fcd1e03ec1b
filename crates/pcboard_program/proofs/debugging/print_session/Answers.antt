use Rattle.std.proofs.Common.{◌≡◌, ◌⊎◌, inl, inr, IfErr, OnOk, Result, Ok, Err, subst}
use Rattle.pcboard_texts.specs.declared.unanswered.Unanswered.{Unanswered}
use Rattle.pcboard_texts.specs.declared.unanswered.Unanswered.TheVariants.{Failed, Refused}
use Rattle.pcboard_texts.specs.Given.{Of}
use Rattle.pcboard_texts.specs.Answer.{AppendsA}
use Rattle.pcboard_texts.specs.Printing.{PrintsSession}
use Rattle.pcboard_texts.specs.Refusal.{BeginsTranscript, want_of_board, want_of_session}
use Rattle.pcboard_texts.specs.Transcript.{input_lines}
use Rattle.pcboard_texts.specs.Unanswered.{WhereRefused}
use Rattle.pcboard_texts.proofs.Refusals.{unjudged_wider}
use Rattle.pcboard_program.proofs.debugging.print_session.Goals as goal

or_nothing : {T : Type 0} (A B : Type 0) (result : Result T Unanswered) → IfErr result (WhereRefused B) → IfErr result (WhereRefused (A ⊎ B))
or_nothing A B (Ok value) is = tt
or_nothing A B (Err Failed) is = tt
or_nothing A B (Err (Refused fault)) is = inr is

pub returns-clause-transcript : goal.returns-clause-transcript
returns-clause-transcript g c =
    subst
    (λ (session : _). OnOk c.answer_lines-answered.result (PrintsSession g.T.Tool.answers session
    (g.I.ByteInput.gave c.args.input.now c.answer_lines-answered.new.input) (g.I.ByteInput.ended c.answer_lines-answered.new.input)
    (g.O.ByteOutput.contents c.args.out.now) (g.O.ByteOutput.contents c.answer_lines-answered.new.out)))
    c.in_ok-session.ensures.session c.answer_lines-answered.ensures.transcript

pub returns-clause-cut : goal.returns-clause-cut
returns-clause-cut g c =
    or_nothing (g.O.ByteOutput.contents c.answer_lines-answered.new.out ≡ g.O.ByteOutput.contents c.args.out.now) _ c.answer_lines-answered.result
    (subst
    (λ (session : _). IfErr c.answer_lines-answered.result (WhereRefused (Of (g.I.ByteInput.gave c.args.input.now c.answer_lines-answered.new.input)
    (λ typed. AppendsA (BeginsTranscript g.T.Tool.answers session (input_lines typed))
    (g.O.ByteOutput.contents c.args.out.now) (g.O.ByteOutput.contents c.answer_lines-answered.new.out)))))
    c.in_ok-session.ensures.session c.answer_lines-answered.ensures.cut)

pub returns-clause-end : goal.returns-clause-end
returns-clause-end g c =
    unjudged_wider c.answer_lines-answered.result (λ fault. fault ≡ want_of_board)
    (λ fault. fault ≡ want_of_board ⊎ fault ≡ want_of_session) (λ fault is. inl is) c.answer_lines-answered.ensures.end
