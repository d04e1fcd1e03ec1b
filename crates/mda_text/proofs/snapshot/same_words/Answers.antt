use Rattle.std.proofs.Common.{arith}
use Rattle.mda_text.proofs.Sections.{words_before, words_within}
use Rattle.mda_text.proofs.snapshot.same_words.Goals as goal

pub returns-in-Some-clause-same : goal.returns-in-Some-clause-same
returns-in-Some-clause-same c =
    words_before c.args.bytes.now c.deref.result.now _ c.args.word _ c.in-Some.at c.deref.ensures.value c.in-Some.ensures

pub returns-in-None-clause-same : goal.returns-in-None-clause-same
returns-in-None-clause-same c =
    words_within c.args.bytes.now c.deref.result.now _ c.args.word _ _ c.deref.ensures.value (omega arith) c.in-None.ensures
