use Rattle.mda_text.proofs.MarkLaws.{numbers_marks}
use Rattle.mda_text.proofs.laws.numbers_marks.Goals as goal

pub returns : goal.returns
returns c = numbers_marks
