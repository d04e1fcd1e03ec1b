use Rattle.std.proofs.Common.{ap, List, ℕ}
use Rattle.assembler_lexeme.specs.declared.name.Name.{Name}
use Rattle.assembler_lexeme.proofs.Wording.{name_is}
use Rattle.assembler_lexeme.proofs.name.name_of.Goals as goal

pub returns : goal.returns
returns c =
    let name : List ℕ → Name = λ letters. record { letters = letters } in
    ap name
    (name_is c.args.word.now c.copy_from_slice.new.self c.make_ascii_uppercase.new.self c.copy_from_slice.ensures.after c.make_ascii_uppercase.ensures.after)
