use Rattle.std.proofs.Common.{◌≡◌, length, sym, ap, ◌∙◌, subst, arith}
use Rattle.board_plain.proofs.LastEntries.{last_of_few}
use Rattle.board_plain.specs.Trail.{last}
use Rattle.debugger_meaning.specs.Stands.{SessionState}
use Rattle.std.specs.Prelude.{List}
use Rattle.probe.proofs.Labs.{less_one, one_more}
use Rattle.probe.proofs.lab.keep.Goals as goal

pub returns-then-len-gt-MOST-clause-kept : goal.returns-then-len-gt-MOST-clause-kept
returns-then-len-gt-MOST-clause-kept c =
    let whole = one_more c.args.earlier.now.items c.args.session in
    let count = ap (λ (xs : List SessionState). length xs) c.push_reserved.ensures.items in
    subst (λ xs. c.remove.new.self.items ≡ last 16 xs) c.push_reserved.ensures.items
    (less_one c.push_reserved.new.self.items c.remove.new.self.items
    (omega (arith, whole, count, c.requires.few, c.len.ensures, c.if-len-gt-MOST.true)) c.remove.ensures.by_index.2)

pub returns-else-len-gt-MOST-clause-kept : goal.returns-else-len-gt-MOST-clause-kept
returns-else-len-gt-MOST-clause-kept c =
    let count = ap (λ (xs : List SessionState). length xs) c.push_reserved.ensures.items in
    c.push_reserved.ensures.items
    ∙ sym (last_of_few 16 _ (omega (arith, count, c.len.ensures, c.if-len-gt-MOST.false)))
