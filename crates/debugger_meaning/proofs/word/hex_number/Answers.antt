use Rattle.std.proofs.Common.{◌≡◌, ◌≤◌, ◌<◌, ◌^◌, sym, ◌∙◌, arith, length, Some, rules}
use Rattle.std.proofs.Math.Nat.{pow-le-pow_right}
use Rattle.board_types.specs.Digits.{spelled}
use Rattle.debugger_meaning.specs.CommandWords.{hex_number}
use Rattle.debugger_meaning.proofs.Counting.{hex_below, hex_is}
use Rattle.debugger_meaning.proofs.word.hex_number.Goals as goal

spells : (c : goal.In_ok-number) → spelled 16 0 c.args.word.now ≡ Some c.in_ok-number.number
spells c =
    let short : length c.args.word.now ≤ 5 = omega arith in
    hex_is c.args.word.now c.in_ok-number.number short (sym c.number_to.ensures ∙ c.in_ok-number.was)

below : (c : goal.In_ok-number) → c.in_ok-number.number < 16 ^ c.args.most
below c =
    let short : length c.args.word.now ≤ c.args.most = omega arith in
    hex_below c.args.word.now c.args.most c.in_ok-number.number (spells c) short

pub overflow_cast-result : goal.overflow_cast-result
overflow_cast-result c =
    let under : c.in_ok-number.number < 16 ^ c.args.most = below c in
    let most : 16 ^ c.args.most ≤ 16 ^ 5 = pow-le-pow_right (omega arith) c.requires in
    omega arith

pub returns-clause-value : goal.returns-clause-value
unfolding hex_number
returns-clause-value c = let same : spelled 16 0 c.args.word.now ≡ Some c.in_ok-number.number = spells c in search rules

pub returns-clause-bound : goal.returns-clause-bound
returns-clause-bound c = below c
