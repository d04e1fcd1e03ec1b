use Rattle.std.proofs.Common.{◌≤◌, ◌+◌, ◌*◌, ◌∙◌, ap, arith, get_or}
use Rattle.std.specs.Prelude.{option_and_then}
use Rattle.assembler_lexeme.specs.Numbers.{number_to, in_bounds}
use Rattle.board_types.specs.Digits.{digit_of}
use Rattle.assembler_lexeme.proofs.Wording.{stops_at, large_at}
use Rattle.assembler_lexeme.proofs.number.number_to.Goals as goal

pub returns-then-digit-base : goal.returns-then-digit-base
unfolding number_to
returns-then-digit-base c =
    let high : c.args.base ≤ digit_of (get_or c.args.digits.now c.loop-byte.byte-index 0) = omega (arith, c.digit_of-digit.ensures) in
    stops_at c.args.base c.loop-byte.number c.loop-byte.byte-index c.args.digits.now c.loop-byte-test.true high
    ∙ ap (option_and_then in_bounds) c.loop-byte.invariant.rest

pub returns-then-longer : goal.returns-then-longer
unfolding number_to
returns-then-longer c =
    let large : 4294967296 ≤ c.loop-byte.number * c.args.base + digit_of (get_or c.args.digits.now c.loop-byte.byte-index 0) =
    omega (arith, c.digit_of-digit.ensures) in
    large_at c.args.base c.loop-byte.number c.loop-byte.byte-index c.args.digits.now c.requires.low c.loop-byte-test.true large
    ∙ ap (option_and_then in_bounds) c.loop-byte.invariant.rest
