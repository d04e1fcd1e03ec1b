use Rattle.std.proofs.Common.{◌≡◌, ◌+◌, ◌*◌, ◌∙◌, ◌<◌, ◌-◌, ◌^◌, min, arith, get_or, add-one}
use Rattle.board_types.specs.Digits.{digit_of}
use Rattle.debugger_meaning.proofs.Counting.{digit_more}
use Rattle.debugger_meaning.proofs.word.number_to.Goals as goal

pub loop-byte-preserved : goal.loop-byte-preserved
loop-byte-preserved c =
    let low : digit_of (get_or c.args.digits.now c.loop-byte.byte-index 0) < c.args.base = omega (arith, c.digit_of-digit.ensures) in
    let sum : c.saturating_add-number.result
    ≡ min (min (c.loop-byte.number * c.args.base) (2 ^ 64 - 1) + digit_of (get_or c.args.digits.now c.loop-byte.byte-index 0)) (2 ^ 64 - 1) =
    cc in
    record {
      rest = rw (sum, add-one c.loop-byte.byte-index)
          (digit_more c.args.base c.loop-byte.number c.loop-byte.byte-index c.args.digits.now c.requires.low c.loop-byte-test.true low
          ∙ c.loop-byte.invariant.rest);
      small = omega (arith, c.saturating_add-number.type_inv);
    }
