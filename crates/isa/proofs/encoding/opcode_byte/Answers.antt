use Rattle.std.proofs.Common.{arith, ap}
use Rattle.isa.specs.Encoding.{code_number}
use Rattle.isa.proofs.Rows.{code_within}
use Rattle.isa.proofs.encoding.opcode_byte.Goals as goal

pub overflow_add-result : goal.overflow_add-result
overflow_add-result c =
    let within = code_within c.args.form c.requires in
    let same = ap (λ part. code_number part c.args.form.code) c.code_part.ensures in
    omega (arith, within, c.opcode.ensures, c.number.ensures, same)
