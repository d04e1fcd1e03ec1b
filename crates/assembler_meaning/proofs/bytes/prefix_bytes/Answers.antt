use Rattle.std.proofs.Common.{◌≡◌, Option, map, ap, arith}
use Rattle.std.proofs.lemmas.Grind.{common_steps}
use Rattle.isa.specs.declared.register.SegmentRegister.{SegmentRegister}
use Rattle.isa.specs.Encoding.{prefix_byte}
use Rattle.assembler_meaning.specs.Instructions.{override_prefix}
use Rattle.assembler_meaning.proofs.LeavesBytes.{prefixes_are}
use Rattle.assembler_meaning.proofs.bytes.prefix_bytes.Goals as goal

pub returns : goal.returns
returns c =
    let i = c.args.instruction.now in
    let front : c.loop-prefix.bytes.items ≡ map prefix_byte i.prefixes = grind (arith, common_steps) in
    let last = ap (λ (o : Option SegmentRegister). map prefix_byte (override_prefix o)) c.override_of.ensures in
    let pushed = c.in_ok-push_override.ensures in
    let are = prefixes_are i in
    cc
