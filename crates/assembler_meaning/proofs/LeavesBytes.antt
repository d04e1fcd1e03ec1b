-- Bytes after bytes.
use Rattle.std.proofs.Common.{◌≡◌, ℕ, zero, suc, ◌+◌, List, ◌++◌, map, append_assoc, append-nil, sym, ap, ◌∙◌, arith}
use Rattle.std.proofs.lemmas.List.{map-append}
use Rattle.isa.specs.Encoding.{prefix_byte}
use Rattle.assembler_syntax.specs.declared.statement.Instruction.{Instruction}
use Rattle.assembler_meaning.specs.Data.{repeated}
use Rattle.assembler_meaning.specs.Instructions.{override_of, override_prefix, prefixes_of}

following : (n : ℕ) (bytes : List ℕ) → bytes ++ repeated n bytes ≡ repeated n bytes ++ bytes
following zero bytes = append-nil bytes
following (suc n) bytes = ap (λ (bs : List ℕ). bytes ++ bs) (following n bytes) ∙ sym (append_assoc bytes (repeated n bytes) bytes)

pub repeated_more : (n : ℕ) (bytes : List ℕ) → repeated (n + 1) bytes ≡ repeated n bytes ++ bytes
repeated_more n bytes =
    let one_more : n + 1 ≡ suc n = omega arith in
    ap (λ (m : ℕ). repeated m bytes) one_more ∙ following n bytes

pub prefixes_are : (i : Instruction)
    → map prefix_byte (prefixes_of i) ≡ map prefix_byte i.prefixes ++ map prefix_byte (override_prefix (override_of i.operands))
unfolding prefixes_of
prefixes_are i = map-append prefix_byte i.prefixes (override_prefix (override_of i.operands))
