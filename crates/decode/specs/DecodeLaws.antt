-- The laws of decoding.
-- Laws: claims above the definitions, each proved as the contract of a function.
use Rattle.std.specs.Prelude.{ℕ, ◌≤◌, ◌<◌, List, length, All}
use Rattle.isa.specs.declared.form.Instr.{Instr}
use Rattle.isa.specs.Encoding.{spelling, IsInstr}
use Rattle.decode.specs.Decoding.{longest_instruction, decoded_from, IsDecoded}

-- `decoded_from` is the one instruction that stands in the bytes, and none if none does
abbrev pub DecodingIsExact : Type 0
DecodingIsExact =
    (bytes : List ℕ) → longest_instruction ≤ length bytes → All (λ b. b < 256) bytes
    → IsDecoded bytes (decoded_from bytes)

-- no instruction has more bytes than are looked at
abbrev pub NoneIsLonger : Type 0
NoneIsLonger = (i : Instr) → IsInstr i → length (spelling i) ≤ longest_instruction
