-- Parts of what is decoded.
-- For proofs alone: no public contract rests on it.
use Rattle.std.specs.Prelude.{ℕ, List}
use Rattle.isa.specs.declared.form.Form.{Form}
use Rattle.isa.specs.declared.form.Prefix.{Prefix}
use Rattle.isa.specs.declared.form.Instr.{Instr}
use Rattle.decode.specs.Decoding.{values_at}

-- the instruction of a form at these bytes, after prefixes
abbrev pub instr_of : List Prefix → Form → List ℕ → Instr
instr_of prefixes f bytes = record {
  prefixes = record { items = prefixes };
  form = f;
  values = values_at f bytes;
}
