-- Renamed instructions ask the same of the encoding table, and have the same numbers and bytes.
use Rattle.std.proofs.Common.{◌≡◌, ◌∙◌, ℕ, ◌+◌, if◌then◌else◌, nat_le, List, [], ◌∷◌, ◌++◌, length, map, Option, None, Some, refl, ap}
use Rattle.std.specs.Option.{option_map}
use Rattle.isa.specs.declared.form.Form.{Form}
use Rattle.isa.specs.declared.form.Values.{Values}
use Rattle.isa.specs.Encoding.{encoding, form_length, prefix_byte}
use Rattle.assembler_lexeme.specs.declared.name.Name.{Name}
use Rattle.assembler_syntax.specs.declared.expression.Term.{Term}
use Rattle.assembler_syntax.specs.declared.operand.Operand.{Operand}
use Rattle.assembler_syntax.specs.declared.operand.Operand.TheVariants.{Register, One, Value, Memory, Short, FarLabel, FarPointer}
use Rattle.assembler_syntax.specs.declared.statement.Instruction.{Instruction}
use Rattle.assembler_form.specs.declared.operand.KnownOperand.{KnownOperand}
use Rattle.assembler_form.specs.declared.operand.KnownOperand.TheVariants as operands
use Rattle.assembler_form.specs.declared.fields.Numbers.{Numbers}
use Rattle.assembler_form.specs.Asked.{asked}
use Rattle.assembler_meaning.specs.Values.{Names}
use Rattle.assembler_meaning.specs.Instructions.{or_else, operand_override, override_of, override_prefix, prefixes_of, number_by}
use Rattle.assembler_meaning.specs.Instructions.{known_number, known_displacement, known_operand, known_operands, instruction_asked}
use Rattle.assembler_meaning.specs.Instructions.{instruction_size, no_numbers, with_number, with_displacement, with_label}
use Rattle.assembler_meaning.specs.Instructions.{with_pointer, displacement_value, numbers_with, numbers_after, numbers_of, code_bytes}
use Rattle.assembler_laws.specs.Sameness.{IsOneToOne, renamed_terms, renamed_operand, renamed_instruction}
use Rattle.assembler_laws.proofs.SamenessNames.{renamed_names, same_value, same_constant, same_label}

module _ (rename : Name → Name) (once : IsOneToOne rename) where
  same_operand_override : (o : Operand) → operand_override (renamed_operand rename o) ≡ operand_override o
  same_operand_override (Register r) = refl
  same_operand_override One = refl
  same_operand_override (Value terms) = refl
  same_operand_override (Memory a) = refl
  same_operand_override (Short terms) = refl
  same_operand_override (FarLabel name) = refl
  same_operand_override (FarPointer s o) = refl

  same_override : (os : List Operand) → override_of (map (renamed_operand rename) os) ≡ override_of os
  same_override [] = refl
  same_override (o ∷ os) = λ i. or_else (same_operand_override o i) (same_override os i)

  pub same_prefixes : (i : Instruction) → prefixes_of (renamed_instruction rename i) ≡ prefixes_of i
  unfolding prefixes_of
  same_prefixes i = λ k. i.prefixes ++ override_prefix (same_override i.operands k)

  same_number : (names : Names) (terms : List Term) → known_number (renamed_names rename names) (renamed_terms rename terms) ≡ known_number names terms
  same_number names terms = ap number_by (same_constant rename once names terms)

  same_displacement : (names : Names) (d : Option (List Term))
      → known_displacement (renamed_names rename names) (option_map (renamed_terms rename) d) ≡ known_displacement names d
  same_displacement names None = refl
  same_displacement names (Some terms) = same_number names terms

  same_operand : (names : Names) (o : Operand) → known_operand (renamed_names rename names) (renamed_operand rename o) ≡ known_operand names o
  same_operand names (Register r) = refl
  same_operand names One = refl
  same_operand names (Value terms) = λ i. operands.Number (same_number names terms i)
  same_operand names (Memory a) =
      λ i. operands.Memory (record { size = a.size; base = a.base; displacement = same_displacement names a.displacement i })
  same_operand names (Short terms) = refl
  same_operand names (FarLabel name) = refl
  same_operand names (FarPointer s o) = refl

  same_operands : (names : Names) (os : List Operand) → known_operands (renamed_names rename names) (map (renamed_operand rename) os) ≡ known_operands names os
  same_operands names [] = refl
  same_operands names (a ∷ []) = λ i. Some (same_operand names a i, operands.Nothing)
  same_operands names (a ∷ b ∷ []) = λ i. Some (same_operand names a i, same_operand names b i)
  same_operands names (a ∷ b ∷ c ∷ os) = refl

  pub same_asked : (names : Names) (i : Instruction) → instruction_asked (renamed_names rename names) (renamed_instruction rename i) ≡ instruction_asked names i
  unfolding instruction_asked
  same_asked names i =
      λ k. if nat_le (length (same_prefixes i k)) 7
      then option_map (λ (os : KnownOperand × KnownOperand). asked i.mnemonic os.0 os.1) (same_operands names i.operands k)
      else None

  pub same_instruction_size : (f : Form) (i : Instruction) → instruction_size f (renamed_instruction rename i) ≡ instruction_size f i
  same_instruction_size f i = λ k. length (same_prefixes i k) + form_length f

  pub same_code : (f : Form) (i : Instruction) (v : Values) → code_bytes f (renamed_instruction rename i) v ≡ code_bytes f i v
  same_code f i v = λ k. map prefix_byte (same_prefixes i k) ++ encoding f v

  same_displacement_value : (names : Names) (here : ℕ) (d : Option (List Term))
      → displacement_value (renamed_names rename names) here (option_map (renamed_terms rename) d) ≡ displacement_value names here d
  same_displacement_value names here None = refl
  same_displacement_value names here (Some terms) = same_value rename once names here terms

  same_numbers_with : (names : Names) (here : ℕ) (n : Numbers) (o : Operand)
      → numbers_with (renamed_names rename names) here n (renamed_operand rename o) ≡ numbers_with names here n o
  same_numbers_with names here n (Register r) = refl
  same_numbers_with names here n One = refl
  same_numbers_with names here n (Value terms) = λ i. option_map (with_number n) (same_value rename once names here terms i)
  same_numbers_with names here n (Memory a) = λ i. option_map (with_displacement n) (same_displacement_value names here a.displacement i)
  same_numbers_with names here n (Short terms) = λ i. option_map (with_number n) (same_value rename once names here terms i)
  same_numbers_with names here n (FarLabel name) = λ i. option_map (with_label n) (same_label rename once names name i)
  same_numbers_with names here n (FarPointer s o) = λ i. with_pointer n (same_value rename once names here s i) (same_value rename once names here o i)

  same_numbers_after : (names : Names) (here : ℕ) (n : Option Numbers) (os : List Operand)
      → numbers_after (renamed_names rename names) here n (map (renamed_operand rename) os) ≡ numbers_after names here n os
  same_numbers_after names here None os = refl
  same_numbers_after names here (Some n) [] = refl
  same_numbers_after names here (Some n) (o ∷ os) =
      same_numbers_after names here (numbers_with (renamed_names rename names) here n (renamed_operand rename o)) os
      ∙ ap (λ (m : Option Numbers). numbers_after names here m os) (same_numbers_with names here n o)

  pub same_numbers : (names : Names) (here : ℕ) (os : List Operand)
      → numbers_of (renamed_names rename names) here (map (renamed_operand rename) os) ≡ numbers_of names here os
  unfolding numbers_of
  same_numbers names here os = same_numbers_after names here (Some no_numbers) os
