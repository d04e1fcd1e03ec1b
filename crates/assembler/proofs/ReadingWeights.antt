-- What is within a length is within a greater one, and an instruction that has a form has few prefixes.
use Rattle.std.proofs.Common.{◌≡◌, ℕ, ◌≤◌, refl, arith, Bool, true, false, nat_le, List, [], ◌∷◌, length, Option, None, Some, if◌then◌else◌}
use Rattle.std.specs.List.{list_all}
use Rattle.std.specs.Option.{option_map}
use Rattle.std.proofs.lemmas.Bool.{and_from, and_parts}
use Rattle.std.proofs.lemmas.Bool.Decides.{nat_tests}
use Rattle.isa.specs.declared.form.Form.{Form}
use Rattle.assembler_syntax.specs.declared.expression.Term.{Term}
use Rattle.assembler_syntax.specs.declared.operand.Operand.{Operand}
use Rattle.assembler_syntax.specs.declared.operand.Operand.TheVariants as operands
use Rattle.assembler_syntax.specs.declared.statement.Instruction.{Instruction as WrittenInstruction}
use Rattle.assembler_syntax.specs.declared.statement.Item.{Item}
use Rattle.assembler_syntax.specs.declared.statement.Item.TheVariants.{Once, Repeated}
use Rattle.assembler_syntax.specs.declared.statement.Piece.{Piece}
use Rattle.assembler_syntax.specs.declared.statement.Piece.TheVariants as pieces
use Rattle.assembler_syntax.specs.declared.statement.Statement.{Statement}
use Rattle.assembler_syntax.specs.declared.statement.Statement.TheVariants.{Empty, Segment, Ends, Equ, Org, Data, Instruction}
use Rattle.assembler_form.specs.declared.asked.Asked.{Asked}
use Rattle.assembler_form.specs.Asked.{asked}
use Rattle.assembler_meaning.specs.Values.{Names}
use Rattle.assembler_meaning.specs.Instructions.{IsFormFor, instruction_asked, known_operands, prefixes_of}
use Rattle.assembler_syntax.specs.Weights.{are_terms_within, is_displacement_within, is_expression_within, is_item_within, is_operand_within, is_piece_within}

all_more : {A : Type 0} (p q : A → Bool) → ((x : A) → p x ≡ true → q x ≡ true) → (xs : List A) → list_all p xs ≡ true → list_all q xs ≡ true
all_more p q more [] all = refl
all_more p q more (x ∷ xs) all =
    let parts = and_parts (p x) (list_all p xs) all in
    and_from (q x) (list_all q xs) (more x parts.0) (all_more p q more xs parts.1)

module _ (n m : ℕ) (le : n ≤ m) where
  few_more : (k : ℕ) → nat_le k n ≡ true → nat_le k m ≡ true
  few_more k few = grind (arith, nat_tests)

  terms_more : (terms : List Term) → is_expression_within n terms ≡ true → is_expression_within m terms ≡ true
  terms_more terms few = few_more (length terms) few

  displacement_more : (o : Option (List Term)) → is_displacement_within n o ≡ true → is_displacement_within m o ≡ true
  displacement_more None few = refl
  displacement_more (Some terms) few = terms_more terms few

  operand_more : (operand : Operand) → is_operand_within n operand ≡ true → is_operand_within m operand ≡ true
  operand_more (operands.Register r) few = refl
  operand_more operands.One few = refl
  operand_more (operands.Value terms) few = terms_more terms few
  operand_more (operands.Memory a) few = displacement_more a.displacement few
  operand_more (operands.Short terms) few = terms_more terms few
  operand_more (operands.FarLabel name) few = refl
  operand_more (operands.FarPointer s o) few =
      let parts = and_parts (is_expression_within n s) (is_expression_within n o) few in
      and_from (is_expression_within m s) (is_expression_within m o) (terms_more s parts.0) (terms_more o parts.1)

  piece_more : (piece : Piece) → is_piece_within n piece ≡ true → is_piece_within m piece ≡ true
  piece_more (pieces.Value terms) few = terms_more terms few
  piece_more (pieces.Text text) few = refl

  item_more : (item : Item) → is_item_within n item ≡ true → is_item_within m item ≡ true
  item_more (Once piece) few = piece_more piece few
  item_more (Repeated count each) few =
      let parts = and_parts (is_expression_within n count) (list_all (is_piece_within n) each) few in
      and_from (is_expression_within m count) (list_all (is_piece_within m) each)
      (terms_more count parts.0) (all_more (is_piece_within n) (is_piece_within m) piece_more each parts.1)

  pub within_more : (statement : Statement) → are_terms_within n statement ≡ true → are_terms_within m statement ≡ true
  within_more Empty few = refl
  within_more (Segment name terms) few = terms_more terms few
  within_more Ends few = refl
  within_more (Equ name terms) few = terms_more terms few
  within_more (Org terms) few = terms_more terms few
  within_more (Data width items) few = all_more (is_item_within n) (is_item_within m) item_more items few
  within_more (Instruction i) few = all_more (is_operand_within n) (is_operand_within m) operand_more i.operands few

few_by : (few : Bool) (a : Option Asked) (f : Form) → IsFormFor (if few then a else None) (Some f) → few ≡ true
few_by true a f is = refl
few_by false a f is = cc

at_most : (k n : ℕ) → nat_le k n ≡ true → k ≤ n
at_most k n is = grind (arith, nat_tests)

pub few_prefixes : (names : Names) (i : WrittenInstruction) (f : Form) → IsFormFor (instruction_asked names i) (Some f) → length (prefixes_of i) ≤ 7
unfolding instruction_asked
few_prefixes names i f is =
    at_most (length (prefixes_of i)) 7
    (few_by (nat_le (length (prefixes_of i)) 7) (option_map (λ os. asked i.mnemonic os.0 os.1) (known_operands names i.operands)) f is)
