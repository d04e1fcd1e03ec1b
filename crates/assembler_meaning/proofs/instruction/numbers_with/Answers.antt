use Rattle.std.proofs.Common.{◌≡◌, ℤ, to_z, of_z, w64, arith, ap, pos, rules, sym, ◌∙◌, Some}
use Rattle.std.specs.Option.{option_map}
use Rattle.std.proofs.lemmas.Int.{ints}
use Rattle.assembler_form.specs.declared.fields.Numbers.{Numbers}
use Rattle.assembler_meaning.specs.declared.symbol.Location.{Location}
use Rattle.assembler_meaning.specs.Instructions.{numbers_with, with_label}
use Rattle.assembler_meaning.proofs.LeavesValues.{label_small}
use Rattle.assembler_meaning.proofs.instruction.numbers_with.Goals as goal

pub overflow_cast-result : goal.overflow_cast-result
overflow_cast-result c =
    let small = label_small c.args.symbols.now.entries c.in-FarLabel.name c.in_ok-place-in-FarLabel.place c.requires.small c.in_ok-place-in-FarLabel.ensures in
    omega (arith, ints)

at_label : (n : Numbers) (place : Location) (displacement number segment : ℤ) → displacement ≡ n.displacement → number ≡ pos place.offset
    → segment ≡ pos place.segment → record { displacement = displacement; number = number; segment = segment } ≡ with_label n place
at_label n place displacement number segment p q r = cc

pub returns-in_ok-place-in-FarLabel : goal.returns-in_ok-place-in-FarLabel
returns-in_ok-place-in-FarLabel c =
    let n = c.args.numbers in
    let place = c.in_ok-place-in-FarLabel.place in
    let small = label_small c.args.symbols.now.entries c.in-FarLabel.name place c.requires.small c.in_ok-place-in-FarLabel.ensures in
    let displacement : to_z w64 (of_z w64 n.displacement) ≡ n.displacement = search rules in
    let number : to_z w64 place.offset ≡ pos place.offset = omega (arith, ints) in
    let segment : to_z w64 (of_z w64 c.from.result) ≡ pos place.segment = omega (arith, ints) in
    ap Some (at_label n place _ _ _ displacement number segment)
    ∙ ap (option_map (with_label n)) c.in_ok-place-in-FarLabel.ensures
    ∙ ap (numbers_with c.args.symbols.now.entries c.args.here n) (sym c.in-FarLabel.is)
