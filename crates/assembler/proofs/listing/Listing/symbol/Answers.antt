use Rattle.std.proofs.Common.{◌≡◌, ◌∙◌, ap₂, subst, None, Some, ℕ, ℤ, List, to_z, of_z, w64, FitsSigned, rules}
use Rattle.std.proofs.lemmas.Int.{to_z-of_z}
use Rattle.assembler_meaning.specs.Values.{symbol_value}
use Rattle.assembler.specs.Listing.{ListingState, symbol_at}
use Rattle.assembler.proofs.ListingAscii.{no_symbol, own_symbol, own_letters}
use Rattle.assembler.proofs.listing.Listing.symbol.Goals as goal

pub returns-in_err-name : goal.returns-in_err-name
returns-in_err-name c =
    rw c.from_residual.ensures
    (subst (λ (l : ListingState). None ≡ symbol_at l.names c.args.i) c.self.view_is
    (no_symbol c.self.inside.reading.symbols.entries c.args.i c.in_err-name.ensures.entry))

pub name_text-requires : goal.name_text-requires
name_text-requires c =
    own_letters c.self.inside.reading.source.items c.self.inside.reading.symbols.entries c.self.inside.reading.located_lines.items
    c.args.i c.in_ok-name.name.now c.in_ok-name.symbol.now c.self.invariant.0 c.in_ok-name.ensures.entry

pub value-requires : goal.value-requires
value-requires c = c.self.invariant.0.small c.in_ok-name.name.now c.in_ok-name.symbol.now c.in_ok-name.ensures.value

pub returns : goal.returns
returns c =
    let fits : FitsSigned w64 c.value.result = search rules in
    let value : to_z w64 (of_z w64 c.value.result) ≡ symbol_value c.in_ok-name.symbol.now = to_z-of_z w64 c.value.result fits ∙ c.value.ensures in
    subst (λ (l : ListingState). Some (c.name_text.result.now, to_z w64 (of_z w64 c.value.result)) ≡ symbol_at l.names c.args.i) c.self.view_is
    (ap₂ (λ (text : List ℕ) (n : ℤ). Some (text, n)) c.name_text.ensures value
    ∙ own_symbol c.self.inside.reading.symbols.entries c.args.i c.in_ok-name.name.now c.in_ok-name.symbol.now c.in_ok-name.ensures.entry)
