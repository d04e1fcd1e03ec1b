use Rattle.std.proofs.Common.{◌≡◌, ◌∙◌, ◌++◌, ap, sym, subst, false}
use Rattle.indexmap.proofs.CallerLemmas.{insert_entry-new}
use Rattle.assembler_meaning.specs.Values.{meaning, is_defined}
use Rattle.assembler.specs.FirstPass.{IsNewDefinition, definition_names}
use Rattle.assembler.proofs.ReadingNames.{none_is}
use Rattle.assembler.proofs.reading.define.Goals as goal

pub returns : goal.returns
returns c =
    let undefined : is_defined c.args.symbols.now.entries c.in-Some.name ≡ false =
    subst (λ d. IsNewDefinition c.args.symbols.now.entries d) c.in-Some.is c.requires in
    c.in_ok-insert.ensures.entries
    ∙ insert_entry-new _ c.args.symbols.now c.in-Some.name c.in-Some.symbol (none_is (meaning c.args.symbols.now.entries c.in-Some.name) undefined)
    ∙ ap (λ d. c.args.symbols.now.entries ++ definition_names d) (sym c.in-Some.is)
