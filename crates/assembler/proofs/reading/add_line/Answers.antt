use Rattle.std.proofs.Common.{◌≤◌, ◌+◌, ◌∙◌, ◌++◌, ap, refl, sym, subst}
use Rattle.assembler.specs.FirstPass.{IsNewDefinition, offset_of, size_limit}
use Rattle.assembler.specs.LocatedLines.{label_definition, location_after, statement_definition}
use Rattle.assembler_syntax.specs.Weights.{statement_weight}
use Rattle.assembler.proofs.ReadingFaults.{added_names, adds_line, is_clean, is_light, is_short}
use Rattle.assembler.proofs.ReadingNames.{label_new, statement_new}
use Rattle.assembler.proofs.reading.add_line.Goals as goal

pub size_of-size-requires : goal.size_of-size-requires
size_of-size-requires c = record {
  small = c.requires.small;
  short = is_short c.args.start c.args.length c.args.line.statement c.requires.place c.requires.within;
  constants = (is_clean c.args.state.now.symbols.entries c.args.state.now.location c.args.line c.args.form c.requires.clean).constants;
  light = is_light c.args.start c.args.length c.args.line.statement c.requires.place c.requires.within;
  chosen = c.requires.chosen;
}

pub location_after-next-requires-clause-short : goal.location_after-next-requires-clause-short
location_after-next-requires-clause-short c = is_short c.args.start c.args.length c.args.line.statement c.requires.place c.requires.within

pub location_after-next-requires-clause-constants : goal.location_after-next-requires-clause-constants
location_after-next-requires-clause-constants c =
    (is_clean c.args.state.now.symbols.entries c.args.state.now.location c.args.line c.args.form c.requires.clean).constants

pub statement_definition-constant-requires-clause-short : goal.statement_definition-constant-requires-clause-short
statement_definition-constant-requires-clause-short c = is_short c.args.start c.args.length c.args.line.statement c.requires.place c.requires.within

pub define-requires : goal.define-requires
define-requires c =
    label_new c.args.state.now.symbols.entries c.args.state.now.location c.args.line c.label_definition-label.result c.label_definition-label.ensures
    (is_clean c.args.state.now.symbols.entries c.args.state.now.location c.args.line c.args.form c.requires.clean).undefined

pub define-requires-2 : goal.define-requires-2
define-requires-2 c =
    subst (λ n. IsNewDefinition n c.statement_definition-constant.result)
    (sym (c.in_ok-define.ensures ∙ ap (λ n. c.args.state.now.symbols.entries ++ n) c.label_definition-label.ensures))
    (statement_new c.args.state.now.symbols.entries c.args.state.now.location c.args.line
    c.statement_definition-constant.result c.statement_definition-constant.ensures
    (is_clean c.args.state.now.symbols.entries c.args.state.now.location c.args.line c.args.form c.requires.clean).undefined)

pub returns : goal.returns
returns c =
    adds_line c.args.state.now (record { location = c.location_after-next.result; symbols = c.define-2.new.symbols }) c.args.start c.args.length c.args.line
    c.args.form _ c.requires.small c.requires.room (is_short c.args.start c.args.length c.args.line.statement c.requires.place c.requires.within)
    c.requires.within.pieces c.requires.form (is_clean c.args.state.now.symbols.entries c.args.state.now.location c.args.line c.args.form c.requires.clean)
    (subst (λ n. n ≤ size_limit (statement_weight c.args.line.statement)) c.size_of-size.ensures.value c.size_of-size.ensures.bound)
    (subst (λ n. offset_of c.location_after-next.result ≤ offset_of c.args.state.now.location + n + 65535)
    c.size_of-size.ensures.value c.location_after-next.ensures.grows)
    (c.location_after-next.ensures.value
    ∙ ap (λ n. location_after c.args.state.now.symbols.entries c.args.state.now.location c.args.line.statement n) c.size_of-size.ensures.value)
    (added_names c.args.state.now.symbols.entries c.define.new.symbols.entries
    c.define-2.new.symbols.entries c.label_definition-label.result c.statement_definition-constant.result
    (label_definition c.args.state.now.location c.args.line.label) (statement_definition c.args.state.now.symbols.entries c.args.line.statement)
    c.label_definition-label.ensures c.statement_definition-constant.ensures c.in_ok-define.ensures c.in_ok-define-2.ensures)
    (record {
      starts = refl;
      ends = refl;
      label = c.is_some-has_label.ensures;
      location = refl;
      size = c.size_of-size.ensures.value;
      content = c.in_ok-content.ensures;
    })
