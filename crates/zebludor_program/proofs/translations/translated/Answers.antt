use Rattle.std.proofs.Common.{List, subst}
use Rattle.masm_text.specs.declared.place.Text.{Text}
use Rattle.zebludor_program.specs.Translations.{IsTranslation}
use Rattle.zebludor_program.proofs.translations.translated.Goals as goal

pub returns-in-Ok : goal.returns-in-Ok
returns-in-Ok c = λ _. (
  c.in-Ok.texts.items,
  c.in-Ok.ensures,
  subst (λ (texts : List Text). IsTranslation texts c.args.has_map c.status_of.new.printed.items c.status_of.result)
      c.as_slice.ensures.value c.status_of.ensures,
)
