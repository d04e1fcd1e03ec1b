use Rattle.std.proofs.Common.{◌++◌, ◌∙◌, ap}
use Rattle.zebludor_program.specs.Translations.{lines_text}
use Rattle.zebludor_program.proofs.translations.status_of.Goals as goal

pub returns-in-Ok-push_translation : goal.returns-in-Ok-push_translation
returns-in-Ok-push_translation c = λ _. (
  c.in-Ok.translation,
  c.in-Ok.ensures.ok,
  c.in-Ok-push_translation.ensures
      ∙ ap (λ printed. printed ++ lines_text c.args.has_map c.args.texts.now c.in-Ok.translation.lines.items) c.requires.none,
)
