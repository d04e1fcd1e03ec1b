-- One source after another.
use Rattle.std.proofs.Common.{ap, ◌∙◌}
use Rattle.scheduler.specs.declared.deadlines.Source.TheVariants.{Counter2, Keys, Processor, End}
use Rattle.scheduler.specs.Sooner.{sooner, next_of}
use Rattle.scheduler.proofs.deadlines.Deadlines.least.Goals as goal

pub returns : goal.returns
unfolding next_of
returns c =
    c.sooner.ensures
    ∙ ap (λ first. sooner first c.self.inside.end End) (c.sooner-least-4.ensures
    ∙ ap (λ first. sooner first c.self.inside.processor Processor) (c.sooner-least-3.ensures
    ∙ ap (λ first. sooner first c.self.inside.keys Keys) (c.sooner-least-2.ensures
    ∙ ap (λ first. sooner first c.self.inside.counter_2 Counter2) c.sooner-least.ensures)))
    ∙ ap next_of c.self.view_is
