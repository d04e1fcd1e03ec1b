use Rattle.std.proofs.Common.{ap, refl, ◌∙◌, if◌then◌else◌, Bool}
use Rattle.pit8253.specs.Counter.{after_ticks}
use Rattle.pit8253.specs.PitNumbers.{counter_of}
use Rattle.probe_texts.proofs.Loading.{loads_of}
use Rattle.probe_texts.proofs.counter_text.loads_next.Goals as goal

pub returns : goal.returns
unfolding counter_of
returns c =
    c.digit.ensures.digit
    ∙ ap (λ (b : Bool). if b then 1 else 0)
    (loads_of c.args.image.now c.image.result.is_null (counter_of c.image.result) refl
    (c.image.ensures ∙ (c.advance.ensures ∙ ap (λ s. after_ticks s 1) c.from_image-counter.ensures)))
