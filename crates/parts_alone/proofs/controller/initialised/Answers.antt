use Rattle.std.proofs.Common.{◌≡◌, ◌∷◌, [], true, false, refl, sym, ap, subst, ◌∙◌}
use Rattle.pic8259.specs.Pic.{PicState, power_on, after_write}
use Rattle.pic8259.specs.PicLaws.{after_words, HasEnded}
use Rattle.pic8259.proofs.Words.{sequence_ends}
use Rattle.parts_alone.proofs.controller.initialised.Goals as goal

pub returns-clause-ended : goal.returns-clause-ended
returns-clause-ended c =
    let written : c.write-3.new.self ≡ after_words (after_write power_on false 0x13) (c.args.base ∷ 1 ∷ []) =
    c.write-3.ensures.state ∙ ap (λ (s : PicState). after_write s true 1) (c.write-2.ensures.state
    ∙ ap (λ (s : PicState). after_write s true c.args.base) (c.write.ensures.state ∙ ap (λ (s : PicState). after_write s false 0x13) c.new-pic.ensures)) in
    subst (λ (s : PicState). HasEnded s 0x13 c.args.base 1) (sym written) (sequence_ends power_on 0x13 c.args.base 0 1 refl)
