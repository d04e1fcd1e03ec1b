use Rattle.std.proofs.Common.{◌≡◌, ◌+◌, ◌*◌, ◌/◌, false, ap, ◌∙◌}
use Rattle.board_types.specs.declared.line.Line.TheVariants.{High}
use Rattle.pic8259.specs.Pic.{PicState, vector, after_acknowledge, after_line, after_write}
use Rattle.parts_alone.proofs.Vectors.{with_both, with_one_ended, gives_both}
use Rattle.parts_alone.proofs.controller.vectors_of.Goals as goal

pub returns : goal.returns
returns c =
    let both : c.set_line-2.new.self ≡ with_both c.args.base c.args.first c.args.second =
    c.set_line-2.ensures ∙ ap (λ (s : PicState). after_line s c.args.first High) (c.set_line.ensures
    ∙ ap (λ (s : PicState). after_line s c.args.second High) c.initialised-pic.ensures.words) in
    let ended : c.write.new.self ≡ with_one_ended c.args.base c.args.first c.args.second =
    c.write.ensures.state ∙ ap (λ (s : PicState). after_write s false 0x20) (c.acknowledge-highest.ensures.state ∙ ap after_acknowledge both) in
    let gives = gives_both c.args.base c.args.first c.args.second c.requires.order c.requires.within in
    let highest : c.acknowledge-highest.result ≡ 8 * (c.args.base / 8) + c.args.first = c.acknowledge-highest.ensures.vector ∙ ap vector both ∙ gives.0 in
    let next : c.acknowledge.result ≡ 8 * (c.args.base / 8) + c.args.second = c.acknowledge.ensures.vector ∙ ap vector ended ∙ gives.1 in
    cc
