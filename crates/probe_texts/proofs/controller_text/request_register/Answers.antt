use Rattle.std.proofs.Common.{◌∙◌, ◌<◌, ℕ, rules, bit_and, if◌then◌else◌, ap, sym}
use Rattle.pic8259.specs.PicNumbers.{flag_of}
use Rattle.probe_texts.proofs.Registers.{is_set, requests_of}
use Rattle.probe_texts.proofs.controller_text.request_register.Goals as goal

pub returns-then-image-eq0 : goal.returns-then-image-eq0
returns-then-image-eq0 c =
    let within : c.args.image.now.high < 256 = search rules in
    let both : bit_and c.args.image.now.high c.args.image.now.risen < 256 = search rules in
    ap (λ (n : ℕ). if flag_of n then c.args.image.now.high else bit_and c.args.image.now.high c.args.image.now.risen) (sym c.if-image-eq0.true)
    ∙ sym (requests_of c.args.image.now within both)

pub returns-else-image-eq0 : goal.returns-else-image-eq0
returns-else-image-eq0 c =
    let within : c.args.image.now.high < 256 = search rules in
    let both : bit_and c.args.image.now.high c.args.image.now.risen < 256 = search rules in
    sym (requests_of c.args.image.now within both
    ∙ ap (λ set. if set then c.args.image.now.high else bit_and c.args.image.now.high c.args.image.now.risen)
    (is_set c.args.image.now.is_level_triggered c.if-image-eq0.false))
