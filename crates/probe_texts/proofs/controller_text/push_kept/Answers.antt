use Rattle.pic8259.specs.PicNumbers.{pic_of}
use Rattle.probe_texts.proofs.Hearing.{on_ok_then}
use Rattle.probe_texts.proofs.controller_text.push_kept.Goals as goal

pub returns : goal.returns
unfolding pic_of
returns c =
    on_ok_then c.write.result
    (λ end. rw (c.risen_register.ensures, c.is_single-sngl.ensures, c.flag_digit-ic4.ensures.digit) at end) c.write.ensures.bytes
