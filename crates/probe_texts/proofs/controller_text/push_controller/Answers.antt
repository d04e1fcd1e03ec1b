use Rattle.std.proofs.Common.{◌≡◌, ◌<◌, ◌++◌, ◌∙◌, sym, ap, append_assoc, rules}
use Rattle.std.specs.Prelude.{codes}
use Rattle.std.specs.String.{string_bytes}
use Rattle.pic8259.specs.Pic.{PicState}
use Rattle.pic8259.specs.PicNumbers.{pic_of}
use Rattle.probe_texts.specs.Controller.{controller_kept, controller_line, controller_modes, controller_output, controller_reads, controller_registers}
use Rattle.probe_texts.proofs.Hearing.{on_ok_then}
use Rattle.probe_texts.proofs.Pieces.{five_pieces}
use Rattle.probe_texts.proofs.Registers.{byte_of_set, last_of_order}
use Rattle.probe_texts.proofs.controller_text.push_controller.Goals as goal

pub returns : goal.returns
unfolding controller_line pic_of
returns c =
    let pic : PicState = pic_of c.args.image.now in
    let high : c.args.image.now.high < 256 = search rules in
    let served : c.args.image.now.served < 256 = search rules in
    let masked : c.args.image.now.masked < 256 = search rules in
    let registers : string_bytes c.write.new.self ≡ string_bytes c.args.text.now ++ controller_registers pic =
    rw (
      byte_of_set c.args.image.now.high high,
      sym c.request_register.ensures,
      byte_of_set c.args.image.now.served served,
      byte_of_set c.args.image.now.masked masked,
    ) c.in_ok-write.ensures.bytes in
    let output : string_bytes c.write-2.new.self ≡ string_bytes c.write.new.self ++ controller_output pic =
    rw (last_of_order c.args.image.now.lowest)
    (rw (c.digit-int.ensures.digit, c.request.ensures, c.from_image.ensures, c.acknowledge.ensures.vector, c.from_image-2.ensures, c.awaited-awaited.ensures)
    at c.in_ok-write-2.ensures.bytes) in
    let modes : string_bytes c.write-3.new.self ≡ string_bytes c.write-2.new.self ++ controller_modes pic =
    rw (c.flag_digit-ltim.ensures.digit, c.flag_digit-upm.ensures.digit, c.flag_digit-aeoi.ensures.digit, c.flag_digit-rotates.ensures.digit)
    at c.in_ok-write-3.ensures.bytes in
    let reads : string_bytes c.write-4.new.self ≡ string_bytes c.write-3.new.self ++ controller_reads pic =
    rw (c.flag_digit-smm.ensures.digit, c.flag_digit-poll.ensures.digit, c.flag_digit-ris.ensures.digit) at c.in_ok-write-4.ensures.bytes in
    on_ok_then c.write-5.result (λ end. five_pieces _ _ _ _ _ _ _ _ _ _ _ registers output modes reads
    (end ∙ ap (λ x. x ++ codes "\n") c.in_ok-push_kept.ensures ∙ append_assoc (string_bytes c.write-4.new.self) (controller_kept pic) (codes "\n")))
    c.write-5.ensures.bytes
