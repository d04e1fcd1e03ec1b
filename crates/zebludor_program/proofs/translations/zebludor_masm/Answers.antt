use Rattle.zebludor_program.proofs.translations.zebludor_masm.Goals as goal

pub returns : goal.returns
returns c = record {
  printed = c.translated-status.new.printed.items;
  told = c.translated-status.new.told.items;
  translated = c.translated-status.ensures;
  out_length = c.hand_text.ensures.length;
  err_length = c.hand_text-2.ensures.length;
  out_is = c.hand_text.ensures.buffer;
  err_is = c.hand_text-2.ensures.buffer;
}
