use Rattle.std.proofs.Common.{◌≡◌, ℕ, List, [], None, subst}
use Rattle.board_types.specs.TextLines.{text_lines}
use Rattle.zebludor_program.specs.Programs.{IsEnd, file_named, read_of}
use Rattle.zebludor_program.proofs.programs.run_program.Goals as goal

pub returns : goal.returns
returns g c = record {
  rest = c.status_of-status.new.typed.now;
  printed = c.status_of-status.new.printed.items;
  told = c.status_of-status.new.told.items;
  ends = subst (λ (old : List ℕ). IsEnd g.T.Tool.reads g.T.Tool.answers (text_lines c.args.words.now)
      (read_of c.args.texts.file.now c.args.texts.run.now c.args.input.now c.status_of-status.new.typed.now)
      (λ name. file_named c.args.texts.file.now c.args.texts.run.now name ≡ None) [] c.status_of-status.new.printed.items old
      c.status_of-status.new.told.items c.status_of-status.result)
      c.new-told.ensures.items
      (subst (λ (old : List ℕ). IsEnd g.T.Tool.reads g.T.Tool.answers (text_lines c.args.words.now)
      (read_of c.args.texts.file.now c.args.texts.run.now c.args.input.now c.status_of-status.new.typed.now)
      (λ name. file_named c.args.texts.file.now c.args.texts.run.now name ≡ None) old c.status_of-status.new.printed.items c.new-told.result.items
      c.status_of-status.new.told.items c.status_of-status.result)
      c.new-printed.ensures.items c.status_of-status.ensures);
  out_length = c.hand_text.ensures.length;
  err_length = c.hand_text-2.ensures.length;
  out_is = c.hand_text.ensures.buffer;
  err_is = c.hand_text-2.ensures.buffer;
}
