use Rattle.std.proofs.Common.{◌≡◌, ◌≤◌, ◌∙◌, sym, length, arith, Some, None}
use Rattle.std.specs.List.{slice_get}
use Rattle.std.proofs.lemmas.Option.{slice_get_within}
use Rattle.debugger_meaning.specs.TrailText.{entry_line}
use Rattle.debugger_meaning.proofs.Lines.{entry_more, entries_all, pushed_first}
use Rattle.debugger.proofs.trail_text.trail_text.Goals as goal

pub loop-entry-preserved : goal.loop-entry-preserved
loop-entry-preserved c =
    let there : slice_get c.args.board.now.trail c.loop-entry.index ≡ Some c.in-Some.entry = sym c.trail.ensures.entry ∙ c.in-Some.is in
    let within = slice_get_within c.args.board.now.trail c.loop-entry.index c.in-Some.entry there in
    let most : length c.args.board.now.trail ≤ 32 = c.trail.ensures.length in
    record {
      text = rw (entry_more entry_line c.args.board.now.trail c.loop-entry.index c.in-Some.entry there)
          (pushed_first _ _ _ _ _ c.in_ok-push_str.ensures.bytes c.loop-entry.invariant.text (c.as_str.ensures.value ∙ c.in_ok-line.ensures));
      within = omega arith;
      small = omega arith;
    }

pub returns : goal.returns
returns c =
    let none : slice_get c.args.board.now.trail c.loop-entry.index ≡ None = sym c.trail.ensures.entry ∙ c.in_default.is in
    c.loop-entry.invariant.text ∙ entries_all entry_line c.args.board.now.trail c.loop-entry.index c.loop-entry.invariant.within none
