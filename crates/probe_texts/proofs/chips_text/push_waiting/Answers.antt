use Rattle.std.proofs.Common.{◌≡◌, ◌≤◌, ◌∙◌, ◌++◌, List, ℕ, refl, sym, ap, length, arith, Some, None}
use Rattle.std.specs.List.{slice_get}
use Rattle.std.specs.String.{string_bytes}
use Rattle.std.proofs.lemmas.Option.{slice_get_within}
use Rattle.debugger_meaning.specs.Dump.{spaced_byte}
use Rattle.debugger_meaning.proofs.Lines.{entry_more, entries_all, pushed}
use Rattle.probe_texts.proofs.chips_text.push_waiting.Goals as goal

pub loop-code-preserved : goal.loop-code-preserved
loop-code-preserved c =
    let there : slice_get c.args.keyboard.now.waiting c.loop-code.index ≡ Some c.in-Some.code = sym c.waiting.ensures.code ∙ c.in-Some.is in
    let within = slice_get_within c.args.keyboard.now.waiting c.loop-code.index c.in-Some.code there in
    let most : length c.args.keyboard.now.waiting ≤ 16 = c.waiting.ensures.few in
    record {
      text = rw (entry_more spaced_byte c.args.keyboard.now.waiting c.loop-code.index c.in-Some.code there)
          (pushed _ _ _ _ _ _ c.in_ok-write.ensures.bytes c.loop-code.invariant.text refl);
      within = omega arith;
      small = omega arith;
    }

pub returns : goal.returns
returns c =
    let none : slice_get c.args.keyboard.now.waiting c.loop-code.index ≡ None = sym c.waiting.ensures.code ∙ c.in_default.is in
    c.loop-code.invariant.text
    ∙ ap (λ (front : List ℕ). string_bytes c.args.text.now ++ front)
    (entries_all spaced_byte c.args.keyboard.now.waiting c.loop-code.index c.loop-code.invariant.within none)
