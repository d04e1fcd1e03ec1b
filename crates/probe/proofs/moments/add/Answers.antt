-- Only the last range is looked at.
use Rattle.std.proofs.Common.{◌≡◌, List, ◌++◌, ap, sym, subst, ◌∙◌}
use Rattle.std.specs.Prelude.{OnOk}
use Rattle.probe_texts.specs.declared.moments_text.Moments.{Moments}
use Rattle.probe.specs.Tried.{added, ends_with, joined}
use Rattle.probe.proofs.Ranges.{added_at_end}
use Rattle.probe.proofs.moments.add.Goals as goal

pub returns-in-Some : goal.returns-in-Some
returns-in-Some c =
    let rest : List Moments = c.pop.new.self.items in
    let range : Moments = c.in-Some.range in
    subst (λ (xs : List Moments). OnOk c.push_joined.result (c.push_joined.new.ranges.items ≡ xs))
    (ap (λ (f : Moments). rest ++ joined range f (ends_with range.ends c.args.stopped.now)) c.moments_of-coming.ensures
    ∙ sym (added_at_end rest range c.args.first c.args.last c.args.stopped.now)
    ∙ ap (λ (xs : List Moments). added xs c.args.first c.args.last c.args.stopped.now) (sym c.in-Some.ensures.items))
    c.push_joined.ensures
