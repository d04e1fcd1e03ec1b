use Rattle.std.proofs.Common.{◌≡◌, ℕ, ◌-◌, ◌++◌, ap₂, ◌∙◌}
use Rattle.std.specs.Prelude.{codes}
use Rattle.std.specs.Fmt.{decimal}
use Rattle.probe.specs.Counts.{lines_of, next_clock}
use Rattle.probe.proofs.Numbers.{lines_are}
use Rattle.probe.proofs.Tallying.{if_text}
use Rattle.probe.proofs.counts.Counts.text.Goals as goal

pub returns : goal.returns
returns c = if_text c.format.result c.format.ensures.ok (λ text is all noted.
    let end : ℕ = c.args.end in
    let tallied = c.in_ok-tally_latest.ensures.tallied all noted in
    let before : c.get.result - c.get-2.result ≡ next_clock all end - c.args.start =
    ap₂ (λ m n. m - n) (c.get.ensures.value ∙ c.in_ok-tally_latest.ensures.before all noted) c.get-2.ensures.value in
    let lines : c.as_str-lines.result.now ≡ lines_of all end =
    c.as_str-lines.ensures.value ∙ c.in_ok-lines.ensures.lines ∙ lines_are all end c.tally_latest.new.self.tallies tallied c.in_ok-lines.ensures.ordered in
    is ∙ (λ k. codes "before "
    ++ (decimal (before k) ++ (codes "\n" ++ (lines k ++ (codes "clock " ++ (decimal (c.get-end.ensures.value k) ++ codes "\n")))))))
