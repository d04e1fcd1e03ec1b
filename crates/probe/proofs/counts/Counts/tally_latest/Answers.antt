use Rattle.std.proofs.Common.{◌≡◌, ◌-◌, ◌==◌, if◌then◌else◌, Some, ap, ap₂, ◌∙◌}
use Rattle.std.specs.BTreeMap.{get}
use Rattle.std.specs.Ordering.{nat_cmp}
use Rattle.probe.specs.Tallied.{one_more}
use Rattle.probe.proofs.Tallying.{first_comes, first_stays, if_ok, tallied_latest}
use Rattle.probe.proofs.counts.Counts.tally_latest.Goals as goal

pub returns-in_default-clause-before : goal.returns-in_default-clause-before
returns-in_default-clause-before c = λ all noted. first_comes all c.args.self.now c.args.clock c.in_default.is noted

pub returns-clause-before : goal.returns-clause-before
returns-clause-before c =
    if_ok c.add.result c.add.ensures (λ added all noted. first_stays all c.args.self.now c.in-Some.begun c.args.clock c.in-Some.is noted)

pub returns-clause-tallied : goal.returns-clause-tallied
returns-clause-tallied c =
    let b = c.in-Some.begun in
    let old = c.args.self.now in
    let n = c.number_of.result in
    let clocks : c.get.result - c.get-2.result ≡ c.args.clock - b.clock = ap₂ (λ x y. x - y) c.get.ensures.value c.get-2.ensures.value in
    if_ok c.add.result c.add.ensures (λ added all noted. tallied_latest all old b n c.args.clock c.add.new.tallies c.in-Some.is c.number_of.ensures
    (λ k. added k ∙ ap (λ m. if k == n then Some (one_more (get nat_cmp old.tallies n) m) else get nat_cmp old.tallies k) clocks) noted)
