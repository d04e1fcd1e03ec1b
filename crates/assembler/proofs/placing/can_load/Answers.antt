use Rattle.std.proofs.Common.{◌≡◌, ℕ, arith, sym, true, false, below_more, ◌∙◌, ap}
use Rattle.assembler.specs.Placement.{address_after, is_loadable}
use Rattle.assembler.proofs.PlacingAddresses.{all_each, all_not, loads_is}
use Rattle.assembler.proofs.placing.can_load.Goals as goal

-- an address that the board can't be loaded at is found
pub returns-then-not-is_loadable : goal.returns-then-not-is_loadable
returns-then-not-is_loadable c =
    let fails : is_loadable (address_after c.args.location c.loop-n.n) ≡ false =
    ap is_loadable (sym c.address_at.ensures) ∙ loads_is c.address_at.result c.is_loadable.result c.is_loadable.ensures ∙ c.if-not-is_loadable.true in
    sym (all_not is_loadable c.args.location c.args.size c.loop-n.n c.loop-n-test.true fails)

-- the board can be loaded at one more address
pub loop-n-preserved : goal.loop-n-preserved
loop-n-preserved c =
    let loads : is_loadable (address_after c.args.location c.loop-n.n) ≡ true =
    ap is_loadable (sym c.address_at.ensures) ∙ loads_is c.address_at.result c.is_loadable.result c.is_loadable.ensures ∙ c.if-not-is_loadable.false in
    below_more (λ (j : ℕ). is_loadable (address_after c.args.location j) ≡ true) c.loop-n.n c.loop-n.invariant loads

-- the board can be loaded at all addresses
pub returns : goal.returns
returns c = sym (all_each is_loadable c.args.location c.args.size (λ j within. c.loop-n.invariant j (omega arith)))
