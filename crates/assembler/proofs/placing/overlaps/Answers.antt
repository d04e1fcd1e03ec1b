use Rattle.std.proofs.Common.{◌≡◌, ℕ, arith, sym, true, false, below_more}
use Rattle.assembler.specs.Placement.{address_after}
use Rattle.assembler.specs.SecondPass.{has_byte}
use Rattle.assembler.proofs.PlacingAddresses.{any_at, any_none}
use Rattle.assembler.proofs.placing.overlaps.Goals as goal

-- an address that is taken is found
pub returns-then-is_some : goal.returns-then-is_some
returns-then-is_some c =
    let taken : has_byte c.args.image.now (address_after c.args.location c.loop-n.n) ≡ true = cc in
    sym (any_at (has_byte c.args.image.now) c.args.location c.args.size c.loop-n.n c.loop-n-test.true taken)

-- one more address is free
pub loop-n-preserved : goal.loop-n-preserved
loop-n-preserved c =
    let free : has_byte c.args.image.now (address_after c.args.location c.loop-n.n) ≡ false = cc in
    below_more (λ (j : ℕ). has_byte c.args.image.now (address_after c.args.location j) ≡ false) c.loop-n.n c.loop-n.invariant free

-- all addresses are free
pub returns : goal.returns
returns c = sym (any_none (has_byte c.args.image.now) c.args.location c.args.size (λ j within. c.loop-n.invariant j (omega arith)))
