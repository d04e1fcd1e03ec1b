use Rattle.std.proofs.Common.{◌≡◌, ◌++◌, ◌∷◌, ◌∙◌, ◌==◌, [], ap, arith, false, ℕ, sym}
use Rattle.std.specs.Prelude.{◌≢◌}
use Rattle.std.proofs.lemmas.Bool.Decides.{nat_tests}
use Rattle.loader.specs.Lines.{without_spaces}
use Rattle.loader.proofs.LineEnds.{others_stay, space_goes}
use Rattle.loader.proofs.spaces.without_spaces.Goals as goal

pub loop-last-preserved : goal.loop-last-preserved
loop-last-preserved c =
    let is : c.loop-last.rest.now ≡ c.in-Some.front.now ++ 32 ∷ [] = c.in-Some.ensures.cases.0 ∙ ap (λ b. c.in-Some.front.now ++ b ∷ []) c.if-last-ne32.false in
    sym (space_goes c.in-Some.front.now) ∙ ap without_spaces (sym is) ∙ c.loop-last.invariant

pub returns-then-last-ne32 : goal.returns-then-last-ne32
returns-then-last-ne32 c =
    let is = c.in-Some.ensures.cases.0 in
    is ∙ sym (others_stay c.in-Some.front.now c.in-Some.last.now (other c.in-Some.last.now c.if-last-ne32.true))
    ∙ ap without_spaces (sym is) ∙ c.loop-last.invariant
  where
    other : (b : ℕ) → b ≢ 32 → (b == 32) ≡ false
    other b differs = grind (arith, nat_tests)
