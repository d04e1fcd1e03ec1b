use Rattle.std.proofs.Common.{◌≡◌, ℕ, ◌+◌, ◌%◌, ◌^◌, ◌∙◌, List, [], ◌∷◌, map, ap, rules, arith}
use Rattle.std.specs.List.{range_with_len}
use Rattle.std.proofs.lemmas.Nat.{le_bytes_8}
use Rattle.wiring.specs.Ports.{byte_at}
use Rattle.wiring.proofs.chips.Chips.code_outside.Goals as goal

eight : (byte : ℕ → ℕ) (a x0 x1 x2 x3 x4 x5 x6 x7 : ℕ) → x0 ≡ byte ((a + 0) % 2 ^ 20) → x1 ≡ byte ((a + 1) % 2 ^ 20) → x2 ≡ byte ((a + 2) % 2 ^ 20)
    → x3 ≡ byte ((a + 3) % 2 ^ 20) → x4 ≡ byte ((a + 4) % 2 ^ 20) → x5 ≡ byte ((a + 5) % 2 ^ 20) → x6 ≡ byte ((a + 6) % 2 ^ 20) → x7 ≡ byte ((a + 7) % 2 ^ 20)
    → (x0 ∷ x1 ∷ x2 ∷ x3 ∷ x4 ∷ x5 ∷ x6 ∷ x7 ∷ []) ≡ map (λ k. byte ((a + k) % 2 ^ 20)) (range_with_len 0 8)
eight byte a x0 x1 x2 x3 x4 x5 x6 x7 e0 e1 e2 e3 e4 e5 e6 e7 = λ k. e0 k ∷ e1 k ∷ e2 k ∷ e3 k ∷ e4 k ∷ e5 k ∷ e6 k ∷ e7 k ∷ []

pub returns : goal.returns
returns c =
    let byte = byte_at c.args.self.now in
    let a = c.args.addr in
    let code : List ℕ =
    c.read8.result ∷ c.read8-2.result ∷ c.read8-3.result ∷ c.read8-4.result ∷ c.read8-5.result ∷ c.read8-6.result ∷ c.read8-7.result ∷ c.read8-8.result ∷ [] in
    le_bytes_8 code c.from_le_bytes.result (search rules) (search rules) c.from_le_bytes.ensures
    ∙ eight byte a _ _ _ _ _ _ _ _ (c.read8.ensures ∙ ap byte (omega (arith, c.requires))) c.read8-2.ensures
    c.read8-3.ensures c.read8-4.ensures c.read8-5.ensures c.read8-6.ensures c.read8-7.ensures c.read8-8.ensures
