-- What an interrupt's entry or STI keeps off, while IF is 0.
-- Laws: claims above the definitions, each proved as the contract of a function.
use Rattle.std.specs.Prelude.{ℕ, ◌≡◌, ◌⊎◌, IsTrue, false}
use Rattle.execute_meaning.specs.Boundaries.{lets_single_steps}
use Rattle.board_plain.specs.Plain.{Plain, after_clocks}

-- Two boards with IF 0 that differ only in whether requests are kept off: of each, requests alone are, or nothing is.
pub record DifferInRequests (s t : Plain) : Type 0 where
  pub alone : t ≡ record s { cpu = record s.cpu { shadow = t.cpu.shadow } }
  pub disabled : s.cpu.registers.flags.interrupt_enable ≡ false
  pub one : IsTrue (lets_single_steps s.cpu.shadow)
  pub other : IsTrue (lets_single_steps t.cpu.shadow)

-- later they are one board, or still differ in that alone
abbrev pub ShadowsChangeNothing : Type 0
ShadowsChangeNothing =
    (s t : Plain) (n : ℕ) → DifferInRequests s t
    → (after_clocks t n ≡ after_clocks s n) ⊎ DifferInRequests (after_clocks s n) (after_clocks t n)
