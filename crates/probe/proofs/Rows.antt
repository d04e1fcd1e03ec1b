-- Counts worked out by hand: five beginnings in 100 clocks, of an instruction that runs twice, of one after which an
-- interrupt comes, and of the interrupt.
use Rattle.std.proofs.Common.{◌≡◌, List, [], ◌∷◌, ◌++◌, None, Some, refl, true, false}
use Rattle.std.specs.Prelude.{codes}
use Rattle.board.specs.declared.one_turn.Begun.{Begun}
use Rattle.probe.specs.Counts.{count_line, lines_of, next_clock, numbers_of}
use Rattle.events.specs.declared.event.Event.TheVariants.{Wired}
use Rattle.events.specs.declared.event.Wire.TheVariants.{Out0, Int}
use Rattle.probe_texts.specs.declared.telling.Levels.{Levels}
use Rattle.probe_texts.specs.Told.{wires_between}

abbrev run : List Begun
run =
    record { clock = 4; cs = 61440; ip = 18; entered = None }
    ∷ record { clock = 8; cs = 61440; ip = 16; entered = None }
    ∷ record { clock = 11; cs = 61440; ip = 18; entered = None }
    ∷ record { clock = 20; cs = 61440; ip = 16; entered = Some 8 }
    ∷ record { clock = 81; cs = 61440; ip = 16; entered = None }
    ∷ []

numbers : numbers_of run ≡ 4026531856 ∷ 4026531858 ∷ 4294967304 ∷ []
numbers = refl

before : next_clock run 100 ≡ 4
before = refl

-- 3 and 19 clocks at F000:0010, 4 and 9 at F000:0012, and the interrupt's 61
lines : lines_of run 100
    ≡ count_line (codes "F000:0010") 2 22 ++ (count_line (codes "F000:0012") 2 13 ++ (count_line (codes "entry 08") 1 61 ++ []))
lines = refl

-- the wires that clock 96 raises
abbrev low : Levels
low = record { out_0 = false; out_2 = false; ir_0 = false; ir_1 = false; int = false; speaker = false }

raised : wires_between 96 low (record low { out_0 = true; int = true }) ≡ Wired 96 Out0 true ∷ Wired 96 Int true ∷ []
raised = refl
