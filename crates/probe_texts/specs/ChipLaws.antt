-- What holds of what `chips` prints.
-- Laws: claims above the definitions, each proved as the contract of a function.
use Rattle.std.specs.Prelude.{◌≡◌, if◌then◌else◌}
use Rattle.board_types.specs.declared.line.Line.{Line}
use Rattle.pit8253.specs.declared.program.Mode.{Mode}
use Rattle.pit8253.specs.declared.program.Mode.TheVariants.{TerminalCount, OneShot, RateGenerator}
use Rattle.pit8253.specs.declared.program.Mode.TheVariants.{SquareWave, SoftwareStrobe, HardwareStrobe}
use Rattle.pit8253.specs.Counter.{CounterState, after_load, after_square_load, after_tick}
use Rattle.probe_texts.specs.CounterText.{loads_next}

-- a counter that has loaded its newest count, with this level of OUT: in mode 3 by what is loaded there
abbrev pub loaded_in : Mode → CounterState → Line → CounterState
loaded_in TerminalCount c out = after_load c out
loaded_in OneShot c out = after_load c out
loaded_in RateGenerator c out = after_load c out
loaded_in SquareWave c out = after_square_load c out
loaded_in SoftwareStrobe c out = after_load c out
loaded_in HardwareStrobe c out = after_load c out

-- a counter that has at most counted, ended its strobe and turned OUT
abbrev pub counted_to : CounterState → CounterState → CounterState
counted_to c t = record c { count = t.count; strobe_due = t.strobe_due; out = t.out }

-- the next tick loads the newest count if `load` is 1, and else it doesn't
abbrev pub LoadsAsTold : Type 0
LoadsAsTold =
    (c : CounterState)
    → after_tick c ≡ (if loads_next c then loaded_in c.mode c (after_tick c).out else counted_to c (after_tick c))
