-- A gate that takes the same level twice, and one whose counter ticks in between.
use Rattle.std.proofs.Common.{◌≡◌, Bool, true, false, not, ◌&&◌, ◌||◌, refl, ap, ◌∙◌}
use Rattle.board_types.specs.declared.line.Line.{Line}
use Rattle.board_types.specs.declared.line.Line.TheVariants.{Low, High}
use Rattle.pit8253.specs.declared.program.Mode.{Mode}
use Rattle.pit8253.specs.declared.program.Mode.TheVariants.{TerminalCount, OneShot, RateGenerator, SquareWave, SoftwareStrobe, HardwareStrobe}
use Rattle.pit8253.specs.Counter.{CounterState, after_gate, rises, is_triggered, is_awaited, out_at_gate}
use Rattle.pit8253.specs.Pit as pit
use Rattle.pit8253.specs.Pit.{PitState}

or_none : (b : Bool) → (b || false) ≡ b
or_none true = refl
or_none false = refl

-- a level that stays is no rise
pub no_rise : (gate : Line) (b triggered written : Bool) → (b || (rises gate gate && triggered && written)) ≡ b
no_rise Low b triggered written = or_none b
no_rise High b triggered written = or_none b

out_twice : (mode : Mode) (gate out : Line) → out_at_gate mode gate (out_at_gate mode gate out) ≡ out_at_gate mode gate out
out_twice TerminalCount gate out = refl
out_twice OneShot gate out = refl
out_twice RateGenerator Low out = refl
out_twice RateGenerator High out = refl
out_twice SquareWave Low out = refl
out_twice SquareWave High out = refl
out_twice SoftwareStrobe gate out = refl
out_twice HardwareStrobe gate out = refl

pub gate_twice : (c : CounterState) (gate : Line) → after_gate (after_gate c gate) gate ≡ after_gate c gate
unfolding after_gate
gate_twice c gate =
    let due : Bool = c.load_due || (rises c.gate gate && is_triggered c.mode && not (is_awaited c.progress)) in
    ap (λ b. record c { gate = gate; load_due = b; out = out_at_gate c.mode gate (out_at_gate c.mode gate c.out) })
    (no_rise gate due (is_triggered c.mode) (not (is_awaited c.progress)))
    ∙ ap (λ out. record c { gate = gate; load_due = due; out = out }) (out_twice c.mode gate c.out)

pub gate_2_twice : (p : PitState) (line : Line) → pit.after_gate (pit.after_gate p 2 line) 2 line ≡ pit.after_gate p 2 line
unfolding pit.after_gate
gate_2_twice p line = ap (λ c. record p { counter_2 = c }) (gate_twice p.counter_2 line)
