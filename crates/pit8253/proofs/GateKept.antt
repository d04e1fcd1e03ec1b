-- A gate that takes the level that it has.
use Rattle.std.proofs.Common.{◌≡◌, Bool, true, false, not, ◌&&◌, ◌||◌, refl, sym, ap, ◌∙◌}
use Rattle.board_types.specs.declared.line.Line.{Line}
use Rattle.board_types.specs.declared.line.Line.TheVariants.{Low, High}
use Rattle.pit8253.specs.Counter.{CounterState, after_gate, rises, is_triggered, is_awaited, out_at_gate}

or_none : (b : Bool) → (b || false) ≡ b
or_none true = refl
or_none false = refl

no_rise : (gate : Line) (b triggered written : Bool) → (b || (rises gate gate && triggered && written)) ≡ b
no_rise Low b triggered written = or_none b
no_rise High b triggered written = or_none b

pub gate_kept : (c : CounterState) (line : Line) → c.gate ≡ line → out_at_gate c.mode line c.out ≡ c.out → after_gate c line ≡ c
unfolding after_gate
gate_kept c line same still =
    ap (λ l.
    record c { gate = l; load_due = c.load_due || (rises c.gate l && is_triggered c.mode && not (is_awaited c.progress)); out = out_at_gate c.mode line c.out })
    (sym same)
    ∙ ap (λ b. record c { load_due = b; out = out_at_gate c.mode line c.out }) (no_rise c.gate c.load_due (is_triggered c.mode) (not (is_awaited c.progress)))
    ∙ ap (λ out. record c { out = out }) still

-- if a gate that takes a level changes nothing, it had that level before
pub gate_was : (c : CounterState) (line : Line) → after_gate c line ≡ c → c.gate ≡ line
unfolding after_gate
gate_was c line same = sym (ap (λ (x : CounterState). x.gate) same)

pub out_was : (c : CounterState) (line : Line) → after_gate c line ≡ c → out_at_gate c.mode line c.out ≡ c.out
unfolding after_gate
out_was c line same = ap (λ (x : CounterState). x.out) same
