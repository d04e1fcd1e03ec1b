-- The clocks of an instruction, as its bytes tell.
-- To be believed by callers of this crate: the headline does not rest on it.
use Rattle.std.specs.Prelude.{ℕ, ◌+◌, ◌*◌, Bool, true, false, ◌||◌, if◌then◌else◌}
use Rattle.board_types.specs.declared.choice.ClockTable.{ClockTable}
use Rattle.isa.specs.declared.form.Instr.{Instr}
use Rattle.isa.specs.declared.operation.Operation.{Operation}
use Rattle.isa.specs.declared.operation.Operation.TheVariants.{Control}
use Rattle.isa.specs.declared.outcome.Outcome.{Outcome}
use Rattle.isa.specs.Clocks.{is_counted}
use Rattle.isa.specs.Row.{operation_of}
use Rattle.isa.specs.WordCounts.{clocks_in}
use Rattle.digest.specs.Outcomes.{later_outcome, whole_outcome}
use Rattle.forms.specs.declared.flow.Flow.{Flow}
use Rattle.forms.specs.declared.flow.Flow.TheVariants.{Branch, MayEnter, Repeat}
use Rattle.forms.specs.declared.step_clocks.StepClocks.{StepClocks}
use Rattle.forms.specs.declared.step_clocks.StepClocks.TheVariants.{Always, Either, Counted, Repeated}
use Rattle.forms.specs.Flow.{flow_of}
use Rattle.forms.specs.Reached.{divides}

-- a repeat that begins with CX 0
abbrev pub empty_outcome : Outcome
empty_outcome = record { taken = false; cl = 0; first_step = true; cx_zero = true; fault = false }

abbrev pub controls : Operation → Bool
controls (Control op) = true
controls op = false

abbrev pub unvaried : Operation → Instr → ClockTable → StepClocks
unvaried op i table =
    if is_counted i then Counted (clocks_in table i (whole_outcome (controls op) 0 false))
    else Always (clocks_in table i (whole_outcome (controls op) 0 false))

-- a branch takes some clocks if it is taken, and others if it isn't, and so does what may enter an interrupt
abbrev pub clocks_by : Flow → Operation → Instr → ClockTable → StepClocks
clocks_by Branch op i table =
    Either (clocks_in table i (whole_outcome true 0 false)) (clocks_in table i (whole_outcome false 0 false))
clocks_by MayEnter op i table =
    Either (clocks_in table i (whole_outcome (controls op) 0 (divides op)))
    (clocks_in table i (whole_outcome false 0 false))
clocks_by Repeat op i table = Repeated (clocks_in table i empty_outcome) (clocks_in table i later_outcome)
clocks_by flow op i table = unvaried op i table

-- the clocks of an instruction by a table
unfoldable pub clocks_told : Instr → ClockTable → StepClocks
clocks_told i table = clocks_by (flow_of i) (operation_of i.form.row) i table

-- what these are for a step with an outcome
abbrev pub clocks_for : StepClocks → Outcome → ℕ
clocks_for (Always clocks) o = clocks
clocks_for (Either taken not_taken) o = if o.taken || o.fault then taken else not_taken
clocks_for (Counted clocks) o = clocks + 4 * o.cl
clocks_for (Repeated once each) o =
    if o.cx_zero then once else (if o.first_step then once + each else each)
